use Rattle.std.proofs.Common.{◌≡◌, ◌<◌, ◌∙◌, ap, sym, subst, List, length, map, ℕ, arith}
use Rattle.std.specs.Prelude.{slice_index}
use Rattle.std.specs.List.{All}
use Rattle.std.specs.List.Sorted.{IsStrictlySortedBy}
use Rattle.lab_defs_game.specs.Histories as model
use Rattle.lab_defs_game.specs.Keys.{list_cmp}
use Rattle.lab_world.specs.Games.{game_model}
use Rattle.lab_unfold.specs.Values.{Unfolded}
use Rattle.lab_world.proofs.CallerLemmas.{horizon_small}
use Rattle.lab_unfold.proofs.CallerLemmas.{all_length, read_node_firsts}
use Rattle.lab_tree.specs.NodeValues.{HasList, keys_in, end_among, parent_node}
use Rattle.lab_tree.specs.Ranks.{AreApart, AreRanks}
use Rattle.lab_tree.specs.Trees.{node_id}
use Rattle.lab_tree.proofs.NodesMade.{made, made_few, made_within, made_apart, made_lists, made_sorted, made_short, first_below, made_of, made_value}
use Rattle.lab_tree.proofs.nodes.Nodes.build.Goals as goal

pub node_keys-requires-clause-count : goal.node_keys-requires-clause-count
node_keys-requires-clause-count c =
    (read_node_firsts (game_model c.args.game.now) c.args.histories.now c.node_firsts-firsts.result.now c.requires c.node_firsts-firsts.ensures).count

pub ranks-requires-clause-few : goal.ranks-requires-clause-few
ranks-requires-clause-few c =
    let g = game_model c.args.game.now in
    let m = made g c.args.histories.now c.node_firsts-firsts.result.now c.in_ok-node_keys.field-0.items c.in_ok-order.order.items c.requires c.node_firsts-firsts.ensures c.in_ok-node_keys.ensures c.in_ok-order.ensures in
    let few = made_few g c.node_firsts-firsts.result.now c.in_ok-order.order.items m in
    let all = all_length g c.args.histories.now.items (ap (λ (u : Unfolded). u.items) c.requires) in
    omega (arith, few, all, c.count.ensures.count, c.count.ensures.few, ap length c.as_slice.ensures.value)

pub ranks-requires-clause-within : goal.ranks-requires-clause-within
ranks-requires-clause-within c =
    let g = game_model c.args.game.now in
    let m = made g c.args.histories.now c.node_firsts-firsts.result.now c.in_ok-node_keys.field-0.items c.in_ok-order.order.items c.requires c.node_firsts-firsts.ensures c.in_ok-node_keys.ensures c.in_ok-order.ensures in
    let all = all_length g c.args.histories.now.items (ap (λ (u : Unfolded). u.items) c.requires) in
    subst (λ (o : List (List ℕ × ℕ)). All (λ (p : List ℕ × ℕ). p.1 < c.count.result) o) (sym c.as_slice.ensures.value)
    (subst (λ n. All (λ (p : List ℕ × ℕ). p.1 < n) c.in_ok-order.order.items) (sym (c.count.ensures.count ∙ all)) (made_within g c.node_firsts-firsts.result.now c.in_ok-order.order.items m))

pub ranks-requires-clause-apart : goal.ranks-requires-clause-apart
ranks-requires-clause-apart c =
    let g = game_model c.args.game.now in
    let m = made g c.args.histories.now c.node_firsts-firsts.result.now c.in_ok-node_keys.field-0.items c.in_ok-order.order.items c.requires c.node_firsts-firsts.ensures c.in_ok-node_keys.ensures c.in_ok-order.ensures in
    subst (λ (o : List (List ℕ × ℕ)). AreApart o) (sym c.as_slice.ensures.value) (made_apart g c.node_firsts-firsts.result.now c.in_ok-order.order.items m)

pub node_ids-requires : goal.node_ids-requires
node_ids-requires c =
    let g = game_model c.args.game.now in
    let m = made g c.args.histories.now c.node_firsts-firsts.result.now c.in_ok-node_keys.field-0.items c.in_ok-order.order.items c.requires c.node_firsts-firsts.ensures c.in_ok-node_keys.ensures c.in_ok-order.ensures in
    let all = all_length g c.args.histories.now.items (ap (λ (u : Unfolded). u.items) c.requires) in
    let n : length c.as_slice-2.result.now ≡ length (model.histories g) = ap length c.as_slice-2.ensures.value ∙ c.in_ok-ranks.ensures.count ∙ c.count.ensures.count ∙ all in
    subst (λ n. All (λ f. f < n) c.node_firsts-firsts.result.now) (sym n) (first_below g c.node_firsts-firsts.result.now c.in_ok-order.order.items m)

pub parents-requires-clause-lists : goal.parents-requires-clause-lists
parents-requires-clause-lists c =
    let g = game_model c.args.game.now in
    let m = made g c.args.histories.now c.node_firsts-firsts.result.now c.in_ok-node_keys.field-0.items c.in_ok-order.order.items c.requires c.node_firsts-firsts.ensures c.in_ok-node_keys.ensures c.in_ok-order.ensures in
    subst (λ (o : List (List ℕ × ℕ)). All (HasList g) o) (sym c.as_slice-3.ensures.value) (made_lists g c.node_firsts-firsts.result.now c.in_ok-order.order.items m)

pub parents-requires-clause-of : goal.parents-requires-clause-of
parents-requires-clause-of c =
    let g = game_model c.args.game.now in
    let m = made g c.args.histories.now c.node_firsts-firsts.result.now c.in_ok-node_keys.field-0.items c.in_ok-order.order.items c.requires c.node_firsts-firsts.ensures c.in_ok-node_keys.ensures c.in_ok-order.ensures in
    let are = subst (λ (o : List (List ℕ × ℕ)). AreRanks o c.in_ok-ranks.ranks.items (length o)) c.as_slice.ensures.value c.in_ok-ranks.ensures.ranks in
    c.as_slice-4.ensures.value ∙ c.in_ok-of.ensures ∙ ap (λ (r : List ℕ). map (λ f. node_id (slice_index r f)) c.node_firsts-firsts.result.now) c.as_slice-2.ensures.value
    ∙ made_of g c.node_firsts-firsts.result.now c.in_ok-order.order.items m c.in_ok-ranks.ranks.items are

pub ends-requires-clause-sorted : goal.ends-requires-clause-sorted
ends-requires-clause-sorted c =
    let g = game_model c.args.game.now in
    let m = made g c.args.histories.now c.node_firsts-firsts.result.now c.in_ok-node_keys.field-0.items c.in_ok-order.order.items c.requires c.node_firsts-firsts.ensures c.in_ok-node_keys.ensures c.in_ok-order.ensures in
    subst (λ (o : List (List ℕ × ℕ)). IsStrictlySortedBy list_cmp (keys_in o)) (sym c.as_slice-5.ensures.value) (made_sorted g c.node_firsts-firsts.result.now c.in_ok-order.order.items m)

pub ends-requires-clause-few : goal.ends-requires-clause-few
ends-requires-clause-few c =
    let g = game_model c.args.game.now in
    let m = made g c.args.histories.now c.node_firsts-firsts.result.now c.in_ok-node_keys.field-0.items c.in_ok-order.order.items c.requires c.node_firsts-firsts.ensures c.in_ok-node_keys.ensures c.in_ok-order.ensures in
    let few = made_few g c.node_firsts-firsts.result.now c.in_ok-order.order.items m in
    let all = all_length g c.args.histories.now.items (ap (λ (u : Unfolded). u.items) c.requires) in
    omega (arith, few, all, c.count.ensures.count, c.count.ensures.few, ap length c.as_slice-5.ensures.value)

pub invariant_of-result : goal.invariant_of-result
invariant_of-result c =
    let g = game_model c.args.game.now in
    let m = made g c.args.histories.now c.node_firsts-firsts.result.now c.in_ok-node_keys.field-0.items c.in_ok-order.order.items c.requires c.node_firsts-firsts.ensures c.in_ok-node_keys.ensures c.in_ok-order.ensures in
    let few = made_few g c.node_firsts-firsts.result.now c.in_ok-order.order.items m in
    let all = all_length g c.args.histories.now.items (ap (λ (u : Unfolded). u.items) c.requires) in
    (omega (arith, few, all, c.count.ensures.count, c.count.ensures.few), made_short g c.node_firsts-firsts.result.now c.in_ok-order.order.items m (horizon_small c.args.game.now))

pub returns : goal.returns
returns c =
    let g = game_model c.args.game.now in
    let m = made g c.args.histories.now c.node_firsts-firsts.result.now c.in_ok-node_keys.field-0.items c.in_ok-order.order.items c.requires c.node_firsts-firsts.ensures c.in_ok-node_keys.ensures c.in_ok-order.ensures in
    let are = subst (λ (o : List (List ℕ × ℕ)). AreRanks o c.in_ok-ranks.ranks.items (length o)) c.as_slice.ensures.value c.in_ok-ranks.ensures.ranks in
    made_value g c.node_firsts-firsts.result.now c.in_ok-order.order.items m c.in_ok-of.of.items c.in_ok-parents.parents.items c.in_ok-ends.ends.items
    (c.in_ok-of.ensures ∙ ap (λ (r : List ℕ). map (λ f. node_id (slice_index r f)) c.node_firsts-firsts.result.now) c.as_slice-2.ensures.value
    ∙ made_of g c.node_firsts-firsts.result.now c.in_ok-order.order.items m c.in_ok-ranks.ranks.items are)
    (c.in_ok-parents.ensures ∙ ap (λ (o : List (List ℕ × ℕ)). map (parent_node g) (keys_in o)) c.as_slice-3.ensures.value)
    (c.in_ok-ends.ensures ∙ ap (λ (o : List (List ℕ × ℕ)). map (end_among (keys_in o)) (keys_in o)) c.as_slice-5.ensures.value)
