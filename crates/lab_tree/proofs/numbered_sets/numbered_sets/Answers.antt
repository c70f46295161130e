use Rattle.std.proofs.Common.{◌<◌, ◌∙◌, ap, sym, subst, List, length, map, ℕ, arith}
use Rattle.std.specs.List.{All, range_with_len}
use Rattle.std.proofs.lemmas.List.{length-map}
use Rattle.lab_defs_game.specs.Sets.{Item, sets}
use Rattle.lab_world.specs.Games.{game_model}
use Rattle.lab_world.specs.Seats.{seat_number}
use Rattle.lab_unfold.specs.Values.{Unfolded}
use Rattle.lab_unfold.proofs.CallerLemmas.{all_length}
use Rattle.lab_tree.specs.NodeValues.{keys_in}
use Rattle.lab_tree.specs.Ranks.{AreApart, AreRanks}
use Rattle.lab_tree.specs.SetValues.{HasSeen, ranked_set}
use Rattle.lab_tree.specs.Trees.{set_in}
use Rattle.lab_unfold.proofs.CallerLemmas.{seat_firsts}
use Rattle.lab_tree.proofs.SetsMade.{made, made_few, made_within, made_apart, made_seen, made_sets, first_below, made_of}
use Rattle.lab_tree.proofs.numbered_sets.numbered_sets.Goals as goal

pub set_keys-requires-clause-count : goal.set_keys-requires-clause-count
set_keys-requires-clause-count c =
    (seat_firsts (game_model c.args.game.now) c.args.seat c.args.histories.now c.number.result c.set_firsts-firsts.result.now c.number.ensures.number c.requires.unfolded c.set_firsts-firsts.ensures).count

pub set_ids-requires-clause-count : goal.set_ids-requires-clause-count
set_ids-requires-clause-count c =
    (seat_firsts (game_model c.args.game.now) c.args.seat c.args.histories.now c.number.result c.set_firsts-firsts.result.now c.number.ensures.number c.requires.unfolded c.set_firsts-firsts.ensures).count

pub ranks-requires-clause-few : goal.ranks-requires-clause-few
ranks-requires-clause-few c =
    let g = game_model c.args.game.now in
    let m = made g c.args.seat c.args.histories.now c.number.result c.set_firsts-firsts.result.now c.in_ok-set_keys.field-0.items c.in_ok-order.order.items c.number.ensures.number c.requires.unfolded c.set_firsts-firsts.ensures c.in_ok-set_keys.ensures c.in_ok-order.ensures in
    let few = made_few g (seat_number c.args.seat) c.set_firsts-firsts.result.now c.in_ok-order.order.items m in
    let all = all_length g c.args.histories.now.items (ap (λ (u : Unfolded). u.items) c.requires.unfolded) in
    omega (arith, few, all, c.count.ensures.count, c.count.ensures.few, ap length c.as_slice.ensures.value)

pub ranks-requires-clause-within : goal.ranks-requires-clause-within
ranks-requires-clause-within c =
    let g = game_model c.args.game.now in
    let m = made g c.args.seat c.args.histories.now c.number.result c.set_firsts-firsts.result.now c.in_ok-set_keys.field-0.items c.in_ok-order.order.items c.number.ensures.number c.requires.unfolded c.set_firsts-firsts.ensures c.in_ok-set_keys.ensures c.in_ok-order.ensures in
    let all = all_length g c.args.histories.now.items (ap (λ (u : Unfolded). u.items) c.requires.unfolded) in
    subst (λ (o : List (List Item × ℕ)). All (λ (p : List Item × ℕ). p.1 < c.count.result) o) (sym c.as_slice.ensures.value)
    (subst (λ n. All (λ (p : List Item × ℕ). p.1 < n) c.in_ok-order.order.items) (sym (c.count.ensures.count ∙ all)) (made_within g (seat_number c.args.seat) c.set_firsts-firsts.result.now c.in_ok-order.order.items m))

pub ranks-requires-clause-apart : goal.ranks-requires-clause-apart
ranks-requires-clause-apart c =
    let g = game_model c.args.game.now in
    let m = made g c.args.seat c.args.histories.now c.number.result c.set_firsts-firsts.result.now c.in_ok-set_keys.field-0.items c.in_ok-order.order.items c.number.ensures.number c.requires.unfolded c.set_firsts-firsts.ensures c.in_ok-set_keys.ensures c.in_ok-order.ensures in
    subst (λ (o : List (List Item × ℕ)). AreApart o) (sym c.as_slice.ensures.value) (made_apart g (seat_number c.args.seat) c.set_firsts-firsts.result.now c.in_ok-order.order.items m)

pub set_ids-requires-clause-within : goal.set_ids-requires-clause-within
set_ids-requires-clause-within c =
    let g = game_model c.args.game.now in
    let m = made g c.args.seat c.args.histories.now c.number.result c.set_firsts-firsts.result.now c.in_ok-set_keys.field-0.items c.in_ok-order.order.items c.number.ensures.number c.requires.unfolded c.set_firsts-firsts.ensures c.in_ok-set_keys.ensures c.in_ok-order.ensures in
    let all = all_length g c.args.histories.now.items (ap (λ (u : Unfolded). u.items) c.requires.unfolded) in
    first_below g (seat_number c.args.seat) c.set_firsts-firsts.result.now c.in_ok-order.order.items m (length c.as_slice-2.result.now) (ap length c.as_slice-2.ensures.value ∙ c.in_ok-ranks.ensures.count ∙ c.count.ensures.count ∙ all)

pub set_ids-requires-clause-few : goal.set_ids-requires-clause-few
set_ids-requires-clause-few c =
    let g = game_model c.args.game.now in
    let m = made g c.args.seat c.args.histories.now c.number.result c.set_firsts-firsts.result.now c.in_ok-set_keys.field-0.items c.in_ok-order.order.items c.number.ensures.number c.requires.unfolded c.set_firsts-firsts.ensures c.in_ok-set_keys.ensures c.in_ok-order.ensures in
    let all = all_length g c.args.histories.now.items (ap (λ (u : Unfolded). u.items) c.requires.unfolded) in
    omega (arith, m.firsts_are.count, all, c.count.ensures.count, c.count.ensures.few)

pub set_infos-requires-clause-order : goal.set_infos-requires-clause-order
set_infos-requires-clause-order c =
    let g = game_model c.args.game.now in
    let m = made g c.args.seat c.args.histories.now c.number.result c.set_firsts-firsts.result.now c.in_ok-set_keys.field-0.items c.in_ok-order.order.items c.number.ensures.number c.requires.unfolded c.set_firsts-firsts.ensures c.in_ok-set_keys.ensures c.in_ok-order.ensures in
    ap (λ (o : List (List Item × ℕ)). keys_in o) c.as_slice-3.ensures.value ∙ made_sets g (seat_number c.args.seat) c.set_firsts-firsts.result.now c.in_ok-order.order.items m

pub set_infos-requires-clause-few : goal.set_infos-requires-clause-few
set_infos-requires-clause-few c =
    let g = game_model c.args.game.now in
    let m = made g c.args.seat c.args.histories.now c.number.result c.set_firsts-firsts.result.now c.in_ok-set_keys.field-0.items c.in_ok-order.order.items c.number.ensures.number c.requires.unfolded c.set_firsts-firsts.ensures c.in_ok-set_keys.ensures c.in_ok-order.ensures in
    let few = made_few g (seat_number c.args.seat) c.set_firsts-firsts.result.now c.in_ok-order.order.items m in
    let all = all_length g c.args.histories.now.items (ap (λ (u : Unfolded). u.items) c.requires.unfolded) in
    omega (arith, few, all, c.count.ensures.count, c.count.ensures.few, ap length c.as_slice-3.ensures.value)

pub set_infos-requires-clause-seen : goal.set_infos-requires-clause-seen
set_infos-requires-clause-seen c =
    let g = game_model c.args.game.now in
    let m = made g c.args.seat c.args.histories.now c.number.result c.set_firsts-firsts.result.now c.in_ok-set_keys.field-0.items c.in_ok-order.order.items c.number.ensures.number c.requires.unfolded c.set_firsts-firsts.ensures c.in_ok-set_keys.ensures c.in_ok-order.ensures in
    subst (λ (o : List (List Item × ℕ)). All (HasSeen g (seat_number c.args.seat)) o) (sym c.as_slice-3.ensures.value) (made_seen g (seat_number c.args.seat) c.set_firsts-firsts.result.now c.in_ok-order.order.items m)

pub set_infos-requires-clause-of : goal.set_infos-requires-clause-of
set_infos-requires-clause-of c =
    let g = game_model c.args.game.now in
    let m = made g c.args.seat c.args.histories.now c.number.result c.set_firsts-firsts.result.now c.in_ok-set_keys.field-0.items c.in_ok-order.order.items c.number.ensures.number c.requires.unfolded c.set_firsts-firsts.ensures c.in_ok-set_keys.ensures c.in_ok-order.ensures in
    let are = subst (λ (o : List (List Item × ℕ)). AreRanks o c.in_ok-ranks.ranks.items (length o)) c.as_slice.ensures.value c.in_ok-ranks.ensures.ranks in
    c.as_slice-4.ensures.value ∙ c.in_ok-of.ensures ∙ ap (λ (r : List ℕ). map (ranked_set g c.set_firsts-firsts.result.now r) (range_with_len 0 (length c.set_firsts-firsts.result.now))) c.as_slice-2.ensures.value
    ∙ made_of g (seat_number c.args.seat) c.set_firsts-firsts.result.now c.in_ok-order.order.items m c.in_ok-ranks.ranks.items are

pub returns-clause-of : goal.returns-clause-of
returns-clause-of c =
    let g = game_model c.args.game.now in
    let m = made g c.args.seat c.args.histories.now c.number.result c.set_firsts-firsts.result.now c.in_ok-set_keys.field-0.items c.in_ok-order.order.items c.number.ensures.number c.requires.unfolded c.set_firsts-firsts.ensures c.in_ok-set_keys.ensures c.in_ok-order.ensures in
    let are = subst (λ (o : List (List Item × ℕ)). AreRanks o c.in_ok-ranks.ranks.items (length o)) c.as_slice.ensures.value c.in_ok-ranks.ensures.ranks in
    c.in_ok-of.ensures ∙ ap (λ (r : List ℕ). map (ranked_set g c.set_firsts-firsts.result.now r) (range_with_len 0 (length c.set_firsts-firsts.result.now))) c.as_slice-2.ensures.value
    ∙ made_of g (seat_number c.args.seat) c.set_firsts-firsts.result.now c.in_ok-order.order.items m c.in_ok-ranks.ranks.items are

pub returns-clause-few : goal.returns-clause-few
returns-clause-few c =
    let g = game_model c.args.game.now in
    let m = made g c.args.seat c.args.histories.now c.number.result c.set_firsts-firsts.result.now c.in_ok-set_keys.field-0.items c.in_ok-order.order.items c.number.ensures.number c.requires.unfolded c.set_firsts-firsts.ensures c.in_ok-set_keys.ensures c.in_ok-order.ensures in
    let few = made_few g (seat_number c.args.seat) c.set_firsts-firsts.result.now c.in_ok-order.order.items m in
    let all = all_length g c.args.histories.now.items (ap (λ (u : Unfolded). u.items) c.requires.unfolded) in
    let many = ap length (made_sets g (seat_number c.args.seat) c.set_firsts-firsts.result.now c.in_ok-order.order.items m) in
    omega (arith, few, all, many, length-map c.in_ok-order.order.items (λ (p : List Item × ℕ). p.0), ap length c.in_ok-sets.ensures, length-map (sets g (seat_number c.args.seat)) (set_in g (seat_number c.args.seat)), c.count.ensures.count, c.count.ensures.few)
