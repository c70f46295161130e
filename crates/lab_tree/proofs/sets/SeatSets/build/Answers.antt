use Rattle.std.proofs.Common.{◌≡◌, ◌<◌, ◌∙◌, ap, sym, subst, List, ℕ, length, map, get_or, arith}
use Rattle.std.specs.List.{All, range_with_len}
use Rattle.std.proofs.lemmas.List.{length-map}
use Rattle.lab_defs_game.specs.Nodes as nodes
use Rattle.lab_form.specs.Forms.{AreSets}
use Rattle.lab_world.proofs.CallerLemmas.{whole_parts, one_or_two}
use Rattle.lab_world.specs.Games.{game_model}
use Rattle.lab_world.specs.Seats.{seat_number}
use Rattle.lab_tree.specs.declared.info.SetInfo.{SetInfo}
use Rattle.lab_tree.specs.Decisions.{set_decisions}
use Rattle.lab_tree.specs.NodeValues.{NodesValue, node_end}
use Rattle.lab_tree.specs.SetValues.{starts_of, span_at, AreRising}
use Rattle.lab_tree.specs.TreeForms.{form_sets}
use Rattle.lab_tree.proofs.FormLaws.{sets_stand}
use Rattle.lab_tree.proofs.PartLemmas.{alike_names}
use Rattle.lab_tree.proofs.SpanLemmas.{infos, starts, starts_long, infos_rise, ends_below, made_bounds, made_value}
use Rattle.lab_tree.proofs.sets.SeatSets.build.Goals as goal

pub numbered_sets-requires-clause-alike : goal.numbered_sets-requires-clause-alike
numbered_sets-requires-clause-alike c = alike_names (game_model c.args.game.now) (seat_number c.args.seat) c.requires.recall (one_or_two c.args.seat)

pub decision_counts-requires-clause-sets : goal.decision_counts-requires-clause-sets
decision_counts-requires-clause-sets c =
    let g = game_model c.args.game.now in
    let made : c.as_slice.result.now ≡ infos g (seat_number c.args.seat) = c.as_slice.ensures.value ∙ c.in_ok-sets.ensures.sets in
    subst (λ (xs : List SetInfo). AreSets (form_sets xs)) (sym made) (sets_stand g (seat_number c.args.seat) (one_or_two c.args.seat) (alike_names g (seat_number c.args.seat) c.requires.recall (one_or_two c.args.seat)) (whole_parts c.args.game.now).0)

pub starts-requires-clause-rising : goal.starts-requires-clause-rising
starts-requires-clause-rising c =
    let g = game_model c.args.game.now in
    let made : c.as_slice-2.result.now ≡ infos g (seat_number c.args.seat) = c.as_slice-2.ensures.value ∙ c.in_ok-sets.ensures.sets in
    subst (λ (xs : List SetInfo). AreRising xs) (sym made) (infos_rise g (seat_number c.args.seat))

pub spans-requires-clause-starts : goal.spans-requires-clause-starts
spans-requires-clause-starts c =
    let g = game_model c.args.game.now in
    let made : c.as_slice-2.result.now ≡ infos g (seat_number c.args.seat) = c.as_slice-2.ensures.value ∙ c.in_ok-sets.ensures.sets in
    let count : c.count.result ≡ length (nodes.nodes g) = c.count.ensures ∙ ap (λ (v : NodesValue). length v.nodes) c.requires.nodes in
    let begun : c.as_slice-3.result.now ≡ starts g (seat_number c.args.seat) =
    c.as_slice-3.ensures.value ∙ c.in_ok-starts.ensures ∙ ap (λ (xs : List SetInfo). starts_of xs c.count.result) made ∙ ap (starts_of (infos g (seat_number c.args.seat))) count in
    let ends : c.ends.result.now ≡ map (node_end g) (nodes.nodes g) = c.ends.ensures ∙ ap (λ (v : NodesValue). v.ends) c.requires.nodes in
    omega (arith, ap length ends, length-map (nodes.nodes g) (node_end g), ap length begun, starts_long g (seat_number c.args.seat))

pub spans-requires-clause-ends : goal.spans-requires-clause-ends
spans-requires-clause-ends c =
    let g = game_model c.args.game.now in
    let made : c.as_slice-2.result.now ≡ infos g (seat_number c.args.seat) = c.as_slice-2.ensures.value ∙ c.in_ok-sets.ensures.sets in
    let count : c.count.result ≡ length (nodes.nodes g) = c.count.ensures ∙ ap (λ (v : NodesValue). length v.nodes) c.requires.nodes in
    let begun : c.as_slice-3.result.now ≡ starts g (seat_number c.args.seat) =
    c.as_slice-3.ensures.value ∙ c.in_ok-starts.ensures ∙ ap (λ (xs : List SetInfo). starts_of xs c.count.result) made ∙ ap (starts_of (infos g (seat_number c.args.seat))) count in
    let ends : c.ends.result.now ≡ map (node_end g) (nodes.nodes g) = c.ends.ensures ∙ ap (λ (v : NodesValue). v.ends) c.requires.nodes in
    subst (λ n. All (λ e. e < n) c.ends.result.now) (sym (ap length begun)) (ends_below g (seat_number c.args.seat) c.ends.result.now ends)

pub invariant_of-result : goal.invariant_of-result
invariant_of-result c =
    let g = game_model c.args.game.now in
    let made : c.as_slice-2.result.now ≡ infos g (seat_number c.args.seat) = c.as_slice-2.ensures.value ∙ c.in_ok-sets.ensures.sets in
    let count : c.count.result ≡ length (nodes.nodes g) = c.count.ensures ∙ ap (λ (v : NodesValue). length v.nodes) c.requires.nodes in
    let begun : c.in_ok-starts.starts.items ≡ starts g (seat_number c.args.seat) =
    c.in_ok-starts.ensures ∙ ap (λ (xs : List SetInfo). starts_of xs c.count.result) made ∙ ap (starts_of (infos g (seat_number c.args.seat))) count in (
      made_bounds g (seat_number c.args.seat) c.in_ok-sets.field-0.sets.items c.in_ok-starts.starts.items c.in_ok-sets.ensures.sets begun,
      c.in_ok-decisions.ensures ∙ ap set_decisions c.as_slice.ensures.value,
    )

pub returns : goal.returns
returns c =
    let g = game_model c.args.game.now in
    let made : c.as_slice-2.result.now ≡ infos g (seat_number c.args.seat) = c.as_slice-2.ensures.value ∙ c.in_ok-sets.ensures.sets in
    let count : c.count.result ≡ length (nodes.nodes g) = c.count.ensures ∙ ap (λ (v : NodesValue). length v.nodes) c.requires.nodes in
    let begun : c.in_ok-starts.starts.items ≡ starts g (seat_number c.args.seat) =
    c.in_ok-starts.ensures ∙ ap (λ (xs : List SetInfo). starts_of xs c.count.result) made ∙ ap (starts_of (infos g (seat_number c.args.seat))) count in
    let ends : c.ends.result.now ≡ map (node_end g) (nodes.nodes g) = c.ends.ensures ∙ ap (λ (v : NodesValue). v.ends) c.requires.nodes in
    made_value g (seat_number c.args.seat) c.in_ok-sets.field-0.sets.items c.in_ok-starts.starts.items c.in_ok-sets.ensures.sets begun
    c.in_ok-sets.field-0.of.items c.ends.result.now c.in_ok-spans.spans.items c.in_ok-sets.ensures.of ends
    (c.in_ok-spans.ensures ∙ ap (λ (ns : List ℕ). map (λ n. span_at ns n (get_or c.ends.result.now n 0)) (range_with_len 0 (length c.ends.result.now))) c.as_slice-3.ensures.value)
