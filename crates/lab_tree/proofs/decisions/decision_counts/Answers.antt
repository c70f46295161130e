use Rattle.std.proofs.Common.{◌<◌, length, map, ap, ◌∙◌, sym, subst}
use Rattle.std.specs.List.{range_with_len}
use Rattle.std.proofs.lemmas.List.FromFn.{length-map-range_with_len}
use Rattle.lab_defs_game.specs.Forms.{decisions_to}
use Rattle.lab_form.specs.Forms.{sets_model}
use Rattle.lab_tree.specs.TreeForms.{form_sets}
use Rattle.lab_tree.proofs.Parts.{told_next}
use Rattle.lab_tree.proofs.decisions.decision_counts.Goals as goal

pub decision_count-requires-clause-counts : goal.decision_count-requires-clause-counts
decision_count-requires-clause-counts c =
    let f = decisions_to (sets_model (form_sets c.args.sets.now)) in
    let told = c.as_slice.ensures.value ∙ c.loop.invariant in
    told ∙ sym (ap (λ n. map f (range_with_len 0 n)) (ap length told ∙ length-map-range_with_len f 0 c.loop.counter))

pub decision_count-requires-clause-below : goal.decision_count-requires-clause-below
decision_count-requires-clause-below c =
    let f = decisions_to (sets_model (form_sets c.args.sets.now)) in
    subst (λ n. n < length c.args.sets.now) (sym (ap length (c.as_slice.ensures.value ∙ c.loop.invariant) ∙ length-map-range_with_len f 0 c.loop.counter)) c.loop-test.true

pub loop-preserved : goal.loop-preserved
loop-preserved c =
    let f = decisions_to (sets_model (form_sets c.args.sets.now)) in
    let n = c.loop.counter in
    let long = ap length (c.as_slice.ensures.value ∙ c.loop.invariant) ∙ length-map-range_with_len f 0 n in
    told_next f n c.loop.counts.items c.push.new.self.items c.decision_count.result c.loop.invariant (c.decision_count.ensures ∙ ap f long) c.in_ok-push.ensures.items
