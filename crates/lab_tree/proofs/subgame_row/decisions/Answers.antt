use Rattle.std.proofs.Common.{cond, length, Some, sym, ap, ◌∙◌, arith}
use Rattle.std.proofs.lemmas.List.FromFn.{length-map-range_with_len}
use Rattle.lab_defs_game.specs.Forms.{decisions_to}
use Rattle.lab_form.specs.Forms.{sets_model}
use Rattle.lab_tree.specs.TreeForms.{form_sets}
use Rattle.lab_tree.specs.Subforms.{decisions_inside}
use Rattle.lab_tree.proofs.SubformLemmas.{step_there}
use Rattle.lab_tree.proofs.TreeFormLemmas.{counted_at}
use Rattle.lab_tree.proofs.subgame_row.decisions.Goals as goal

pub bounds-part-last : goal.bounds-part-last
bounds-part-last c =
    let sets = c.args.part.now.sets.now in
    omega (arith, step_there sets c.args.last c.requires.last, ap length c.requires.decisions, length-map-range_with_len (decisions_to (sets_model (form_sets sets))) 0 (length sets))

pub returns-then-keeps : goal.returns-then-keeps
returns-then-keeps c =
    let sets = c.args.part.now.sets.now in
    counted_at (decisions_to (sets_model (form_sets sets))) c.args.part.now.decisions.now (length sets) c.args.last.0.0 c.requires.decisions (step_there sets c.args.last c.requires.last)
    ∙ sym (ap (λ b. cond b (decisions_to (sets_model (form_sets sets)) c.args.last.0.0) (decisions_inside sets c.args.part.now.span (Some c.args.last))) c.if-keeps.true)
