use Rattle.std.proofs.Common.{◌<◌, ◌≤◌, length, take, ap, ◌∙◌, sym, subst, arith}
use Rattle.std.proofs.lemmas.List.{length-map, length-take-le}
use Rattle.lab_defs_game.specs.Forms.{actions_in, deciding, decisions_to}
use Rattle.lab_form.specs.Forms.{IsStepBelow, taken_model, sets_model, whole_path}
use Rattle.lab_form.proofs.CallerLemmas.{model_length, parents_below}
use Rattle.lab_tree.specs.TreeForms.{form_set, form_sets}
use Rattle.lab_tree.proofs.TreeFormLemmas.{decisions_of, counted_at}
use Rattle.lab_tree.proofs.decisions.decisions_before.Goals as goal

pub returns : goal.returns
returns c =
    let sets = form_sets c.args.sets.now in
    let n = length c.args.counts.now in
    let below = subst (IsStepBelow (take n sets)) c.in-Some.is c.requires.below in
    let within : n ≤ length sets = subst (λ m. n ≤ m) (sym (length-map c.args.sets.now form_set)) c.requires.within in
    let there : c.in-Some.last.0.0 < n = omega (arith, below.0, length-take-le n sets within) in
    counted_at (decisions_to (sets_model sets)) c.args.counts.now n c.in-Some.last.0.0 c.requires.counts there
    ∙ sym (decisions_of (sets_model sets) (taken_model c.in-Some.last) (parents_below sets c.requires.sets) (omega (arith, there, within, model_length sets)))
    ∙ ap (λ o. deciding (actions_in (sets_model sets)) (whole_path sets o)) (sym c.in-Some.is)
