use Rattle.std.proofs.Common.{◌≡◌, ◌≤◌, ◌+◌, Some}
use Rattle.lab_form.specs.Columns.{place_of_step}
use Rattle.lab_form.specs.Forms.{IsStepBelow}
use Rattle.lab_tree.specs.TreeForms.{form_sets}
use Rattle.lab_tree.specs.Subforms.{decisions_inside}
use Rattle.lab_tree.proofs.subgame_row.decisions_inside.Given as goal

abbrev pub invariant-loop-step : goal.invariant-loop-step
invariant-loop-step l = record {
  there : IsStepBelow (form_sets l.sets) l.step;
  few : l.count + place_of_step l.step ≤ l.fn.last.0.0 + 1;
  same : l.count + decisions_inside l.sets l.span l.step ≡ decisions_inside l.sets l.span (Some l.fn.last);
}

abbrev pub decreases-loop-step : goal.decreases-loop-step
decreases-loop-step l = place_of_step l.step
