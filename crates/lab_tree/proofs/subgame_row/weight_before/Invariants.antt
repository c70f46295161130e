use Rattle.std.proofs.Common.{◌≡◌, ◌≤◌, ◌*◌, ◌-◌, ◌^◌, min, Some}
use Rattle.lab_form.specs.Columns.{place_of_step}
use Rattle.lab_form.specs.Forms.{IsStepBelow}
use Rattle.lab_tree.specs.TreeForms.{form_sets}
use Rattle.lab_tree.specs.Subforms.{weight_before}
use Rattle.lab_tree.proofs.subgame_row.weight_before.Given as goal

abbrev pub invariant-loop-step : goal.invariant-loop-step
invariant-loop-step l = record {
  there : IsStepBelow (form_sets l.sets) l.step;
  within : l.weight ≤ 2 ^ 128 - 1;
  same : min (l.weight * weight_before l.sets l.span l.weights l.step) (2 ^ 128 - 1) ≡ min (weight_before l.sets l.span l.weights (Some l.fn.last)) (2 ^ 128 - 1);
}

abbrev pub decreases-loop-step : goal.decreases-loop-step
decreases-loop-step l = place_of_step l.step
