use Rattle.std.proofs.Common.{◌≡◌, ◌≤◌, ◌+◌}
use Rattle.lab_defs_game.specs.Forms.{deciding}
use Rattle.lab_form.specs.Columns.{place_of_step}
use Rattle.lab_form.specs.Forms.{actions_in, whole_path, IsStepBelow}
use Rattle.lab_rule.proofs.factors.decisions.Given as goal

abbrev pub invariant-loop-step : goal.invariant-loop-step
invariant-loop-step l = record {
  there : IsStepBelow l.sets l.step;
  few : l.count + place_of_step l.step ≤ place_of_step l.fn.last;
  same : l.count + deciding (actions_in l.sets) (whole_path l.sets l.step) ≡ deciding (actions_in l.sets) (whole_path l.sets l.fn.last);
}

abbrev pub decreases-loop-step : goal.decreases-loop-step
decreases-loop-step l = place_of_step l.step
