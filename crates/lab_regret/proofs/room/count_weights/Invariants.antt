use Rattle.std.proofs.Common.{◌≡◌, ◌+◌, drop}
use Rattle.lab_form.specs.Forms.{weight_count}
use Rattle.lab_regret.proofs.room.count_weights.Given as goal

abbrev pub invariant-loop-i : goal.invariant-loop-i
invariant-loop-i l = l.count + weight_count (drop l.i l.sets) ≡ weight_count l.sets
