use Rattle.std.proofs.Common.{◌≡◌, ◌*◌, ◌^◌, ◌<◌, ◌≤◌, length}
use Rattle.lab_best.specs.Rows.{weight_above, count_above}
use Rattle.lab_best.proofs.weight.times_above.Given as goal

abbrev pub invariant-loop-own : goal.invariant-loop-own
invariant-loop-own l = record {
  there : l.set < length l.paths.sets.now;
  value : l.weight * weight_above l.paths.sets.now l.weights l.set ≡ l.fn.weight * weight_above l.paths.sets.now l.weights l.fn.set.0;
  small : l.weight * l.d ^ count_above l.paths.sets.now l.set ≤ l.fn.weight * l.d ^ count_above l.paths.sets.now l.fn.set.0;
}

abbrev pub decreases-loop-own : goal.decreases-loop-own
decreases-loop-own l = l.set
