use Rattle.std.proofs.Common.{◌≤◌, ◌-◌, length}
use Rattle.lab_tree.specs.SetValues.{start_of}
use Rattle.lab_tree.proofs.set_starts.start_from.Given as goal

abbrev pub invariant-loop-at : goal.invariant-loop-at
invariant-loop-at l = record {
  within : l.at ≤ length l.sets;
  known : l.at ≤ start_of l.sets l.node;
}

abbrev pub decreases-loop-at : goal.decreases-loop-at
decreases-loop-at l = length l.sets - l.at
