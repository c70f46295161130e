use Rattle.std.proofs.Common.{◌≡◌, ◌≤◌, map}
use Rattle.std.specs.List.{range_with_len}
use Rattle.lab_tree.specs.SetValues.{start_of}
use Rattle.lab_tree.proofs.set_starts.starts.Given as goal

abbrev pub invariant-loop-node : goal.invariant-loop-node
invariant-loop-node l = record {
  starts : l.starts.items ≡ map (start_of l.sets) (range_with_len 0 l.node);
  known : l.at ≤ start_of l.sets l.node;
}
