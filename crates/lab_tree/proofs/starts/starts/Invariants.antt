use Rattle.std.proofs.Common.{◌≡◌, map}
use Rattle.std.specs.List.{range_with_len}
use Rattle.lab_tree.specs.Ends.{ends_before}
use Rattle.lab_tree.proofs.starts.starts.Given as goal

abbrev pub invariant-loop-node : goal.invariant-loop-node
invariant-loop-node l = l.starts.items ≡ map (ends_before l.ends) (range_with_len 0 l.node)
