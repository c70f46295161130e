use Rattle.std.proofs.Common.{◌≡◌, map, take}
use Rattle.lab_tree.specs.NodeValues.{end_among, keys_in}
use Rattle.lab_tree.proofs.node_parts.ends.Given as goal

abbrev pub invariant-loop-node : goal.invariant-loop-node
invariant-loop-node l = l.ends.items ≡ map (end_among (keys_in l.order)) (take l.node (keys_in l.order))
