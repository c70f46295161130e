use Rattle.std.proofs.Common.{◌<◌, ◌≤◌, ◌-◌, length, get_or, []}
use Rattle.lab_tree.specs.NodeValues.{end_among, keys_in}
use Rattle.lab_tree.proofs.node_parts.run_end.Given as goal

abbrev pub invariant-loop-end : goal.invariant-loop-end
invariant-loop-end l = record {
  past : l.node < l.end;
  within : l.end ≤ length l.order;
  run : l.end ≤ end_among (keys_in l.order) (get_or (keys_in l.order) l.node []);
}

abbrev pub decreases-loop-end : goal.decreases-loop-end
decreases-loop-end l = length l.order - l.end
