use Rattle.std.proofs.Common.{◌≡◌, ◌<◌, length, get_or}
use Rattle.lab_tree.specs.declared.info.PathItem.{PathItem}
use Rattle.lab_tree.specs.Ways.{path_in}
use Rattle.lab_tree.proofs.walk.item_at.Given as goal

abbrev pub invariant-loop-at : goal.invariant-loop-at
invariant-loop-at l = record {
  node : l.at < length l.parents;
  there : l.index < length (path_in l.items l.starts l.parents l.at);
  same : (d : PathItem) → get_or (path_in l.items l.starts l.parents l.node) l.index d ≡ get_or (path_in l.items l.starts l.parents l.at) l.index d;
}

abbrev pub decreases-loop-at : goal.decreases-loop-at
decreases-loop-at l = l.at
