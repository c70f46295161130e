use Rattle.std.proofs.Common.{◌≡◌, ℕ, ◌<◌, ◌≤◌, length, drop}
use Rattle.std.specs.Prelude.{slice_index}
use Rattle.lab_tree.specs.Ways.{built, base_next, bases_of}
use Rattle.lab_tree.proofs.walk.bases.Given as goal

abbrev pub invariant-loop-node : goal.invariant-loop-node
invariant-loop-node l = record {
  count : length l.bases.items ≡ l.node;
  so_far : built (base_next l.starts) l.bases.items (drop l.node l.parents) ≡ bases_of l.starts l.parents;
  within : (k : ℕ) → k < l.node → slice_index l.bases.items k ≤ slice_index l.starts k;
}
