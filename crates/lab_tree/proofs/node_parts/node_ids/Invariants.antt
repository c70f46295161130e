use Rattle.std.proofs.Common.{◌≡◌, map, take}
use Rattle.std.specs.Prelude.{slice_index}
use Rattle.lab_tree.specs.Trees.{node_id}
use Rattle.lab_tree.proofs.node_parts.node_ids.Given as goal

abbrev pub invariant-loop-first : goal.invariant-loop-first
invariant-loop-first l = l.ids.items ≡ map (λ f. node_id (slice_index l.ranks f)) (take l.first-index l.firsts)
