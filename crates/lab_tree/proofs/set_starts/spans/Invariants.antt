use Rattle.std.proofs.Common.{◌≡◌, map}
use Rattle.std.specs.Prelude.{slice_index}
use Rattle.std.specs.List.{range_with_len}
use Rattle.lab_tree.specs.SetValues.{span_at}
use Rattle.lab_tree.proofs.set_starts.spans.Given as goal

abbrev pub invariant-loop-node : goal.invariant-loop-node
invariant-loop-node l = l.spans.items ≡ map (λ n. span_at l.starts n (slice_index l.ends n)) (range_with_len 0 l.node)
