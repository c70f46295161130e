use Rattle.std.proofs.Common.{◌≡◌, map}
use Rattle.std.specs.List.{range_with_len}
use Rattle.lab_tree.specs.Places.{item_of}
use Rattle.lab_tree.proofs.places.path_items.Given as goal

abbrev pub invariant-loop-number : goal.invariant-loop-number
invariant-loop-number l = l.items.items ≡ map (item_of l.sets l.starts l.bases) (range_with_len 0 l.number)
