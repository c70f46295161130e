use Rattle.std.proofs.Common.{◌≡◌, map}
use Rattle.std.specs.List.{range_with_len}
use Rattle.lab_tree.specs.Places.{place_at}
use Rattle.lab_tree.proofs.places.places.Given as goal

abbrev pub invariant-loop : goal.invariant-loop
invariant-loop l = l.places.items ≡ map (place_at l.sets) (range_with_len 0 l.counter)
