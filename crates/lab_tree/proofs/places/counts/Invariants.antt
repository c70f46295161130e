use Rattle.std.proofs.Common.{◌≡◌, map}
use Rattle.std.specs.List.{range_with_len}
use Rattle.lab_tree.specs.Places.{count_back}
use Rattle.lab_tree.proofs.places.counts.Given as goal

abbrev pub invariant-loop : goal.invariant-loop
invariant-loop l = l.counts.items ≡ map (count_back l.sets) (range_with_len 0 l.counter)
