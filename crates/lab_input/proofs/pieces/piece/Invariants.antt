use Rattle.std.proofs.Common.{◌≡◌, [], ◌==◌, ◌-◌, slice_index_or}
use Rattle.std.specs.List.{slice_split}
use Rattle.std.specs.Option.{option_map_or}
use Rattle.lab_input.proofs.pieces.piece.Given as goal

abbrev pub invariant-loop : goal.invariant-loop
invariant-loop l =
    slice_index_or (slice_split (λ c. c == l.separator) l.bytes) l.number []
    ≡ slice_index_or (option_map_or (λ r. slice_split (λ c. c == l.separator) r.now) l.rest []) (l.number - l.counter) []
