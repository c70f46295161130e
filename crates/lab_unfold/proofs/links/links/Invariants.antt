use Rattle.std.proofs.Common.{◌≡◌, ◌<◌, ℕ, None, length}
use Rattle.std.specs.Prelude.{slice_index_or}
use Rattle.lab_world.specs.Games.{game_model}
use Rattle.lab_world.specs.Seats.{seat_number}
use Rattle.lab_unfold.specs.Links.{IsMade}
use Rattle.lab_unfold.specs.Traces.{traces}
use Rattle.lab_unfold.proofs.links.links.Given as goal

abbrev pub invariant-loop-number : goal.invariant-loop-number
invariant-loop-number l = record {
  count : length l.links.items ≡ l.number;
  made : (i : ℕ) → i < length l.links.items → IsMade (traces (game_model l.game) (seat_number l.seat) l.kept) i (slice_index_or l.links.items i None);
}
