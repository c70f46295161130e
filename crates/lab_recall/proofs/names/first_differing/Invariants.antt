use Rattle.std.proofs.Common.{◌≡◌, ◌<◌, ℕ, false}
use Rattle.lab_world.specs.Games.{game_model}
use Rattle.lab_world.specs.Seats.{seat_number}
use Rattle.lab_recall.specs.Tests.{differs_at}
use Rattle.lab_recall.proofs.names.first_differing.Given as goal

abbrev pub invariant-loop-number : goal.invariant-loop-number
invariant-loop-number l = (i : ℕ) → i < l.number → differs_at (game_model l.game) (seat_number l.seat) l.firsts i ≡ false
