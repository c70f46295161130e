-- Seats by their numbers.
use Rattle.std.specs.Prelude.{ℕ}
use Rattle.lab_world.specs.declared.seat.Seat.{Seat}
use Rattle.lab_world.specs.declared.seat.Seat.TheVariants.{One, Two}

-- the number of a seat
abbrev pub seat_number : Seat → ℕ
seat_number One = 1
seat_number Two = 2
