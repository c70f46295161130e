-- Cards and actions of the generated card games.
use Rattle.std.specs.Prelude.{ℕ}
use Rattle.lab_defs_game.specs.Histories.{Step}
use Rattle.lab_defs_report.specs.Kinds.{Ranks}

-- the ranks of the cards of the seats, and of the third card
abbrev pub ranks : (first second third : ℕ) → Ranks
ranks first second third = record { first = first; second = second; third = third }

-- the step of the deal with a number
abbrev pub dealt : ℕ → Step
dealt n = record { action1 = 0; action2 = 0; outcome = n }

-- the step of an action of a seat, by its number
abbrev pub one_takes : ℕ → Step
one_takes a = record { action1 = a; action2 = 0; outcome = 0 }

abbrev pub two_takes : ℕ → Step
two_takes a = record { action1 = 0; action2 = a; outcome = 0 }
