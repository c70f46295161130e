-- What a session keeps of each seat from the blueprint on.
use Rattle.std.specs.Prelude.{ℕ, ◌≡◌, Option, IfSome, Result, Ok}
use Rattle.lab_defs_text.specs.Games.{GameModel}
use Rattle.lab_defs_text.specs.Steps.{◌>>=◌}
use Rattle.lab_defs_game.specs.Accepted.{IsAccepted}
use Rattle.lab_defs_value.specs.Bounds.{tight_bounds}
use Rattle.lab_defs_value.specs.Candidates.{solved_tables}
use Rattle.lab_defs_value.specs.Expectation.{uniform_of, expectation_of_uniform, expectation_units}
use Rattle.lab_defs_report.specs.States.{Profile, SessionFault, table_of, bounds_of, profile_of, given_tables, good_rounds}
use Rattle.lab_table.specs.Tables.{TableValue}
use Rattle.lab_units.specs.declared.fraction.Fraction.{Fraction}
use Rattle.lab_session.specs.Answers.{IsReduced}
use Rattle.lab_session.specs.Boards.{IsTableFor}
use Rattle.lab_session.specs.declared.side.Side.{Side}
use Rattle.lab_session.specs.declared.side.Sides.{Sides}
use Rattle.lab_session.specs.declared.how.How.{How}
use Rattle.lab_session.specs.declared.how.How.TheVariants.{Uniform, Given, Solve}

-- a table of a seat of a game, and its tight bounds
pub record IsSide (g : GameModel) (seat : ℕ) (s : Side) : Type 0 where
  pub table : IsTableFor g seat s.table
  pub keeper : s.bounds.keeper ≡ seat
  pub tight : s.bounds.bounds ≡ tight_bounds g seat s.table.weights

-- those of each seat
pub record AreSides (g : GameModel) (s : Sides) : Type 0 where
  pub one : IsSide g 1 s.one
  pub two : IsSide g 2 s.two

-- the tables and bounds of both seats, as the definitions have them
abbrev pub profile_in : Sides → Profile
profile_in s = record { table1 = s.one.table.weights; table2 = s.two.table.weights; bounds1 = s.one.bounds.bounds; bounds2 = s.two.bounds.bounds }

-- the table and the bounds of a seat of a profile
pub record IsSideOf (g : GameModel) (p : Profile) (seat : ℕ) (s : Side) : Type 0 where
  pub side : IsSide g seat s
  pub weights : s.table.weights ≡ table_of p seat
  pub bounds : s.bounds.bounds ≡ bounds_of p seat

-- what a session keeps: a game that can be played, what seat 1 expects where both seats split evenly and, from the blueprint on, a table and tight bounds of each seat
pub record IsSession (g : GameModel) (even : Fraction) (kept : Option Sides) : Type 0 where
  pub accepted : IsAccepted g
  pub expected : IsReduced even (expectation_of_uniform g) (expectation_units g)
  pub sides : IfSome kept (AreSides g)

-- the strategies that a way to a blueprint leads to, or why it leads to none
abbrev pub profile_by : GameModel → How → Result Profile SessionFault
profile_by g Uniform = Ok (profile_of g (uniform_of g 1) (uniform_of g 2))
profile_by g (Given weights) = given_tables g weights.now
profile_by g (Solve rounds) = good_rounds rounds >>= λ x. let ts = solved_tables g rounds in Ok (profile_of g ts.0 ts.1)

-- tables of both seats, by a way to a blueprint
pub record AreTablesBy (g : GameModel) (how : How) (t1 t2 : TableValue) : Type 0 where
  pub one : IsTableFor g 1 t1
  pub two : IsTableFor g 2 t2
  pub found : profile_by g how ≡ Ok (profile_of g t1.weights t2.weights)
