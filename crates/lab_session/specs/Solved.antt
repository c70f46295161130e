-- What regret matching finds on a game, as the program has it.
use Rattle.std.specs.Prelude.{ℕ, ◌≡◌}
use Rattle.lab_defs_text.specs.Games.{GameModel}
use Rattle.lab_defs_game.specs.Forms.{Form, form_of, game_actions}
use Rattle.lab_defs_game.specs.Seats.{grid_of}
use Rattle.lab_defs_value.specs.Candidates.{seat_table, solved_tables}
use Rattle.lab_regret.specs.Kept.{RegretsValue, AreRegretsOf}
use Rattle.lab_table.specs.Tables.{TableValue}

-- the regrets and sums are those of a form after some rounds, on a grid of each seat
pub record IsSolved (f : Form) (d1 d2 n : ℕ) (v : RegretsValue) : Type 0 where
  pub grid1 : v.grid1 ≡ d1
  pub grid2 : v.grid2 ≡ d2
  pub rounds : v.rounds ≡ n
  pub kept : AreRegretsOf f v

-- and so of a game
abbrev pub IsSolvedGame : GameModel → (rounds : ℕ) → RegretsValue → Type 0
IsSolvedGame g rounds v = IsSolved (form_of g) (grid_of g 1) (grid_of g 2) rounds v

-- the table of a seat that some rounds on a game find
abbrev pub solved_table : GameModel → (seat rounds : ℕ) → TableValue
solved_table g seat rounds = record { actions = game_actions g seat; weights = seat_table seat (solved_tables g rounds) }
