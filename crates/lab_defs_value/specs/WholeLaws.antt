-- Laws of tables.
use Rattle.std.specs.Prelude.{◌≡◌, ℕ, ◌*◌, List}
use Rattle.lab_math.specs.Sums.{sum_over}
use Rattle.lab_defs_text.specs.Games.{GameModel}
use Rattle.lab_defs_game.specs.Seats.{grid_of}
use Rattle.lab_defs_game.specs.Histories.{terminal_histories}
use Rattle.lab_defs_game.specs.Chance.{chance}
use Rattle.lab_defs_game.specs.Forms.{game_actions}
use Rattle.lab_defs_game.specs.Accepted.{IsAccepted}
use Rattle.lab_defs_value.specs.Tables.{uniform_table}
use Rattle.lab_defs_value.specs.Replies.{SumsToGrid}
use Rattle.lab_defs_value.specs.Expectation.{own_along, expectation_units}

-- the weights of the uniform table sum to the grid
abbrev pub UniformLaw : Type 0
UniformLaw = (grid : ℕ) (actions : List ℕ) → SumsToGrid grid actions (uniform_table grid actions)

-- in an accepted game, whatever the tables, the chances of the terminal histories times both seats' own weights sum to the units of an expectation: nothing is lost, nothing counted twice
abbrev pub WholeLaw : Type 0
WholeLaw = (g : GameModel) (table1 table2 : List ℕ) → IsAccepted g
    → SumsToGrid (grid_of g 1) (game_actions g 1) table1 → SumsToGrid (grid_of g 2) (game_actions g 2) table2
    → sum_over (λ h. chance g h * (own_along g 1 table1 h * own_along g 2 table2 h)) (terminal_histories g) ≡ expectation_units g
