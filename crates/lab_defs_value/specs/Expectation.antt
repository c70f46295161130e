-- What seat 1 expects to earn.
use Rattle.std.specs.Prelude.{ℕ, ◌-◌, ◌*◌, ◌^◌, ℤ, pos, ◌*ℤ◌, List}
use Rattle.lab_math.specs.Sums.{total}
use Rattle.lab_defs_text.specs.Games.{GameModel}
use Rattle.lab_defs_game.specs.Seats.{grid_of}
use Rattle.lab_defs_game.specs.Histories.{History}
use Rattle.lab_defs_game.specs.Sets.{most_decisions}
use Rattle.lab_defs_game.specs.Chance.{scale}
use Rattle.lab_defs_game.specs.Forms.{Form, actions_of, form_of, game_actions, deciding}
use Rattle.lab_defs_game.specs.Paths.{path_along}
use Rattle.lab_defs_value.specs.Tables.{own_weight, uniform_table}

-- the sum over all rows of the worth, times both seats' own weights
abbrev pub expectation : (grid1 grid2 : ℕ) → Form → (table1 table2 : List ℕ) → ℤ
expectation grid1 grid2 f table1 table2 =
    total (λ r. r.worth *ℤ pos (own_weight grid1 (actions_of f 1) table1 r.path1 r.pad1 * own_weight grid2 (actions_of f 2) table2 r.path2 r.pad2)) f.rows

-- the units of an expectation: the scale, and a grid for each decision
abbrev pub expectation_units : GameModel → ℕ
expectation_units g = scale g * (grid_of g 1 ^ most_decisions g 1 * grid_of g 2 ^ most_decisions g 2)

-- the weights of a table of a seat along a history, with its grid for each decision that the history lacks
abbrev pub own_along : GameModel → ℕ → List ℕ → History → ℕ
own_along g seat table h =
    own_weight (grid_of g seat) (game_actions g seat) table (path_along g seat h) (most_decisions g seat - deciding (game_actions g seat) (path_along g seat h))

-- the uniform table of a seat
abbrev pub uniform_of : GameModel → ℕ → List ℕ
uniform_of g seat = uniform_table (grid_of g seat) (game_actions g seat)

-- what seat 1 expects by the uniform tables, over the units of an expectation
abbrev pub expectation_of_uniform : GameModel → ℤ
expectation_of_uniform g = expectation (grid_of g 1) (grid_of g 2) (form_of g) (uniform_of g 1) (uniform_of g 2)
