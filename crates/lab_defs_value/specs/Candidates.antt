-- Tables that regret matching finds: for a subgame by its gadget, and for a whole game.
use Rattle.std.specs.Prelude.{ℕ, ℤ, List, ◌==◌, if◌then◌else◌}
use Rattle.lab_defs_text.specs.Games.{GameModel}
use Rattle.lab_defs_game.specs.Forms.{form_of}
use Rattle.lab_defs_game.specs.Seats.{grid_of}
use Rattle.lab_defs_value.specs.Allowances.{Rule}
use Rattle.lab_defs_value.specs.Matching.{averages}
use Rattle.lab_defs_value.specs.Gadgets.{gadget_form}

-- the table of a seat, of those of both
abbrev pub seat_table : ℕ → List ℕ × List ℕ → List ℕ
seat_table seat tables = if seat == 1 then tables.0 else tables.1

-- the weights that a rule proposes for the keeper in the subgame of a node: its average over some rounds on the gadget
abbrev pub candidate : GameModel → Rule → (keeper : ℕ) → (node table : List ℕ) → List ℤ → (rounds : ℕ) → List ℕ
candidate g rule keeper node table bounds rounds =
    seat_table keeper (averages (grid_of g 1) (grid_of g 2) (gadget_form g rule keeper node table bounds) rounds)

-- the tables of both seats that some rounds on the whole game find
abbrev pub solved_tables : GameModel → (rounds : ℕ) → List ℕ × List ℕ
solved_tables g rounds = averages (grid_of g 1) (grid_of g 2) (form_of g) rounds
