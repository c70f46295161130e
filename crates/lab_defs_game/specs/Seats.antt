-- The two seats of a game, and the grid of each.
use Rattle.std.specs.Prelude.{◌≡◌, ◌⊎◌, ℕ, ◌==◌, if◌then◌else◌}
use Rattle.lab_defs_text.specs.Games.{GameModel}

-- a seat is 1 or 2
abbrev pub IsSeat : ℕ → Type 0
IsSeat seat = (seat ≡ 1) ⊎ (seat ≡ 2)

-- the other seat
abbrev pub other : ℕ → ℕ
other seat = if seat == 1 then 2 else 1

-- the grid of a seat: what its weights sum to at each set where it decides; this version of the text gives both seats one grid
abbrev pub grid_of : GameModel → ℕ → ℕ
grid_of g seat = g.grid
