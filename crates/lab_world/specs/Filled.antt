-- What holds of the worlds of a game.
use Rattle.std.specs.Prelude.{ℕ, [], slice_index_or, ◌≡◌, ◌<◌, ◌*◌, ◌&&◌, ◌==◌, nat_lt, Bool, true, length}
use Rattle.std.specs.List.{list_all}
use Rattle.lab_defs_game.specs.Chance.{row_total}
use Rattle.lab_world.specs.declared.place.ActionId.{ActionId}
use Rattle.lab_world.specs.declared.place.Row.{Row}
use Rattle.lab_world.specs.declared.place.World.{World}
use Rattle.lab_world.specs.Models.{row_model}

-- a row has outcomes, and their weights make its total
abbrev pub is_row : Row → Bool
is_row r = nat_lt 0 (length r.outcomes) && ((r.total == row_total (row_model r)) && nat_lt 0 r.total)

-- the row with a number
abbrev pub row_at : World → ℕ → Row
row_at w k = slice_index_or w.rows k (record { total = 0; outcomes = [] })

-- each seat has an action, and each joint action a row
pub record IsFilled (w : World) : Type 0 where
  pub one : 0 < length w.one
  pub two : 0 < length w.two
  pub count : length w.rows ≡ length w.one * length w.two
  pub rows : list_all is_row w.rows ≡ true

-- each action of either seat is one of this many
abbrev pub ids_fit : ℕ → World → Bool
ids_fit actions w = list_all (λ (i : ActionId). nat_lt i.0 actions) w.one && list_all (λ (i : ActionId). nat_lt i.0 actions) w.two
