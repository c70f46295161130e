-- Strategies of the program's forms, and their best-response values.
use Rattle.std.specs.Prelude.{ℕ, ◌≡◌, ◌<◌, ◌≤◌, ℤ, ◌<ℤ◌, List, length, map, slice_index, ◌==◌, if◌then◌else◌}
use Rattle.std.specs.List.{range_with_len}
use Rattle.lab_defs_value.specs.Replies.{Strategy, reply_sets}
use Rattle.lab_defs_value.specs.BestValues.{best_response_value}
use Rattle.lab_defs_value.specs.Bounds.{at, through}
use Rattle.lab_defs_value.specs.Smallness.{IsSmall}
use Rattle.lab_form.specs.Forms.{FormValue, form_model}
use Rattle.lab_units.specs.declared.worth.Worth.{Worth}

-- in a form the keeper plays these weights on its grid
abbrev pub strategy_in : FormValue → (keeper grid : ℕ) → List ℕ → Strategy
strategy_in f keeper grid weights = record { form = form_model f; keeper = keeper; grid = grid; table = weights }

-- worths as whole numbers
abbrev pub numbers : List Worth → List ℤ
numbers worths = map (λ w. w.0) worths

-- the best-response value at each set of the opponent
abbrev pub best_values : Strategy → List ℤ
best_values s = map (best_response_value s) (range_with_len 0 (length (reply_sets s)))

-- the grid of a seat where only the keeper's counts: the replies of the other seat are on any grid, so it has 1
abbrev pub grid_at : (keeper grid : ℕ) → ℕ → ℕ
grid_at keeper grid seat = if seat == keeper then grid else 1

-- a form is small for a keeper's grid
abbrev pub IsSmallFor : (keeper grid : ℕ) → FormValue → Type 0
IsSmallFor keeper grid f = IsSmall (grid_at keeper grid 1) (grid_at keeper grid 2) (form_model f)

-- an action at a set is the first whose value, the replies going on as well as they can, is the best-response value
pub record IsFirstBest (s : Strategy) (J action : ℕ) : Type 0 where
  pub there : action < slice_index (reply_sets s) J
  pub best : through s (best_response_value s) J action ≡ best_response_value s J
  pub first : (a : ℕ) → a < action → through s (best_response_value s) J a <ℤ best_response_value s J

-- from a set on these are the best-response values
abbrev pub AreBest : Strategy → ℕ → List ℤ → Type 0
AreBest s start numbers = (J : ℕ) → start ≤ J → J < length (reply_sets s) → at numbers J ≡ best_response_value s J
