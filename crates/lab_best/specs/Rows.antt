-- Rows of the program's forms, by what weights of a seat come to on them.
use Rattle.std.specs.Prelude.{ℕ, ◌+◌, ◌*◌, ◌^◌, ◌<◌, ◌≤◌, ℤ, pos, ◌*ℤ◌, max, unsigned_abs, ◌≡◌, List, length, map, Option, None, ◌==◌, nat_le, if◌then◌else◌, slice_index, slice_index_or}
use Rattle.lab_math.specs.Sums.{product_over}
use Rattle.lab_defs_game.specs.Forms.{deciding}
use Rattle.lab_defs_game.specs.Seats.{other}
use Rattle.lab_defs_value.specs.Tables.{own_weight, factor}
use Rattle.lab_defs_value.specs.Replies.{worth_to}
use Rattle.lab_form.specs.declared.items.SetId.{SetId}
use Rattle.lab_form.specs.declared.items.FormSet.{FormSet}
use Rattle.lab_form.specs.declared.items.FormRow.{FormRow}
use Rattle.lab_form.specs.Forms.{actions_in, whole_path, last_of, AreSets, IsStepBelow}
use Rattle.lab_form.specs.Decisions.{last_decision, sets_above}
use Rattle.lab_table.specs.Tables.{AreWeights}

-- the one of two numbers that is a seat's
abbrev pub of_seat : List ℕ → ℕ → ℕ
of_seat numbers seat = if seat == 1 then slice_index numbers 0 else slice_index numbers 1

-- the factors of the grid that a seat still brings to a row
abbrev pub pads_of : FormRow → ℕ → ℕ
pads_of r seat = of_seat r.pads seat

-- the weights on the path to a step, and the grid for each decision that a row lacks
abbrev pub path_weight : (grid : ℕ) → List FormSet → List ℕ → Option (SetId × ℕ) → ℕ → ℕ
path_weight grid sets weights step pad = own_weight grid (actions_in sets) weights (whole_path sets step) pad

-- how many factors they are
abbrev pub path_factors : List FormSet → Option (SetId × ℕ) → ℕ → ℕ
path_factors sets step pad = deciding (actions_in sets) (whole_path sets step) + pad

-- the weights of a seat on a row, the grid standing for each decision that the row lacks
abbrev pub row_weight : (grid seat : ℕ) → List FormSet → List ℕ → FormRow → ℕ
row_weight grid seat sets weights r = path_weight grid sets weights (last_of r seat) (pads_of r seat)

-- how many factors they are
abbrev pub row_factors : (seat : ℕ) → List FormSet → FormRow → ℕ
row_factors seat sets r = path_factors sets (last_of r seat) (pads_of r seat)

-- what a row is worth to the keeper's opponent, by the keeper's weights
abbrev pub row_worth : (keeper grid : ℕ) → List FormSet → List ℕ → FormRow → ℤ
row_worth keeper grid sets weights r = worth_to (other keeper) r.worth.0 *ℤ pos (row_weight grid keeper sets weights r)

-- what a row is worth to seat 1, by the weights of both seats
abbrev pub row_term : (grid1 grid2 : ℕ) (sets1 sets2 : List FormSet) (one two : List ℕ) → FormRow → ℤ
row_term grid1 grid2 sets1 sets2 one two r = r.worth.0 *ℤ pos (row_weight grid1 1 sets1 one r * row_weight grid2 2 sets2 two r)

-- the set with a number
abbrev pub set_at : List FormSet → ℕ → FormSet
set_at sets number = slice_index_or sets number (record { parent = None; actions = 0; first_weight = 0 })

-- the weight of a step, 1 at a pass
abbrev pub step_weight : List FormSet → List ℕ → SetId × ℕ → ℕ
step_weight sets weights t = if nat_le 2 (set_at sets t.0.0).actions then slice_index weights ((set_at sets t.0.0).first_weight + t.1) else 1

-- where the set of a step decides, the step has a weight
abbrev pub HasWeight : List FormSet → List ℕ → SetId × ℕ → Type 0
HasWeight sets weights t = 2 ≤ (set_at sets t.0.0).actions → (set_at sets t.0.0).first_weight + t.1 < length weights

-- the weights of a seat at its sets on a grid
pub record IsPlayed (grid : ℕ) (sets : List FormSet) (table : List ℕ) : Type 0 where
  pub order : AreSets sets
  pub weights : AreWeights grid (actions_in sets) table
  pub least : 1 ≤ grid

-- the weights on the path to a set
abbrev pub weight_above : List FormSet → List ℕ → ℕ → ℕ
weight_above sets weights set = product_over (factor (actions_in sets) weights) (whole_path sets (set_at sets set).parent)

-- how many decisions are on it
abbrev pub count_above : List FormSet → ℕ → ℕ
count_above sets set = deciding (actions_in sets) (whole_path sets (set_at sets set).parent)

-- the last decision above each of a seat's sets, and the set of that
pub record ArePaths (sets : List FormSet) (above over : List ℕ) : Type 0 where
  pub decisions : above ≡ map (λ s. last_decision sets s.parent) sets
  pub sets_over : over ≡ sets_above sets

-- a row ends at a step of the seat that is there, and its worth, at least 1, by the grid for each factor of the seat comes to no more than 2^77
pub record IsSmallRow (seat grid : ℕ) (sets : List FormSet) (r : FormRow) : Type 0 where
  pub step : IsStepBelow sets (last_of r seat)
  pub size : max 1 (unsigned_abs r.worth.0) * grid ^ row_factors seat sets r ≤ 2 ^ 77

-- a row is small for both seats together
pub record IsSmallTerm (grid1 grid2 : ℕ) (sets1 sets2 : List FormSet) (r : FormRow) : Type 0 where
  pub one : IsSmallRow 1 grid1 sets1 r
  pub two : IsSmallRow 2 grid2 sets2 r
  pub size : max 1 (unsigned_abs r.worth.0) * (grid1 ^ row_factors 1 sets1 r * grid2 ^ row_factors 2 sets2 r) ≤ 2 ^ 77
