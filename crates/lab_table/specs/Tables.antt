-- Tables: the weights of a seat at its deciding sets, and which given weights are such.
use Rattle.std.specs.Prelude.{ℕ, ◌+◌, ◌≡◌, ◌≢◌, ◌<◌, List, length, Bool, true, false, not, ◌||◌, ◌==◌, sum, slice_range}
use Rattle.lab_defs_game.specs.Forms.{decides}
use Rattle.lab_defs_value.specs.Tables.{first_weight}
use Rattle.lab_form.specs.Forms.{FormValue, sets_of, actions_in}

-- how many actions the seat has at each of its sets, and the weights at its deciding sets, set by set
pub record TableValue : Type 0 where
  pub actions : List ℕ
  pub weights : List ℕ

-- how many actions a seat of a form has at each of its sets
abbrev pub seat_actions : FormValue → ℕ → List ℕ
seat_actions f seat = actions_in (sets_of f seat)

-- the table of a seat of a form with these weights
abbrev pub table_of : FormValue → ℕ → List ℕ → TableValue
table_of f seat weights = record { actions = seat_actions f seat; weights = weights }

-- how many weights there are at sets with these numbers of actions
abbrev pub all_weights : List ℕ → ℕ
all_weights actions = first_weight actions (length actions)

-- the weights at a set: none at a pass
abbrev pub weights_at : (actions weights : List ℕ) → ℕ → List ℕ
weights_at actions weights set = slice_range weights (first_weight actions set) (first_weight actions (set + 1))

-- the weights of a table at its sets from one up to another
abbrev pub weights_between : TableValue → (start end : ℕ) → List ℕ
weights_between t start end = slice_range t.weights (first_weight t.actions start) (first_weight t.actions end)

-- whether a set is a pass, or its weights sum to the grid
abbrev pub sums_to : (grid : ℕ) → (actions weights : List ℕ) → ℕ → Bool
sums_to grid actions weights set = not (decides actions set) || sum (weights_at actions weights set) == grid

-- there are as many weights as the deciding sets have actions, and those of each deciding set sum to the grid
pub record AreWeights (grid : ℕ) (actions weights : List ℕ) : Type 0 where
  pub count : length weights ≡ all_weights actions
  pub sums : (set : ℕ) → set < length actions → sums_to grid actions weights set ≡ true

-- the first number of weights is needed, the other one given, and they differ
pub record IsWrongCount (actions weights : List ℕ) (n m : ℕ) : Type 0 where
  pub needed : n ≡ all_weights actions
  pub given : m ≡ length weights
  pub differ : n ≢ m

-- the count is right, and this is the first deciding set whose weights don't sum to the grid
pub record IsFirstWrong (grid : ℕ) (actions weights : List ℕ) (set : ℕ) : Type 0 where
  pub count : length weights ≡ all_weights actions
  pub there : set < length actions
  pub wrong : sums_to grid actions weights set ≡ false
  pub before : (earlier : ℕ) → earlier < set → sums_to grid actions weights earlier ≡ true
