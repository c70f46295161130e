-- Bounds of a keeper's strategy in a form, as the program keeps them.
use Rattle.std.specs.Prelude.{ℕ, ◌≡◌, ◌⊎◌, ◌^◌, ◌<◌, ◌≤◌, ℤ, pos, ◌-ℤ◌, ◌<ℤ◌, ◌≤ℤ◌, List, length, unsigned_abs, All, slice_index}
use Rattle.lab_defs_game.specs.Seats.{other}
use Rattle.lab_defs_value.specs.Replies.{Strategy, reply_sets}
use Rattle.lab_defs_value.specs.Bounds.{through}
use Rattle.lab_form.specs.Forms.{FormValue, sets_of}
use Rattle.lab_table.specs.Tables.{TableValue, seat_actions, AreWeights}
use Rattle.lab_best.specs.Values.{strategy_in, IsSmallFor}

-- the keeper, and a number for each set of its opponent
pub record BoundsValue : Type 0 where
  pub keeper : ℕ
  pub bounds : List ℤ

-- the strategy that bounds are of: in a form their keeper plays a table on its grid
abbrev pub bounded_in : FormValue → (grid : ℕ) → TableValue → BoundsValue → Strategy
bounded_in f grid t b = strategy_in f b.keeper grid t.weights

-- bounds and a table of their keeper that are of one form: no bound passes 2^100, and there are at most 2^16
pub record AreOf (f : FormValue) (grid : ℕ) (t : TableValue) (b : BoundsValue) : Type 0 where
  pub small : IsSmallFor b.keeper grid f
  pub weights : AreWeights grid (seat_actions f b.keeper) t.weights
  pub count : length b.bounds ≡ length (sets_of f (other b.keeper))
  pub few : length b.bounds ≤ 2 ^ 16
  pub sizes : All (λ z. unsigned_abs z ≤ 2 ^ 100) b.bounds

-- h passes no bound from one number up to and without another
abbrev pub IsBelow : (h : ℕ → ℤ) → (bound : ℤ) → (from to : ℕ) → Type 0
IsBelow h bound from to = (k : ℕ) → from ≤ k → k < to → h k ≤ℤ bound

-- the first of these numbers where it does, and by how much
pub record IsFirstAbove (h : ℕ → ℤ) (bound : ℤ) (from to place : ℕ) (over : ℤ) : Type 0 where
  pub after : from ≤ place
  pub there : place < to
  pub excess : over ≡ h place -ℤ bound
  pub above : pos 0 <ℤ over
  pub before : IsBelow h bound from place

-- an action of a set comes before another one: at an earlier set, or earlier at the same
abbrev pub IsEarlier : (J a set action : ℕ) → Type 0
IsEarlier J a set action = (J < set) ⊎ ((J ≡ set) × (a < action))

-- the first action, set by set, that backs up more than the bound of its set, and by how much
pub record IsFirstBroken (s : Strategy) (B : ℕ → ℤ) (set action : ℕ) (over : ℤ) : Type 0 where
  pub set_there : set < length (reply_sets s)
  pub action_there : action < slice_index (reply_sets s) set
  pub excess : over ≡ through s B set action -ℤ B set
  pub broken : pos 0 <ℤ over
  pub earlier : (J a : ℕ) → J < length (reply_sets s) → a < slice_index (reply_sets s) J → IsEarlier J a set action → through s B J a ≤ℤ B J
