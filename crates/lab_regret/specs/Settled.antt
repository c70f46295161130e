-- The pass up: a set whose actions have their values.
use Rattle.std.specs.Prelude.{◌≡◌, true, length, ◌+ℤ◌, ◌-ℤ◌, ℕ, ◌+◌, ◌*◌, ◌^◌, ◌<◌, ◌≤◌, ℤ, pos, ◌*ℤ◌, List, unsigned_abs, slice_index}
use Rattle.lab_math.specs.Below.{total_below}
use Rattle.lab_defs_game.specs.Forms.{decides}
use Rattle.lab_defs_value.specs.Bounds.{at}
use Rattle.lab_defs_value.specs.Tables.{first_weight}
use Rattle.lab_defs_value.specs.Matching.{Pair, pair_actions, action_value, set_value}

-- what some actions are worth together by their weights: weights from a place on, and values from the next place on
abbrev pub weighed_values : (first count : ℕ) → List ℕ → List ℤ → ℤ
weighed_values first count weights values = total_below count (λ a. pos (slice_index weights (first + a)) *ℤ at values (first + a + 1))

-- what is settled at a set is not too large: its weights, its values with and without their powers, and its regrets
pub record AreSmallAt (first count above : ℕ) (weights powers : List ℕ) (values regrets : List ℤ) : Type 0 where
  pub few : count ≤ 2 ^ 16
  pub weights_within : (a : ℕ) → a < count → slice_index weights (first + a) ≤ 4096
  pub power : slice_index powers above ≤ 2 ^ 77
  pub next_power : slice_index powers (first + 1) ≤ 2 ^ 77
  pub actions : (a : ℕ) → a < count → unsigned_abs (at values (first + a + 1)) ≤ 2 ^ 94
  pub action_values : (a : ℕ) → a < count → unsigned_abs (at values (first + a + 1)) * slice_index powers (first + 1) ≤ 2 ^ 94
  pub set : unsigned_abs (weighed_values first count weights values) ≤ 2 ^ 94
  pub set_value : unsigned_abs (weighed_values first count weights values) * slice_index powers above ≤ 2 ^ 94
  pub value_above : unsigned_abs (at values above) ≤ 2 ^ 126
  pub regrets_within : (a : ℕ) → a < count → unsigned_abs (at regrets (first + a)) ≤ 2 ^ 107

-- regrets with what each action of the deciding sets is worth more than its set under a pair of tables
abbrev pub HasRegrets : Pair → (seat : ℕ) → (old new : List ℤ) → Type 0
HasRegrets p seat old new =
    (I a : ℕ) → I < length (pair_actions p seat) → decides (pair_actions p seat) I ≡ true → a < slice_index (pair_actions p seat) I
    → at new (first_weight (pair_actions p seat) I + a) ≡ at old (first_weight (pair_actions p seat) I + a) +ℤ (action_value p seat I a -ℤ set_value p seat I)
