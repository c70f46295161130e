-- What the sets and rows after an information set add to the values of its actions.
use Rattle.std.specs.Prelude.{ℕ, ◌+◌, ◌<◌, ℤ, pos, ◌≡◌, ◌≤ℤ◌, ◌<ℤ◌, List, length, Bool, false, ◌&&◌, nat_le, nat_lt, Option, Some, None, ◌==◌, if◌then◌else◌}
use Rattle.lab_math.specs.Below.{total_below}
use Rattle.lab_defs_game.specs.Forms.{parent_at}
use Rattle.lab_defs_game.specs.Paths.{is_taken}
use Rattle.lab_form.specs.declared.items.SetId.{SetId}
use Rattle.lab_form.specs.declared.items.FormSet.{FormSet}
use Rattle.lab_form.specs.Forms.{sets_model}

-- whether a step's action is among so many from the first one on
abbrev pub is_among : (first count : ℕ) → Option (SetId × ℕ) → Bool
is_among first count None = false
is_among first count (Some t) = nat_le first t.1 && nat_lt t.1 (first + count)

-- what a value at a step adds at the place of an action, the actions being counted from the first one on
abbrev pub part_at : (first : ℕ) → Option (SetId × ℕ) → ℤ → ℕ → ℤ
part_at first None value place = pos 0
part_at first (Some t) value place = if t.1 == first + place then value else pos 0

-- the values of the sets that follow the action a at the set J directly
abbrev pub children_value : List FormSet → (ℕ → ℤ) → ℕ → ℕ → ℤ
children_value sets B J a = total_below (length sets) (λ I. if is_taken (record { set = J; action = a }) (parent_at (sets_model sets) I) then B I else pos 0)

-- of n numbers this is the greatest, and the one with this place the first that is it
pub record IsFirstGreatest (n : ℕ) (h : ℕ → ℤ) (greatest : ℤ) (place : ℕ) : Type 0 where
  pub there : place < n
  pub value : h place ≡ greatest
  pub bounds : (k : ℕ) → k < n → h k ≤ℤ greatest
  pub first : (k : ℕ) → k < place → h k <ℤ greatest
