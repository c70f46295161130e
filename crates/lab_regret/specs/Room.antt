-- Room for what is kept.
use Rattle.std.specs.Prelude.{ℕ, ◌≡◌, ◌+◌, ◌≤◌, ◌^◌, ◌<◌, pos, List, length, map, replicate, slice_index, vec_capacity, All, unsigned_abs}
use Rattle.lab_form.specs.declared.items.FormSet.{FormSet}
use Rattle.lab_defs_value.specs.Tables.{first_weight}
use Rattle.lab_regret.specs.declared.play.Columns.{Columns}
use Rattle.lab_regret.specs.declared.room.Places.{Places}
use Rattle.lab_regret.specs.Kept.{numbers}
use Rattle.lab_regret.specs.Played.{AreColumns}

-- the columns of a seat have room for so many decisions
pub record HasRoom (count : ℕ) (c : Columns) : Type 0 where
  pub regrets : count ≤ vec_capacity c.regrets
  pub sums : count ≤ vec_capacity c.sums
  pub weights : count ≤ vec_capacity c.weights
  pub reach : count + 1 ≤ vec_capacity c.reach
  pub powers : count + 1 ≤ vec_capacity c.powers
  pub values : count + 1 ≤ vec_capacity c.values

-- there is room for so many sets
pub record HasPlaces (count : ℕ) (p : Places) : Type 0 where
  pub actions : count ≤ vec_capacity p.actions
  pub firsts : count ≤ vec_capacity p.firsts

-- the columns are of so many decisions, without a regret and a sum
pub record AreZero (count : ℕ) (c : Columns) : Type 0 where
  pub columns : AreColumns count c
  pub regrets : numbers c.regrets.items ≡ replicate count (pos 0)
  pub sums : numbers c.sums.items ≡ replicate count (pos 0)

-- the numbers of the first weights of sets
abbrev pub firsts_of : List FormSet → List ℕ
firsts_of sets = map (λ s. s.first_weight) sets

-- what is kept of a seat: room, columns that are as long as its sets have weights, and the places of first weights
pub record AreKept (set_room weight_room : ℕ) (p : Places) (c : Columns) : Type 0 where
  pub place_room : HasPlaces set_room p
  pub room : HasRoom weight_room c
  pub columns : AreColumns (first_weight p.actions.items (length p.actions.items)) c
  pub small : All (λ w. unsigned_abs w.0 ≤ 2 ^ 107) c.sums.items
  pub few : first_weight p.actions.items (length p.actions.items) ≤ weight_room
  pub first_count : length p.firsts.items ≡ length p.actions.items
  pub firsts : (I : ℕ) → I < length p.actions.items → slice_index p.firsts.items I ≡ first_weight p.actions.items I
