-- The places of first weights, as a table keeps them.
use Rattle.std.specs.Prelude.{ℕ, suc, ◌+◌, ◌-◌, ◌≡◌, ◌≤◌, ◌==◌, List, [], ◌∷◌, length, slice_index, if◌then◌else◌}
use Rattle.lab_defs_value.specs.Tables.{weights_of, first_weight}
use Rattle.lab_table.specs.Tables.{TableValue, all_weights}

-- the place of the first weight of each set, from n on, and of the end
abbrev pub places_from : ℕ → List ℕ → List ℕ
places_from n [] = n ∷ []
places_from n (m ∷ ms) = n ∷ places_from (n + weights_of m) ms

-- how many actions a set with so many weights has: one without weights is a pass, which has one
abbrev pub actions_for : ℕ → ℕ
actions_for weights = if weights == 0 then 1 else weights

-- the numbers of actions of the sets after a place
abbrev pub actions_after : ℕ → List ℕ → List ℕ
actions_after place [] = []
actions_after place (next ∷ rest) = actions_for (next - place) ∷ actions_after next rest

-- the numbers of actions of sets with these places
abbrev pub actions_between : List ℕ → List ℕ
actions_between [] = []
actions_between (place ∷ rest) = actions_after place rest

-- the table with these weights and places
abbrev pub table_at : (weights places : List ℕ) → TableValue
table_at weights places = record { actions = actions_between places; weights = weights }

-- the places are those of the first weights of a table's sets and of the end, where its weights end
pub record FitsPlaces (t : TableValue) (places : List ℕ) : Type 0 where
  pub count : length places ≡ suc (length t.actions)
  pub first : (set : ℕ) → set ≤ length t.actions → slice_index places set ≡ first_weight t.actions set
  pub whole : length t.weights ≡ all_weights t.actions
