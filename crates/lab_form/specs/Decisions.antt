-- Decisions: the last deciding step along a path, by the number of its weight and by that of its set.
use Rattle.std.specs.Prelude.{ℕ, ◌+◌, ◌%◌, ◌^◌, List, [], ◌∷◌, length, map, Option, Some, None}
use Rattle.std.specs.List.{filter, range_with_len}
use Rattle.lab_defs_game.specs.Paths.{SetAction, last_step}
use Rattle.lab_defs_game.specs.Forms.{decides}
use Rattle.lab_defs_value.specs.Tables.{first_weight}
use Rattle.lab_form.specs.declared.items.SetId.{SetId}
use Rattle.lab_form.specs.declared.items.FormSet.{FormSet}
use Rattle.lab_form.specs.declared.items.FormRow.{FormRow}
use Rattle.lab_form.specs.Forms.{actions_in, whole_path, last_of}

-- the last step of a path that decides, none where none does
abbrev pub last_deciding : List ℕ → List SetAction → Option SetAction
last_deciding actions path = last_step (filter (λ t. decides actions t.set) path)

-- the number of a step's weight plus one; 0 for no step
abbrev pub weight_number : List ℕ → Option SetAction → ℕ
weight_number actions None = 0
weight_number actions (Some t) = first_weight actions t.set + t.action + 1

-- the number of the weight of the last decision along the path that ends with a step, plus one; 0 where there is none
abbrev pub last_decision : List FormSet → Option (SetId × ℕ) → ℕ
last_decision sets step = weight_number (actions_in sets) (last_deciding (actions_in sets) (whole_path sets step))

-- the same in 32 bits
abbrev pub short_decision : List FormSet → Option (SetId × ℕ) → ℕ
short_decision sets step = last_decision sets step % 2 ^ 32

-- for each set the last decision above it, in 32 bits
abbrev pub decisions_above : List FormSet → List ℕ
decisions_above sets = map (λ s. short_decision sets s.parent) sets

-- for each row the last decision of each seat along it, in 32 bits
abbrev pub row_decisions : (sets1 sets2 : List FormSet) → List FormRow → List (List ℕ)
row_decisions sets1 sets2 rows = map (λ r. short_decision sets1 (last_of r 1) ∷ short_decision sets2 (last_of r 2) ∷ []) rows

-- the number of a step's set plus one; 0 for no step
abbrev pub set_number : Option SetAction → ℕ
set_number None = 0
set_number (Some t) = t.set + 1

-- the number of the set of the last decision along the path that ends with a step, plus one; 0 where there is none
abbrev pub last_set : List FormSet → Option (SetId × ℕ) → ℕ
last_set sets step = set_number (last_deciding (actions_in sets) (whole_path sets step))

-- for each set the set of the last decision above it
abbrev pub sets_above : List FormSet → List ℕ
sets_above sets = map (λ s. last_set sets s.parent) sets

-- the numbers of the sets that decide, in order
abbrev pub deciding_sets : List FormSet → List ℕ
deciding_sets sets = filter (decides (actions_in sets)) (range_with_len 0 (length sets))
