-- Paths and sets: where a path passes through a set, and which forms are well made.
use Rattle.std.specs.Prelude.{◌≡◌, ℕ, ◌<◌, ◌≤◌, List, [], ◌∷◌, Bool, true, false, nat_lt, nat_le, ◌&&◌, ◌||◌, ◌==◌, if◌then◌else◌, Option, Some, None, All, length, slice_index}
use Rattle.std.specs.List.{list_all, range_with_len}
use Rattle.lab_defs_game.specs.Paths.{SetAction, last_step}
use Rattle.lab_defs_game.specs.Forms.{FormSet, Row, Form, sets_of, actions_in, actions_of, path_of, parent_of, chain}

-- ---- paths

-- whether a path passes through the set I
abbrev pub passes_through : ℕ → List SetAction → Bool
passes_through I [] = false
passes_through I (t ∷ ts) = (t.set == I) || passes_through I ts

-- whether a path begins at the set I
abbrev pub begins_at : List SetAction → ℕ → Bool
begins_at [] I = false
begins_at (t ∷ ts) I = t.set == I

-- the steps of a path from the set I on, I included
abbrev pub path_from : ℕ → List SetAction → List SetAction
path_from I [] = []
path_from I (t ∷ ts) = if t.set == I then t ∷ ts else path_from I ts

-- ---- forms

-- a step, where there is one, is an action at a set below n
abbrev pub IsStepBelow : List ℕ → ℕ → Option SetAction → Type 0
IsStepBelow actions n None = Unit {0}
IsStepBelow actions n (Some t) = (t.set < n) × (t.action < slice_index actions t.set)

-- a path is the chain of parents of its last step, which is an action at a set that is there
pub record IsChain (sets : List FormSet) (path : List SetAction) : Type 0 where
  pub there : IsStepBelow (actions_in sets) (length sets) (last_step path)
  pub parents : path ≡ chain sets (last_step path)

-- a form is well made, as a seat sees it: each set has an action, parents are actions at earlier sets, and each row's path is the chain of parents of its last step
pub record IsForm (f : Form) (seat : ℕ) : Type 0 where
  pub some_action : (J : ℕ) → J < length (actions_of f seat) → 1 ≤ slice_index (actions_of f seat) J
  pub parents : (J : ℕ) → J < length (actions_of f seat) → IsStepBelow (actions_of f seat) J (parent_of f seat J)
  pub paths : All (λ (z : Row). IsChain (sets_of f seat) (path_of z seat)) f.rows

-- ---- the test

-- whether a step, where there is one, is an action at a set below n
abbrev pub is_step_below : List ℕ → ℕ → Option SetAction → Bool
is_step_below actions n None = true
is_step_below actions n (Some t) = nat_lt t.set n && nat_lt t.action (slice_index actions t.set)

-- whether two paths are one
abbrev pub same_path : List SetAction → List SetAction → Bool
same_path [] [] = true
same_path (t ∷ ts) (u ∷ us) = (t.set == u.set) && ((t.action == u.action) && same_path ts us)
same_path _ _ = false

-- whether a path is the chain of parents of its last step
abbrev pub is_chain : List FormSet → List SetAction → Bool
is_chain sets path = is_step_below (actions_in sets) (length sets) (last_step path) && same_path path (chain sets (last_step path))

-- whether a form is well made, as a seat sees it
abbrev pub is_form : Form → ℕ → Bool
is_form f seat =
    list_all (nat_le 1) (actions_of f seat)
    && (list_all (λ J. is_step_below (actions_of f seat) J (parent_of f seat J)) (range_with_len 0 (length (actions_of f seat)))
    && list_all (λ z. is_chain (sets_of f seat) (path_of z seat)) f.rows)
