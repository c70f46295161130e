-- The sets and actions of a seat along a history, and which set follows which.
use Rattle.std.specs.Prelude.{ℕ, List, [], ◌∷◌, ◌++◌, filter, Bool, false, ◌&&◌, ◌==◌, Option, Some, None}
use Rattle.lab_defs_text.specs.Games.{GameModel}
use Rattle.lab_defs_game.specs.Histories.{History}
use Rattle.lab_defs_game.specs.Sets.{Item, seen, set_number}

-- an action at a set, both by their numbers: a step of a seat
pub record SetAction : Type 0 where
  pub set : ℕ
  pub action : ℕ

-- the sets and actions along what is still to be seen, `done` being what was seen before
abbrev pub taken_from : (List Item → ℕ) → List Item → List Item → List SetAction
taken_from number done [] = []
taken_from number done (x ∷ xs) = record { set = number done; action = x.action } ∷ taken_from number (done ++ x ∷ []) xs

-- the set and action of a seat at each proper prefix of a history
abbrev pub path_along : GameModel → ℕ → History → List SetAction
path_along g seat h = taken_from (set_number g seat) [] (seen g seat h)

-- the last step of a path, or `before` where it has none
abbrev pub last_after : Option SetAction → List SetAction → Option SetAction
last_after before [] = before
last_after before (t ∷ ts) = last_after (Some t) ts

-- the last step of a path, none where it has none
abbrev pub last_step : List SetAction → Option SetAction
last_step path = last_after None path

-- the parent of a set: the set and action that it follows directly, none at the first set
abbrev pub parent : GameModel → ℕ → List Item → Option SetAction
parent g seat s = last_step (taken_from (set_number g seat) [] s)

-- whether a step, if there is one, is the step t
abbrev pub is_taken : SetAction → Option SetAction → Bool
is_taken t None = false
is_taken t (Some u) = (u.set == t.set) && (u.action == t.action)

-- of some sets, by their parents, those that follow the step t directly
abbrev pub followers : {S : Type 0} → (S → Option SetAction) → List S → SetAction → List S
followers parent sets t = filter (λ s. is_taken t (parent s)) sets
