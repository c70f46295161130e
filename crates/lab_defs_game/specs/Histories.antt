-- The histories of a game, as the lists of their steps.
use Rattle.std.specs.Prelude.{ℕ, zero, suc, ◌+◌, ◌*◌, ℤ, pos, List, [], ◌∷◌, ◌++◌, length, map, flat_map, filter, Bool, not, ◌==◌, if◌then◌else◌, slice_index_or}
use Rattle.std.specs.List.{range_with_len}
use Rattle.lab_defs_text.specs.Words.{Bytes}
use Rattle.lab_defs_text.specs.Games.{GameModel, Place, a_world, an_end, Outcome}
use Rattle.lab_defs_text.specs.Texts.{place_at, is_world}

-- the places of both seats' actions and of the outcome, counted from 0
pub record Step : Type 0 where
  pub action1 : ℕ
  pub action2 : ℕ
  pub outcome : ℕ

-- the steps from the root world, the first one first
abbrev pub History : Type 0
History = List Step

-- how many actions a seat has at a place
abbrev pub actions_at : ℕ → Place → ℕ
actions_at seat (a_world w) = if seat == 1 then length w.one else length w.two
actions_at seat (an_end z) = 0

-- the names of a seat's actions at a place
abbrev pub action_names : ℕ → Place → List Bytes
action_names seat (a_world w) = if seat == 1 then w.one else w.two
action_names seat (an_end z) = []

-- the outcomes of a joint action
abbrev pub row_of : Place → ℕ → ℕ → List Outcome
row_of (a_world w) a b = slice_index_or w.rows (a * length w.two + b) []
row_of (an_end z) a b = []

-- the steps out of a place, in their order
abbrev pub steps_of : Place → List Step
steps_of p =
    flat_map (λ a. flat_map (λ b. map (λ o. record { action1 = a; action2 = b; outcome = o }) (range_with_len 0 (length (row_of p a b))))
    (range_with_len 0 (actions_at 2 p))) (range_with_len 0 (actions_at 1 p))

-- where a step leads from the place with a number, and with which tokens
abbrev pub outcome_of : GameModel → ℕ → Step → Outcome
outcome_of g n s = slice_index_or (row_of (place_at g n) s.action1 s.action2) s.outcome (record { weight = 0; next = 0; own1 = 0; own2 = 0; public = 0 })

-- the number of the place where steps lead from the place n
abbrev pub reached : GameModel → ℕ → History → ℕ
reached g n [] = n
reached g n (s ∷ h) = reached g (outcome_of g n s).next h

-- where a history leads
abbrev pub place_of : GameModel → History → Place
place_of g h = place_at g (reached g g.root h)

-- the histories that are one step longer
abbrev pub longer : GameModel → History → List History
longer g h = map (λ s. h ++ s ∷ []) (steps_of (place_of g h))

-- histories, and those that are longer by up to n steps
abbrev pub with_longer : GameModel → ℕ → List History → List History
with_longer g zero hs = hs
with_longer g (suc n) hs = hs ++ with_longer g n (flat_map (longer g) hs)

-- all histories, by length and then lexicographically by their steps
abbrev pub histories : GameModel → List History
histories g = with_longer g g.horizon ([] ∷ [])

-- a history is terminal where it leads to an end
abbrev pub is_terminal : GameModel → History → Bool
is_terminal g h = not (is_world (place_of g h))

-- the histories that lead to an end, in their order
abbrev pub terminal_histories : GameModel → List History
terminal_histories g = filter (is_terminal g) (histories g)

-- the histories that lead to a world, in their order
abbrev pub inner_histories : GameModel → List History
inner_histories g = filter (λ h. is_world (place_of g h)) (histories g)

-- what a history pays seat 1; seat 2 earns the opposite
abbrev pub payoff_at : Place → ℤ
payoff_at (a_world w) = pos 0
payoff_at (an_end z) = z

-- what a history pays seat 1, 0 where it does not lead to an end
abbrev pub payoff : GameModel → History → ℤ
payoff g h = payoff_at (place_of g h)
