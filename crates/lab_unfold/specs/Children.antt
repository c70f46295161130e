-- The histories that are a step longer than another, as they are made.
use Rattle.std.specs.Prelude.{ℕ, ◌+◌, ◌*◌, List, [], ◌∷◌, length, map, flat_map, Some}
use Rattle.std.specs.List.{range_with_len}
use Rattle.lab_defs_text.specs.Games.{GameModel}
use Rattle.lab_defs_text.specs.Texts.{place_at}
use Rattle.lab_defs_game.specs.Histories as model
use Rattle.lab_world.specs.declared.place.Outcome.{Outcome}
use Rattle.lab_world.specs.declared.place.World.{World}
use Rattle.lab_unfold.specs.declared.history.HistoryId.{HistoryId}
use Rattle.lab_unfold.specs.declared.history.History.{History}
use Rattle.lab_world.specs.Filled.{row_at}
use Rattle.lab_unfold.specs.Values.{step_in}

-- the histories of this depth after a parent, by the outcomes of a row, the first of which has the number k
abbrev pub row_children : (parent : HistoryId) (depth a b k : ℕ) → List Outcome → List History
row_children parent depth a b k [] = []
row_children parent depth a b k (o ∷ os) =
    record { parent = Some parent; step = Some (record { place1 = a; place2 = b; outcome = k }); world = o.next; depth = depth } ∷ row_children parent depth a b (k + 1) os

-- those by the first seat's action a and n of the second's from b on
abbrev pub second_children : (parent : HistoryId) (depth : ℕ) → World → (a b n : ℕ) → List History
second_children parent depth w a b n = flat_map (λ b. row_children parent depth a b 0 (row_at w (a * length w.two + b)).outcomes) (range_with_len b n)

-- those by n of the first seat's actions from a on
abbrev pub first_children : (parent : HistoryId) (depth : ℕ) → World → (a n : ℕ) → List History
first_children parent depth w a n = flat_map (λ a. second_children parent depth w a 0 (length w.two)) (range_with_len a n)

-- the history of this depth after a parent that leads to the place n, by a step
abbrev pub child_in : GameModel → (parent : HistoryId) (n depth : ℕ) → model.Step → History
child_in g parent n depth s = record { parent = Some parent; step = Some (step_in s); world = record { 0 = (model.outcome_of g n s).next }; depth = depth }

-- those by all steps
abbrev pub children_in : GameModel → (parent : HistoryId) (n depth : ℕ) → List History
children_in g parent n depth = map (child_in g parent n depth) (model.steps_of (place_at g n))
