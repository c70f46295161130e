-- What a game unfolds to.
use Rattle.std.specs.Prelude.{◌≡◌, ◌<◌, ℕ, List, [], ◌∷◌, ◌++◌, length, map, slice_index_or, Option, Some, None, ℤ}
use Rattle.lab_defs_text.specs.Games.{GameModel}
use Rattle.lab_defs_game.specs.Keys.{number_of}
use Rattle.lab_defs_game.specs.Laws.{history_cmp}
use Rattle.lab_defs_game.specs.Histories as model
use Rattle.lab_defs_game.specs.Sets.{most_decisions}
use Rattle.lab_defs_game.specs.Chance as chances
use Rattle.lab_defs_game.specs.Unfolding.{top_payoff}
use Rattle.lab_unfold.specs.Firsts.{node_first, set_first}
use Rattle.lab_unfold.specs.declared.history.HistoryId.{HistoryId}
use Rattle.lab_unfold.specs.declared.history.Step.{Step}
use Rattle.lab_unfold.specs.declared.history.History.{History}
use Rattle.lab_unfold.specs.declared.history.Scale.{Scale}

-- a step as the program has it
abbrev pub step_in : model.Step → Step
step_in s = record { place1 = s.action1; place2 = s.action2; outcome = s.outcome }

-- and as the definitions have it
abbrev pub step_model : Step → model.Step
step_model s = record { action1 = s.place1; action2 = s.place2; outcome = s.outcome }

-- the number of a history: how many come before it
abbrev pub history_number : GameModel → model.History → ℕ
history_number g h = number_of history_cmp (model.histories g) h

-- the steps before the last one
abbrev pub before_last : model.History → model.History
before_last [] = []
before_last (s ∷ []) = []
before_last (s ∷ t ∷ h) = s ∷ before_last (t ∷ h)

-- the last step
abbrev pub last_step : model.History → Option Step
last_step [] = None
last_step (s ∷ []) = Some (step_in s)
last_step (s ∷ t ∷ h) = last_step (t ∷ h)

-- the number of the history without the last step
abbrev pub parent_in : GameModel → model.History → Option HistoryId
parent_in g [] = None
parent_in g (s ∷ h) = Some (record { 0 = history_number g (before_last (s ∷ h)) })

-- a history as the program has it
abbrev pub history_in : GameModel → model.History → History
history_in g h = record { parent = parent_in g h; step = last_step h; world = record { 0 = model.reached g g.root h }; depth = length h }

-- the scale, with what the size goes by
abbrev pub scale_in : GameModel → Scale
scale_in g = record { k = chances.scale g; most1 = most_decisions g 1; most2 = most_decisions g 2; top = top_payoff g; grid = g.grid }

-- the steps of a history, `known` being those of the histories before it
abbrev pub steps_behind : List model.History → Option HistoryId → Option Step → model.History
steps_behind known (Some p) (Some s) = slice_index_or known p.0 [] ++ step_model s ∷ []
steps_behind known p s = []

-- the steps of histories by their parents and last steps, `known` being those of the histories before them
abbrev pub all_steps : List model.History → List History → List model.History
all_steps known [] = known
all_steps known (h ∷ hs) = all_steps (known ++ steps_behind known h.parent h.step ∷ []) hs

-- the histories of a game in order as the lists of their steps, and as the program has them; of each its chance with the units of all later steps, what it pays seat 1, and the numbers of the first histories of its node and of its information sets for seat 1 and for seat 2; and the scale
pub record Unfolded : Type 0 where
  pub histories : List model.History
  pub items : List History
  pub chances : List ℕ
  pub payoffs : List ℤ
  pub node_firsts : List ℕ
  pub set_firsts1 : List ℕ
  pub set_firsts2 : List ℕ
  pub scale : Scale

abbrev pub unfolded : GameModel → Unfolded
unfolded g = record {
  histories = model.histories g;
  items = map (history_in g) (model.histories g);
  chances = map (chances.chance g) (model.histories g);
  payoffs = map (model.payoff g) (model.histories g);
  node_firsts = map (node_first g) (model.histories g);
  set_firsts1 = map (set_first g 1) (model.histories g);
  set_firsts2 = map (set_first g 2) (model.histories g);
  scale = scale_in g;
}

-- the history with the number k is longer by this step than the one with the number n
abbrev pub IsLonger : List model.History → ℕ → Step → ℕ → Type 0
IsLonger hs n s k = (k < length hs) × (slice_index_or hs k [] ≡ slice_index_or hs n [] ++ step_model s ∷ [])
