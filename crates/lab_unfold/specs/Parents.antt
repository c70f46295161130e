-- Histories by their numbers, and by the history without the last step.
use Rattle.std.specs.Prelude.{ℕ, ◌≡◌, ◌<◌, [], ◌∷◌, ◌++◌, slice_index_or}
use Rattle.lab_math.proofs.Members.{In}
use Rattle.lab_defs_text.specs.Games.{GameModel}
use Rattle.lab_defs_game.specs.Histories as model

-- the history with a number
abbrev pub history_at : GameModel → ℕ → model.History
history_at g i = slice_index_or (model.histories g) i []

-- the history j is the one with the number i without the last step
pub record Behind (g : GameModel) (i j : ℕ) : Type 0 where
  pub step : model.Step
  pub below : j < i
  pub made : history_at g i ≡ history_at g j ++ step ∷ []
  pub legal : In step (model.steps_of (model.place_of g (history_at g j)))
