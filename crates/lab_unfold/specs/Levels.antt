-- Histories by their number of steps.
use Rattle.std.specs.Prelude.{ℕ, ◌≡◌, ◌+◌, List, [], ◌∷◌, length}
use Rattle.lab_defs_text.specs.Games.{GameModel}
use Rattle.lab_defs_game.specs.Histories.{History, with_longer}
use Rattle.lab_defs_game.specs.Unfolding.{standing}

-- the histories of at most t steps
abbrev pub histories_to : GameModel → ℕ → List History
histories_to g t = with_longer g t ([] ∷ [])

-- of the histories of at most t steps those from this number on have t steps
abbrev pub IsFirstOf : GameModel → ℕ → ℕ → Type 0
IsFirstOf g t first = first + length (standing g t) ≡ length (histories_to g t)
