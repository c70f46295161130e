-- The games that can be played.
use Rattle.std.specs.Prelude.{◌≡◌, true, None}
use Rattle.lab_defs_text.specs.Games.{GameModel}
use Rattle.lab_defs_text.specs.Texts.{game_ok}
use Rattle.lab_defs_game.specs.Unfolding.{unfold_fault}
use Rattle.lab_defs_game.specs.Recall.{recall_fault}

-- an accepted game: its parts fit together, it unfolds within the limits, and each seat has perfect recall
pub record IsAccepted (g : GameModel) : Type 0 where
  pub good : game_ok g ≡ true
  pub unfolds : unfold_fault g ≡ None
  pub recalls : recall_fault g ≡ None
