-- The history before the last step of another.
use Rattle.std.specs.Prelude.{ℕ, ◌≡◌, ◌<◌, [], ◌∷◌, ◌++◌, true}
use Rattle.lab_defs_text.specs.Games.{GameModel}
use Rattle.lab_defs_game.specs.Sets.{Item, seen}
use Rattle.lab_unfold.specs.Firsts.{is_inner}
use Rattle.lab_unfold.specs.Parents.{history_at}

-- the history p is before the history n, is not terminal, and what a seat has seen at n is this item more
pub record IsBehind (g : GameModel) (seat n p : ℕ) (x : Item) : Type 0 where
  pub before : p < n
  pub inner : is_inner g (history_at g p) ≡ true
  pub made : seen g seat (history_at g n) ≡ seen g seat (history_at g p) ++ x ∷ []
