-- The grid of a game whose parts fit together.
use Rattle.std.proofs.Common.{◌≡◌, ℕ, ◌≤◌, true}
use Rattle.std.specs.Prelude.{◌&&◌, nat_le}
use Rattle.std.proofs.lemmas.Bool.{leb-true, and_parts}
use Rattle.lab_defs_text.specs.Games.{GameModel}
use Rattle.lab_defs_text.specs.Texts.{game_ok}
use Rattle.lab_defs_text.proofs.GameLemmas.{game_fine}

-- it is at least 1
pub some_grid : (g : GameModel) → game_ok g ≡ true → 1 ≤ g.grid
some_grid g ok = within 1 4096 g.grid (game_fine g ok).grid
  where
    within : (a b n : ℕ) → (nat_le a n && nat_le n b) ≡ true → a ≤ n
    within a b n e = leb-true a n (and_parts (nat_le a n) (nat_le n b) e).0
