-- What shows, by the first histories of sets, that a game has no perfect recall.
use Rattle.std.specs.Prelude.{ℕ, ◌≡◌, ◌<◌, List, [], slice_index, slice_index_or, Bool, true, false, not, ◌&&◌, ◌==◌}
use Rattle.lab_defs_text.specs.Games.{GameModel}
use Rattle.lab_defs_game.specs.Histories.{History, histories, place_of, action_names}
use Rattle.lab_defs_game.specs.Recall.{same_names}
use Rattle.lab_unfold.specs.Firsts.{is_inner}

-- the history with a number
abbrev pub history : GameModel → ℕ → History
history g i = slice_index_or (histories g) i []

-- the history i is not terminal, and the seat's actions there have other names than those at the first history of its set
abbrev pub differs_at : GameModel → ℕ → List ℕ → ℕ → Bool
differs_at g seat firsts i = is_inner g (history g i) && not (same_names (action_names seat (place_of g (history g (slice_index firsts i)))) (action_names seat (place_of g (history g i))))

-- the history i is not terminal, and the first one with its tokens is not the first of its set
abbrev pub forgets_at : GameModel → List ℕ → List ℕ → ℕ → Bool
forgets_at g sets tokens i = is_inner g (history g i) && not (slice_index sets i == slice_index tokens i)

-- n is the first number below the count that passes
pub record IsFirstAt (test : ℕ → Bool) (count n : ℕ) : Type 0 where
  pub below : n < count
  pub passes : test n ≡ true
  pub before : (i : ℕ) → i < n → test i ≡ false
