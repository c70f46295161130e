-- Histories as they are read by their numbers.
use Rattle.std.proofs.Common.{◌≡◌, ℕ, ◌<◌, List, [], length, get_or, map, Some, ap, ◌∙◌}
use Rattle.std.specs.Prelude.{slice_get}
use Rattle.std.proofs.lemmas.List.{get_or-map}
use Rattle.lab_defs_text.specs.Games.{GameModel}
use Rattle.lab_defs_game.specs.Histories as model
use Rattle.lab_unfold.specs.declared.history.History.{History}
use Rattle.lab_unfold.proofs.CallerLemmas.{last_is, read_here}
use Rattle.lab_unfold.specs.Parents.{history_at, Behind}
use Rattle.lab_unfold.specs.Values.{Unfolded, unfolded, step_in, last_step}

-- what a list says of the history with a number
pub said_at : {X : Type 0} (g : GameModel) (f : model.History → X) (xs : List X) (i : ℕ) (d : X) → xs ≡ map f (model.histories g) → i < length (model.histories g) → get_or xs i d ≡ f (history_at g i)
said_at g f xs i d e l = ap (λ ys. get_or ys i d) e ∙ get_or-map f (model.histories g) i [] d l

-- the last step of what is read
pub item_step : (g : GameModel) (u : Unfolded) (i j : ℕ) (h : History) → u ≡ unfolded g → slice_get u.items i ≡ Some h → (b : Behind g i j) → h.step ≡ Some (step_in b.step)
item_step g u i j h e s b = ap (λ (k : History). k.step) (read_here g u i h e s) ∙ ap last_step b.made ∙ last_is (history_at g j) b.step
