-- What a seat sees of the last step of a history.
use Rattle.std.proofs.Common.{◌≡◌, ℕ, List, [], ◌∷◌, ◌++◌, Some, refl, sym, ap, ◌∙◌}
use Rattle.std.specs.Prelude.{◌==◌, if◌then◌else◌}
use Rattle.lab_defs_text.specs.Games.{GameModel}
use Rattle.lab_defs_game.specs.Histories as model
use Rattle.lab_defs_game.specs.Sets as sets
use Rattle.lab_defs_game.proofs.GameLemmas.{seen_push}
use Rattle.lab_world.specs.declared.place.Outcome.{Outcome}
use Rattle.lab_world.specs.Models.{outcome_model}
use Rattle.lab_unfold.specs.declared.history.History.{History}
use Rattle.lab_unfold.specs.declared.history.Step.{Step}
use Rattle.lab_unfold.specs.Values.{step_model, history_in}
use Rattle.lab_unfold.specs.Parents.{history_at, Behind}
use Rattle.lab_unfold.specs.declared.item.Item.{Item}
use Rattle.lab_unfold.specs.Items.{item_model, last_item}

-- the last of some items
last_push : (xs : List sets.Item) (x : sets.Item) → last_item (xs ++ x ∷ []) ≡ Some x
last_push [] x = refl
last_push (y ∷ []) x = refl
last_push (y ∷ z ∷ xs) x = last_push (z ∷ xs) x

-- the history i goes a step further than j: what a seat sees of the step comes last
pub last_behind : (g : GameModel) (seat i j : ℕ) → (b : Behind g i j) → last_item (sets.seen g seat (history_at g i)) ≡ Some (sets.item_of g seat (model.reached g g.root (history_at g j)) b.step)
last_behind g seat i j b =
    ap (λ h. last_item (sets.seen g seat h)) b.made
    ∙ ap last_item (seen_push g seat g.root (history_at g j) b.step)
    ∙ last_push (sets.seen g seat (history_at g j)) (sets.item_of g seat (model.reached g g.root (history_at g j)) b.step)

-- an item by its parts
pub item_is : (g : GameModel) (seat n : ℕ) (s : Step) (o : Outcome) (r : Item) → r.action ≡ (if seat == 1 then s.place1 else s.place2) → r.own ≡ (if seat == 1 then o.own1.0 else o.own2.0) → r.public ≡ o.public.0
    → outcome_model o ≡ model.outcome_of g n (step_model s) → item_model r ≡ sets.item_of g seat n (step_model s)
item_is g seat n s o r a p q e =
    ap (λ k. made k r.own r.public) a ∙ ap (λ k. made (if seat == 1 then s.place1 else s.place2) k r.public) p ∙ ap (made (if seat == 1 then s.place1 else s.place2) (if seat == 1 then o.own1.0 else o.own2.0)) q
    ∙ ap (λ m. made (if seat == 1 then s.place1 else s.place2) (if seat == 1 then m.own1 else m.own2) m.public) e
  where
    made : ℕ → ℕ → ℕ → sets.Item
    made a p q = record { action = a; own = p; public = q }

-- the last item that is seen
pub last_is : (g : GameModel) (seat i j : ℕ) (before : History) (s : Step) (o : Outcome) (r : Item) → before ≡ history_in g (history_at g j) → (b : Behind g i j) → step_model s ≡ b.step
    → r.action ≡ (if seat == 1 then s.place1 else s.place2) → r.own ≡ (if seat == 1 then o.own1.0 else o.own2.0) → r.public ≡ o.public.0
    → outcome_model o ≡ model.outcome_of g before.world.0 (step_model s) → Some (item_model r) ≡ last_item (sets.seen g seat (history_at g i))
last_is g seat i j before s o r read b same a p q out =
    ap (λ x. Some x) (item_is g seat before.world.0 s o r a p q out)
    ∙ ap (λ (h : History). Some (sets.item_of g seat h.world.0 (step_model s))) read
    ∙ ap (λ t. Some (sets.item_of g seat (model.reached g g.root (history_at g j)) t)) same
    ∙ sym (last_behind g seat i j b)
