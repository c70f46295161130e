-- Why a game is not unfolded.
use Rattle.std.proofs.Common.{◌≡◌, ℕ, ◌+◌, ◌-◌, List, length, map, take, drop, Option, Some, None, sym, ap, ◌∙◌, subst}
use Rattle.std.specs.Prelude.{Result, Ok, Err, IfSome, IfErr}
use Rattle.std.specs.Result.{IsErrAnd}
use Rattle.std.proofs.lemmas.List.{drop-map, take_rest}
use Rattle.std.proofs.lemmas.Simd.{map-map}
use Rattle.lab_defs_text.specs.Games.{GameModel}
use Rattle.lab_defs_game.specs.Histories as model
use Rattle.lab_defs_game.specs.Unfolding.{UnfoldFault, too_many_histories, horizon_passed, standing, first_too_many, first_world, size_fault, horizon_fault, unfold_fault}
use Rattle.lab_defs_game.proofs.HistoryCounts.{level, standing_is}
use Rattle.lab_unfold.specs.declared.history.History.{History}
use Rattle.lab_unfold.specs.declared.history.UnfoldFault as code
use Rattle.lab_unfold.specs.Faults.{fault_in, IsFault}
use Rattle.lab_unfold.specs.Levels.{IsFirstOf}
use Rattle.lab_unfold.specs.Values.{history_in}
use Rattle.lab_unfold.proofs.LevelLemmas.{level_drop}

-- where the histories with as many steps as the horizon lead
last_places : (g : GameModel) (items : List History) (last : ℕ) → items ≡ map (history_in g) (model.histories g) → IsFirstOf g g.horizon last
    → map (λ (h : History). h.world.0) (drop last items) ≡ standing g g.horizon
last_places g items last e first =
    ap (λ hs. map (λ (h : History). h.world.0) (drop last hs)) e
    ∙ ap (map (λ (h : History). h.world.0)) (drop-map (history_in g) last (model.histories g))
    ∙ ap (λ hs. map (λ (h : History). h.world.0) (map (history_in g) hs)) (level_drop g g.horizon last first)
    ∙ map-map (λ (h : History). h.world.0) (history_in g) (level g g.horizon)
    ∙ sym (standing_is g g.horizon)

-- where there are not too many histories, and this is the first of those places that is a world
found_fault : (g : GameModel) (o : Option ℕ) → first_too_many g 0 (g.horizon + 1) ≡ None → first_world g (standing g g.horizon) ≡ o
    → unfold_fault g ≡ elim o [ Some n ↦ Some (horizon_passed n) | None ↦ size_fault g ]
found_fault g o few e =
    ap (λ (f : Option ℕ). elim f [ Some t ↦ Some (too_many_histories t) | None ↦ horizon_fault g ]) few
    ∙ ap (λ (p : Option ℕ). elim p [ Some n ↦ Some (horizon_passed n) | None ↦ size_fault g ]) e

-- the horizon is passed where a world is found
pub horizon_found : (g : GameModel) (items : List History) (last n : ℕ) → items ≡ map (history_in g) (model.histories g) → IsFirstOf g g.horizon last
    → first_too_many g 0 (g.horizon + 1) ≡ None → Some n ≡ first_world g (map (λ (h : History). h.world.0) (take (length items - last) (drop last items))) → unfold_fault g ≡ Some (horizon_passed n)
horizon_found g items last n e first few found =
    found_fault g (Some n) few (sym (found ∙ ap (λ hs. first_world g (map (λ (h : History). h.world.0) hs)) (take_rest items last) ∙ ap (first_world g) (last_places g items last e first)))

-- where none is found the size decides
pub size_decides : (g : GameModel) (items : List History) (last : ℕ) → items ≡ map (history_in g) (model.histories g) → IsFirstOf g g.horizon last
    → first_too_many g 0 (g.horizon + 1) ≡ None → None ≡ first_world g (map (λ (h : History). h.world.0) (take (length items - last) (drop last items))) → unfold_fault g ≡ size_fault g
size_decides g items last e first few found =
    found_fault g None few (sym (found ∙ ap (λ hs. first_world g (map (λ (h : History). h.world.0) hs)) (take_rest items last) ∙ ap (first_world g) (last_places g items last e first)))

-- a reason by the size is the reason where the size decides
pub size_reason : (g : GameModel) (e : code.UnfoldFault) → unfold_fault g ≡ size_fault g → IfSome (fault_in e) (λ f. size_fault g ≡ Some f) → IsFault g e
size_reason g e same h = at (fault_in e) h
  where
    at : (o : Option UnfoldFault) → IfSome o (λ f. size_fault g ≡ Some f) → IfSome o (λ f. unfold_fault g ≡ Some f)
    at None h = tt
    at (Some f) h = same ∙ h

-- what holds of an error holds where it is handed on
pub handed_on : {T E : Type 0} (r : Result T E) (e : E) (P : E → Type 0) → IsErrAnd r (λ x. x ≡ e) → P e → IfErr r P
handed_on (Ok v) e P h p = tt
handed_on (Err x) e P h p = subst P (sym h) p
