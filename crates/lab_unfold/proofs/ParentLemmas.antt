-- Histories by their number, and by the history before their last step.
use Rattle.std.proofs.Common.{◌≡◌, ℕ, ◌+◌, ◌<◌, ◌≤◌, List, [], ◌∷◌, ◌++◌, length, get_or, map, take, cond, Bool, true, false, Option, Some, None, refl, sym, ap, ◌∙◌, subst, arith, ◌⊎◌, inl, inr}
use Rattle.std.specs.Prelude.{nat_le}
use Rattle.std.specs.Ordering.{ordering_then}
use Rattle.std.specs.Cmp.Lexicographic.{slice_cmp}
use Rattle.std.specs.declared.cmp.Ordering.TheVariants.{Less}
use Rattle.std.proofs.lemmas.List.{length-map, get_or-map, get_or-take, length-take-le}
use Rattle.lab_math.proofs.Members.{In, in_get_or}
use Rattle.lab_defs_text.specs.Games.{GameModel}
use Rattle.lab_defs_text.specs.Texts.{place_at}
use Rattle.lab_defs_game.specs.Histories as model
use Rattle.lab_defs_game.specs.Laws.{history_cmp, step_cmp}
use Rattle.lab_defs_game.specs.Sets.{decisions_from, most_decisions}
use Rattle.lab_defs_game.proofs.FormLemmas.{decisions_push}
use Rattle.lab_defs_game.proofs.GameLemmas.{Longer, history_cases}
use Rattle.lab_defs_game.proofs.HistoryOrder.{history_total, nat_cmp-less}
use Rattle.lab_defs_game.proofs.Legal.{length_push, history_legal}
use Rattle.lab_defs_game.proofs.NumberLemmas.{number_lt, at_number}
use Rattle.lab_unfold.specs.declared.history.HistoryId.{HistoryId}
use Rattle.lab_unfold.specs.declared.history.History.{History}
use Rattle.lab_unfold.specs.declared.history.Step.{Step}
use Rattle.lab_unfold.specs.Parents.{history_at, Behind}
use Rattle.lab_unfold.specs.Values.{step_in, step_model, last_step, history_number, before_last, parent_in, history_in}
use Rattle.lab_unfold.proofs.PayoffLemmas.{greatest_small}
use Rattle.lab_unfold.proofs.LevelLemmas.{ascending, number_is, last_is, parent_push}

-- what is read at a number
pub read_is : (g : GameModel) (i : ℕ) (items : List History) (d : History) → items ≡ map (history_in g) (model.histories g) → i < length items → get_or items i d ≡ history_in g (history_at g i)
read_is g i items d all l =
    ap (λ hs. get_or hs i d) all ∙ get_or-map (history_in g) (model.histories g) i [] d (omega (arith, l, ap length all, length-map (model.histories g) (history_in g)))

-- as many as histories
pub all_length : (g : GameModel) (items : List History) → items ≡ map (history_in g) (model.histories g) → length items ≡ length (model.histories g)
all_length g items e = ap length e ∙ length-map (model.histories g) (history_in g)

-- what was told of the first histories, at one of them
pub told_at : {X : Type 0} (g : GameModel) (f : model.History → X) (j n : ℕ) (told : List X) (d : X) → told ≡ map f (take n (model.histories g)) → j < n → n ≤ length (model.histories g)
    → get_or told j d ≡ f (history_at g j)
told_at g f j n told d e l h =
    ap (λ xs. get_or xs j d) e
    ∙ get_or-map f (take n (model.histories g)) j [] d (omega (arith, l, h, length-take-le n (model.histories g) h))
    ∙ ap f (get_or-take n (model.histories g) j [] l)

-- a history with one more step comes after it
longer_behind : (h : model.History) (s : model.Step) → history_cmp h (h ++ s ∷ []) ≡ Less
longer_behind h s =
    ap (λ o. ordering_then o (slice_cmp step_cmp h (h ++ s ∷ []))) (nat_cmp-less (length h) (length (h ++ s ∷ [])) (omega (arith, length_push h s)))

-- the history that a parent names
pub parent_found : (g : GameModel) (i : ℕ) (p : HistoryId) → i < length (model.histories g) → parent_in g (history_at g i) ≡ Some p → Behind g i p.0
parent_found g i p l e = at (history_cases g (history_at g i) (in_get_or (model.histories g) i [] l))
  where
    never : ◌≡◌ {A = Option HistoryId} None (Some p) → ⊥
    never e = cc

    same : (a b : HistoryId) → ◌≡◌ {A = Option HistoryId} (Some a) (Some b) → a.0 ≡ b.0
    same a b e = cc

    at : (history_at g i ≡ []) ⊎ Longer g (model.histories g) (history_at g i) → Behind g i p.0
    at (inl n) = absurd (never (sym (ap (parent_in g) n) ∙ e))
    at (inr r) =
        let k = history_number g r.before in
        let n : k ≡ p.0 = same (record { 0 = k }) p (sym (parent_push g r.before r.step) ∙ sym (ap (parent_in g) r.made) ∙ e) in
        let there : history_at g k ≡ r.before = at_number history_cmp history_total (model.histories g) r.before [] (ascending g) r.there in
        let before = number_lt history_cmp history_total (model.histories g) r.before (history_at g i) (ascending g) r.there (subst (λ h. history_cmp r.before h ≡ Less) (sym r.made) (longer_behind r.before r.step)) in
        subst (Behind g i) n (record {
          step = r.step;
          below = omega (arith, before, number_is g i l);
          made = r.made ∙ ap (λ h. h ++ r.step ∷ []) (sym there);
          legal = subst (λ h. In r.step (model.steps_of (model.place_of g h))) (sym there) r.legal;
        })

-- a history with no parent has no step
pub no_parent : (g : GameModel) (h : model.History) → parent_in g h ≡ None → h ≡ []
no_parent g [] e = refl
no_parent g (s ∷ h) e = absurd (never (record { 0 = history_number g (before_last (s ∷ h)) }) e)
  where
    never : (p : HistoryId) → ◌≡◌ {A = Option HistoryId} (Some p) None → ⊥
    never p e = cc

-- the history that the parent of what is read names
pub read_behind : (g : GameModel) (i : ℕ) (items : List History) (d : History) (p : HistoryId) → items ≡ map (history_in g) (model.histories g) → i < length items
    → (get_or items i d).parent ≡ Some p → Behind g i p.0
read_behind g i items d p all l e =
    parent_found g i p (omega (arith, l, all_length g items all)) (sym (ap (λ (h : History). h.parent) (read_is g i items d all l)) ∙ e)

-- and its step
pub read_step : (g : GameModel) (i j : ℕ) (items : List History) (d : History) → (b : Behind g i j) → items ≡ map (history_in g) (model.histories g) → i < length items
    → (get_or items i d).step ≡ Some (step_in b.step)
read_step g i j items d b all l = ap (λ (h : History). h.step) (read_is g i items d all l) ∙ ap last_step b.made ∙ last_is (history_at g j) b.step

-- a step as the program has it is that step
pub step_same : (s : Step) (t : model.Step) → ◌≡◌ {A = Option Step} (Some s) (Some (step_in t)) → step_model s ≡ t
step_same s t e = ap step_model (inside s (step_in t) e)
  where
    inside : (s t : Step) → ◌≡◌ {A = Option Step} (Some s) (Some t) → s ≡ t
    inside s t e = cc

-- what is read has no parent where there is no step
pub read_first : (g : GameModel) (i : ℕ) (items : List History) (d : History) → items ≡ map (history_in g) (model.histories g) → i < length items
    → (get_or items i d).parent ≡ None → history_at g i ≡ []
read_first g i items d all l e = no_parent g (history_at g i) (sym (ap (λ (h : History). h.parent) (read_is g i items d all l)) ∙ e)

-- decisions of a history are those of the one before, with that at its place
pub decisions_behind : (g : GameModel) (seat i j : ℕ) → Behind g i j
    → decisions_from g seat g.root (history_at g i) ≡ decisions_from g seat g.root (history_at g j) + cond (nat_le 2 (model.actions_at seat (model.place_of g (history_at g j)))) 1 0
decisions_behind g seat i j b = ap (decisions_from g seat g.root) b.made ∙ decisions_push g seat g.root (history_at g j) b.step

-- there are no more decisions than steps
decisions_few : (g : GameModel) (seat n : ℕ) (h : model.History) → decisions_from g seat n h ≤ length h
decisions_few g seat n [] = omega arith
decisions_few g seat n (s ∷ h) =
    omega (arith, at (nat_le 2 (model.actions_at seat (place_at g n))), decisions_few g seat (model.outcome_of g n s).next h)
  where
    at : (b : Bool) → cond b 1 0 ≤ 1
    at true = omega arith
    at false = omega arith

-- and so no more than the horizon
decisions_least : (g : GameModel) (seat : ℕ) (h : model.History) → In h (model.histories g) → decisions_from g seat g.root h ≤ g.horizon
decisions_least g seat h i = omega (arith, decisions_few g seat g.root h, (history_legal g h i).1)

-- so are those of the history with a number
pub decisions_small : (g : GameModel) (seat i : ℕ) → i < length (model.histories g) → decisions_from g seat g.root (history_at g i) ≤ g.horizon
decisions_small g seat i l = decisions_least g seat (history_at g i) (in_get_or (model.histories g) i [] l)

-- and the most of all
pub most_small : (g : GameModel) (seat : ℕ) → most_decisions g seat ≤ g.horizon
most_small g seat = greatest_small (decisions_from g seat g.root) g.horizon (model.histories g) (λ h i. decisions_least g seat h i)
