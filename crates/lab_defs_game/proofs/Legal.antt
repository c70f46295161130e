-- The list of histories has just the legal lists of steps that are no longer than the horizon.
use Rattle.std.proofs.Common.{◌≡◌, ℕ, zero, suc, ◌+◌, ◌≤◌, List, [], ◌∷◌, ◌++◌, map, flat_map, length, refl, sym, ap, subst, arith, inl, inr, ◌⊎◌}
use Rattle.std.proofs.lemmas.List.{append_assoc, append-nil}
use Rattle.std.specs.List.{range_with_len}
use Rattle.lab_math.proofs.Members.{In, in_append_left, in_append_right, in_append_cases, in_map, in_from_map, in_flat_map, in_from_flat_map, in_from_range, in_range, in_from_contains, contains_from_in}
use Rattle.lab_defs_text.specs.Games.{GameModel, Place}
use Rattle.lab_defs_text.specs.Texts.{place_at}
use Rattle.lab_defs_game.specs.Histories.{History, Step, actions_at, row_of, place_of, reached, outcome_of, steps_of, longer, with_longer, histories}
use Rattle.lab_defs_game.specs.Laws.{IsStep, IsLegal, HistoryLaw}
use Rattle.lab_defs_game.proofs.GameLemmas.{reached_push}

-- ---- steps

-- the step with these places
abbrev pub step_at : ℕ → ℕ → ℕ → Step
step_at a b o = record { action1 = a; action2 = b; outcome = o }

-- the steps with the first seat's action a, and those with both actions
abbrev pub steps_by : Place → ℕ → List Step
steps_by p a = flat_map (λ b. map (step_at a b) (range_with_len 0 (length (row_of p a b)))) (range_with_len 0 (actions_at 2 p))

-- the steps out of a place are open there
pub step_from : (p : Place) (s : Step) → In s (steps_of p) → IsStep p s
step_from p s i =
    let a = in_from_flat_map (steps_by p) (range_with_len 0 (actions_at 1 p)) s i in
    let b = in_from_flat_map (λ b. map (step_at a.0 b) (range_with_len 0 (length (row_of p a.0 b)))) (range_with_len 0 (actions_at 2 p)) s a.2 in
    let o = in_from_map (step_at a.0 b.0) (range_with_len 0 (length (row_of p a.0 b.0))) s b.2 in
    let ra = in_from_range a.0 0 (actions_at 1 p) a.1 in
    let rb = in_from_range b.0 0 (actions_at 2 p) b.1 in
    let ro = in_from_range o.0 0 (length (row_of p a.0 b.0)) o.1 in
    subst (IsStep p) o.2 ((omega (arith, ra.1), omega (arith, rb.1), omega (arith, ro.1)))

-- what is open at a place is a step out of it
pub step_has : (p : Place) (s : Step) → IsStep p s → In s (steps_of p)
step_has p s i =
    in_flat_map (steps_by p) (range_with_len 0 (actions_at 1 p)) s.action1 s (in_range s.action1 0 (actions_at 1 p) (omega arith) (omega (arith, i.0)))
    (in_flat_map (λ b. map (step_at s.action1 b) (range_with_len 0 (length (row_of p s.action1 b)))) (range_with_len 0 (actions_at 2 p)) s.action2 s
    (in_range s.action2 0 (actions_at 2 p) (omega arith) (omega (arith, i.1)))
    (in_map (step_at s.action1 s.action2) (range_with_len 0 (length (row_of p s.action1 s.action2))) s.outcome
    (in_range s.outcome 0 (length (row_of p s.action1 s.action2)) (omega arith) (omega (arith, i.2)))))

-- ---- histories

-- a legal history with one more step that is open where it leads
pub legal_push : (g : GameModel) (n : ℕ) (h : History) (s : Step) → IsLegal g n h → IsStep (place_at g (reached g n h)) s → IsLegal g n (h ++ s ∷ [])
legal_push g n [] s l i = (i, tt)
legal_push g n (t ∷ h) s l i = (l.0, legal_push g (outcome_of g n t).next h s l.1 i)

-- one more item
pub length_push : {A : Type 0} (h : List A) (s : A) → length (h ++ s ∷ []) ≡ suc (length h)
length_push [] s = refl
length_push (t ∷ h) s = ap suc (length_push h s)

-- histories that are made longer by legal steps are legal, and not too long
with_longer_legal : (g : GameModel) (n m : ℕ) (hs : List History) → ((h : History) → In h hs → IsLegal g g.root h × (length h ≤ m))
    → (h : History) → In h (with_longer g n hs) → IsLegal g g.root h × (length h ≤ m + n)
with_longer_legal g zero m hs f h i = let r = f h i in (r.0, omega (arith, r.1))
with_longer_legal g (suc n) m hs f h i =
    at (in_append_cases hs (with_longer g n (flat_map (longer g) hs)) h i) (λ j. with_longer_legal g n (suc m) (flat_map (longer g) hs) next h j)
  where
    next : (k : History) → In k (flat_map (longer g) hs) → IsLegal g g.root k × (length k ≤ suc m)
    next k j =
        let b = in_from_flat_map (longer g) hs k j in
        let s = in_from_map (λ s. b.0 ++ s ∷ []) (steps_of (place_of g b.0)) k b.2 in
        let r = f b.0 b.1 in
        let n : length (b.0 ++ s.0 ∷ []) ≡ suc (length b.0) = length_push b.0 s.0 in
        subst (λ t. IsLegal g g.root t × (length t ≤ suc m)) s.2 ((legal_push g g.root b.0 s.0 r.0 (step_from (place_of g b.0) s.0 s.1), omega (arith, n, r.1)))

    at : In h hs ⊎ In h (with_longer g n (flat_map (longer g) hs)) → (In h (with_longer g n (flat_map (longer g) hs)) → IsLegal g g.root h × (length h ≤ suc m + n)) → IsLegal g g.root h × (length h ≤ m + suc n)
    at (inl j) rest = let r = f h j in (r.0, omega (arith, r.1))
    at (inr j) rest = let r = rest j in (r.0, omega (arith, r.1))

-- from a history of the list on, each legal way of at most n steps leads to one
with_longer_reach : (g : GameModel) (n : ℕ) (hs : List History) (h t : History) → In h hs → IsLegal g (reached g g.root h) t → length t ≤ n → In (h ++ t) (with_longer g n hs)
with_longer_reach g zero hs h [] i l le = subst (λ k. In k hs) (sym (append-nil h)) i
with_longer_reach g zero hs h (s ∷ t) i l le = absurd (omega (arith, le))
with_longer_reach g (suc n) hs h [] i l le = in_append_left hs (with_longer g n (flat_map (longer g) hs)) (h ++ []) (subst (λ k. In k hs) (sym (append-nil h)) i)
with_longer_reach g (suc n) hs h (s ∷ t) i l le =
    let j : In (h ++ s ∷ []) (flat_map (longer g) hs) =
    in_flat_map (longer g) hs h (h ++ s ∷ []) i (in_map (λ s. h ++ s ∷ []) (steps_of (place_of g h)) s (step_has (place_of g h) s l.0)) in
    in_append_right hs (with_longer g n (flat_map (longer g) hs)) (h ++ s ∷ t)
    (subst (λ k. In k (with_longer g n (flat_map (longer g) hs))) (append_assoc h (s ∷ []) t)
    (with_longer_reach g n (flat_map (longer g) hs) (h ++ s ∷ []) t j (subst (λ w. IsLegal g w t) (sym (reached_push g g.root h s)) l.1) (omega (arith, le))))

-- a history of the list is legal and not too long
pub history_legal : (g : GameModel) (h : History) → In h (histories g) → IsLegal g g.root h × (length h ≤ g.horizon)
history_legal g h i = let r = with_longer_legal g g.horizon 0 ([] ∷ []) first h i in (r.0, omega (arith, r.1))
  where
    first : (k : History) → In k ([] ∷ []) → IsLegal g g.root k × (length k ≤ 0)
    first k (inl e) = subst (λ t. IsLegal g g.root t × (length t ≤ 0)) e ((tt, omega arith))
    first k (inr j) = absurd j

-- what is legal and not too long is a history
pub legal_history : (g : GameModel) (h : History) → IsLegal g g.root h → length h ≤ g.horizon → In h (histories g)
legal_history g h l le = with_longer_reach g g.horizon ([] ∷ []) [] h (inl refl) l le

-- the law of histories
pub history_law : HistoryLaw
history_law g h =
    (λ c. history_legal g h (in_from_contains (histories g) h c), λ p. contains_from_in (histories g) h (legal_history g h p.0 p.1))
