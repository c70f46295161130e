-- Paths that go from parents to children, step by step: what it means that a path is a chain of parents.
use Rattle.std.proofs.Common.{◌≡◌, ℕ, zero, suc, ◌<◌, ◌≤◌, List, [], ◌∷◌, ◌++◌, Bool, true, false, cond, eqb, ◌||◌, length, get_or, Option, Some, None, refl, sym, ap, ◌∙◌, subst, arith, append-nil, append_assoc, eqb-true}
use Rattle.std.specs.Prelude.{◌==◌, if◌then◌else◌, slice_index, All}
use Rattle.std.proofs.lemmas.List.{length-map}
use Rattle.lab_defs_game.specs.Paths.{SetAction, last_after, last_step}
use Rattle.lab_defs_game.specs.Forms.{FormSet, Row, Form, sets_of, actions_in, actions_of, path_of, parent_at, parent_of, chain_within, chain}
use Rattle.lab_defs_game.proofs.GameLemmas.{last_after_push}
use Rattle.lab_defs_value.specs.Parents.{passes_through, IsStepBelow, IsChain, IsForm}
use Rattle.lab_defs_value.specs.Matching.{path_before}
use Rattle.lab_defs_value.specs.Laws.{ChainLaw}

-- the step just before the set I on a path that comes after the step `before`
abbrev pub step_before : ℕ → Option SetAction → List SetAction → Option SetAction
step_before I before [] = None
step_before I before (t ∷ ts) = if t.set == I then before else step_before I (Some t) ts

-- a step comes after another: the later set has the higher number
abbrev pub ComesAfter : Option SetAction → ℕ → Type 0
ComesAfter None I = Unit {0}
ComesAfter (Some t) I = t.set < I

-- a path after the step `before`: actions at sets that are there, in their order, each set after its parent
abbrev pub IsPath : List ℕ → (ℕ → Option SetAction) → Option SetAction → List SetAction → Type 0
IsPath actions parent before [] = Unit {0}
IsPath actions parent before (t ∷ ts) =
    (parent t.set ≡ before) × ComesAfter before t.set × IsStepBelow actions (length actions) (Some t) × IsPath actions parent (Some t) ts

-- parents come before children
abbrev pub AreBelow : List FormSet → Type 0
AreBelow sets = (J : ℕ) → J < length (actions_in sets) → IsStepBelow (actions_in sets) J (parent_at sets J)

-- ---- from chains to paths

-- one more step at the end of a path
pub path_push : (ns : List ℕ) (parent : ℕ → Option SetAction) (before : Option SetAction) (p : List SetAction) (t : SetAction) → IsPath ns parent before p
    → parent t.set ≡ last_after before p → ComesAfter (last_after before p) t.set → IsStepBelow ns (length ns) (Some t) → IsPath ns parent before (p ++ t ∷ [])
path_push ns parent before [] t h e after there = (e, after, there, tt)
path_push ns parent before (u ∷ us) t h e after there = (h.0, h.1, h.2, path_push ns parent (Some u) us t h.3 e after there)

-- a step below a number comes before it
comes_after : (ns : List ℕ) (n : ℕ) (step : Option SetAction) → IsStepBelow ns n step → ComesAfter step n
comes_after ns n None h = tt
comes_after ns n (Some t) h = h.0

-- a step below a number is below each greater one
pub step_higher : (ns : List ℕ) (m n : ℕ) (step : Option SetAction) → m ≤ n → IsStepBelow ns m step → IsStepBelow ns n step
step_higher ns m n None le h = tt
step_higher ns m n (Some t) le h = (omega (arith, le, h.0), h.1)

-- the chain that ends with a step below n goes from parents to children, and ends with it
pub chain_follows : (sets : List FormSet) → AreBelow sets → (n : ℕ) (step : Option SetAction) → n ≤ length (actions_in sets) → IsStepBelow (actions_in sets) n step
    → IsPath (actions_in sets) (parent_at sets) None (chain_within sets n step) × (last_step (chain_within sets n step) ≡ step)
chain_follows sets below zero None le h = (tt, refl)
chain_follows sets below zero (Some t) le h = absurd (omega (arith, h.0))
chain_follows sets below (suc n) None le h = (tt, refl)
chain_follows sets below (suc n) (Some t) le h =
    let ns = actions_in sets in
    let before = parent_at sets t.set in
    let there = below t.set (omega (arith, le, h.0)) in
    let rest = chain_follows sets below n before (omega (arith, le)) (step_higher ns t.set n before (omega (arith, h.0)) there) in (
      path_push ns (parent_at sets) None (chain_within sets n before) t rest.0 (sym rest.1)
          (subst (λ b. ComesAfter b t.set) (sym rest.1) (comes_after ns t.set before there)) (omega (arith, le, h.0), h.1),
      last_after_push None (chain_within sets n before) t,
    )

-- a chain is the same however many steps it may have, where they are enough
chain_enough : (sets : List FormSet) → AreBelow sets → (m n : ℕ) (step : Option SetAction) → m ≤ length (actions_in sets) → IsStepBelow (actions_in sets) m step → IsStepBelow (actions_in sets) n step
    → chain_within sets m step ≡ chain_within sets n step
chain_enough sets below zero zero None le h k = refl
chain_enough sets below zero (suc n) None le h k = refl
chain_enough sets below (suc m) zero None le h k = refl
chain_enough sets below (suc m) (suc n) None le h k = refl
chain_enough sets below zero n (Some t) le h k = absurd (omega (arith, h.0))
chain_enough sets below (suc m) zero (Some t) le h k = absurd (omega (arith, k.0))
chain_enough sets below (suc m) (suc n) (Some t) le h k =
    let ns = actions_in sets in
    let before = parent_at sets t.set in
    let there = below t.set (omega (arith, le, h.0)) in
    ap (λ p. p ++ t ∷ []) (chain_enough sets below m n before (omega (arith, le)) (step_higher ns t.set m before (omega (arith, h.0)) there) (step_higher ns t.set n before (omega (arith, k.0)) there))

-- there are as many numbers of actions as sets
pub sets_length : (sets : List FormSet) → length (actions_in sets) ≡ length sets
sets_length sets = length-map sets (λ s. s.actions)

-- the chain that ends with a step is the chain that ends with the parent of its set, and the step
pub chain_push : (sets : List FormSet) → AreBelow sets → (t : SetAction) → t.set < length sets → chain sets (Some t) ≡ chain sets (parent_at sets t.set) ++ t ∷ []
chain_push sets below t l = by (length sets) refl
  where
    there : IsStepBelow (actions_in sets) t.set (parent_at sets t.set)
    there = below t.set (omega (arith, l, sets_length sets))

    by : (n : ℕ) → length sets ≡ n → chain_within sets n (Some t) ≡ chain_within sets n (parent_at sets t.set) ++ t ∷ []
    by zero e = absurd (omega (arith, e, l))
    by (suc n) e =
        let ns = actions_in sets in
        let before = parent_at sets t.set in
        ap (λ p. p ++ t ∷ []) (chain_enough sets below n (suc n) before (omega (arith, e, sets_length sets)) (step_higher ns t.set n before (omega (arith, e, l)) there) (step_higher ns t.set (suc n) before (omega (arith, e, l)) there))

-- a chain of parents goes from parents to children
pub path_of_chain : (sets : List FormSet) → AreBelow sets → (path : List SetAction) → IsChain sets path → IsPath (actions_in sets) (parent_at sets) None path
path_of_chain sets below path h =
    subst (IsPath (actions_in sets) (parent_at sets) None) (sym h.parents)
    (chain_follows sets below (length sets) (last_step path) (omega (arith, sets_length sets)) h.there).0

-- ---- from paths to chains

-- the last step of a path is there
pub last_there : (ns : List ℕ) (parent : ℕ → Option SetAction) (before : Option SetAction) (path : List SetAction) → IsStepBelow ns (length ns) before → IsPath ns parent before path
    → IsStepBelow ns (length ns) (last_after before path)
last_there ns parent before [] there h = there
last_there ns parent before (t ∷ ts) there h = last_there ns parent (Some t) ts h.2 h.3

-- a step before a number is below it
step_before_number : (ns : List ℕ) (n : ℕ) (step : Option SetAction) → ComesAfter step n → IsStepBelow ns (length ns) step → IsStepBelow ns n step
step_before_number ns n None h there = tt
step_before_number ns n (Some t) h there = (h, there.1)

-- the chain that ends with the last step of a path is the chain up to the step before the path, and the path
chain_along : (sets : List FormSet) (before : Option SetAction) (done path : List SetAction) → IsStepBelow (actions_in sets) (length (actions_in sets)) before
    → ((n : ℕ) → IsStepBelow (actions_in sets) n before → chain_within sets n before ≡ done) → IsPath (actions_in sets) (parent_at sets) before path
    → (n : ℕ) → IsStepBelow (actions_in sets) n (last_after before path) → chain_within sets n (last_after before path) ≡ done ++ path
chain_along sets before done [] there known h n l = known n l ∙ sym (append-nil done)
chain_along sets before done (t ∷ ts) there known h n l = chain_along sets (Some t) (done ++ t ∷ []) ts h.2 one h.3 n l ∙ append_assoc done (t ∷ []) ts
  where
    one : (n : ℕ) → IsStepBelow (actions_in sets) n (Some t) → chain_within sets n (Some t) ≡ done ++ t ∷ []
    one zero l = absurd (omega (arith, l.0))
    one (suc n) l =
        ap (λ b. chain_within sets n b ++ t ∷ []) h.0
        ∙ ap (λ p. p ++ t ∷ []) (known n (step_higher (actions_in sets) t.set n before (omega (arith, l.0)) (step_before_number (actions_in sets) t.set before h.1 there)))

-- a path that goes from parents to children is the chain of parents of its last step
pub chain_of_path : (sets : List FormSet) → AreBelow sets → (path : List SetAction) → IsPath (actions_in sets) (parent_at sets) None path → IsChain sets path
chain_of_path sets below path h =
    let last = subst (λ n. IsStepBelow (actions_in sets) n (last_step path)) (sets_length sets) (last_there (actions_in sets) (parent_at sets) None path tt h) in record {
      there = last;
      parents = sym (chain_along sets None [] path tt none h (length sets) last);
    }
  where
    none : (n : ℕ) → IsStepBelow (actions_in sets) n None → chain_within sets n None ≡ []
    none zero l = refl
    none (suc n) l = refl

-- ---- forms

-- the rows of a form go from parents to children
pub paths_follow : (f : Form) (seat : ℕ) → IsForm f seat → All (λ (z : Row). IsPath (actions_of f seat) (parent_of f seat) None (path_of z seat)) f.rows
paths_follow f seat ok k d l = path_of_chain (sets_of f seat) ok.parents (path_of (get_or f.rows k d) seat) (ok.paths k d l)

-- so it is a form where they do
pub form_from : (f : Form) (seat : ℕ) → ((J : ℕ) → J < length (actions_of f seat) → 1 ≤ slice_index (actions_of f seat) J) → AreBelow (sets_of f seat)
    → All (λ (z : Row). IsPath (actions_of f seat) (parent_of f seat) None (path_of z seat)) f.rows → IsForm f seat
form_from f seat some below paths = record {
  some_action = some;
  parents = below;
  paths = λ k d l. chain_of_path (sets_of f seat) below (path_of (get_or f.rows k d) seat) (paths k d l);
}

-- the steps of a path before a set that it passes through go from parents to children, and end with the set's parent
steps_before : (ns : List ℕ) (parent : ℕ → Option SetAction) (I : ℕ) (before : Option SetAction) (path : List SetAction) → IsPath ns parent before path → passes_through I path ≡ true
    → IsPath ns parent before (path_before I path) × (last_after before (path_before I path) ≡ parent I)
steps_before ns parent I before [] h on = cc
steps_before ns parent I before (t ∷ ts) h on = at (eqb t.set I) refl on (steps_before ns parent I (Some t) ts h.3)
  where
    at : (b : Bool) → eqb t.set I ≡ b → (b || passes_through I ts) ≡ true
        → (passes_through I ts ≡ true → IsPath ns parent (Some t) (path_before I ts) × (last_after (Some t) (path_before I ts) ≡ parent I))
        → IsPath ns parent before (cond b [] (t ∷ path_before I ts)) × (last_after before (cond b [] (t ∷ path_before I ts)) ≡ parent I)
    at true e p rest = (tt, sym h.0 ∙ ap parent (eqb-true t.set I e))
    at false e p rest = let r = rest p in ((h.0, h.1, h.2, r.0), r.1)

-- the law of chains: they are the chain that ends with the parent
pub chain_law : ChainLaw
chain_law f seat ok k d l I on =
    let path = path_of (get_or f.rows k d) seat in
    let h = steps_before (actions_of f seat) (parent_of f seat) I None path (paths_follow f seat ok k d l) on in
    (chain_of_path (sets_of f seat) ok.parents (path_before I path) h.0).parents ∙ ap (chain (sets_of f seat)) h.1
