-- A span that a node encloses: which rows stay outside it.
use Rattle.std.proofs.Common.{◌≡◌, ℕ, List, [], ◌∷◌, Bool, true, false, cond, ◌&&◌, ◌||◌, not, eqb, Option, Some, refl, sym, ap, ◌∙◌, subst, eqb-true}
use Rattle.std.proofs.lemmas.Bool.{and_parts, not-true, both_ways}
use Rattle.lab_defs_text.specs.Texts.{one_of}
use Rattle.lab_defs_game.specs.Paths.{SetAction, last_after, is_taken}
use Rattle.lab_defs_value.specs.Parents.{passes_through}
use Rattle.lab_defs_value.proofs.Chains.{IsPath}
use Rattle.lab_defs_value.specs.Splices.{leaves, runs_to}

-- a step that is an action at J has the set J
set_is : (t : SetAction) (J a : ℕ) → is_taken (record { set = J; action = a }) (Some t) ≡ true → t.set ≡ J
set_is t J a e = eqb-true t.set J (and_parts (eqb t.set J) (eqb t.action a) e).0

-- a path that leaves some sets ends at none of them, where it has a step
ends_off : (sets : List ℕ) (J a : ℕ) (before : Option SetAction) (q : List SetAction) → one_of sets J ≡ true → leaves sets q ≡ true → is_taken (record { set = J; action = a }) (last_after before q) ≡ true → is_taken (record { set = J; action = a }) before ≡ true
ends_off sets J a before [] on off e = e
ends_off sets J a before (t ∷ ts) on off e =
    let o = and_parts (not (one_of sets t.set)) (leaves sets ts) off in
    let here = set_is t J a (ends_off sets J a (Some t) ts on o.1 e) in
    absurd (both_ways (one_of sets t.set) (not-true (one_of sets t.set) o.0) (ap (one_of sets) here ∙ on))

-- a path that runs to a node does not end on the way there
pub runs_past : (path node : List ℕ) (J a : ℕ) (before : Option SetAction) (q : List SetAction) → one_of path J ≡ true → one_of node J ≡ false → runs_to path node q ≡ true → is_taken (record { set = J; action = a }) (last_after before q) ≡ true → ⊥
runs_past path node J a before [] on off runs e = both_ways false refl runs
runs_past path node J a before (t ∷ ts) on off runs e = at (one_of node t.set) refl runs (λ k. runs_past path node J a (Some t) ts on off k e)
  where
    at : (b : Bool) → one_of node t.set ≡ b → cond b (leaves path ts) (one_of path t.set && runs_to path node ts) ≡ true → (runs_to path node ts ≡ true → ⊥) → ⊥
    at true n k rest = both_ways (one_of node t.set) (ap (one_of node) (set_is t J a (ends_off path J a (Some t) ts on k e)) ∙ off) n
    at false n k rest = rest (and_parts (one_of path t.set) (runs_to path node ts) k).1

-- a set on a path that leaves some sets follows none of them, unless it comes first
follows_off : (ns : List ℕ) (parent : ℕ → Option SetAction) (sets : List ℕ) (J a K : ℕ) (before : Option SetAction) (q : List SetAction) → IsPath ns parent before q → one_of sets J ≡ true → leaves sets q ≡ true
    → passes_through K q ≡ true → is_taken (record { set = J; action = a }) (parent K) ≡ true → is_taken (record { set = J; action = a }) before ≡ true
follows_off ns parent sets J a K before [] h on off through e = absurd (both_ways false refl through)
follows_off ns parent sets J a K before (t ∷ ts) h on off through e =
    let o = and_parts (not (one_of sets t.set)) (leaves sets ts) off in
    at (eqb t.set K) refl through o.0 (λ k. follows_off ns parent sets J a K (Some t) ts h.3 on o.1 k e)
  where
    at : (b : Bool) → eqb t.set K ≡ b → (b || passes_through K ts) ≡ true → not (one_of sets t.set) ≡ true → (passes_through K ts ≡ true → is_taken (record { set = J; action = a }) (Some t) ≡ true) → is_taken (record { set = J; action = a }) before ≡ true
    at true k p o rest = subst (λ x. is_taken (record { set = J; action = a }) x ≡ true) (sym (ap parent (eqb-true t.set K k)) ∙ h.0) e
    at false k p o rest = absurd (both_ways (one_of sets t.set) (not-true (one_of sets t.set) o) (ap (one_of sets) (set_is t J a (rest p)) ∙ on))

-- a path that runs to a node passes through no set off the way that follows one on it
pub runs_by : (ns : List ℕ) (parent : ℕ → Option SetAction) (path node : List ℕ) (J a K : ℕ) (before : Option SetAction) (q : List SetAction) → IsPath ns parent before q
    → one_of path J ≡ true → one_of node J ≡ false → one_of path K ≡ false → one_of node K ≡ false → runs_to path node q ≡ true
    → passes_through K q ≡ true → is_taken (record { set = J; action = a }) (parent K) ≡ true → ⊥
runs_by ns parent path node J a K before [] h on off far far' runs through e = both_ways false refl runs
runs_by ns parent path node J a K before (t ∷ ts) h on off far far' runs through e =
    at (one_of node t.set) refl runs (eqb t.set K) refl through (λ r p. runs_by ns parent path node J a K (Some t) ts h.3 on off far far' r p e)
  where
    at : (b : Bool) → one_of node t.set ≡ b → cond b (leaves path ts) (one_of path t.set && runs_to path node ts) ≡ true
        → (c : Bool) → eqb t.set K ≡ c → (c || passes_through K ts) ≡ true → (runs_to path node ts ≡ true → passes_through K ts ≡ true → ⊥) → ⊥
    at true n k true s p rest = both_ways (one_of node t.set) (ap (one_of node) (eqb-true t.set K s) ∙ far') n
    at true n k false s p rest =
        both_ways (one_of node t.set) (ap (one_of node) (set_is t J a (follows_off ns parent path J a K (Some t) ts h.3 on k p e)) ∙ off) n
    at false n k true s p rest =
        both_ways (one_of path t.set) (ap (one_of path) (eqb-true t.set K s) ∙ far) (and_parts (one_of path t.set) (runs_to path node ts) k).0
    at false n k false s p rest = rest (and_parts (one_of path t.set) (runs_to path node ts) k).1 p
