-- Tests of all or some items of a list, and ranges of numbers.
use Rattle.std.proofs.Common.{◌≡◌, ℕ, zero, suc, ◌+◌, ◌<◌, ◌≤◌, Bool, true, eqb, List, [], ◌∷◌, ◌++◌, length, map, get_or, refl, ap, subst, ◌∙◌, arith, inl, inr}
use Rattle.std.specs.List.{list_all, list_any, range_with_len}
use Rattle.std.proofs.lemmas.Bool.{and_parts, and_from, or_left, or_right, or_cases, cases_Bool, eqb-true, eqb-false}

-- items that pass a test pass a weaker one
pub all_weaker : {X : Type 0} (p q : X → Bool) → ((x : X) → p x ≡ true → q x ≡ true) → (xs : List X) → list_all p xs ≡ true → list_all q xs ≡ true
all_weaker p q h [] e = refl
all_weaker p q h (x ∷ xs) e =
    let a = and_parts (p x) (list_all p xs) e in
    and_from (q x) (list_all q xs) (h x a.0) (all_weaker p q h xs a.1)

-- two lists in a row pass a test that both pass
pub all_append : {X : Type 0} (p : X → Bool) (xs ys : List X) → list_all p xs ≡ true → list_all p ys ≡ true → list_all p (xs ++ ys) ≡ true
all_append p [] ys e f = f
all_append p (x ∷ xs) ys e f =
    let a = and_parts (p x) (list_all p xs) e in
    and_from (p x) (list_all p (xs ++ ys)) a.0 (all_append p xs ys a.1 f)

-- where some item passes a test, here is one
pub any_some : {X : Type 0} (p : X → Bool) (xs : List X) → list_any p xs ≡ true → (x : X) × (p x ≡ true)
any_some p [] e = absurd cc
any_some p (x ∷ xs) e = elim (or_cases (p x) (list_any p xs) e) [ inl h ↦ (x, h) | inr h ↦ any_some p xs h ]

-- a number of a range that passes a test is found
pub any_in_range : (p : ℕ → Bool) (k i n : ℕ) → i ≤ k → k < i + n → p k ≡ true → list_any p (range_with_len i n) ≡ true
any_in_range p k i zero h lt e = absurd (omega arith)
any_in_range p k i (suc n) h lt e = elim (cases_Bool (eqb i k)) [
  | inl t ↦ or_left (p i) (list_any p (range_with_len (i + 1) n)) (ap p (eqb-true i k t) ∙ e)
  | inr t ↦ (let ne = eqb-false i k t in
      or_right (p i) (list_any p (range_with_len (i + 1) n)) (any_in_range p k (i + 1) n (omega arith) (omega arith) e))
]

-- a list is its items at a range of places, counted from i on
pub items_in_range : {X : Type 0} (f : ℕ → X) (d : X) (i : ℕ) (xs : List X) → ((j : ℕ) → j < length xs → f (i + j) ≡ get_or xs j d) → map f (range_with_len i (length xs)) ≡ xs
items_in_range f d i [] h = refl
items_in_range f d i (x ∷ xs) h =
    let first : f i ≡ x = subst (λ (n : ℕ). f n ≡ x) (omega arith) (h 0 (omega arith)) in
    let others = items_in_range f d (i + 1) xs (λ j lt. subst (λ (n : ℕ). f n ≡ get_or xs j d) (omega arith) (h (suc j) (omega arith))) in
    rw (first, others) refl
