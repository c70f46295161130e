-- Where a number is one of a list.
use Rattle.std.proofs.Common.{◌≡◌, ℕ, ◌<◌, List, [], ◌∷◌, Bool, true, false, eqb, ◌&&◌, ◌||◌, filter, refl, ap, ◌∙◌, arith, inl, inr, ◌⊎◌, eqb-true}
use Rattle.std.specs.List.{range_with_len}
use Rattle.std.proofs.lemmas.Bool.{or_cases, both_ways}
use Rattle.std.proofs.lemmas.Map.Views.{any-filter_same}
use Rattle.lab_math.proofs.BelowLemmas.{eqb_self}
use Rattle.lab_math.proofs.Members.{In, in_range}
use Rattle.lab_defs_text.specs.Texts.{one_of}

-- what is in a list is one of it
pub lies_from_in : (xs : List ℕ) (I : ℕ) → In I xs → one_of xs I ≡ true
lies_from_in [] I i = absurd i
lies_from_in (x ∷ xs) I (inl e) = ap (λ b. b || one_of xs I) (ap (λ k. eqb k I) e ∙ eqb_self I)
lies_from_in (x ∷ xs) I (inr i) = at (eqb x I) (lies_from_in xs I i)
  where
    at : (b : Bool) → one_of xs I ≡ true → (b || one_of xs I) ≡ true
    at true e = refl
    at false e = e

-- and nothing else is
pub in_from_lies : (xs : List ℕ) (I : ℕ) → one_of xs I ≡ true → In I xs
in_from_lies [] I e = absurd (both_ways false refl e)
in_from_lies (x ∷ xs) I e = at (or_cases (eqb x I) (one_of xs I) e) (λ k. in_from_lies xs I k)
  where
    at : (eqb x I ≡ true) ⊎ (one_of xs I ≡ true) → (one_of xs I ≡ true → In I xs) → In I (x ∷ xs)
    at (inl k) rest = inl (eqb-true x I k)
    at (inr k) rest = inr (rest k)

-- one of those that a test keeps is one that passes it
pub lies_filter : (p : ℕ → Bool) (xs : List ℕ) (I : ℕ) → one_of (filter p xs) I ≡ (p I && one_of xs I)
lies_filter p xs I = any-filter_same (λ i. eqb i I) p (p I) (λ k e. ap p (eqb-true k I e)) xs

-- a number below n is one of those below n that a test keeps exactly where it passes
pub lies_below : (p : ℕ → Bool) (n I : ℕ) → I < n → one_of (filter p (range_with_len 0 n)) I ≡ p I
lies_below p n I l =
    lies_filter p (range_with_len 0 n) I ∙ ap (λ b. p I && b) (lies_from_in (range_with_len 0 n) I (in_range I 0 n (omega arith) (omega (arith, l)))) ∙ last (p I)
  where
    last : (b : Bool) → (b && true) ≡ b
    last true = refl
    last false = refl
