-- The first place whose byte passes a test, as a search.
use Rattle.std.proofs.Common.{◌≡◌, ℕ, zero, suc, ◌+◌, ◌<◌, Bool, true, List, [], ◌∷◌, Option, Some, None, length, position, slice_index, refl, sym, ap, ◌∙◌, arith, inl, inr}
use Rattle.std.specs.List.{position_from}
use Rattle.std.proofs.lemmas.Bool.{cases_Bool}
use Rattle.std.proofs.lemmas.Iterator.Adapters.{position_from-zero}
use Rattle.memchr.specs.Find.{IsFirstByte}

-- no byte passes
none_from : (p : ℕ → Bool) (i : ℕ) (xs : List ℕ) → ((k : ℕ) → k < length xs → ¬ (p (slice_index xs k) ≡ true)) → position_from p i xs ≡ None
none_from p i [] h = refl
none_from p i (x ∷ xs) h = elim (cases_Bool (p x)) [
  | inl t ↦ absurd (h 0 (omega arith) t)
  | inr f ↦ rw f (none_from p (i + 1) xs (λ k lt. h (suc k) (omega (arith, lt))))
]

-- the byte at a place passes, and none before it
some_from : (p : ℕ → Bool) (i n : ℕ) (xs : List ℕ) → n < length xs → ((k : ℕ) → k < n → ¬ (p (slice_index xs k) ≡ true)) → p (slice_index xs n) ≡ true → position_from p i xs ≡ Some (i + n)
some_from p i n [] lt h t = absurd (omega (arith, lt))
some_from p i zero (x ∷ xs) lt h t = rw t (ap Some (omega arith))
some_from p i (suc n) (x ∷ xs) lt h t = elim (cases_Bool (p x)) [
  | inl y ↦ absurd (h 0 (omega arith) y)
  | inr f ↦ rw f (some_from p (i + 1) n xs (omega (arith, lt)) (λ k le. h (suc k) (omega (arith, le))) t ∙ ap Some (omega arith))
]

-- the first place is that which a search finds
pub first_is : (p : ℕ → Bool) (xs : List ℕ) (r : Option ℕ) → IsFirstByte p xs r → r ≡ position p xs
first_is p xs None h = sym (position_from-zero p xs ∙ none_from p 0 xs (λ k lt. h k (omega arith) lt))
first_is p xs (Some n) h = sym (position_from-zero p xs ∙ some_from p 0 n xs h.0.high (λ k lt. h.0.before k (omega arith) lt) h.1 ∙ ap Some (omega arith))
