-- Searches through two lists, one behind the other.
use Rattle.std.proofs.Common.{◌≡◌, ℕ, ◌+◌, Bool, List, [], ◌∷◌, ◌++◌, length, Some, None, position, refl, sym, ap, ◌∙◌, arith, inl, inr}
use Rattle.std.specs.List.{position_from}
use Rattle.std.proofs.lemmas.Bool.{cases_Bool}
use Rattle.std.proofs.lemmas.Iterator.Adapters.{position_from-zero}

front_from : {X : Type 0} (p : X → Bool) (i k : ℕ) (xs ys : List X) → position_from p i xs ≡ Some k → position_from p i (xs ++ ys) ≡ Some k
front_from p i k [] ys e = absurd cc
front_from p i k (x ∷ xs) ys e = elim (cases_Bool (p x)) [
  | inl t ↦ (let h : Some i ≡ Some k = rw t at e in rw t h)
  | inr t ↦ rw t (front_from p (i + 1) k xs ys (rw t at e))
]

behind_from : {X : Type 0} (p : X → Bool) (i : ℕ) (xs ys : List X) → position_from p i xs ≡ None → position_from p i (xs ++ ys) ≡ position_from p (i + length xs) ys
behind_from p i [] ys e = ap (λ n. position_from p n ys) (omega arith)
behind_from p i (x ∷ xs) ys e = elim (cases_Bool (p x)) [
  | inl t ↦ (let h : Some i ≡ None = rw t at e in absurd cc)
  | inr t ↦ rw t (behind_from p (i + 1) xs ys (rw t at e) ∙ ap (λ n. position_from p n ys) (omega arith))
]

-- a search that counts from further on
later_from : {X : Type 0} (p : X → Bool) (i j k : ℕ) (ys : List X) → position_from p i ys ≡ Some k → position_from p (j + i) ys ≡ Some (j + k)
later_from p i j k [] e = absurd cc
later_from p i j k (y ∷ ys) e = elim (cases_Bool (p y)) [
  | inl t ↦ (let h : Some i ≡ Some k = rw t at e in let same : i ≡ k = cc in rw t (ap (λ n. Some (j + n)) same))
  | inr t ↦ rw t (ap (λ n. position_from p n ys) (omega arith) ∙ later_from p (i + 1) j k ys (rw t at e))
]

nowhere_from : {X : Type 0} (p : X → Bool) (i j : ℕ) (ys : List X) → position_from p i ys ≡ None → position_from p j ys ≡ None
nowhere_from p i j [] e = refl
nowhere_from p i j (y ∷ ys) e = elim (cases_Bool (p y)) [
  | inl t ↦ (let h : Some i ≡ None = rw t at e in absurd cc)
  | inr t ↦ rw t (nowhere_from p (i + 1) (j + 1) ys (rw t at e))
]

-- what the first list has is found there
pub position_front : {X : Type 0} (p : X → Bool) (k : ℕ) (xs ys : List X) → position p xs ≡ Some k → position p (xs ++ ys) ≡ Some k
position_front p k xs ys e = position_from-zero p (xs ++ ys) ∙ front_from p 0 k xs ys (sym (position_from-zero p xs) ∙ e)

-- what only the second has is found behind the first
pub position_behind : {X : Type 0} (p : X → Bool) (k : ℕ) (xs ys : List X) → position p xs ≡ None → position p ys ≡ Some k → position p (xs ++ ys) ≡ Some (length xs + k)
position_behind p k xs ys e f =
    position_from-zero p (xs ++ ys) ∙ behind_from p 0 xs ys (sym (position_from-zero p xs) ∙ e) ∙ ap (λ n. position_from p n ys) (omega arith)
    ∙ later_from p 0 (length xs) k ys (sym (position_from-zero p ys) ∙ f)

-- what neither has is found nowhere
pub position_nowhere : {X : Type 0} (p : X → Bool) (xs ys : List X) → position p xs ≡ None → position p ys ≡ None → position p (xs ++ ys) ≡ None
position_nowhere p xs ys e f =
    position_from-zero p (xs ++ ys) ∙ behind_from p 0 xs ys (sym (position_from-zero p xs) ∙ e) ∙ nowhere_from p 0 (0 + length xs) ys (sym (position_from-zero p ys) ∙ f)
