-- Parts of lists: what follows a place, and the pieces between separators.
use Rattle.std.proofs.Common.{◌≡◌, ℕ, suc, ◌+◌, ◌-◌, ◌≤◌, List, [], ◌∷◌, Bool, true, false, cond, Some, None, take, drop, position, length, refl, sym, ◌∙◌, ap, arith}
use Rattle.std.specs.List.{slice_split, onto_first, position_from}
use Rattle.std.proofs.lemmas.List.{drop-drop}
use Rattle.std.proofs.lemmas.List.Splits.{length-slice_split}
use Rattle.std.proofs.lemmas.Iterator.Adapters.{position_from-zero}

-- lists that are the same from a place on are the same from a later one on
pub same_drop_after : {X : Type 0} (m n : ℕ) (xs ys : List X) → m ≤ n → drop m xs ≡ drop m ys → drop n xs ≡ drop n ys
same_drop_after m n xs ys h e =
    let k : m + (n - m) ≡ n = omega (arith, h) in
    ap (λ i. drop i xs) (sym k) ∙ sym (drop-drop (n - m) m xs) ∙ ap (drop (n - m)) e ∙ drop-drop (n - m) m ys ∙ ap (λ i. drop i ys) k

-- with no separator there is one piece, where places are counted from i
none_from : {X : Type 0} (p : X → Bool) (i : ℕ) (xs : List X) → position_from p i xs ≡ None → slice_split p xs ≡ xs ∷ []
none_from p i [] e = refl
none_from p i (x ∷ xs) e =
    elim (p x) as (λ b. cond b (Some i) (position_from p (i + 1) xs) ≡ None → cond b ([] ∷ slice_split p xs) (onto_first x (slice_split p xs)) ≡ (x ∷ xs) ∷ []) [
      | true ↦ λ h. cc
      | false ↦ λ h. ap (onto_first x) (none_from p (i + 1) xs h)
    ] e

-- the first piece ends at the first separator, where places are counted from i
some_from : {X : Type 0} (p : X → Bool) (i at : ℕ) (xs : List X) → position_from p i xs ≡ Some at → (n : ℕ) × (at ≡ i + n) × (slice_split p xs ≡ take n xs ∷ slice_split p (drop (suc n) xs))
some_from p i at [] e = cc
some_from p i at (x ∷ xs) e =
    elim (p x) as (λ b. cond b (Some i) (position_from p (i + 1) xs) ≡ Some at → (n : ℕ) × (at ≡ i + n) × (cond b ([] ∷ slice_split p xs) (onto_first x (slice_split p xs)) ≡ take n (x ∷ xs) ∷ slice_split p (drop (suc n) (x ∷ xs)))) [
      | true ↦ λ h. (0, let k : i ≡ at = cc in omega arith, refl)
      | false ↦ λ h. let r = some_from p (i + 1) at xs h in (suc r.0, omega (arith, r.1), ap (onto_first x) r.2)
    ] e

-- there is always a piece
pub split_nonempty : {X : Type 0} (p : X → Bool) (xs : List X) → slice_split p xs ≡ [] → ⊥
split_nonempty p xs e = let none : length (slice_split p xs) ≡ 0 = ap length e in omega (arith, length-slice_split p xs)

-- with no separator there is one piece
pub split_none : {X : Type 0} (p : X → Bool) (xs : List X) → position p xs ≡ None → slice_split p xs ≡ xs ∷ []
split_none p xs e = none_from p 0 xs (sym (position_from-zero p xs) ∙ e)

-- the first piece ends at the first separator
pub split_some : {X : Type 0} (p : X → Bool) (at : ℕ) (xs : List X) → position p xs ≡ Some at → slice_split p xs ≡ take at xs ∷ slice_split p (drop (at + 1) xs)
split_some p at xs e =
    let r = some_from p 0 at xs (sym (position_from-zero p xs) ∙ e) in
    let n : r.0 ≡ at = omega (arith, r.1) in
    let m : suc r.0 ≡ at + 1 = omega (arith, r.1) in
    r.2 ∙ ap (λ k. take k xs ∷ slice_split p (drop (suc r.0) xs)) n ∙ ap (λ k. take at xs ∷ slice_split p (drop k xs)) m
