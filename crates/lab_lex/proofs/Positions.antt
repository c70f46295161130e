-- Searches through lists of images.
use Rattle.std.proofs.Common.{◌≡◌, ℕ, List, [], ◌∷◌, Bool, true, false, cond, None, Some, refl, ap, sym, ◌∙◌, map, position, ◌+◌, ◌||◌}
use Rattle.std.specs.List.{list_any, position_from}
use Rattle.std.proofs.lemmas.Iterator.Adapters.{position_from-zero}

position_from-map : {A B : Type 0} (p : B → Bool) (f : A → B) (i : ℕ) (xs : List A) → position_from p i (map f xs) ≡ position_from (λ x. p (f x)) i xs
position_from-map p f i [] = refl
position_from-map p f i (x ∷ xs) = ap (λ r. cond (p (f x)) (Some i) r) (position_from-map p f (i + 1) xs)

-- a search through images is one through what they are of
pub position-map : {A B : Type 0} (p : B → Bool) (f : A → B) (xs : List A) → position p (map f xs) ≡ position (λ x. p (f x)) xs
position-map p f xs = position_from-zero p (map f xs) ∙ position_from-map p f 0 xs ∙ sym (position_from-zero (λ x. p (f x)) xs)

any_from : {A : Type 0} (p : A → Bool) (i : ℕ) (xs : List A) → position_from p i xs ≡ None → list_any p xs ≡ false
any_from p i [] e = refl
any_from p i (x ∷ xs) e = elim (p x) as (λ b. cond b (Some i) (position_from p (i + 1) xs) ≡ None → (b || list_any p xs) ≡ false) [
  | true ↦ λ h. cc
  | false ↦ λ h. any_from p (i + 1) xs h
] e

-- where nothing is found, nothing passes
pub list_any-from_None : {A : Type 0} (p : A → Bool) (xs : List A) → position p xs ≡ None → list_any p xs ≡ false
list_any-from_None p xs e = any_from p 0 xs (sym (position_from-zero p xs) ∙ e)
