-- Sums of integers over lists that were put together, filtered or exchanged.
use Rattle.std.proofs.Common.{◌≡◌, ℤ, pos, ◌+ℤ◌, List, [], ◌∷◌, ◌++◌, Bool, true, false, cond, filter, flat_map, refl, sym, ap, ◌∙◌, arith, inl, inr}
use Rattle.std.proofs.lemmas.Int.{ints}
use Rattle.lab_math.specs.Sums.{total}
use Rattle.lab_math.proofs.Members.{In}

-- a sum over two lists
pub total-append : {X : Type 0} (f : X → ℤ) (xs ys : List X) → total f (xs ++ ys) ≡ total f xs +ℤ total f ys
total-append f [] ys = omega (arith, ints)
total-append f (x ∷ xs) ys = let rest = total-append f xs ys in omega (arith, ints)

-- a sum over lists is the sum of their sums
pub total-flat_map : {X K : Type 0} (f : X → ℤ) (h : K → List X) (ks : List K) → total f (flat_map h ks) ≡ total (λ k. total f (h k)) ks
total-flat_map f h [] = refl
total-flat_map f h (k ∷ ks) = total-append f (h k) (flat_map h ks) ∙ ap (λ t. total f (h k) +ℤ t) (total-flat_map f h ks)

-- sums of what is the same at each item
pub total-same : {X : Type 0} (f h : X → ℤ) (xs : List X) → ((x : X) → In x xs → f x ≡ h x) → total f xs ≡ total h xs
total-same f h [] e = refl
total-same f h (x ∷ xs) e = ap (λ t. t +ℤ total f xs) (e x (inl refl)) ∙ ap (λ t. h x +ℤ t) (total-same f h xs (λ y i. e y (inr i)))

-- a sum of zeros
pub total-none : {X : Type 0} (f : X → ℤ) (xs : List X) → ((x : X) → In x xs → f x ≡ pos 0) → total f xs ≡ pos 0
total-none f [] e = refl
total-none f (x ∷ xs) e = let one = e x (inl refl) in let rest = total-none f xs (λ y i. e y (inr i)) in omega (arith, ints)

-- the sum of two sums
pub total-plus : {X : Type 0} (f h : X → ℤ) (xs : List X) → total (λ x. f x +ℤ h x) xs ≡ total f xs +ℤ total h xs
total-plus f h [] = omega (arith, ints)
total-plus f h (x ∷ xs) = let rest = total-plus f h xs in omega (arith, ints)

-- two sums may be exchanged
pub total-swap : {X K : Type 0} (f : K → X → ℤ) (ks : List K) (xs : List X) → total (λ k. total (f k) xs) ks ≡ total (λ x. total (λ k. f k x) ks) xs
total-swap f [] xs = sym (total-none (λ x. pos 0) xs (λ x i. refl))
total-swap f (k ∷ ks) xs = ap (λ t. total (f k) xs +ℤ t) (total-swap f ks xs) ∙ sym (total-plus (f k) (λ x. total (λ k. f k x) ks) xs)

-- a sum over what passes a test
pub total-filter : {X : Type 0} (p : X → Bool) (f : X → ℤ) (xs : List X) → total f (filter p xs) ≡ total (λ x. cond (p x) (f x) (pos 0)) xs
total-filter p f [] = refl
total-filter p f (x ∷ xs) = let rest = total-filter p f xs in at (p x) rest
  where
    at : (b : Bool) → total f (filter p xs) ≡ total (λ x. cond (p x) (f x) (pos 0)) xs
        → total f (cond b (x ∷ filter p xs) (filter p xs)) ≡ cond b (f x) (pos 0) +ℤ total (λ x. cond (p x) (f x) (pos 0)) xs
    at true r = omega (arith, ints)
    at false r = omega (arith, ints)
