-- Sums of natural numbers over lists that were put together, mapped or filtered.
use Rattle.std.proofs.Common.{◌≡◌, ℕ, zero, suc, ◌+◌, ◌*◌, ◌≤◌, List, [], ◌∷◌, ◌++◌, Bool, true, false, cond, map, filter, flat_map, length, get_or, refl, ap, ◌∙◌, arith, inl, inr}
use Rattle.std.specs.List.{range_with_len}
use Rattle.lab_math.specs.Sums.{sum_over, greatest_over}
use Rattle.lab_math.proofs.Members.{In}

-- a sum over two lists
pub sum_over-append : {X : Type 0} (f : X → ℕ) (xs ys : List X) → sum_over f (xs ++ ys) ≡ sum_over f xs + sum_over f ys
sum_over-append f [] ys = omega arith
sum_over-append f (x ∷ xs) ys = omega (arith, sum_over-append f xs ys)

-- a sum over what a map makes
pub sum_over-map : {X Y : Type 0} (f : Y → ℕ) (h : X → Y) (xs : List X) → sum_over f (map h xs) ≡ sum_over (λ x. f (h x)) xs
sum_over-map f h [] = refl
sum_over-map f h (x ∷ xs) = ap (λ n. f (h x) + n) (sum_over-map f h xs)

-- a sum over lists is the sum of their sums
pub sum_over-flat_map : {X Y : Type 0} (f : Y → ℕ) (h : X → List Y) (xs : List X) → sum_over f (flat_map h xs) ≡ sum_over (λ x. sum_over f (h x)) xs
sum_over-flat_map f h [] = refl
sum_over-flat_map f h (x ∷ xs) = sum_over-append f (h x) (flat_map h xs) ∙ ap (λ n. sum_over f (h x) + n) (sum_over-flat_map f h xs)

-- sums of what is the same at each item
pub sum_over-same : {X : Type 0} (f h : X → ℕ) (xs : List X) → ((x : X) → In x xs → f x ≡ h x) → sum_over f xs ≡ sum_over h xs
sum_over-same f h [] e = refl
sum_over-same f h (x ∷ xs) e = ap (λ n. n + sum_over f xs) (e x (inl refl)) ∙ ap (λ n. h x + n) (sum_over-same f h xs (λ y i. e y (inr i)))

-- the sum of two sums
pub sum_over-plus : {X : Type 0} (f h : X → ℕ) (xs : List X) → sum_over f xs + sum_over h xs ≡ sum_over (λ x. f x + h x) xs
sum_over-plus f h [] = refl
sum_over-plus f h (x ∷ xs) = omega (arith, sum_over-plus f h xs)

-- a factor in front of each item
pub sum_over-times : {X : Type 0} (c : ℕ) (f : X → ℕ) (xs : List X) → sum_over (λ x. c * f x) xs ≡ c * sum_over f xs
sum_over-times c f [] = omega arith
sum_over-times c f (x ∷ xs) = omega (arith, sum_over-times c f xs)

-- a factor behind each item
pub sum_over-times_behind : {X : Type 0} (f : X → ℕ) (c : ℕ) (xs : List X) → sum_over (λ x. f x * c) xs ≡ sum_over f xs * c
sum_over-times_behind f c [] = omega arith
sum_over-times_behind f c (x ∷ xs) = omega (arith, sum_over-times_behind f c xs)

-- a sum over what passes a test
pub sum_over-filter : {X : Type 0} (f : X → ℕ) (p : X → Bool) (xs : List X) → sum_over f (filter p xs) ≡ sum_over (λ x. cond (p x) (f x) 0) xs
sum_over-filter f p [] = refl
sum_over-filter f p (x ∷ xs) = at (p x) (sum_over-filter f p xs)
  where
    at : (b : Bool) → sum_over f (filter p xs) ≡ sum_over (λ x. cond (p x) (f x) 0) xs → sum_over f (cond b (x ∷ filter p xs) (filter p xs)) ≡ cond b (f x) 0 + sum_over (λ x. cond (p x) (f x) 0) xs
    at true e = ap (λ n. f x + n) e
    at false e = omega (arith, e)

-- a sum over a range one further on
sum_over-later : (f : ℕ → ℕ) (s n : ℕ) → sum_over f (range_with_len (s + 1) n) ≡ sum_over (λ i. f (suc i)) (range_with_len s n)
sum_over-later f s zero = refl
sum_over-later f s (suc n) = ap (λ k. f k + sum_over f (range_with_len (s + 1 + 1) n)) (one_more s) ∙ ap (λ k. f (suc s) + k) (sum_over-later f (s + 1) n)
  where
    one_more : (s : ℕ) → s + 1 ≡ suc s
    one_more s = omega arith

-- a sum over a list by the places of its items
pub sum_over-places : {X : Type 0} (f : X → ℕ) (d : X) (xs : List X) → sum_over (λ i. f (get_or xs i d)) (range_with_len 0 (length xs)) ≡ sum_over f xs
sum_over-places f d [] = refl
sum_over-places f d (x ∷ xs) = ap (λ n. f x + n) (sum_over-later (λ i. f (get_or (x ∷ xs) i d)) 0 (length xs) ∙ sum_over-places f d xs)

-- each value is at most the greatest
pub greatest_over-least : {X : Type 0} (f : X → ℕ) (xs : List X) (x : X) → In x xs → f x ≤ greatest_over f xs
greatest_over-least f [] x i = absurd i
greatest_over-least f (y ∷ xs) x (inl e) = let q = ap f e in omega (arith, q)
greatest_over-least f (y ∷ xs) x (inr i) = let r = greatest_over-least f xs x i in omega (arith, r)
