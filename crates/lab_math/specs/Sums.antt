-- Sums, products and greatest values over lists.
use Rattle.std.specs.Prelude.{ℕ, ◌+◌, ◌*◌, ℤ, pos, ◌+ℤ◌, List, [], ◌∷◌, max}

-- the sum of integers over a list
abbrev pub total : {X : Type 0} → (X → ℤ) → List X → ℤ
total f [] = pos 0
total f (x ∷ xs) = f x +ℤ total f xs

-- the sum of natural numbers over a list
abbrev pub sum_over : {X : Type 0} → (X → ℕ) → List X → ℕ
sum_over f [] = 0
sum_over f (x ∷ xs) = f x + sum_over f xs

-- the product over a list
abbrev pub product_over : {X : Type 0} → (X → ℕ) → List X → ℕ
product_over f [] = 1
product_over f (x ∷ xs) = f x * product_over f xs

-- the greatest value over a list, 0 where there is none
abbrev pub greatest_over : {X : Type 0} → (X → ℕ) → List X → ℕ
greatest_over f [] = 0
greatest_over f (x ∷ xs) = max (f x) (greatest_over f xs)
