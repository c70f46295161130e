-- Sums of a function over the numbers below n.
use Rattle.std.specs.Prelude.{ℕ, zero, suc, ◌+◌, ℤ, pos, ◌+ℤ◌}

-- the sum of natural numbers: f at 0, 1 and so on, below n
abbrev pub sum_below : ℕ → (ℕ → ℕ) → ℕ
sum_below zero f = 0
sum_below (suc n) f = sum_below n f + f n

-- the sum of integers: f at 0, 1 and so on, below n
abbrev pub total_below : ℕ → (ℕ → ℤ) → ℤ
total_below zero f = pos 0
total_below (suc n) f = total_below n f +ℤ f n
