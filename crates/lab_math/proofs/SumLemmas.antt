-- Sums and greatest values over lists that are mapped, and the least common multiple of ones.
use Rattle.std.proofs.Common.{◌≡◌, ℕ, zero, suc, ◌+◌, ◌*◌, ◌<◌, ◌≤◌, ℤ, ◌+ℤ◌, List, [], ◌∷◌, map, replicate, length, get_or, refl, ap, ◌∙◌, arith}
use Rattle.std.specs.List.{range_with_len, All, AllByRecursion}
use Rattle.std.proofs.lemmas.List.Elements.{All-from_recursion}
use Rattle.lab_math.specs.Sums.{total, sum_over, greatest_over}
use Rattle.lab_math.specs.Divisors.{lcm, lcm_of}

-- a sum over what a map makes
pub total-map : {X Y : Type 0} (f : Y → ℤ) (h : X → Y) (xs : List X) → total f (map h xs) ≡ total (λ x. f (h x)) xs
total-map f h [] = refl
total-map f h (x ∷ xs) = ap (λ t. f (h x) +ℤ t) (total-map f h xs)

-- a sum of one number, over and over
pub sum_over-replicate : {X : Type 0} (f : X → ℕ) (n : ℕ) (x : X) → sum_over f (replicate n x) ≡ n * f x
sum_over-replicate f zero x = omega arith
sum_over-replicate f (suc n) x = omega (arith, sum_over-replicate f n x)

-- the greatest of values that are all one number
pub greatest_same : {X : Type 0} (f : X → ℕ) (h : ℕ → X) (c s n : ℕ) → 0 < n → ((k : ℕ) → s ≤ k → k < s + n → f (h k) ≡ c) → greatest_over f (map h (range_with_len s n)) ≡ c
greatest_same f h c s zero some e = absurd (omega (arith, some))
greatest_same f h c s (suc zero) some e = omega (arith, e s (omega arith) (omega arith))
greatest_same f h c s (suc (suc n)) some e =
    let rest = greatest_same f h c (s + 1) (suc n) (omega arith) (λ k a b. e k (omega (arith, a)) (omega (arith, b))) in
    omega (arith, rest, e s (omega arith) (omega arith))

-- the least common multiple of ones is 1
pub lcm_of_ones : (ns : List ℕ) → ((i : ℕ) → i < length ns → get_or ns i 1 ≡ 1) → lcm_of ns ≡ 1
lcm_of_ones [] e = refl
lcm_of_ones (n ∷ ns) e = ap (λ k. lcm k (lcm_of ns)) (e 0 (omega arith)) ∙ ap (lcm 1) (lcm_of_ones ns (λ i l. e (suc i) (omega (arith, l))))

-- where the greatest value is at most n, each is
values_le : {X : Type 0} (f : X → ℕ) (n : ℕ) (xs : List X) → greatest_over f xs ≤ n → AllByRecursion (λ x. f x ≤ n) xs
values_le f n [] h = tt
values_le f n (x ∷ xs) h = (omega (arith, h), values_le f n xs (omega (arith, h)))

-- no value is above the greatest
pub greatest_over_le : {X : Type 0} (f : X → ℕ) (xs : List X) → All (λ x. f x ≤ greatest_over f xs) xs
greatest_over_le f xs = All-from_recursion (λ x. f x ≤ greatest_over f xs) xs (values_le f (greatest_over f xs) xs (omega arith))
