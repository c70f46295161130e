-- Greatest common divisors and least common multiples.
use Rattle.std.specs.Prelude.{ℕ, zero, suc, ◌*◌, ◌/◌, ◌%◌, List, [], ◌∷◌}

-- Euclid's remainders, at most n of them
abbrev pub gcd_within : ℕ → ℕ → ℕ → ℕ
gcd_within zero a b = a
gcd_within (suc n) a zero = a
gcd_within (suc n) a (suc b) = gcd_within n (suc b) (a % suc b)

-- the greatest common divisor: each remainder is below the one before, so b of them are enough
abbrev pub gcd : ℕ → ℕ → ℕ
gcd a b = gcd_within b a b

-- the least common multiple of two numbers
abbrev pub lcm : ℕ → ℕ → ℕ
lcm a b = a / gcd a b * b

-- the least common multiple of all, 1 where there is none
abbrev pub lcm_of : List ℕ → ℕ
lcm_of [] = 1
lcm_of (n ∷ ns) = lcm n (lcm_of ns)
