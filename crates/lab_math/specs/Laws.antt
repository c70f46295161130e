-- Laws of greatest common divisors and least common multiples.
use Rattle.std.specs.Prelude.{ℕ, List}
use Rattle.std.specs.Int.{IsGcd, ◌∣◌}
use Rattle.std.specs.List.{Contains}
use Rattle.lab_math.specs.Divisors.{gcd, lcm, lcm_of}

-- the last of Euclid's remainders divides both numbers, and each number that divides both divides it
abbrev pub GcdLaw : Type 0
GcdLaw = (a b : ℕ) → IsGcd a b (gcd a b)

-- both numbers divide their least common multiple, and it divides each number that both divide
abbrev pub LcmLaw : Type 0
LcmLaw = (a b : ℕ) → (a ∣ lcm a b) × (b ∣ lcm a b) × ((m : ℕ) → a ∣ m → b ∣ m → lcm a b ∣ m)

-- several numbers divide their least common multiple, and it divides each number that all of them divide
abbrev pub LcmOfLaw : Type 0
LcmOfLaw = (ns : List ℕ) → ((n : ℕ) → Contains ns n → n ∣ lcm_of ns) × ((m : ℕ) → ((n : ℕ) → Contains ns n → n ∣ m) → lcm_of ns ∣ m)
