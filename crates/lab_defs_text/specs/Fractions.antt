-- Fractions in lowest terms, and their bytes.
use Rattle.std.specs.Prelude.{ℕ, ◌/◌, ℤ, pos, int_lt, ◌∷◌, ◌++◌}
use Rattle.std.specs.Int.RustNames.{unsigned_abs}
use Rattle.lab_math.specs.Divisors.{gcd}
use Rattle.lab_defs_text.specs.Words.{Bytes}
use Rattle.lab_defs_text.specs.Numbers.{signed_of, numeral, signed_numeral}

-- the numerator of num / den in lowest terms
abbrev pub lowest_num : ℤ → ℕ → ℤ
lowest_num num den = signed_of (int_lt num (pos 0)) (unsigned_abs num / gcd (unsigned_abs num) den)

-- its denominator
abbrev pub lowest_den : ℤ → ℕ → ℕ
lowest_den num den = den / gcd (unsigned_abs num) den

-- a numerator, a slash and a denominator as they are
abbrev pub quotient_text : ℤ → ℕ → Bytes
quotient_text num den = signed_numeral num ++ (47 ∷ numeral den)

-- the bytes of num / den in lowest terms
abbrev pub fraction_text : ℤ → ℕ → Bytes
fraction_text num den = quotient_text (lowest_num num den) (lowest_den num den)
