-- Whole numbers and their one spelling.
use Rattle.std.specs.Prelude.{ℕ, zero, suc, ◌+◌, ◌/◌, ◌%◌, ℤ, pos, negsuc, neg_ℤ, [], ◌∷◌, Bool, not, ◌&&◌, ◌||◌, ◌==◌, nat_lt, length, drop, slice_index, if◌then◌else◌}
use Rattle.std.specs.Char.{is_ascii_digit}
use Rattle.std.specs.List.{list_all}
use Rattle.std.specs.Str.Parse.{digits_value}
use Rattle.lab_defs_text.specs.Words.{Bytes}

-- the digits of n before others, where it has at most `places` of them
abbrev pub numeral_before : ℕ → ℕ → Bytes → Bytes
numeral_before zero n digits = digits
numeral_before (suc places) n digits = if nat_lt n 10 then (48 + n) ∷ digits else numeral_before places (n / 10) ((48 + n % 10) ∷ digits)

-- the spelling of a natural number below 10 ^ 40, so of each number of 128 bits
abbrev pub numeral : ℕ → Bytes
numeral n = numeral_before 40 n []

-- the spelling of an integer
abbrev pub signed_numeral : ℤ → Bytes
signed_numeral (pos n) = numeral n
signed_numeral (negsuc n) = 45 ∷ numeral (n + 1)

-- `0`, or a digit from 1 to 9 followed by any digits
abbrev pub is_unsigned : Bytes → Bool
is_unsigned word = nat_lt 0 (length word) && ((length word == 1 || not (slice_index word 0 == 48)) && list_all is_ascii_digit word)

-- such digits, or `-` before ones other than `0`
abbrev pub is_whole : Bytes → Bool
is_whole word = if slice_index word 0 == 45 then (is_unsigned (drop 1 word) && not (slice_index word 1 == 48)) else is_unsigned word

-- the number of this size, below zero where the test says so
abbrev pub signed_of : Bool → ℕ → ℤ
signed_of below_zero size = if below_zero then neg_ℤ (pos size) else pos size

-- the size of the number that a word spells
abbrev pub whole_size : Bytes → ℕ
whole_size word = digits_value 10 (if slice_index word 0 == 45 then drop 1 word else word)

-- the number that a word spells
abbrev pub whole_value : Bytes → ℤ
whole_value word = signed_of (slice_index word 0 == 45) (whole_size word)
