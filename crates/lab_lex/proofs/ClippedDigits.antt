-- The value of digits, clipped at a greatest number.
use Rattle.std.proofs.Common.{◌≡◌, ℕ, ◌+◌, ◌*◌, ◌-◌, ◌<◌, min, List, length, get_or, take, true, arith}
use Rattle.std.specs.Char.{is_ascii_digit}
use Rattle.std.specs.List.{list_all}
use Rattle.std.specs.Str.Parse.{digits_value}
use Rattle.std.proofs.lemmas.Int.Digits.{digits_value_more}
use Rattle.lab_defs_text.proofs.DigitLemmas.{digit_at, digit_value_is}

-- one digit more
pub clipped_more : (ds : List ℕ) (i value limit : ℕ) → list_all is_ascii_digit ds ≡ true → i < length ds → value ≡ min (digits_value 10 (take i ds)) limit → min (min (value * 10) limit + (get_or ds i 0 - 48)) limit ≡ min (digits_value 10 (take (i + 1) ds)) limit
clipped_more ds i value limit all h e =
    let r = digit_at ds i all h in
    omega (arith, r, digits_value_more 10 ds i h, digit_value_is (get_or ds i 0) r.0 r.1)
