-- The numerals of the texts are the decimals of std.
use Rattle.std.proofs.Common.{◌≡◌, ℕ, suc, ◌+◌, ◌^◌, ◌<◌, ℤ, pos, negsuc, [], ◌∷◌, refl, ap, ◌∙◌, arith}
use Rattle.std.specs.Fmt.{decimal, signed_decimal}
use Rattle.std.specs.Int.RustNames.{unsigned_abs}
use Rattle.std.proofs.lemmas.Bool.{lt-ltb, le-ltb}
use Rattle.std.proofs.lemmas.List.{append-nil}
use Rattle.std.proofs.lemmas.Fmt.{decimal_from_prepends_wide, PrependsLastDigit, length-decimal-le_wide}
use Rattle.lab_defs_text.specs.Numbers.{numeral, numeral_before, signed_numeral}

-- digits are put down from the last one on
prepends : PrependsLastDigit numeral_before
prepends = record { one = λ k n acc h. rw (lt-ltb n 10 h) refl; more = λ k n acc h. rw (le-ltb n 10 h) refl }

-- the numeral of a number below 10 ^ 40 is its decimal
pub numeral_is : (n : ℕ) → n < 10 ^ 40 → numeral n ≡ decimal n
numeral_is n h =
    let wide : n < 10 ^ 64 = omega (arith, h) in
    decimal_from_prepends_wide numeral_before prepends 40 n [] wide (length-decimal-le_wide 40 n (omega arith) h wide)
    ∙ append-nil (decimal n)

-- likewise of an integer
pub signed_numeral_is : (z : ℤ) → unsigned_abs z < 10 ^ 40 → signed_numeral z ≡ signed_decimal z
signed_numeral_is (pos n) h = numeral_is n h
signed_numeral_is (negsuc n) h =
    let e : n + 1 ≡ suc n = omega arith in
    ap (λ m. 45 ∷ numeral m) e ∙ ap (λ ds. 45 ∷ ds) (numeral_is (suc n) h)
