-- What the lowest terms of a fraction are.
use Rattle.std.proofs.Common.{◌≡◌, ℕ, zero, suc, ◌*◌, ◌/◌, ◌<◌, ◌≤◌, ℤ, pos, negsuc, ◌*ℤ◌, Bool, true, false, refl, sym, ◌∙◌, ap, subst, arith, rules, ◌++◌, ◌∷◌, ◌^◌, int_lt}
use Rattle.std.specs.Int.{IsGcd}
use Rattle.std.specs.Int.RustNames.{unsigned_abs}
use Rattle.std.proofs.Math.Nat.{div-le_self}
use Rattle.lab_math.specs.Divisors.{gcd}
use Rattle.lab_math.proofs.Ring.{neg-*ℤ}
use Rattle.lab_math.proofs.DivisorLemmas.{gcd_is, gcd_pos, quotient_pos, quotient_crossed, IsGcd-divided}
use Rattle.std.specs.Fmt.{decimal, signed_decimal}
use Rattle.lab_defs_text.proofs.NumeralLemmas.{numeral_is, signed_numeral_is}
use Rattle.lab_defs_text.specs.Numbers.{signed_of, numeral}
use Rattle.lab_defs_text.specs.Fractions.{lowest_num, lowest_den, quotient_text}
use Rattle.lab_defs_text.specs.Laws.{LowestLaw}

-- a number with a sign times one without has the sign
pub signed_of-times : (b : Bool) (n m : ℕ) → signed_of b n *ℤ pos m ≡ signed_of b (n * m)
signed_of-times true n m = neg-*ℤ (pos n) (pos m)
signed_of-times false n m = refl

-- the size of a number of a sign and a size
pub unsigned_abs-signed_of : (b : Bool) (n : ℕ) → unsigned_abs (signed_of b n) ≡ n
unsigned_abs-signed_of true zero = refl
unsigned_abs-signed_of true (suc n) = refl
unsigned_abs-signed_of false n = refl

-- each number is made of its sign and its size
pub signed_of-unsigned_abs : (z : ℤ) → signed_of (int_lt z (pos 0)) (unsigned_abs z) ≡ z
signed_of-unsigned_abs (pos n) = let e : int_lt (pos n) (pos 0) ≡ false = search rules in rw e refl
signed_of-unsigned_abs (negsuc n) = refl

-- lowest terms are the same fraction
pub lowest_same : (num : ℤ) (den : ℕ) → lowest_num num den *ℤ pos den ≡ num *ℤ pos (lowest_den num den)
lowest_same num den =
    let size = unsigned_abs num in
    let below_zero = int_lt num (pos 0) in
    let g = gcd size den in
    signed_of-times below_zero (size / g) den
    ∙ ap (λ x. signed_of below_zero x) (quotient_crossed size den g (gcd_is size den).0 (gcd_is size den).1)
    ∙ sym (signed_of-times below_zero size (den / g))
    ∙ ap (λ x. x *ℤ pos (den / g)) (signed_of-unsigned_abs num)

-- the size of the numerator in lowest terms
pub unsigned_abs-lowest_num : (num : ℤ) (den : ℕ) → unsigned_abs (lowest_num num den) ≡ unsigned_abs num / gcd (unsigned_abs num) den
unsigned_abs-lowest_num num den = unsigned_abs-signed_of (int_lt num (pos 0)) (unsigned_abs num / gcd (unsigned_abs num) den)

-- lowest terms have no common divisor but 1
pub lowest_is : (num : ℤ) (den : ℕ) → 0 < den → IsGcd (unsigned_abs (lowest_num num den)) (lowest_den num den) 1
lowest_is num den some =
    subst (λ x. IsGcd x (lowest_den num den) 1) (sym (unsigned_abs-lowest_num num den))
    (IsGcd-divided (unsigned_abs num) den (gcd (unsigned_abs num) den) (gcd_pos (unsigned_abs num) den some) (gcd_is (unsigned_abs num) den))

-- the denominator in lowest terms is at least 1
pub lowest_den_pos : (num : ℤ) (den : ℕ) → 0 < den → 0 < lowest_den num den
lowest_den_pos num den some = quotient_pos den (gcd (unsigned_abs num) den) some (gcd_is (unsigned_abs num) den).1

-- the law of lowest terms
pub lowest_law : LowestLaw
lowest_law num den some = (lowest_same num den, lowest_is num den some, lowest_den_pos num den some)

-- lowest terms are no larger
pub lowest_num_le : (num : ℤ) (den : ℕ) → unsigned_abs (lowest_num num den) ≤ unsigned_abs num
lowest_num_le num den = omega (arith, unsigned_abs-lowest_num num den, div-le_self (unsigned_abs num) (gcd (unsigned_abs num) den))

-- likewise of the denominator
pub lowest_den_le : (num : ℤ) (den : ℕ) → lowest_den num den ≤ den
lowest_den_le num den = div-le_self den (gcd (unsigned_abs num) den)

-- the text of a numerator and a denominator of 128 bits, in the decimals of std
pub quotient_text_is : (num : ℤ) (den : ℕ) → unsigned_abs num < 10 ^ 40 → den < 10 ^ 40 → quotient_text num den ≡ signed_decimal num ++ (47 ∷ decimal den)
quotient_text_is num den n d =
    ap (λ ds. ds ++ (47 ∷ numeral den)) (signed_numeral_is num n) ∙ ap (λ ds. signed_decimal num ++ (47 ∷ ds)) (numeral_is den d)
