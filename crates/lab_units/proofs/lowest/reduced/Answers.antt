use Rattle.std.proofs.Common.{◌≡◌, ◌<◌, ◌/◌, pos, ◌*ℤ◌, ℕ, sym, ap, subst, ◌∙◌, rules}
use lib.Signed.{lt_z}
use Rattle.std.specs.Int.RustNames.{unsigned_abs, FitsSigned}
use Rattle.std.specs.Int.{w128, IsGcd}
use Rattle.std.proofs.lemmas.Int.{to_z-of_z}
use Rattle.lab_math.proofs.DivisorLemmas.{gcd_pos}
use Rattle.lab_math.specs.Divisors.{gcd}
use Rattle.lab_defs_text.specs.Numbers.{signed_of}
use Rattle.lab_defs_text.specs.Fractions.{lowest_num, lowest_den}
use Rattle.lab_defs_text.proofs.FractionLemmas.{lowest_same, lowest_is, lowest_den_pos}
use Rattle.lab_units.proofs.lowest.reduced.Goals as goal

-- the divisor is the greatest common one
divisor_is : (c : goal.After-with_sign) → c.greatest_common_divisor-divisor.result ≡ gcd (unsigned_abs c.args.num) c.args.den
divisor_is c =
    let f : FitsSigned w128 c.args.num = c.ranges.num in
    c.greatest_common_divisor-divisor.ensures ∙ ap (λ x. gcd x c.args.den) (simp to_z-of_z at c.unsigned_abs-size.ensures.value)

-- it is at least 1
divisor_pos : (size den divisor : ℕ) → divisor ≡ gcd size den → 0 < den → 0 < divisor
divisor_pos size den divisor e some = subst (λ x. 0 < x) (sym e) (gcd_pos size den some)

-- the numerator is the one in lowest terms
num_is : (c : goal.After-with_sign) → c.with_sign.result ≡ lowest_num c.args.num c.args.den
num_is c =
    let f : FitsSigned w128 c.args.num = c.ranges.num in
    (simp to_z-of_z at c.with_sign.ensures)
    ∙ ap (λ x. signed_of (lt_z c.args.num (pos 0)) (x / c.greatest_common_divisor-divisor.result)) (simp to_z-of_z at c.unsigned_abs-size.ensures.value)
    ∙ ap (λ x. signed_of (lt_z c.args.num (pos 0)) (unsigned_abs c.args.num / x)) (divisor_is c)

-- likewise the denominator
den_is : (c : goal.After-with_sign) → c.args.den / c.greatest_common_divisor-divisor.result ≡ lowest_den c.args.num c.args.den
den_is c = ap (λ x. c.args.den / x) (divisor_is c)

pub nonzero_div-size : goal.nonzero_div-size
nonzero_div-size c = divisor_pos _ c.args.den _ c.greatest_common_divisor-divisor.ensures c.requires.some

pub nonzero_div-result : goal.nonzero_div-result
nonzero_div-result c = divisor_pos _ c.args.den _ c.greatest_common_divisor-divisor.ensures c.requires.some

pub returns-clause-same : goal.returns-clause-same
returns-clause-same c =
    let r : FitsSigned w128 c.with_sign.result = search rules in
    simp to_z-of_z
    (ap (λ z. z *ℤ pos c.args.den) (num_is c) ∙ lowest_same c.args.num c.args.den ∙ ap (λ n. c.args.num *ℤ pos n) (sym (den_is c)))

pub returns-clause-lowest : goal.returns-clause-lowest
returns-clause-lowest c =
    let r : FitsSigned w128 c.with_sign.result = search rules in
    simp to_z-of_z
    (subst (λ z. IsGcd (unsigned_abs z) (c.args.den / c.greatest_common_divisor-divisor.result) 1) (sym (num_is c))
    (subst (λ n. IsGcd (unsigned_abs (lowest_num c.args.num c.args.den)) n 1) (sym (den_is c)) (lowest_is c.args.num c.args.den c.requires.some)))

pub returns-clause-some : goal.returns-clause-some
returns-clause-some c = subst (λ n. 0 < n) (sym (den_is c)) (lowest_den_pos c.args.num c.args.den c.requires.some)
