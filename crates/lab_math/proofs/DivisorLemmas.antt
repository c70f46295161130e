-- Greatest common divisors, and what is left when both numbers are divided by theirs.
use Rattle.std.proofs.Common.{◌≡◌, ℕ, zero, suc, ◌*◌, ◌/◌, ◌%◌, ◌<◌, ◌≤◌, refl, sym, ◌∙◌, ap, subst, arith}
use Rattle.std.specs.Int.{IsGcd, ◌∣◌}
use Rattle.std.proofs.Math.Nat.{div-mul_cancel, mul-div_cancel', dvd_of_mul-dvd-mul_left, mul-dvd-mul_left, one-dvd, mul_assoc, mul-one, pos_of_dvd_of_pos, dvd-mul_right}
use Rattle.std.proofs.lemmas.Nat.Gcd.{IsGcd-from_zero, IsGcd-from_mod, same_from_IsGcd}
use Rattle.lab_math.specs.Divisors.{gcd, gcd_within}

-- as many remainders as the second number says are enough
gcd_within_is : (n a b : ℕ) → b ≤ n → IsGcd a b (gcd_within n a b)
gcd_within_is zero a b h = IsGcd-from_zero a b (omega arith)
gcd_within_is (suc n) a zero h = IsGcd-from_zero a zero refl
gcd_within_is (suc n) a (suc b) h =
    IsGcd-from_mod a (suc b) (gcd_within n (suc b) (a % suc b)) (gcd_within_is n (suc b) (a % suc b) (omega arith))

-- the definition gives the greatest common divisor
pub gcd_is : (a b : ℕ) → IsGcd a b (gcd a b)
gcd_is a b = gcd_within_is b a b (omega arith)

-- it is the only one
pub gcd_unique : (a b g : ℕ) → IsGcd a b g → g ≡ gcd a b
gcd_unique a b g h = same_from_IsGcd a b g (gcd a b) h (gcd_is a b)

-- it is at least 1 where the second number is
pub gcd_pos : (a b : ℕ) → 0 < b → 0 < gcd a b
gcd_pos a b some = pos_of_dvd_of_pos (gcd_is a b).1 some

-- a number divided by a divisor of it is at least 1 where the number is
pub quotient_pos : (n g : ℕ) → 0 < n → g ∣ n → 0 < n / g
quotient_pos n g some h = pos_of_dvd_of_pos (subst (λ x. n / g ∣ x) (div-mul_cancel g h) (dvd-mul_right (n / g) g)) some

-- of a product of two multiples either may be divided
pub quotient_crossed : (a b g : ℕ) → g ∣ a → g ∣ b → a / g * b ≡ a * (b / g)
quotient_crossed a b g p q =
    ap (λ x. a / g * x) (sym (mul-div_cancel' g q)) ∙ sym (mul_assoc (a / g) g (b / g)) ∙ ap (λ x. x * (b / g)) (div-mul_cancel g p)

-- numbers divided by their greatest common divisor have no common divisor but 1
pub IsGcd-divided : (a b g : ℕ) → 0 < g → IsGcd a b g → IsGcd (a / g) (b / g) 1
IsGcd-divided a b g some h = (
  one-dvd (a / g),
  one-dvd (b / g),
  λ d p q.
      let first : g * d ∣ a = subst (λ x. g * d ∣ x) (mul-div_cancel' g h.0) (mul-dvd-mul_left d g p) in
      let second : g * d ∣ b = subst (λ x. g * d ∣ x) (mul-div_cancel' g h.1) (mul-dvd-mul_left d g q) in
      let all : g * d ∣ g * 1 = subst (λ x. g * d ∣ x) (sym (mul-one g)) (h.2 (g * d) first second) in
      dvd_of_mul-dvd-mul_left d some all,
)
