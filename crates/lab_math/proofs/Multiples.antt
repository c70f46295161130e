-- Each number divides the least common multiple, which divides each common multiple.
use Rattle.std.proofs.Common.{◌≡◌, ℕ, zero, suc, ◌*◌, ◌/◌, ◌<◌, List, [], ◌∷◌, refl, sym, ap, ◌∙◌, subst, arith, inl, inr}
use Rattle.std.specs.Int.{◌∣◌}
use Rattle.std.proofs.Math.Nat.{dvd-mul_right, dvd-mul_left, mul-div_cancel', mul-dvd-mul_left, mul-dvd-mul_right, dvd_of_mul-dvd-mul_left, one-dvd, mul_assoc, mul_comm}
use Rattle.std.proofs.lemmas.Nat.Gcd.{dvd_trans, dvd-zero}
use Rattle.lab_math.specs.Divisors.{gcd, lcm, lcm_of}
use Rattle.lab_math.specs.Laws.{LcmLaw, LcmOfLaw}
use Rattle.lab_math.proofs.DivisorLemmas.{gcd_is, gcd_pos, quotient_crossed}
use Rattle.lab_math.proofs.Members.{In, in_from_contains, contains_from_in}

-- the first number divides the least common multiple of two
pub divides_lcm_first : (a b : ℕ) → a ∣ lcm a b
divides_lcm_first a b = subst (λ n. a ∣ n) (sym (quotient_crossed a b (gcd a b) (gcd_is a b).0 (gcd_is a b).1)) (dvd-mul_right a (b / gcd a b))

-- and so does the second
pub divides_lcm_second : (a b : ℕ) → b ∣ lcm a b
divides_lcm_second a b = dvd-mul_left b (a / gcd a b)

-- each of several divides that of all
pub divides_lcm_of : (ns : List ℕ) (n : ℕ) → In n ns → n ∣ lcm_of ns
divides_lcm_of [] n i = absurd i
divides_lcm_of (m ∷ ns) n (inl e) = subst (λ k. k ∣ lcm_of (m ∷ ns)) e (divides_lcm_first m (lcm_of ns))
divides_lcm_of (m ∷ ns) n (inr i) = dvd_trans n (divides_lcm_of ns n i) (divides_lcm_second m (lcm_of ns))

-- ---- common multiples

-- a common divisor of two multiples divides that multiple of the greatest common divisor
scaled : (n a b d : ℕ) → 0 < n → d ∣ n * a → d ∣ n * b → d ∣ n * gcd a b
scaled n a b d some p q =
    let r = gcd_is (n * a) (n * b) in
    let n_divides : n ∣ gcd (n * a) (n * b) = r.2 n (dvd-mul_right n a) (dvd-mul_right n b) in
    let whole : n * (gcd (n * a) (n * b) / n) ≡ gcd (n * a) (n * b) = mul-div_cancel' n n_divides in
    let first : gcd (n * a) (n * b) / n ∣ a = dvd_of_mul-dvd-mul_left (gcd (n * a) (n * b) / n) some (subst (λ k. k ∣ n * a) (sym whole) r.0) in
    let second : gcd (n * a) (n * b) / n ∣ b = dvd_of_mul-dvd-mul_left (gcd (n * a) (n * b) / n) some (subst (λ k. k ∣ n * b) (sym whole) r.1) in
    let all : gcd (n * a) (n * b) ∣ n * gcd a b = subst (λ k. k ∣ n * gcd a b) whole (mul-dvd-mul_left (gcd (n * a) (n * b) / n) n ((gcd_is a b).2 (gcd (n * a) (n * b) / n) first second)) in
    dvd_trans d (r.2 d p q) all

-- the greatest common divisor times the least common multiple is the product
gcd_lcm : (a b : ℕ) → gcd a b * lcm a b ≡ a * b
gcd_lcm a b = sym (mul_assoc (gcd a b) (a / gcd a b) b) ∙ ap (λ k. k * b) (mul-div_cancel' (gcd a b) (gcd_is a b).0)

-- the least common multiple of two divides each common multiple
pub lcm_divides : (a b m : ℕ) → a ∣ m → b ∣ m → lcm a b ∣ m
lcm_divides a zero m p q = subst (λ k. k ∣ m) (none (a / gcd a zero)) q
  where
    none : (k : ℕ) → zero ≡ k * zero
    none k = omega arith
lcm_divides a (suc b) zero p q = dvd-zero (lcm a (suc b))
lcm_divides a (suc b) (suc m) p q =
    let first : a * suc b ∣ suc m * a = subst (λ k. a * suc b ∣ k) (mul_comm a (suc m)) (mul-dvd-mul_left (suc b) a q) in
    let second : a * suc b ∣ suc m * suc b = mul-dvd-mul_right a p (suc b) in
    let both : a * suc b ∣ suc m * gcd a (suc b) = scaled (suc m) a (suc b) (a * suc b) (omega arith) first second in
    let through : gcd a (suc b) * lcm a (suc b) ∣ gcd a (suc b) * suc m = subst (λ k. k ∣ gcd a (suc b) * suc m) (sym (gcd_lcm a (suc b))) (subst (λ k. a * suc b ∣ k) (mul_comm (suc m) (gcd a (suc b))) both) in
    dvd_of_mul-dvd-mul_left (lcm a (suc b)) (gcd_pos a (suc b) (omega arith)) through

-- that of several divides each number that all of them divide
pub lcm_of_divides : (ns : List ℕ) (m : ℕ) → ((n : ℕ) → In n ns → n ∣ m) → lcm_of ns ∣ m
lcm_of_divides [] m all = one-dvd m
lcm_of_divides (n ∷ ns) m all = lcm_divides n (lcm_of ns) m (all n (inl refl)) (lcm_of_divides ns m (λ k i. all k (inr i)))

-- ---- the laws

-- the law of the least common multiple of two numbers
pub lcm_law : LcmLaw
lcm_law a b = (divides_lcm_first a b, divides_lcm_second a b, lcm_divides a b)

-- that of several
pub lcm_of_law : LcmOfLaw
lcm_of_law ns = (λ n c. divides_lcm_of ns n (in_from_contains ns n c), λ m all. lcm_of_divides ns m (λ n i. all n (contains_from_in ns n i)))
