-- Powers of 0 and of 1, and powers that pass a limit.
use Rattle.std.proofs.Common.{◌≡◌, ℕ, zero, suc, ◌*◌, ◌/◌, ◌^◌, ◌<◌, ◌≤◌, refl, sym, ap, ◌∙◌, arith}
use Rattle.std.specs.Prelude.{min}
use Rattle.std.proofs.Math.Nat.{div-lt_iff_lt-mul, pow-suc, pow-le-pow_right}

-- 1 to any power
one_pow : (n : ℕ) → 1 ^ n ≡ 1
one_pow zero = refl
one_pow (suc n) = pow-suc 1 n ∙ omega (arith, one_pow n)

-- a single factor of 0 or of 1 is enough
pub few_factors : (base exp : ℕ) → base ≤ 1 → base ^ min exp 1 ≡ base ^ exp
few_factors base zero l = refl
few_factors zero (suc n) l =
    let one : min (suc n) 1 ≡ 1 = omega arith in ap (λ k. 0 ^ k) one ∙ omega (arith, pow-suc 0 n, pow-suc 0 0)
few_factors (suc zero) (suc n) l = one_pow (min (suc n) 1) ∙ sym (one_pow (suc n))
few_factors (suc (suc b)) (suc n) l = absurd (omega (arith, l))

-- where one more factor leads above the limit, so do more
pub passes : (base exp limit power i n : ℕ) → 0 < base → power ≡ base ^ i → i < n → base ^ n ≡ base ^ exp → limit / base < power → base ^ exp ≤ limit → ⊥
passes base exp limit power i n some e lt same l le =
    let more : base ^ suc i ≤ base ^ n = pow-le-pow_right some (omega (arith, lt)) in
    let one : limit < power * base = (div-lt_iff_lt-mul some).0 l in
    let step : base ^ suc i ≡ power * base = pow-suc base i ∙ ap (λ p. p * base) (sym e) in
    omega (arith, more, one, step, same, le)
