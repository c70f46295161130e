-- Allowances as worths.
use Rattle.std.proofs.Common.{◌≡◌, ℕ, zero, suc, ◌+◌, ◌≤◌, ◌^◌, ◌≤ℤ◌, ◌∷◌, List, map, replicate, pos, refl, ap, ◌∙◌, arith}
use Rattle.std.specs.List.{All, range_with_len}
use Rattle.std.proofs.lemmas.Int.{ints}
use Rattle.std.proofs.lemmas.List.Elements.{All-map}
use Rattle.lab_units.specs.declared.worth.Worth.{Worth}
use Rattle.lab_rule.specs.Rules.{worths_of, AreAllowances}

-- nothing for each of some numbers
nothing_from : (s n : ℕ) → replicate n (record { 0 = pos 0 }) ≡ worths_of (map (λ i. 0) (range_with_len s n))
nothing_from s zero = refl
nothing_from s (suc n) = ap (λ (ws : List Worth). record { 0 = pos 0 } ∷ ws) (nothing_from (s + 1) n)

-- nothing for each root set
pub nothing_allowed : (n roots : ℕ) → n ≡ roots → replicate n (record { 0 = pos 0 }) ≡ worths_of (map (λ i. 0) (range_with_len 0 roots))
nothing_allowed n roots e = ap (λ k. replicate k (record { 0 = pos 0 })) e ∙ nothing_from 0 roots

-- numbers that are at most 2^123 may be allowances
pub allowances_are : (numbers : List ℕ) → All (λ n. n ≤ 2 ^ 123) numbers → AreAllowances (worths_of numbers)
allowances_are numbers small =
    All-map (λ (w : Worth). (pos 0 ≤ℤ w.0) × (w.0 ≤ℤ pos (2 ^ 123))) (λ n. record { 0 = pos n }) numbers (λ i d l. let le = small i d l in (omega (arith, ints), omega (arith, ints, le)))
