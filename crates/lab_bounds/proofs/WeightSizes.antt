-- How large the weights of a table are.
use Rattle.std.proofs.Common.{◌≡◌, ℕ, zero, suc, ◌+◌, ◌-◌, ◌*◌, ◌^◌, ◌<◌, ◌≤◌, List, [], ◌∷◌, Bool, true, false, cond, length, get_or, refl, sym, ap, ◌∙◌, subst, arith, inl, inr, mul-le-mul, le_of_eq, one-add, zero-add}
use native.Mathlib.Nat.{pow-succ', pow-zero}
use Rattle.std.specs.Prelude.{nat_le, slice_index}
use Rattle.std.proofs.lemmas.Bool.{cases_lt}
use Rattle.std.proofs.lemmas.List.{drop_more, get_or_past}
use Rattle.lab_math.specs.Sums.{product_over}
use Rattle.lab_math.proofs.BelowLemmas.{sum_below_term}
use Rattle.lab_defs_game.specs.Paths.{SetAction}
use Rattle.lab_defs_game.specs.Forms.{decides, deciding}
use Rattle.lab_defs_value.specs.Tables.{weights_of, first_weight, factor, own_weight}
use Rattle.lab_defs_value.specs.Replies.{SumsToGrid}
use Rattle.lab_defs_value.proofs.SubgameRows.{first_weight_from}
use Rattle.lab_defs_value.proofs.Tails.{pow_join}
use Rattle.lab_table.specs.Tables.{AreWeights}
use Rattle.lab_table.proofs.CallerLemmas.{weights_sum}

-- a set with weights decides, and has one for each action
some_weights : (m : ℕ) → 0 < weights_of m → (nat_le 2 m ≡ true) × (weights_of m ≡ m)
some_weights m = at (nat_le 2 m)
  where
    at : (b : Bool) → 0 < cond b m 0 → (b ≡ true) × (cond b m 0 ≡ m)
    at true l = (refl, refl)
    at false l = absurd (omega (arith, l))

-- the weights of the next set come after those of a set
next_weight : (ns : List ℕ) (n : ℕ) → n < length ns → first_weight ns (suc n) ≡ first_weight ns n + weights_of (slice_index ns n)
next_weight ns n l =
    let one : n + 1 ≡ suc n = omega arith in
    sym (ap (first_weight ns) one) ∙ first_weight_from ns n 1 ∙ ap (λ xs. first_weight ns n + first_weight xs 1) (drop_more ns n 0 l) ∙ omega arith

-- no weight of the first sets passes the grid
weight_before : (grid : ℕ) (ns weights : List ℕ) → SumsToGrid grid ns weights → (n i : ℕ) → n ≤ length ns → i < first_weight ns n → get_or weights i 0 ≤ grid
weight_before grid ns weights sums zero i l b = absurd (omega (arith, b))
weight_before grid ns weights sums (suc n) i l b = elim (cases_lt i (first_weight ns n)) [
  | inl low ↦ weight_before grid ns weights sums n i (omega (arith, l)) low
  | inr ge ↦
      let first = first_weight ns n in
      let m = slice_index ns n in
      let next = next_weight ns n (omega (arith, l)) in
      let own = some_weights m (omega (arith, b, next, ge)) in
      let same : first + (i - first) ≡ i = omega (arith, ge) in
      let term = sum_below_term m (i - first) (λ a. get_or weights (first + a) 0) (omega (arith, b, next, ge, own.1)) in
      let sum = sums n (omega (arith, l)) own.0 in
      omega (arith, term, sum, ap (λ k. get_or weights k 0) same)
]

-- no weight of a table passes its grid
pub weight_within : (grid : ℕ) (ns weights : List ℕ) → AreWeights grid ns weights → (i : ℕ) → get_or weights i 0 ≤ grid
weight_within grid ns weights ok i = elim (cases_lt i (length weights)) [
  | inl l ↦ weight_before grid ns weights (weights_sum grid ns weights ok) (length ns) i (omega arith) (subst (λ n. i < n) ok.count l)
  | inr ge ↦ omega (arith, get_or_past weights i 0 ge)
]

-- the factors on a path come to at most the grid for each decision
factors_within : (grid : ℕ) (ns weights : List ℕ) → AreWeights grid ns weights → (path : List SetAction) → product_over (factor ns weights) path ≤ grid ^ deciding ns path
factors_within grid ns weights ok [] = le_of_eq (sym (pow-zero grid))
factors_within grid ns weights ok (t ∷ ts) = at (decides ns t.set) (weight_within grid ns weights ok (first_weight ns t.set + t.action)) (factors_within grid ns weights ok ts)
  where
    at : (b : Bool) → get_or weights (first_weight ns t.set + t.action) 0 ≤ grid → product_over (factor ns weights) ts ≤ grid ^ deciding ns ts
        → cond b (get_or weights (first_weight ns t.set + t.action) 0) 1 * product_over (factor ns weights) ts ≤ grid ^ (cond b 1 0 + deciding ns ts)
    at true here rest = rw one-add (subst (λ x. get_or weights (first_weight ns t.set + t.action) 0 * product_over (factor ns weights) ts ≤ x) (sym (pow-succ' grid (deciding ns ts))) (mul-le-mul here rest))
    at false here rest = rw zero-add (omega (arith, rest))

-- an own weight comes to at most the grid for each factor
pub own_within : (grid : ℕ) (ns weights : List ℕ) → AreWeights grid ns weights → (path : List SetAction) (pad : ℕ) → own_weight grid ns weights path pad ≤ grid ^ (deciding ns path + pad)
own_within grid ns weights ok path pad =
    subst (λ x. own_weight grid ns weights path pad ≤ x) (pow_join grid (deciding ns path) pad (deciding ns path + pad) refl)
    (mul-le-mul (factors_within grid ns weights ok path) (le_of_eq refl))
