-- The even split: the rounding of shares that are all 0.
use Rattle.std.proofs.Common.{◌≡◌, ℕ, zero, suc, ◌+◌, ◌-◌, ◌/◌, ◌%◌, ◌<◌, ◌≤◌, pos, ◌∷◌, map, get_or, replicate, refl, sym, ap, ◌∙◌, arith, inl, inr, ◌⊎◌}
use Rattle.std.specs.Prelude.{nat_lt, if◌then◌else◌, slice_index}
use Rattle.std.proofs.lemmas.List.{length-replicate}
use Rattle.std.proofs.lemmas.Nat.{div-add-mod'}
use Rattle.std.proofs.lemmas.Bool.{lt-ltb, le-ltb, cases_lt}
use Rattle.lab_math.specs.Sums.{sum_over}
use Rattle.lab_math.proofs.SumLemmas.{sum_over-replicate}
use Rattle.lab_defs_value.specs.Rounding.{even_part, rounded, rounded_sizes, handed_out, part, share_size}

-- zeros have size 0
zero_sizes : (n : ℕ) → map share_size (replicate n (pos 0)) ≡ replicate n 0
zero_sizes zero = refl
zero_sizes (suc n) = ap (λ t. 0 ∷ t) (zero_sizes n)

-- once the first has had its unit, one fewer of the rest have theirs
less_left : (a left : ℕ) → nat_lt a (left - (if nat_lt 0 left then 1 else 0)) ≡ nat_lt (suc a) left
less_left a zero = le-ltb a 0 (omega arith) ∙ sym (le-ltb (suc a) 0 (omega arith))
less_left a (suc left) = ap (λ b. nat_lt a (suc left - (if b then 1 else 0))) (lt-ltb 0 (suc left) (omega arith)) ∙ at (cases_lt a left)
  where
    one : suc left - 1 ≡ left
    one = omega arith

    at : (a < left) ⊎ (left ≤ a) → nat_lt a (suc left - 1) ≡ nat_lt (suc a) (suc left)
    at (inl l) = ap (nat_lt a) one ∙ lt-ltb a left l ∙ sym (lt-ltb (suc a) (suc left) (omega (arith, l)))
    at (inr h) = ap (nat_lt a) one ∙ le-ltb a left h ∙ sym (le-ltb (suc a) (suc left) (omega (arith, h)))

-- each gets the even part, and the first `left` of them one more
handed_at : (grid many left n a : ℕ) → a < n → get_or (handed_out grid many 0 left (replicate n 0)) a 0 ≡ grid / many + (if nat_lt a left then 1 else 0)
handed_at grid many left zero a l = absurd (omega (arith, l))
handed_at grid many left (suc n) zero l = refl
handed_at grid many left (suc n) (suc a) l =
    handed_at grid many (left - (if nat_lt 0 left then 1 else 0)) n a (omega (arith, l))
    ∙ ap (λ b. grid / many + (if b then 1 else 0)) (less_left a left)

-- what is left when each has the even part is the remainder
left_is : (grid n : ℕ) → grid - sum_over (part grid n 0) (replicate n 0) ≡ grid % n
left_is grid n = omega (arith, sum_over-replicate (part grid n 0) n 0, div-add-mod' grid n)

-- the weight of action a of n, where the grid is split evenly
pub even_split : (grid n a : ℕ) → a < n → slice_index (rounded grid (replicate n (pos 0))) a ≡ even_part grid n a
even_split grid n a l =
    let whole : sum_over (λ s. s) (replicate n 0) ≡ 0 = omega (arith, sum_over-replicate (λ s. s) n 0) in
    ap (λ ss. slice_index (rounded_sizes grid ss) a) (zero_sizes n)
    ∙ ap (λ m. slice_index (handed_out grid m (sum_over (λ s. s) (replicate n 0)) (grid - sum_over (part grid m (sum_over (λ s. s) (replicate n 0))) (replicate n 0)) (replicate n 0)) a) (length-replicate n 0)
    ∙ ap (λ t. slice_index (handed_out grid n t (grid - sum_over (part grid n t) (replicate n 0)) (replicate n 0)) a) whole
    ∙ ap (λ t. slice_index (handed_out grid n 0 t (replicate n 0)) a) (left_is grid n)
    ∙ handed_at grid n (grid % n) n a l
