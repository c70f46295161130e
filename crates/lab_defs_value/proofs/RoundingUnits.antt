-- Where the units go that rounding leaves: one each to the first shares that may gain one.
use Rattle.std.proofs.Common.{◌≡◌, ◌⊎◌, ℕ, zero, suc, ◌+◌, ◌-◌, ◌*◌, ◌/◌, ◌<◌, ◌≤◌, List, [], ◌∷◌, map, length, Bool, true, false, cond, refl, sym, ap, ◌∙◌, subst, arith, inl, inr, lt-ltb}
use Rattle.std.specs.Prelude.{◌&&◌, nat_lt, slice_index}
use Rattle.std.proofs.lemmas.List.{length-map}
use Rattle.std.proofs.Math.Nat.{zero-div}
use Rattle.lab_math.specs.Sums.{sum_over}
use Rattle.lab_defs_game.proofs.RecallLemmas.{not_both}
use Rattle.lab_defs_value.specs.Rounding.{rounded, handed_out, part, may_gain, share_size}
use Rattle.lab_defs_value.specs.MatchingLaws.{UnitsLaw}
use Rattle.lab_defs_value.proofs.RoundingSums.{part_is, gain_is}

-- the unit that a share gains of those that are left
abbrev pub gain : (whole left share : ℕ) → ℕ
gain whole left share = cond (may_gain whole share && nat_lt 0 left) 1 0

-- the units that are left for the share of number i
abbrev pub left_at : (whole left : ℕ) → List ℕ → ℕ → ℕ
left_at whole left [] i = left
left_at whole left (s ∷ ss) zero = left
left_at whole left (s ∷ ss) (suc i) = left_at whole (left - gain whole left s) ss i

-- each share gets its part and what it gains
handed_one : (grid many whole left : ℕ) (ss : List ℕ) (i : ℕ) → i < length ss
    → slice_index (handed_out grid many whole left ss) i ≡ part grid many whole (slice_index ss i) + gain whole (left_at whole left ss i) (slice_index ss i)
handed_one grid many whole left [] i l = absurd (omega (arith, l))
handed_one grid many whole left (s ∷ ss) zero l = refl
handed_one grid many whole left (s ∷ ss) (suc i) l = handed_one grid many whole (left - gain whole left s) ss i (omega (arith, l))

-- no more units are left than there were
left_within : (whole left : ℕ) (ss : List ℕ) (i : ℕ) → left_at whole left ss i ≤ left
left_within whole left [] i = omega arith
left_within whole left (s ∷ ss) zero = omega arith
left_within whole left (s ∷ ss) (suc i) = let rest = left_within whole (left - gain whole left s) ss i in omega (arith, rest)

-- nor more for a later share
left_falls : (whole left : ℕ) (ss : List ℕ) (i j : ℕ) → i ≤ j → left_at whole left ss j ≤ left_at whole left ss i
left_falls whole left [] i j le = omega arith
left_falls whole left (s ∷ ss) zero j le = left_within whole left (s ∷ ss) j
left_falls whole left (s ∷ ss) (suc i) zero le = absurd (omega (arith, le))
left_falls whole left (s ∷ ss) (suc i) (suc j) le = left_falls whole (left - gain whole left s) ss i j (omega (arith, le))

-- a share that may not gain has no part
part_none : (grid many whole share : ℕ) → may_gain whole share ≡ false → part grid many whole share ≡ 0
part_none grid many zero share e = absurd (not_both refl e)
part_none grid many (suc whole) zero e = part_is grid many whole 0 ∙ ap (λ n. n / suc whole) nothing ∙ zero-div (suc whole)
  where
    nothing : grid * 0 ≡ 0
    nothing = omega arith
part_none grid many (suc whole) (suc share) e = absurd (not_both (gain_is whole (suc share) ∙ lt-ltb 0 (suc share) (omega arith)) e)

-- a share gains a unit or none
gain_any : (m : Bool) (left : ℕ) → (◌≡◌ {A = ℕ} (cond (m && nat_lt 0 left) 1 0) 0) ⊎ (◌≡◌ {A = ℕ} (cond (m && nat_lt 0 left) 1 0) 1)
gain_any m left = at (m && nat_lt 0 left)
  where
    at : (b : Bool) → (◌≡◌ {A = ℕ} (cond b 1 0) 0) ⊎ (◌≡◌ {A = ℕ} (cond b 1 0) 1)
    at true = inr refl
    at false = inl refl

-- where a share gains a unit, one was left
gain_left : (m : Bool) (left : ℕ) → ◌≡◌ {A = ℕ} (cond (m && nat_lt 0 left) 1 0) 1 → 0 < left
gain_left false left e = absurd (omega (arith, e))
gain_left true zero e = absurd (omega (arith, e))
gain_left true (suc left) e = omega arith

-- the law of units
pub units_law : UnitsLaw
units_law grid shares = (none, one_of, first)
  where
    sizes : List ℕ
    sizes = map share_size shares

    whole : ℕ
    whole = sum_over (λ s. s) sizes

    left : ℕ
    left = grid - sum_over (part grid (length sizes) whole) sizes

    -- what each share gets
    each : (i : ℕ) → i < length shares
        → slice_index (rounded grid shares) i ≡ part grid (length shares) whole (slice_index sizes i) + gain whole (left_at whole left sizes i) (slice_index sizes i)
    each i l =
        handed_one grid (length sizes) whole left sizes i (subst (λ n. i < n) (sym (length-map shares share_size)) l)
        ∙ ap (λ n. part grid n whole (slice_index sizes i) + gain whole (left_at whole left sizes i) (slice_index sizes i)) (length-map shares share_size)

    none : (i : ℕ) → i < length shares → may_gain whole (slice_index sizes i) ≡ false → slice_index (rounded grid shares) i ≡ 0
    none i l e =
        each i l ∙ ap (λ b. part grid (length shares) whole (slice_index sizes i) + cond (b && nat_lt 0 (left_at whole left sizes i)) 1 0) e
        ∙ ap (λ n. n + 0) (part_none grid (length shares) whole (slice_index sizes i) e)

    base : ℕ → ℕ
    base i = part grid (length shares) whole (slice_index sizes i)

    one_of : (i : ℕ) → i < length shares → may_gain whole (slice_index sizes i) ≡ true
        → (slice_index (rounded grid shares) i ≡ base i) ⊎ (slice_index (rounded grid shares) i ≡ base i + 1)
    one_of i l e = elim (gain_any (may_gain whole (slice_index sizes i)) (left_at whole left sizes i)) [
      | inl z ↦ inl (let h = each i l in omega (arith, h, z))
      | inr o ↦ inr (let h = each i l in omega (arith, h, o))
    ]

    first : (i j : ℕ) → i < j → j < length shares → may_gain whole (slice_index sizes i) ≡ true
        → slice_index (rounded grid shares) j ≡ base j + 1 → slice_index (rounded grid shares) i ≡ base i + 1
    first i j less l e got =
        let h = each j l in
        let some : 0 < left_at whole left sizes j = gain_left (may_gain whole (slice_index sizes j)) (left_at whole left sizes j) (omega (arith, h, got)) in
        let falls = left_falls whole left sizes i j (omega (arith, less)) in
        each i (omega (arith, less, l))
        ∙ ap (λ b. base i + cond (b && nat_lt 0 (left_at whole left sizes i)) 1 0) e
        ∙ ap (λ b. base i + cond b 1 0) (lt-ltb 0 (left_at whole left sizes i) (omega (arith, some, falls)))
