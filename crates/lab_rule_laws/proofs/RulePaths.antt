-- Each rule keeps the bounds: values within its limits at a node are so along the path.
use Rattle.std.proofs.Common.{◌≡◌, ℕ, zero, suc, ◌+◌, ◌<◌, ◌≤◌, ℤ, pos, negsuc, ◌+ℤ◌, ◌-ℤ◌, ◌≤ℤ◌, List, [], ◌∷◌, Bool, true, false, Option, Some, None, length, map, refl, ap, ◌∙◌, arith, inl, inr, ltb-true}
use Rattle.std.specs.Prelude.{nat_lt, slice_index}
use Rattle.std.specs.List.{AllByRecursion, range_with_len, fold}
use Rattle.std.specs.Int.{int_max}
use Rattle.std.proofs.lemmas.Int.{ints, clamps}
use Rattle.lab_defs_text.specs.Texts.{one_of}
use Rattle.lab_math.specs.Sums.{total, sum_over}
use Rattle.lab_math.proofs.Integers.{le_trans_z}
use Rattle.lab_math.proofs.Members.{In, all_from_in, in_from_range, in_from_filter}
use Rattle.lab_math.proofs.Elements.{all_map}
use Rattle.lab_defs_game.specs.Paths.{SetAction, is_taken}
use Rattle.lab_defs_game.specs.Forms.{parent_of}
use Rattle.lab_defs_value.specs.Rounding.{share_size}
use Rattle.lab_defs_value.specs.Parents.{IsStepBelow}
use Rattle.lab_defs_value.specs.Replies.{Strategy, opponent, reply_sets}
use Rattle.lab_defs_value.specs.Bounds.{through, Holds}
use Rattle.lab_defs_value.specs.Allowances.{Rule, cfrd, reach, margin, pool, shared, allowance, Ascends, path_followers}
use Rattle.lab_defs_value.specs.Passes.{limit}
use Rattle.lab_defs_value.specs.Laws.{Sound}
use Rattle.lab_defs_value.proofs.Bests.{follows_after}
use Rattle.lab_defs_value.proofs.Lying.{lies_from_in}
use Rattle.lab_defs_value.proofs.Pools.{reach_law, pool_law}
use Rattle.lab_defs_value.proofs.Safety.{below_end}
use Rattle.lab_rule_laws.specs.Rules.{through_along, path_actions, backed_along, IsAlong, AllowanceLaw, RuleLaw}

-- ---- what the allowances keep

-- a size of what is not negative
pub share_is : (z : ℤ) → pos 0 ≤ℤ z → pos (share_size z) ≡ z
share_is (pos n) h = refl
share_is (negsuc n) h = absurd (omega (arith, ints, h))

-- no allowances sum to none
pub sum_none : (list : List ℕ) → sum_over (λ I. 0) list ≡ 0
sum_none [] = refl
sum_none (I ∷ list) = omega (arith, sum_none list)

-- a rule that allows nothing
nothing_kept : (s : Strategy) (B : ℕ → ℤ) (path : List ℕ) (J a : ℕ) → through s B J a ≤ℤ B J → (through s B J a +ℤ pos (sum_over (λ I. 0) (path_followers s path J a))) ≤ℤ (B J +ℤ pos 0)
nothing_kept s B path J a le = let none = sum_none (path_followers s path J a) in omega (arith, ints, le, none)

-- the law of allowances
pub allowance_law : AllowanceLaw
allowance_law cfrd s ok B high path order J a l k some = nothing_kept s B path J a (high J a l k)
allowance_law margin s ok B high path order J a l k some = nothing_kept s B path J a (high J a l k)
allowance_law reach s ok B high path order J a l k some =
    let allow = allowance reach s B path in
    let whole : sum_over allow (path_followers s path J a) ≡ pool s B allow J a = pool_law s ok B path order J a some in
    let le : through s B J a ≤ℤ B J = high J a l k in
    let size = share_is (pos (allow J) +ℤ (B J -ℤ through s B J a)) (omega (arith, ints, le)) in
    omega (arith, ints, whole, size)

-- a set that follows none has no allowance
first_allowance : (rule : Rule) (s : Strategy) → Sound s → (B : ℕ → ℤ) (path : List ℕ) (I : ℕ) → I < length (reply_sets s) → parent_of s.form (opponent s) I ≡ None → allowance rule s B path I ≡ 0
first_allowance cfrd s ok B path I l none = refl
first_allowance margin s ok B path I l none = refl
first_allowance reach s ok B path I l none = reach_law s ok B path I l ∙ ap (shared s B path (allowance reach s B path) I) none

-- the first set follows none
first_alone : (s : Strategy) → Sound s → (I : ℕ) → I < length (reply_sets s) → I ≡ 0 → parent_of s.form (opponent s) I ≡ None
first_alone s ok I l e = at (parent_of s.form (opponent s) I) (ok.parents I l)
  where
    at : (o : Option SetAction) → IsStepBelow (reply_sets s) I o → o ≡ None
    at None h = refl
    at (Some t) h = absurd (omega (arith, h.0, e))

-- ---- lists

-- what is at most numbers in each term sums to at most their sum
pub total_le_sum : (f : ℕ → ℤ) (g : ℕ → ℕ) (list : List ℕ) → ((I : ℕ) → In I list → f I ≤ℤ pos (g I)) → total f list ≤ℤ pos (sum_over g list)
total_le_sum f g [] h = omega (arith, ints)
total_le_sum f g (I ∷ list) h =
    let here = h I (inl refl) in
    let rest = total_le_sum f g list (λ K i. h K (inr i)) in
    omega (arith, ints, here, rest)

-- the greatest of numbers is at most what all are at most
pub fold_le : (c a : ℤ) (numbers : List ℤ) → a ≤ℤ c → AllByRecursion (λ x. x ≤ℤ c) numbers → fold int_max a numbers ≤ℤ c
fold_le c a [] le h = le
fold_le c a (x ∷ numbers) le h = fold_le c (int_max a x) numbers (both a x le h.0) h.1
  where
    both : (a x : ℤ) → a ≤ℤ c → x ≤ℤ c → int_max a x ≤ℤ c
    both a x p q = omega (arith, ints, clamps)

-- ---- along the path

-- where the values after a set are within the limits, those that it backs up are within its own
backed_within : (rule : Rule) (s : Strategy) → Sound s → (B : ℕ → ℤ) → Holds s B → (path : List ℕ) → Ascends 0 (length (reply_sets s)) path → (V : ℕ → ℤ) (J : ℕ) → J < length (reply_sets s)
    → ((K : ℕ) → J < K → one_of path K ≡ true → V K ≤ℤ limit B (allowance rule s B path) K) → backed_along s B path V J ≤ℤ limit B (allowance rule s B path) J
backed_within rule s ok B high path order V J l later =
    let allow = allowance rule s B path in
    let actions = path_actions s path J in
    let test = λ (a : ℕ). nat_lt 0 (length (path_followers s path J a)) in
    let one : (a : ℕ) → In a actions → through_along s B path V J a ≤ℤ limit B allow J = λ a i.
    let there = in_from_filter test (range_with_len 0 (slice_index (reply_sets s) J)) a i in
    let range = in_from_range a 0 (slice_index (reply_sets s) J) there.0 in
    let some : 0 < length (path_followers s path J a) = ltb-true 0 (length (path_followers s path J a)) there.1 in
    let kept = allowance_law rule s ok B high path order J a l (omega (arith, range.1)) some in
    let more : total (λ I. V I -ℤ B I) (path_followers s path J a) ≤ℤ pos (sum_over allow (path_followers s path J a)) =
    total_le_sum (λ I. V I -ℤ B I) allow (path_followers s path J a) (λ I k. at a I (in_from_filter (λ I. is_taken (record { set = J; action = a }) (parent_of s.form (opponent s) I)) path I k)) in
    omega (arith, ints, kept, more) in
    fold_le (limit B allow J) (B J) (map (through_along s B path V J) actions) (omega (arith, ints))
    (all_map (λ a. through_along s B path V J a ≤ℤ limit B allow J) (λ x. x ≤ℤ limit B allow J) (through_along s B path V J) actions (λ a k. k) (all_from_in (λ a. through_along s B path V J a ≤ℤ limit B allow J) actions one))
  where
    at : (a I : ℕ) → In I path × (is_taken (record { set = J; action = a }) (parent_of s.form (opponent s) I) ≡ true) → (V I -ℤ B I) ≤ℤ pos (allowance rule s B path I)
    at a I h =
        let after : J < I = follows_after (reply_sets s) I J a (parent_of s.form (opponent s) I) (ok.parents I (below_end 0 (length (reply_sets s)) I path order (lies_from_in path I h.0))) h.1 in
        let le = later I after (lies_from_in path I h.0) in
        omega (arith, ints, le)

-- so from the last set back
within_along : (rule : Rule) (s : Strategy) → Sound s → (B : ℕ → ℤ) → Holds s B → (path node : List ℕ) → Ascends 0 (length (reply_sets s)) path → (V : ℕ → ℤ) → IsAlong rule s B path node V
    → (d J : ℕ) → length (reply_sets s) ≤ J + d → one_of path J ≡ true → V J ≤ℤ limit B (allowance rule s B path) J
within_along rule s ok B high path node order V h zero J le on = absurd (omega (arith, le, below_end 0 (length (reply_sets s)) J path order on))
within_along rule s ok B high path node order V h (suc d) J le on = at (one_of node J) refl (λ K k p. within_along rule s ok B high path node order V h d K (omega (arith, le, k)) p)
  where
    at : (b : Bool) → one_of node J ≡ b → ((K : ℕ) → J < K → one_of path K ≡ true → V K ≤ℤ limit B (allowance rule s B path) K) → V J ≤ℤ limit B (allowance rule s B path) J
    at true e later = h.limits J e
    at false e later = le_trans_z _ _ _ (h.backed J on e) (backed_within rule s ok B high path order V J (below_end 0 (length (reply_sets s)) J path order on) later)

-- the law of rules
pub rule_law : RuleLaw
rule_law rule s ok B high path node order V h I on =
    let le = within_along rule s ok B high path node order V h (length (reply_sets s)) I (omega arith) on in
    let there = below_end 0 (length (reply_sets s)) I path order on in
    let alone : parent_of s.form (opponent s) I ≡ None → V I ≤ℤ B I = λ none.
    let zero = first_allowance rule s ok B path I there none in
    omega (arith, ints, le, zero) in
    (le, alone, λ e. alone (first_alone s ok I there e))
