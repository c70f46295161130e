-- Best values decide whether a strategy passes.
use Rattle.std.proofs.Common.{◌≡◌, ℕ, ◌^◌, ◌<◌, ℤ, pos, ◌*ℤ◌, ◌-ℤ◌, ◌≤ℤ◌, List, [], ◌∷◌, Bool, true, false, cond, Some, None, length, get_or, refl, ap, ◌∙◌, subst, arith}
use Rattle.std.specs.Prelude.{int_le}
use Rattle.std.specs.List.{All, AllByRecursion}
use Rattle.std.proofs.lemmas.Int.{ints}
use Rattle.std.proofs.lemmas.List.Elements.{recursion_from_All, All-from_recursion}
use Rattle.lab_math.proofs.Integers.{le_trans_z, mul_le_z, one_mul_z}
use Rattle.lab_math.proofs.Elements.{all_imp, least_from, least_to}
use Rattle.lab_defs_value.specs.Replies.{Strategy, reply_sets, reply_factors, earned}
use Rattle.lab_defs_value.specs.BestValues.{IsBest, best_response_value}
use Rattle.lab_defs_value.specs.Passes.{limit, Passes, first_above}
use Rattle.lab_defs_value.specs.Laws.{Sound, PassLaw}
use Rattle.lab_defs_value.proofs.Bests.{one_pow}
use Rattle.lab_defs_value.proofs.HoldsTests.{le_from_test, test_from_le}
use Rattle.lab_defs_value.proofs.PureReplies.{best_value_law}

-- the best-response value of a set is at most its limit
abbrev pub Within : Strategy → (ℕ → ℤ) → (ℕ → ℕ) → ℕ → Type 0
Within s B allow I = best_response_value s I ≤ℤ limit B allow I

-- where no reply earns more than the limits, the best-response values are within them
pub within_limits : (s : Strategy) → Sound s → (B : ℕ → ℤ) (allow : ℕ → ℕ) (node : List ℕ) → All (λ I. I < length (reply_sets s)) node → Passes s B allow node → All (Within s B allow) node
within_limits s ok B allow node there h k d l =
    let I = get_or node k d in
    let best : IsBest s I (best_response_value s I) = (best_value_law s ok).0 I (there k d l) in
    let r = best.earns.0 in
    let m = reply_factors s in
    let one : pos (r.all ^ m) *ℤ limit B allow I ≡ limit B allow I = ap (λ n. pos (n ^ m) *ℤ limit B allow I) best.earns.2 ∙ ap (λ n. pos n *ℤ limit B allow I) (one_pow m) ∙ one_mul_z (limit B allow I) in
    subst (λ t. t ≤ℤ limit B allow I) best.earns.3 (subst (λ t. earned s r I ≤ℤ t) one (h k d l r best.earns.1))

-- and the other way round
passes_from : (s : Strategy) → Sound s → (B : ℕ → ℤ) (allow : ℕ → ℕ) (node : List ℕ) → All (λ I. I < length (reply_sets s)) node → All (Within s B allow) node → Passes s B allow node
passes_from s ok B allow node there h k d l r isr =
    let I = get_or node k d in
    let best : IsBest s I (best_response_value s I) = (best_value_law s ok).0 I (there k d l) in
    le_trans_z _ _ _ (best.bounds r isr) (mul_le_z (r.all ^ reply_factors s) (best_response_value s I) (limit B allow I) (h k d l))

-- no set is the first above its limit where none is above
none_above : (s : Strategy) (B : ℕ → ℤ) (allow : ℕ → ℕ) (node : List ℕ) → AllByRecursion (Within s B allow) node → first_above s B allow node ≡ None
none_above s B allow [] h = refl
none_above s B allow (I ∷ node) h =
    ap (λ b. cond b (first_above s B allow node) (Some I)) (test_from_le (best_response_value s I) (limit B allow I) h.0) ∙ none_above s B allow node h.1

-- and only there
within_where_none : (s : Strategy) (B : ℕ → ℤ) (allow : ℕ → ℕ) (node : List ℕ) → first_above s B allow node ≡ None → AllByRecursion (Within s B allow) node
within_where_none s B allow [] e = tt
within_where_none s B allow (I ∷ node) e = at (int_le (best_response_value s I) (limit B allow I)) refl e (λ h. within_where_none s B allow node h)
  where
    at : (b : Bool) → int_le (best_response_value s I) (limit B allow I) ≡ b → cond b (first_above s B allow node) (Some I) ≡ None
        → (first_above s B allow node ≡ None → AllByRecursion (Within s B allow) node) → Within s B allow I × AllByRecursion (Within s B allow) node
    at true t e rest = (le_from_test (best_response_value s I) (limit B allow I) t, rest e)
    at false t e rest = cc

-- a number is at most another where their difference is not above 0
excess_from : (a b : ℤ) → a ≤ℤ b → (a -ℤ b) ≤ℤ pos 0
excess_from a b h = omega (arith, ints)

-- and only there
excess_to : (a b : ℤ) → (a -ℤ b) ≤ℤ pos 0 → a ≤ℤ b
excess_to a b h = omega (arith, ints)

-- likewise of a difference that is not below 0
margin_from : (a b : ℤ) → a ≤ℤ b → pos 0 ≤ℤ (b -ℤ a)
margin_from a b h = omega (arith, ints)

-- and only there
margin_to : (a b : ℤ) → pos 0 ≤ℤ (b -ℤ a) → a ≤ℤ b
margin_to a b h = omega (arith, ints)

-- the law of passing
pub pass_law : PassLaw
pass_law s ok B allow node there =
    let to = within_limits s ok B allow node there in
    let from = passes_from s ok B allow node there in
    let by = recursion_from_All (Within s B allow) node in
    let of = All-from_recursion (Within s B allow) node in
    let margin = λ (I : ℕ). limit B allow I -ℤ best_response_value s I in (
      (λ h. none_above s B allow node (by (to h)), λ e. from (of (within_where_none s B allow node e))),
      (
        λ h k d l. excess_from (best_response_value s (get_or node k d)) (limit B allow (get_or node k d)) (to h k d l),
        λ h. from (λ k d l. excess_to (best_response_value s (get_or node k d)) (limit B allow (get_or node k d)) (h k d l)),
      ),
      λ some. (
        λ h. least_from margin (pos 0) node some (all_imp (Within s B allow) (λ I. pos 0 ≤ℤ margin I) node (λ I k. margin_from (best_response_value s I) (limit B allow I) k) (by (to h))),
        λ le. from (of (all_imp (λ I. pos 0 ≤ℤ margin I) (Within s B allow) node (λ I k. margin_to (best_response_value s I) (limit B allow I) k) (least_to margin (pos 0) node le))),
      ),
    )
