-- A part of a strategy, whose sets come together and follow each other as they do in the whole: its best values are those of the whole.
use Rattle.std.proofs.Common.{◌≡◌, ℕ, ◌+◌, ◌-◌, ◌<◌, ◌≤◌, ℤ, pos, ◌+ℤ◌, ◌≤ℤ◌, cond, false, Option, length, sym, ap, ◌∙◌, subst, arith, inl, inr, ◌⊎◌}
use Rattle.std.specs.Prelude.{slice_index}
use Rattle.std.proofs.lemmas.Int.{ints}
use Rattle.lab_math.specs.Below.{total_below}
use Rattle.lab_math.proofs.BelowLemmas.{total_below_cong}
use Rattle.lab_defs_game.specs.Paths.{SetAction, is_taken}
use Rattle.lab_defs_game.specs.Forms.{parent_of}
use Rattle.lab_defs_value.specs.Replies.{Strategy, opponent, reply_sets}
use Rattle.lab_defs_value.specs.BestValues.{best_response_value}
use Rattle.lab_defs_value.specs.Bounds.{through, through_sets, through_rows, IsBackedUp}
use Rattle.lab_defs_value.specs.Laws.{Sound}
use Rattle.lab_defs_value.proofs.PureReplies.{best_value_law, best_value_is}
use Rattle.lab_rule_laws.proofs.RuleEntries.{below_split, below_none}

-- the parent of a set of the opponent
abbrev pub parent_to : Strategy → ℕ → Option SetAction
parent_to s I = parent_of s.form (opponent s) I

-- the sets of s are those of t from `start` on, with their actions; they follow each other as in t, no other set follows them, and the rows that end with an action are worth the same
pub record IsInside (s t : Strategy) (start : ℕ) : Type 0 where
  pub there : (J : ℕ) → J < length (reply_sets s) → start + J < length (reply_sets t)
  pub actions : (J : ℕ) → J < length (reply_sets s) → slice_index (reply_sets s) J ≡ slice_index (reply_sets t) (start + J)
  pub steps : (J a K : ℕ) → J < length (reply_sets s) → K < length (reply_sets s) → is_taken (record { set = J; action = a }) (parent_to s K) ≡ is_taken (record { set = (start + J); action = a }) (parent_to t (start + K))
  pub others : (J a I : ℕ) → J < length (reply_sets s) → I < length (reply_sets t) → (I < start) ⊎ (start + length (reply_sets s) ≤ I) → is_taken (record { set = (start + J); action = a }) (parent_to t I) ≡ false
  pub rows : (J a : ℕ) → J < length (reply_sets s) → through_rows s J a ≡ through_rows t (start + J) a

-- what an action backs up
through_inside : (s t : Strategy) (start : ℕ) → IsInside s t start → (T : ℕ → ℤ) (J a : ℕ) → J < length (reply_sets s) → through s (λ K. T (start + K)) J a ≡ through t T (start + J) a
through_inside s t start h T J a l =
    let n = length (reply_sets s) in
    let rest : ℕ = length (reply_sets t) - (start + n) in
    let last : start + (n - 1) < length (reply_sets t) = h.there (n - 1) (omega (arith, l)) in
    let long : length (reply_sets t) ≡ start + (n + rest) = omega (arith, l, last) in
    let test = λ (I : ℕ). is_taken (record { set = (start + J); action = a }) (parent_to t I) in
    let F = λ (I : ℕ). cond (test I) (T I) (pos 0) in
    let before : total_below start F ≡ pos 0 = below_none start test T (λ I k. h.others J a I l (omega (arith, k, last)) (inl k)) in
    let later : total_below rest (λ K. F (start + (n + K))) ≡ pos 0 =
    below_none rest (λ K. test (start + (n + K))) (λ K. T (start + (n + K))) (λ K k. h.others J a (start + (n + K)) l (omega (arith, k, long)) (inr (omega arith))) in
    let here : total_below n (λ K. cond (is_taken (record { set = J; action = a }) (parent_to s K)) (T (start + K)) (pos 0)) ≡ total_below n (λ K. F (start + K)) =
    total_below_cong n _ (λ K. F (start + K)) (λ K k. ap (λ b. cond b (T (start + K)) (pos 0)) (h.steps J a K l k)) in
    let whole : through_sets t T (start + J) a ≡ total_below start F +ℤ (total_below n (λ K. F (start + K)) +ℤ total_below rest (λ K. F (start + (n + K)))) =
    ap (λ m. total_below m F) long ∙ below_split start (n + rest) F ∙ ap (λ x. total_below start F +ℤ x) (below_split n rest (λ K. F (start + K))) in
    let sets : through_sets s (λ K. T (start + K)) J a ≡ through_sets t T (start + J) a = here ∙ omega (arith, ints, before, later, whole) in
    ap (λ x. x +ℤ through_rows s J a) sets ∙ ap (λ x. through_sets t T (start + J) a +ℤ x) (h.rows J a l)

-- the best values
pub best_inside : (s t : Strategy) (start : ℕ) → Sound s → Sound t → IsInside s t start → (J : ℕ) → J < length (reply_sets s) → best_response_value s J ≡ best_response_value t (start + J)
best_inside s t start inner whole h J l =
    let T = best_response_value t in
    let up = (best_value_law t whole).1 in
    let back : IsBackedUp s (λ K. T (start + K)) = record {
      bounds = λ K a k b. subst (λ x. x ≤ℤ T (start + K)) (sym (through_inside s t start h T K a k)) (up.bounds (start + K) a (h.there K k) (subst (λ n. a < n) (h.actions K k) b));
      taken = λ K k. let w = up.taken (start + K) (h.there K k) in (w.0, subst (λ n. w.0 < n) (sym (h.actions K k)) w.1, through_inside s t start h T K w.0 k ∙ w.2);
    } in
    best_value_is s inner (λ K. T (start + K)) back J l
