-- The values that are backed up from the last set to the first are the best ones, and one pure reply earns them.
use Rattle.std.proofs.Common.{◌≡◌, ℕ, zero, suc, ◌+◌, ◌-◌, ◌<◌, ◌≤◌, ℤ, pos, ◌+ℤ◌, ◌≤ℤ◌, Bool, true, false, cond, eqb, length, refl, sym, ap, ◌∙◌, subst, arith, inl, inr, zero-add}
use Rattle.std.specs.Prelude.{int_le, slice_index}
use Rattle.std.proofs.lemmas.Int.{ints}
use Rattle.std.proofs.lemmas.Bool.{cases_eq}
use Rattle.std.proofs.lemmas.List.FromFn.{get_or-map-range_with_len}
use Rattle.lab_math.proofs.Integers.{le_of_eq_z}
use Rattle.lab_defs_value.specs.Replies.{Strategy, reply_sets, reply_factors, earned}
use Rattle.lab_defs_value.specs.BestValues.{pure_reply}
use Rattle.lab_defs_value.specs.Bounds.{at, through, IsBackedUp}
use Rattle.lab_defs_value.specs.Laws.{Sound}
use Rattle.lab_defs_value.proofs.Bests.{Choice, pure, pure_earns}
use Rattle.lab_defs_value.proofs.HoldsTests.{le_from_test}
use Rattle.lab_defs_value.proofs.Existence.{backed_cong}
use Rattle.lab_defs_value.proofs.WholePaths.{step_form_of, step_form_is, step_form_decisions, earned_same, through_same}
use Rattle.lab_defs_value.proofs.BestLaws.{backed_up_tight}
use Rattle.lab_defs_value.proofs.PureReplies.{earned_cong, best_value_is}
use Rattle.lab_rule_laws.specs.Rules.{first_greatest, first_action, at_last, last_values, backed_up_values, best_actions, FirstGreatestLaw, BestRepliesLaw}

-- ---- the first greatest number

-- a test of two integers that fails
above_from_test : (a b : ℤ) → int_le a b ≡ false → (b +ℤ pos 1) ≤ℤ a
above_from_test a b e = grind (arith, ints)

-- what is known of a first greatest number
abbrev IsFirst : ℕ → (ℕ → ℤ) → ℕ → Type 0
IsFirst n h first = (first ≤ n) × ((k : ℕ) → k ≤ n → h k ≤ℤ h first) × ((k : ℕ) → k < first → (h k +ℤ pos 1) ≤ℤ h first)

-- the law of the first greatest number
pub first_greatest_law : FirstGreatestLaw
first_greatest_law zero h = (omega arith, λ k l. le_of_eq_z (h k) (h 0) (ap h (omega arith)), λ k l. absurd (omega arith))
first_greatest_law (suc n) h = at_test (int_le (h (suc n)) (h (first_greatest n h))) refl (first_greatest_law n h)
  where
    at_test : (b : Bool) → int_le (h (suc n)) (h (first_greatest n h)) ≡ b → IsFirst n h (first_greatest n h) → IsFirst (suc n) h (cond b (first_greatest n h) (suc n))
    at_test true e f = (
      omega (arith, f.0),
      λ k l. elim (cases_eq k (suc n)) [
        | inl q ↦ subst (λ j. h j ≤ℤ h (first_greatest n h)) (sym q) (le_from_test (h (suc n)) (h (first_greatest n h)) e)
        | inr ne ↦ f.1 k (omega arith)
      ],
      f.2,
    )
    at_test false e f =
        let up = above_from_test (h (suc n)) (h (first_greatest n h)) e in (
          omega arith,
          λ k l. elim (cases_eq k (suc n)) [
            | inl q ↦ le_of_eq_z (h k) (h (suc n)) (ap h q)
            | inr ne ↦ let le = f.1 k (omega arith) in omega (arith, ints, up, le)
          ],
          λ k l. let le = f.1 k (omega (arith, l)) in omega (arith, ints, up, le),
        )

-- ---- the values

-- there are as many values as sets are asked for
values_many : (s : Strategy) (n : ℕ) → length (last_values s n) ≡ n
values_many s zero = refl
values_many s (suc n) = ap suc (values_many s n)

-- one more value leaves those after it
after_same : (s : Strategy) (d K : ℕ) → d < length (reply_sets s) → length (reply_sets s) ≤ K + d → at_last s (last_values s (suc d)) K ≡ at_last s (last_values s d) K
after_same s d K l le =
    let J = length (reply_sets s) - suc d in
    let after = last_values s d in
    let here : K - (length (reply_sets s) - length (last_values s (suc d))) ≡ suc (K - (length (reply_sets s) - length after)) = omega (arith, l, le, values_many s d) in
    ap (at (last_values s (suc d))) here

-- and is that of the set before them
here_is : (s : Strategy) (d : ℕ) → d < length (reply_sets s) →
    let after = at_last s (last_values s d) in
    let J = length (reply_sets s) - suc d in
    at_last s (last_values s (suc d)) J ≡ through s after J (first_action s after J)
here_is s d l =
    let J : ℕ = length (reply_sets s) - suc d in
    let here : J - (length (reply_sets s) - length (last_values s (suc d))) ≡ 0 = omega (arith, l, values_many s d) in
    ap (at (last_values s (suc d))) here

-- and so do more values
later_same : (s : Strategy) (d e K : ℕ) → d + e ≤ length (reply_sets s) → length (reply_sets s) ≤ K + d → at_last s (last_values s (d + e)) K ≡ at_last s (last_values s d) K
later_same s d zero K l le = ap (λ n. at_last s (last_values s n) K) (omega arith)
later_same s d (suc e) K l le =
    let more : d + suc e ≡ suc (d + e) = omega arith in
    ap (λ n. at_last s (last_values s n) K) more ∙ after_same s (d + e) K (omega (arith, l)) (omega (arith, le)) ∙ later_same s d e K (omega (arith, l)) le

-- the first greatest number looks at the numbers alone
first_cong : (n : ℕ) (h k : ℕ → ℤ) → ((i : ℕ) → h i ≡ k i) → first_greatest n h ≡ first_greatest n k
first_cong zero h k e = refl
first_cong (suc n) h k e =
    let before = first_cong n h k e in
    ap (λ i. cond (int_le (h (suc n)) (h i)) i (suc n)) before
    ∙ ap (λ x. cond (int_le x (h (first_greatest n k))) (first_greatest n k) (suc n)) (e (suc n))
    ∙ ap (λ x. cond (int_le (k (suc n)) x) (first_greatest n k) (suc n)) (e (first_greatest n k))

-- what an action backs up depends on the sets after it alone
through_cong : (s : Strategy) → Sound s → (B C : ℕ → ℤ) (J a : ℕ) → ((K : ℕ) → J < K → K < length (reply_sets s) → B K ≡ C K) → through s B J a ≡ through s C J a
through_cong s ok B C J a e = sym (through_same s B J a) ∙ backed_cong (step_form_of s) (step_form_is s ok) B C J a e ∙ through_same s C J a

-- each value is what its first greatest action backs up
value_is : (s : Strategy) → Sound s → (J : ℕ) → J < length (reply_sets s) →
    let B = at (backed_up_values s) in
    B J ≡ through s B J (first_action s B J)
value_is s ok J l =
    let n : ℕ = length (reply_sets s) in
    let d : ℕ = n - suc J in
    let B = at (backed_up_values s) in
    let C = at_last s (last_values s d) in
    let all : (K : ℕ) → B K ≡ at_last s (last_values s n) K = λ K. ap B (omega (arith, values_many s n)) in
    let set : n - suc d ≡ J = omega (arith, l) in
    let top : suc d + J ≡ n = omega (arith, l) in
    let low : d + suc J ≡ n = omega (arith, l) in
    let after : (K : ℕ) → J < K → C K ≡ B K = λ K k.
    sym (all K ∙ ap (λ m. at_last s (last_values s m) K) (sym low) ∙ later_same s d (suc J) K (omega (arith, low)) (omega (arith, low, k))) in
    let same : (a : ℕ) → through s C J a ≡ through s B J a = λ a. through_cong s ok C B J a (λ K k m. after K k) in
    let first : first_action s C J ≡ first_action s B J = first_cong (slice_index (reply_sets s) J - 1) (through s C J) (through s B J) same in
    all J ∙ ap (λ m. at_last s (last_values s m) J) (sym top) ∙ later_same s (suc d) J J (omega (arith, top)) (omega (arith, top))
    ∙ subst (λ K. at_last s (last_values s (suc d)) K ≡ through s C K (first_action s C K)) set (here_is s d (omega (arith, l)))
    ∙ same (first_action s C J) ∙ ap (through s B J) first

-- a first greatest action is there
first_there : (s : Strategy) → Sound s → (B : ℕ → ℤ) (J : ℕ) → J < length (reply_sets s) → first_action s B J < slice_index (reply_sets s) J
first_there s ok B J l =
    let some = ok.some_action J l in
    let first = (first_greatest_law (slice_index (reply_sets s) J - 1) (through s B J)).0 in
    omega (arith, some, first)

-- the values are backed up
values_backed_up : (s : Strategy) → Sound s → IsBackedUp s (at (backed_up_values s))
values_backed_up s ok =
    let B = at (backed_up_values s) in
    record {
      bounds = λ J a l k. subst (λ t. through s B J a ≤ℤ t) (sym (value_is s ok J l)) ((first_greatest_law (slice_index (reply_sets s) J - 1) (through s B J)).1 a (omega (arith, k)));
      taken = λ J l. (first_action s B J, first_there s ok B J l, sym (value_is s ok J l));
    }

-- ---- the reply

-- the chosen action at a set
action_at : (s : Strategy) (J : ℕ) → J < length (reply_sets s) → slice_index (best_actions s) J ≡ first_action s (at (backed_up_values s)) J
action_at s J l = get_or-map-range_with_len (first_action s (at (backed_up_values s))) 0 (length (reply_sets s)) J J 0 l (zero-add J)

-- the pure reply by the first greatest actions earns the values
first_earns : (s : Strategy) → Sound s → (I : ℕ) → I < length (reply_sets s) → earned s (pure_reply (best_actions s)) I ≡ at (backed_up_values s) I
first_earns s ok I l =
    let v = step_form_of s in
    let m = reply_factors s in
    let B = at (backed_up_values s) in
    let choice = first_action s B in
    let good : Choice v B choice = λ J j. (first_there s ok B J j, through_same s B J (choice J) ∙ sym (value_is s ok J j)) in
    sym (earned_same s ok (pure_reply (best_actions s)) I)
    ∙ earned_cong v (step_form_is s ok) m (pure_reply (best_actions s)) (pure choice) I refl (λ J a j. ap (λ x. cond (eqb x a) (suc zero) zero) (action_at s J j))
    ∙ pure_earns v (step_form_is s ok) m (step_form_decisions s ok) B choice good (length (reply_sets s)) I l (omega arith)

-- the law of best replies
pub best_replies_law : BestRepliesLaw
best_replies_law s ok =
    let B = at (backed_up_values s) in
    let up = values_backed_up s ok in (
      values_many s (length (reply_sets s)),
      up,
      λ J l. subst (λ a. a < slice_index (reply_sets s) J) (sym (action_at s J l)) (first_there s ok B J l),
      λ I l. let best = backed_up_tight s ok B up I l in (best, sym (best_value_is s ok B up I l), best.bounds, first_earns s ok I l),
    )
