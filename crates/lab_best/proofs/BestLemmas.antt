-- Best-response values, set by set from the last one back.
use Rattle.std.proofs.Common.{◌≡◌, ℕ, ◌+◌, ◌^◌, ◌<◌, ◌≤◌, ◌⊎◌, inl, inr, ℤ, List, length, get_or, set, unsigned_abs, sym, ap, ◌∙◌, subst, arith}
use Rattle.std.specs.List.{All}
use Rattle.std.specs.Prelude.{slice_index}
use Rattle.std.proofs.lemmas.Bool.{cases_eq}
use Rattle.std.proofs.lemmas.Int.{ints}
use Rattle.std.proofs.lemmas.List.{length-set}
use Rattle.std.proofs.lemmas.List.Elements.{recursion_from_All}
use Rattle.std.proofs.Common.{get_or-set_same, get_or-set_other}
use Rattle.lab_math.specs.Sums.{sum_over}
use Rattle.lab_math.proofs.Integers.{le_antisym_z}
use Rattle.lab_defs_value.specs.Laws.{Sound, worth_sizes}
use Rattle.lab_defs_value.specs.Replies.{Strategy, reply_sets, reply_factors, earned}
use Rattle.lab_defs_value.specs.BestValues.{IsBest, pure_reply, best_response_value}
use Rattle.lab_defs_value.specs.Bounds.{at, through, Tight}
use Rattle.lab_defs_value.proofs.Bests.{Choice, pure_earns}
use Rattle.lab_defs_value.proofs.Existence.{backed_cong}
use Rattle.lab_defs_value.proofs.PureReplies.{best_value_law}
use Rattle.lab_defs_value.proofs.Sizing.{size_law}
use Rattle.lab_defs_value.proofs.WholePaths.{step_form_of, step_form_is, step_form_decisions, earned_same, through_same}
use Rattle.lab_sizes.proofs.SizeSums.{sum_most}
use Rattle.lab_units.specs.declared.worth.Worth.{Worth}
use Rattle.lab_best.specs.Parts.{IsFirstGreatest}
use Rattle.lab_best.specs.Values.{numbers, best_values, AreBest, IsFirstBest}
use Rattle.lab_best.proofs.NumberLemmas.{number_written, number_kept, numbers_range}

-- what an action backs up depends on the numbers of later sets alone
pub through_later : (s : Strategy) → Sound s → (B C : ℕ → ℤ) (J a : ℕ) → ((K : ℕ) → J < K → K < length (reply_sets s) → B K ≡ C K) → through s B J a ≡ through s C J a
through_later s ok B C J a same =
    sym (through_same s B J a) ∙ backed_cong (step_form_of s) (step_form_is s ok) B C J a same ∙ through_same s C J a

-- by the best-response values of later sets the greatest of what the actions back up is the best-response value, and the first such action is the first best
pub greatest_is_best : (s : Strategy) → Sound s → (ns : List ℤ) (J : ℕ) → J < length (reply_sets s) → AreBest s (J + 1) ns → (b : ℤ) (a : ℕ) → IsFirstGreatest (slice_index (reply_sets s) J) (through s (at ns) J) b a
    → (b ≡ best_response_value s J) × IsFirstBest s J a
greatest_is_best s ok ns J l later b a g =
    let B = best_response_value s in
    let up = (best_value_law s ok).1 in
    let same : (k : ℕ) → through s (at ns) J k ≡ through s B J k = λ k. through_later s ok (at ns) B J k (λ K lt w. later K (omega (arith, lt)) w) in
    let own = g.value in
    let moved = same a in
    let le = up.bounds J a l g.there in
    let t = up.taken J l in
    let ge = g.bounds t.0 t.1 in
    let moved_t = same t.0 in
    let top = t.2 in
    let equal : b ≡ B J = le_antisym_z b (B J) (omega (arith, ints, own, moved, le)) (omega (arith, ints, ge, moved_t, top)) in (
      equal,
      record {
        there = g.there;
        best = sym (same a) ∙ own ∙ equal;
        first = λ k lt. let f = g.first k lt in omega (arith, ints, f, same k, equal);
      },
    )

-- one more best-response value, written before the others
pub best_written : (s : Strategy) (xs : List Worth) (J : ℕ) (w : Worth) → J < length xs → w.0 ≡ best_response_value s J → AreBest s (J + 1) (numbers xs) → AreBest s J (numbers (set xs J w))
best_written s xs J w there own later K from l = at_place (cases_eq K J)
  where
    at_place : (K ≡ J) ⊎ (K ≡ J → ⊥) → at (numbers (set xs J w)) K ≡ best_response_value s K
    at_place (inl e) = ap (at (numbers (set xs J w))) e ∙ number_written xs J w there ∙ own ∙ ap (best_response_value s) (sym e)
    at_place (inr apart) = number_kept xs J K w apart ∙ later K (omega (arith, from, apart)) l

-- what was so of later places and what is so of a new number is so from its place on
pub each_written : (P : ℕ → ℕ → Type 0) (xs : List ℕ) (J x : ℕ) → J < length xs → P J x → ((K : ℕ) → J + 1 ≤ K → K < length xs → P K (get_or xs K 0)) → (K : ℕ) → J ≤ K → K < length (set xs J x) → P K (get_or (set xs J x) K 0)
each_written P xs J x there own later K from l = at_place (cases_eq K J)
  where
    at_place : (K ≡ J) ⊎ (K ≡ J → ⊥) → P K (get_or (set xs J x) K 0)
    at_place (inl e) = subst (λ k. P k (get_or (set xs J x) k 0)) (sym e) (subst (P J) (sym (get_or-set_same xs J x 0 there)) own)
    at_place (inr apart) = subst (P K) (sym (get_or-set_other xs J K x 0 apart)) (later K (omega (arith, from, apart)) (omega (arith, l, length-set xs J x)))

-- one more small number
pub small_written : (most : ℕ) (xs : List Worth) (J : ℕ) (w : Worth) → unsigned_abs w.0 ≤ most → All (λ (x : Worth). unsigned_abs x.0 ≤ most) xs → All (λ (x : Worth). unsigned_abs x.0 ≤ most) (set xs J w)
small_written most xs J w own small k d l = at_place (cases_eq k J)
  where
    there : k < length xs
    there = omega (arith, l, length-set xs J w)

    at_place : (k ≡ J) ⊎ (k ≡ J → ⊥) → unsigned_abs (get_or (set xs J w) k d).0 ≤ most
    at_place (inl e) = subst (λ (x : Worth). unsigned_abs x.0 ≤ most) (sym (ap (λ i. get_or (set xs J w) i d) e ∙ get_or-set_same xs J w d (subst (λ i. i < length xs) e there))) own
    at_place (inr apart) = subst (λ (x : Worth). unsigned_abs x.0 ≤ most) (sym (get_or-set_other xs J k w d apart)) (small k d there)

-- numbers of at most 2^94 for fewer than 2^32 sets come to at most 2^126
pub small_together : (xs : List Worth) → length xs < 2 ^ 32 → All (λ (x : Worth). unsigned_abs x.0 ≤ 2 ^ 94) xs → sum_over (λ (x : Worth). unsigned_abs x.0) xs ≤ 2 ^ 126
small_together xs few small =
    omega (arith, few, sum_most (λ (x : Worth). unsigned_abs x.0 ≤ 2 ^ 94) (λ (x : Worth). unsigned_abs x.0) (2 ^ 94) xs (recursion_from_All (λ (x : Worth). unsigned_abs x.0 ≤ 2 ^ 94) xs small) (λ x h. h))

-- a best-response value is no larger than the rows are worth together
pub best_small : (s : Strategy) → Sound s → (J : ℕ) → J < length (reply_sets s) → worth_sizes s ≤ 2 ^ 94 → unsigned_abs (best_response_value s J) ≤ 2 ^ 94
best_small s ok J l small = let le = (size_law.1 s ok J).1 l in omega (arith, le, small)

-- ---- the whole table

-- numbers that are the best-response values at all sets are these as a list
pub best_list : (s : Strategy) (xs : List Worth) → length xs ≡ length (reply_sets s) → AreBest s 0 (numbers xs) → numbers xs ≡ best_values s
best_list s xs long best = numbers_range xs (best_response_value s) 0 (length (reply_sets s)) long (λ i l. best i (omega arith) l ∙ ap (best_response_value s) (omega arith))

-- they are tight
pub best_tight : (s : Strategy) (ns : List ℤ) → (0 < length (reply_sets s) → Sound s) → AreBest s 0 ns → Tight s (at ns)
best_tight s ns ok best J l = subst (IsBest s J) (sym (best J (omega arith) l)) ((best_value_law s (ok (omega (arith, l)))).0 J l)

-- the pure reply by first best actions earns them
pub first_best_earns : (s : Strategy) → Sound s → (actions : List ℕ) → ((J : ℕ) → J < length (reply_sets s) → IsFirstBest s J (slice_index actions J)) → (J : ℕ) → J < length (reply_sets s) → earned s (pure_reply actions) J ≡ best_response_value s J
first_best_earns s ok actions first J l =
    let v = step_form_of s in
    let B = best_response_value s in
    let good : Choice v B (slice_index actions) = λ K k. let f = first K k in (f.there, through_same s B K (slice_index actions K) ∙ f.best) in
    sym (earned_same s ok (pure_reply actions) J)
    ∙ pure_earns v (step_form_is s ok) (reply_factors s) (step_form_decisions s ok) B (slice_index actions) good (length (reply_sets s)) J l (omega arith)
