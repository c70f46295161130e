-- A splice that passes at a node leaves the bound standing.
use Rattle.std.proofs.Common.{◌≡◌, ℕ, zero, suc, ◌+◌, ◌^◌, ◌<◌, ◌≤◌, ℤ, pos, negsuc, ◌+ℤ◌, ◌-ℤ◌, ◌*ℤ◌, ◌≤ℤ◌, List, [], ◌∷◌, Bool, true, false, cond, ◌&&◌, ◌||◌, eqb, Option, Some, None, length, get_or, filter, refl, sym, ap, ◌∙◌, subst, arith, inl, inr, eqb-true}
use Rattle.std.specs.List.{All, AllByRecursion, list_all}
use Rattle.std.proofs.lemmas.Int.{ints}
use Rattle.std.proofs.lemmas.Bool.{and_parts, or_cases, both_ways, cases_lt, false_from_ne_true}
use Rattle.std.proofs.lemmas.List.Elements.{recursion_from_All, All-from_recursion}
use Rattle.lab_defs_text.specs.Texts.{one_of}
use Rattle.lab_math.specs.Sums.{sum_over}
use Rattle.lab_math.specs.Below.{sum_below, total_below}
use Rattle.lab_math.proofs.Integers.{le_trans_z, le_of_eq_z, mul_le_z, one_mul_z}
use Rattle.lab_math.proofs.BelowLemmas.{sum_below_cong, sum_below_add, sum_below_zero, sum_below_pick, sum_below_le, total_below_le, total_below_add, total_below_pos}
use Rattle.lab_math.proofs.Totals.{total_cong_all}
use Rattle.lab_math.proofs.Elements.{all_imp}
use Rattle.lab_math.proofs.Ranges.{list_all_get}
use Rattle.lab_defs_game.specs.Forms.{Row, path_of, parent_of}
use Rattle.lab_defs_game.specs.Paths.{SetAction, last_step, is_taken}
use Rattle.lab_defs_value.specs.Rounding.{share_size}
use Rattle.lab_defs_value.specs.Parents.{passes_through, IsStepBelow}
use Rattle.lab_defs_value.specs.Replies.{Strategy, Reply, IsReply, opponent, reply_sets, reply_factors, worth_against, earned}
use Rattle.lab_defs_value.specs.BestValues.{IsBest, best_response_value}
use Rattle.lab_defs_value.specs.Bounds.{through, through_sets, through_rows, IsBackedUp}
use Rattle.lab_defs_value.specs.Allowances.{Rule, cfrd, reach, margin, pool, shared, allowance, Ascends, path_followers}
use Rattle.lab_defs_value.specs.Splices.{stays_outside, runs_to}
use Rattle.lab_defs_value.specs.Passes.{limit, Passes}
use Rattle.lab_defs_value.specs.Laws.{IsPart, SafeLaw}
use Rattle.lab_defs_value.proofs.Chains.{paths_follow}
use Rattle.lab_defs_value.proofs.Bests.{follows_after, one_pow}
use Rattle.lab_defs_value.proofs.BestLaws.{holds_bounds}
use Rattle.lab_defs_value.proofs.PureReplies.{best_value_law}
use Rattle.lab_defs_value.proofs.Pools.{reach_law, pool_law}
use Rattle.lab_defs_value.proofs.Passing.{Within, within_limits}
use Rattle.lab_defs_value.proofs.Enclosure.{runs_past, runs_by}
use Rattle.lab_defs_value.proofs.Splicing.{spliced_strategy, HasOwnPath, worth_outside, stay_law}

-- ---- lists of sets

-- the sets of a list in order are below n
pub below_end : (low n I : ℕ) (path : List ℕ) → Ascends low n path → one_of path I ≡ true → I < n
below_end low n I [] h on = absurd (both_ways false refl on)
below_end low n I (x ∷ xs) h on = elim (or_cases (eqb x I) (one_of xs I) on) [
  | inl e ↦ subst (λ k. k < n) (eqb-true x I e) h.1
  | inr rest ↦ below_end (suc x) n I xs h.2 rest
]

-- what each set of a list has, a set that lies on it has
on_list : (P : ℕ → Type 0) (list : List ℕ) (I : ℕ) → AllByRecursion P list → one_of list I ≡ true → P I
on_list P [] I h on = absurd (both_ways false refl on)
on_list P (x ∷ xs) I h on = elim (or_cases (eqb x I) (one_of xs I) on) [
  | inl e ↦ subst P (eqb-true x I e) h.0
  | inr rest ↦ on_list P xs I h.1 rest
]

-- a test that all of a list pass
all_tested : (p : ℕ → Bool) (list : List ℕ) → list_all p list ≡ true → AllByRecursion (λ I. p I ≡ true) list
all_tested p [] h = tt
all_tested p (x ∷ xs) h = let b = and_parts (p x) (list_all p xs) h in (b.0, all_tested p xs b.1)

-- the terms of a list's numbers, among all numbers below n, are at most the sum over the list
on_sum : (n : ℕ) (p : ℕ → Bool) (f : ℕ → ℕ) (low : ℕ) (path : List ℕ) → Ascends low n path → sum_below n (λ I. cond (p I && one_of path I) (f I) 0) ≤ sum_over f (filter p path)
on_sum n p f low [] h =
    let e : sum_below n (λ I. cond (p I && false) (f I) 0) ≡ 0 = sum_below_cong n _ (λ I. 0) (λ I l. none (p I) (f I)) ∙ sum_below_zero n in
    omega (arith, e)
  where
    none : (b : Bool) (x : ℕ) → cond (b && false) x 0 ≡ 0
    none true x = refl
    none false x = refl
on_sum n p f low (x ∷ xs) h =
    let split = sum_below_le n (λ I. cond (p I && (eqb x I || one_of xs I)) (f I) 0) (λ I. cond (eqb x I) (cond (p I) (f I) 0) 0 + cond (p I && one_of xs I) (f I) 0) (λ I l. apart (p I) (eqb x I) (one_of xs I) (f I)) in
    let add = sum_below_add n (λ I. cond (eqb x I) (cond (p I) (f I) 0) 0) (λ I. cond (p I && one_of xs I) (f I) 0) in
    let pick = sum_below_pick n x (λ I. cond (p I) (f I) 0) h.1 in
    let rest = on_sum n p f (suc x) xs h.2 in
    let first : sum_over f (filter p (x ∷ xs)) ≡ cond (p x) (f x) 0 + sum_over f (filter p xs) = one (p x) in
    omega (arith, split, add, pick, rest, first)
  where
    apart : (b c d : Bool) (v : ℕ) → cond (b && (c || d)) v 0 ≤ cond c (cond b v 0) 0 + cond (b && d) v 0
    apart true true d v = omega arith
    apart true false d v = omega arith
    apart false true d v = omega arith
    apart false false d v = omega arith

    one : (b : Bool) → sum_over f (cond b (x ∷ filter p xs) (filter p xs)) ≡ cond b (f x) 0 + sum_over f (filter p xs)
    one true = refl
    one false = omega arith

-- ---- a part to be replaced

module _ (s : Strategy) (B : ℕ → ℤ) (path node : List ℕ) (start end : ℕ) (proposal : List ℕ) (part : IsPart s B path node start end proposal) where
  -- the strategy after the splice
  abbrev after : Strategy
  after = spliced_strategy s start end proposal

  -- its best-response values
  abbrev best : ℕ → ℤ
  best = best_response_value after

  -- the allowances by reach
  abbrev allow : ℕ → ℕ
  allow = allowance reach s B path

  -- the sets of the node lie on the path, and are there
  node_on : AllByRecursion (λ I. one_of path I ≡ true) node
  node_on = all_tested (one_of path) node (and_parts (list_all (one_of path) node) (list_all (λ z. stays_outside start end (path_of z s.keeper) || runs_to path node (path_of z (opponent s))) s.form.rows) part.enclosed).0

  -- a set off the path is none of the node's
  off_node : (I : ℕ) → one_of path I ≡ false → one_of node I ≡ false
  off_node I off = false_from_ne_true (one_of node I) (λ on. both_ways (one_of path I) off (on_list (λ I. one_of path I ≡ true) node I node_on on))

  -- a row comes into the span along the path alone
  row_enclosed : All (λ z. (stays_outside start end (path_of z s.keeper) || runs_to path node (path_of z (opponent s))) ≡ true) s.form.rows
  row_enclosed k d l =
      list_all_get (λ (z : Row). stays_outside start end (path_of z s.keeper) || runs_to path node (path_of z (opponent s))) s.form.rows k d l
      (and_parts (list_all (one_of path) node) (list_all (λ z. stays_outside start end (path_of z s.keeper) || runs_to path node (path_of z (opponent s))) s.form.rows) part.enclosed).1

  -- rows that end on the way to the node stay outside the span
  rows_stay : (J a : ℕ) → one_of path J ≡ true → one_of node J ≡ false
      → All (λ (z : Row). is_taken (record { set = J; action = a }) (last_step (path_of z (opponent s))) ≡ true → stays_outside start end (path_of z s.keeper) ≡ true) s.form.rows
  rows_stay J a on off k d l e =
      let z = get_or s.form.rows k d in
      elim (or_cases (stays_outside start end (path_of z s.keeper)) (runs_to path node (path_of z (opponent s))) (row_enclosed k d l)) [
        | inl h ↦ h
        | inr h ↦ absurd (runs_past path node J a None (path_of z (opponent s)) on off h e)
      ]

  -- so they are worth the same
  rows_same : (J a : ℕ) → one_of path J ≡ true → one_of node J ≡ false → through_rows after J a ≡ through_rows s J a
  rows_same J a on off =
      total_cong_all (λ (z : Row). HasOwnPath s z × (is_taken (record { set = J; action = a }) (last_step (path_of z (opponent s))) ≡ true → stays_outside start end (path_of z s.keeper) ≡ true)) _
      (λ z. cond (is_taken (record { set = J; action = a }) (last_step (path_of z (opponent s)))) (worth_against s z) (pos 0)) s.form.rows
      (λ k d l. (paths_follow s.form s.keeper part.keeps k d l, rows_stay J a on off k d l)) (λ z h. at z (is_taken (record { set = J; action = a }) (last_step (path_of z (opponent s)))) h.0 h.1)
    where
      at : (z : Row) (b : Bool) → HasOwnPath s z → (b ≡ true → stays_outside start end (path_of z s.keeper) ≡ true) → cond b (worth_against after z) (pos 0) ≡ cond b (worth_against s z) (pos 0)
      at z true h o = worth_outside s start end proposal part.fits z h (o refl)
      at z false h o = refl

  -- rows through a set that leaves the path before the node stay outside the span
  sets_stay : (J a K : ℕ) → one_of path J ≡ true → one_of node J ≡ false → one_of path K ≡ false → is_taken (record { set = J; action = a }) (parent_of s.form (opponent s) K) ≡ true
      → All (λ (z : Row). passes_through K (path_of z (opponent s)) ≡ true → stays_outside start end (path_of z s.keeper) ≡ true) s.form.rows
  sets_stay J a K on off far e k d l p =
      let z = get_or s.form.rows k d in
      elim (or_cases (stays_outside start end (path_of z s.keeper)) (runs_to path node (path_of z (opponent s))) (row_enclosed k d l)) [
        | inl h ↦ h
        | inr h ↦ absurd (runs_by (reply_sets s) (parent_of s.form (opponent s)) path node J a K None (path_of z (opponent s)) (paths_follow s.form (opponent s) part.sound k d l) on off far (off_node K far) h p e)
      ]

  -- what a number one to the factors leaves
  one_factor : (n m : ℕ) (x : ℤ) → n ≡ 1 → pos (n ^ m) *ℤ x ≡ x
  one_factor n m x e = ap (λ k. pos (k ^ m) *ℤ x) e ∙ ap (λ k. pos k *ℤ x) (one_pow m) ∙ one_mul_z x

  -- so the best-response values there are at most the bounds
  best_off : (J a K : ℕ) → one_of path J ≡ true → one_of node J ≡ false → one_of path K ≡ false → is_taken (record { set = J; action = a }) (parent_of s.form (opponent s) K) ≡ true → K < length (reply_sets s) → best K ≤ℤ B K
  best_off J a K on off far e l =
      let b : IsBest after K (best K) = (best_value_law after part.sound).0 K l in
      let r = b.earns.0 in
      let le = holds_bounds s part.sound B part.table_holds r b.earns.1 K l in
      let same = stay_law s part.keeps start end proposal part.fits K (sets_stay J a K on off far e) r in
      subst (λ t. t ≤ℤ B K) b.earns.3 (subst (λ t. t ≤ℤ B K) (sym same) (subst (λ t. earned s r K ≤ℤ t) (one_factor r.all (reply_factors s) (B K) b.earns.2) le))

  -- what an action on the way backs up is at most what it did, and the allowances of its followers on the path
  through_le : (J a : ℕ) → one_of path J ≡ true → one_of node J ≡ false → ((K : ℕ) → J < K → K < length (reply_sets s) → one_of path K ≡ true → best K ≤ℤ limit B allow K)
      → through after best J a ≤ℤ (through s B J a +ℤ pos (sum_over allow (path_followers s path J a)))
  through_le J a on off later =
      let n = length (reply_sets s) in
      let test = λ (K : ℕ). is_taken (record { set = J; action = a }) (parent_of s.form (opponent s) K) in
      let extra = λ (K : ℕ). cond (test K && one_of path K) (allow K) 0 in
      let sets = total_below_le n (λ K. cond (test K) (best K) (pos 0)) (λ K. cond (test K) (B K) (pos 0) +ℤ pos (extra K)) (λ K l. at K l (test K) refl (one_of path K) refl) in
      let apart = total_below_add n (λ K. cond (test K) (B K) (pos 0)) (λ K. pos (extra K)) in
      let whole = total_below_pos n extra in
      let few = on_sum n test allow 0 path part.in_order in
      let rows = rows_same J a on off in
      join (through_sets after best J a) (through_sets s B J a) (through_rows after J a) (through_rows s J a) (total_below n (λ K. pos (extra K))) (sum_below n extra) (sum_over allow (path_followers s path J a))
      (le_trans_z _ _ _ sets (le_of_eq_z _ _ apart)) whole few rows
    where
      at : (K : ℕ) → K < length (reply_sets s) → (b : Bool) → is_taken (record { set = J; action = a }) (parent_of s.form (opponent s) K) ≡ b → (c : Bool) → one_of path K ≡ c
          → cond b (best K) (pos 0) ≤ℤ (cond b (B K) (pos 0) +ℤ pos (cond (b && c) (allow K) 0))
      at K l true e true p = later K (follows_after (reply_sets s) K J a (parent_of s.form (opponent s) K) (part.sound.parents K l) e) l p
      at K l true e false p = let le = best_off J a K on off p e l in omega (arith, ints, le)
      at K l false e c p = omega (arith, ints)

      join : (x y u v t : ℤ) (w z : ℕ) → x ≤ℤ (y +ℤ t) → t ≡ pos w → w ≤ z → u ≡ v → (x +ℤ u) ≤ℤ ((y +ℤ v) +ℤ pos z)
      join x y u v t w z h e le g = omega (arith, ints, h, e, le, g)

  -- a size of what is not negative
  share_is : (z : ℤ) → pos 0 ≤ℤ z → pos (share_size z) ≡ z
  share_is (pos n) h = refl
  share_is (negsuc n) h = absurd (omega (arith, ints, h))

  -- a list without elements has no sum
  no_sum : (f : ℕ → ℕ) (xs : List ℕ) → length xs ≤ 0 → sum_over f xs ≡ 0
  no_sum f [] h = refl
  no_sum f (x ∷ xs) h = absurd (omega (arith, h))

  -- with the allowances of its followers an action stays within the limit of its set
  pool_le : (J a : ℕ) → through s B J a ≤ℤ B J → (through s B J a +ℤ pos (sum_over allow (path_followers s path J a))) ≤ℤ limit B allow J
  pool_le J a h = elim (cases_lt 0 (length (path_followers s path J a))) [
    | inl some ↦
        let whole : sum_over allow (path_followers s path J a) ≡ pool s B allow J a = pool_law s part.sound B path part.in_order J a some in
        let size = share_is (pos (allow J) +ℤ (B J -ℤ through s B J a)) (omega (arith, ints, h)) in
        omega (arith, ints, whole, size)
    | inr none ↦
        let e = no_sum allow (path_followers s path J a) none in
        omega (arith, ints, e, h)
  ]

  -- where the best-response values at the node are within their limits, those on the path are
  pub within : ((I : ℕ) → one_of node I ≡ true → best I ≤ℤ limit B allow I) → (d J : ℕ) → J < length (reply_sets s) → length (reply_sets s) ≤ J + d → one_of path J ≡ true → best J ≤ℤ limit B allow J
  within at_node zero J l le on = absurd (omega (arith, l, le))
  within at_node (suc d) J l le on = at (one_of node J) refl (λ K lt k p. within at_node d K k (omega (arith, lt, le)) p)
    where
      at : (b : Bool) → one_of node J ≡ b → ((K : ℕ) → J < K → K < length (reply_sets s) → one_of path K ≡ true → best K ≤ℤ limit B allow K) → best J ≤ℤ limit B allow J
      at true e later = at_node J e
      at false e later =
          let up : IsBackedUp after best = (best_value_law after part.sound).1 in
          let t = up.taken J l in
          subst (λ x. x ≤ℤ limit B allow J) t.2 (le_trans_z _ _ _ (through_le J t.0 on e later) (pool_le J t.0 (part.table_holds J t.0 l t.1)))

  -- no rule allows more than reach
  rule_le : (rule : Rule) (I : ℕ) → limit B (allowance rule s B path) I ≤ℤ limit B allow I
  rule_le cfrd I = omega (arith, ints)
  rule_le margin I = omega (arith, ints)
  rule_le reach I = omega (arith, ints)

  -- the sets of the node are there
  node_there : All (λ I. I < length (reply_sets s)) node
  node_there =
      All-from_recursion (λ I. I < length (reply_sets s)) node
      (all_imp (λ I. one_of path I ≡ true) (λ I. I < length (reply_sets s)) node (λ I on. below_end 0 (length (reply_sets s)) I path part.in_order on) node_on)

  -- the first set has no allowance
  first_limit : 0 < length (reply_sets s) → limit B allow 0 ≡ B 0
  first_limit l =
      ap (λ x. B 0 +ℤ pos x) (reach_law s part.sound B path 0 l ∙ none (parent_of s.form (opponent s) 0) (part.sound.parents 0 l)) ∙ omega (arith, ints)
    where
      none : (o : Option SetAction) → IsStepBelow (reply_sets s) 0 o → shared s B path allow 0 o ≡ 0
      none None h = refl
      none (Some t) h = absurd (omega (arith, h.0))

  -- where the splice passes, no reply earns more than the limits on the path
  pub bound_on : (rule : Rule) → Passes after B (allowance rule s B path) node → (r : Reply) → IsReply (reply_sets s) r → (I : ℕ) → one_of path I ≡ true
      → earned after r I ≤ℤ (pos (r.all ^ reply_factors s) *ℤ limit B allow I)
  bound_on rule pass r isr I on =
      let n = length (reply_sets s) in
      let l : I < n = below_end 0 n I path part.in_order on in
      let nodes = within_limits after part.sound B (allowance rule s B path) node node_there pass in
      let at_node : (K : ℕ) → one_of node K ≡ true → best K ≤ℤ limit B allow K = λ K k.
      le_trans_z _ _ _ (on_list (Within after B (allowance rule s B path)) node K (recursion_from_All (Within after B (allowance rule s B path)) node nodes) k) (rule_le rule K) in
      let b : IsBest after I (best I) = (best_value_law after part.sound).0 I l in
      le_trans_z _ _ _ (b.bounds r isr) (mul_le_z (r.all ^ reply_factors s) (best I) (limit B allow I) (within at_node n I l (omega arith) on))

-- the law of safe splices
pub safe_law : SafeLaw
safe_law s B path node start end proposal part rule pass r isr =
    let bound = bound_on s B path node start end proposal part rule pass r isr in
    (bound, λ on. subst (λ x. earned (spliced_strategy s start end proposal) r 0 ≤ℤ (pos (r.all ^ reply_factors s) *ℤ x)) (first_limit s B path node start end proposal part (below_end 0 (length (reply_sets s)) 0 path part.in_order on)) (bound 0 on))
