-- How large expectations and values are in a small form.
use Rattle.std.proofs.Common.{◌≡◌, ℕ, suc, ◌+◌, ◌*◌, ◌^◌, ◌<◌, ◌≤◌, ℤ, pos, ◌*ℤ◌, List, [], ◌∷◌, Bool, true, false, cond, eqb, ◌||◌, length, drop, get_or, max, refl, sym, ap, ◌∙◌, subst, arith, inl, inr, mul-le-mul, le_of_eq, pow-add, pow-suc, eqb-true}
use native.Mathlib.Nat.{pow-succ'}
use Rattle.std.specs.Prelude.{unsigned_abs, slice_index}
use Rattle.std.specs.List.{All, AllByRecursion}
use Rattle.std.proofs.lemmas.Int.{unsigned_abs-mul}
use Rattle.std.proofs.lemmas.Bool.{both_ways}
use Rattle.std.proofs.lemmas.List.Elements.{recursion_from_All}
use Rattle.lab_math.specs.Sums.{total, sum_over}
use Rattle.lab_math.proofs.BelowLemmas.{sum_below_term}
use Rattle.lab_math.proofs.Totals.{total_filter, total_size}
use Rattle.lab_defs_game.specs.Forms.{Row, sets_of, path_of, pad_of, decides, deciding, parent_of, actions_of, chain, decisions_to}
use Rattle.lab_defs_game.specs.Paths.{SetAction}
use Rattle.lab_defs_value.specs.Tables.{own_weight}
use Rattle.lab_defs_value.specs.Expectation.{expectation}
use Rattle.lab_defs_value.specs.Parents.{passes_through, path_from, IsForm}
use Rattle.lab_defs_value.specs.Replies.{IsTable, reply_by, worth_to}
use Rattle.lab_defs_game.specs.Seats.{other, IsSeat}
use Rattle.lab_defs_value.specs.Matching.{Pair, pair_grid, pair_table, pair_actions, pair_weight, weight_along, pair_worth, path_before, path_after, takes, grid_before, action_value, set_value, reach_in}
use Rattle.lab_defs_value.proofs.Sizing.{Steps, steps_of, chain_steps, steps_from, product_le, size_law}
use Rattle.lab_defs_value.proofs.Splicing.{decides_there}
use Rattle.lab_defs_value.proofs.Earnings.{deciding_splits}
use Rattle.lab_defs_value.proofs.Chains.{paths_follow, sets_length}
use Rattle.lab_sizes.proofs.SizeMass.{turned_size}
use Rattle.lab_sizes.proofs.SizeRanges.{some_power}
use Rattle.lab_sizes.specs.Sizes.{IsSmallPair, worths_to, TermLaw, SumLaw}
use Rattle.lab_defs_value.specs.Smallness.{factors_at, HasReach}
use Rattle.lab_sizes.proofs.SizeWays.{decisions_up}

-- ---- parts of a path

-- the steps before a set are there
steps_before : (ns : List ℕ) (I : ℕ) (path : List SetAction) → Steps ns path → Steps ns (path_before I path)
steps_before ns I [] h = tt
steps_before ns I (t ∷ ts) h = at (eqb t.set I) (steps_before ns I ts h.1)
  where
    at : (b : Bool) → Steps ns (path_before I ts) → Steps ns (cond b [] (t ∷ path_before I ts))
    at true rest = tt
    at false rest = (h.0, rest)

-- so are those after the first
steps_after : (ns : List ℕ) (path : List SetAction) → Steps ns path → Steps ns (drop 1 path)
steps_after ns [] h = tt
steps_after ns (t ∷ ts) h = h.1

-- where a path comes to a deciding set, one decision more is from it on than after it
after_one : (ns : List ℕ) (I : ℕ) → decides ns I ≡ true → (path : List SetAction) → passes_through I path ≡ true → deciding ns (path_from I path) ≡ suc (deciding ns (path_after I path))
after_one ns I d [] e = absurd (both_ways false refl e)
after_one ns I d (t ∷ ts) e = at (eqb t.set I) refl e (after_one ns I d ts)
  where
    at : (b : Bool) → eqb t.set I ≡ b → (b || passes_through I ts) ≡ true → (passes_through I ts ≡ true → deciding ns (path_from I ts) ≡ suc (deciding ns (path_after I ts)))
        → deciding ns (cond b (t ∷ ts) (path_from I ts)) ≡ suc (deciding ns (drop 1 (cond b (t ∷ ts) (path_from I ts))))
    at true q e rest =
        let here : decides ns t.set ≡ true = ap (decides ns) (eqb-true t.set I q) ∙ d in
        ap (λ b. cond b 1 0 + deciding ns ts) here ∙ one (deciding ns ts)
      where
        one : (n : ℕ) → 1 + n ≡ suc n
        one n = omega arith
    at false q e rest = rest e

-- a path that takes an action at a set comes to it
takes_passes : (I a : ℕ) (path : List SetAction) → takes I a path ≡ true → passes_through I path ≡ true
takes_passes I a [] e = e
takes_passes I a (t ∷ ts) e = at (eqb t.set I) e (takes_passes I a ts)
  where
    at : (b : Bool) → cond b (eqb t.action a) (takes I a ts) ≡ true → (takes I a ts ≡ true → passes_through I ts ≡ true) → (b || passes_through I ts) ≡ true
    at true e rest = refl
    at false e rest = rest e

-- ---- numbers

-- equal terms sum to as many of them
sum_same : {X : Type 0} (c : ℕ) (xs : List X) → sum_over (λ x. c) xs ≡ length xs * c
sum_same c [] = omega arith
sum_same c (x ∷ xs) = let r = sum_same c xs in omega (arith, r)

-- terms that none passes a number sum to at most as many of it
pub sum_most : {X : Type 0} (P : X → Type 0) (f : X → ℕ) (c : ℕ) (xs : List X) → AllByRecursion P xs → ((x : X) → P x → f x ≤ c) → sum_over f xs ≤ length xs * c
sum_most P f c [] all each = omega arith
sum_most P f c (x ∷ xs) all each = let r = sum_most P f c xs all.1 each in let e = each x all.0 in omega (arith, r, e)

-- a sum of at most 2^17 terms, none above 2^77, is at most 2^94
many : {X : Type 0} (P : X → Type 0) (f : X → ℤ) (xs : List X) → length xs ≤ 2 ^ 17 → All P xs → ((x : X) → P x → unsigned_abs (f x) ≤ 2 ^ 77) → unsigned_abs (total f xs) ≤ 2 ^ 94
many P f xs few all each =
    let le = total_size P f (λ x. 2 ^ 77) xs all each in
    let same = sum_same (2 ^ 77) xs in
    omega (arith, le, same, few)

-- a weighed worth by a weight
term_most : (w : ℤ) (own x m po ps : ℕ) → unsigned_abs w ≤ m → own ≤ po → x ≤ ps → m * (ps * po) ≤ 2 ^ 77 → unsigned_abs ((w *ℤ pos own) *ℤ pos x) ≤ 2 ^ 77
term_most w own x m po ps a b c whole =
    let size : unsigned_abs ((w *ℤ pos own) *ℤ pos x) ≡ (unsigned_abs w * own) * x = unsigned_abs-mul (w *ℤ pos own) (pos x) ∙ ap (λ n. n * x) (unsigned_abs-mul w (pos own)) in
    let inner : unsigned_abs w * own ≤ m * po = mul-le-mul a b in
    let l : (unsigned_abs w * own) * x ≤ (m * po) * ps = mul-le-mul inner c in
    let e : (m * po) * ps ≡ m * (ps * po) = regroup m po ps in
    omega (arith, size, l, e, whole)
  where
    regroup : (m x y : ℕ) → (m * x) * y ≡ m * (y * x)
    regroup m x y = omega arith

-- ---- rows

-- what is known of a row, as a seat sees it: it comes to no more than 2^77, the other's weight is small, and its steps are there
abbrev IsSmallRow : Pair → ℕ → Row → Type 0
IsSmallRow p seat z =
    (max 1 (unsigned_abs z.worth) * (pair_grid p seat ^ factors_at p.form seat z * pair_grid p (other seat) ^ factors_at p.form (other seat) z) ≤ 2 ^ 77)
    × (own_weight (pair_grid p (other seat)) (pair_actions p (other seat)) (pair_table p (other seat)) (path_of z (other seat)) (pad_of z (other seat)) ≤ pair_grid p (other seat) ^ factors_at p.form (other seat) z)
    × Steps (pair_actions p seat) (path_of z seat)

module _ (p : Pair) (ok : IsSmallPair p) where
  rows1 : All (IsSmallRow p 1) p.form.rows
  rows1 k d l = (
    ok.small.rows k d l,
    size_law.0 p.form 2 p.grid2 p.table2 ok.form2 ok.is2 k d l,
    steps_of (actions_of p.form 1) (parent_of p.form 1) _ _ (paths_follow p.form 1 ok.form1 k d l),
  )

  rows2 : All (IsSmallRow p 2) p.form.rows
  rows2 k d l =
      let z = get_or p.form.rows k d in (
        subst (λ x. x ≤ 2 ^ 77) (turn (max 1 (unsigned_abs z.worth)) (p.grid1 ^ factors_at p.form 1 z) (p.grid2 ^ factors_at p.form 2 z)) (ok.small.rows k d l),
        size_law.0 p.form 1 p.grid1 p.table1 ok.form1 ok.is1 k d l,
        steps_of (actions_of p.form 2) (parent_of p.form 2) _ _ (paths_follow p.form 2 ok.form2 k d l),
      )
    where
      turn : (m x y : ℕ) → m * (x * y) ≡ m * (y * x)
      turn m x y = omega arith

  -- so it is of each seat
  pub small_rows : (seat : ℕ) → IsSeat seat → All (IsSmallRow p seat) p.form.rows
  small_rows seat (inl e) = subst (λ k. All (IsSmallRow p k) p.form.rows) (sym e) rows1
  small_rows seat (inr e) = subst (λ k. All (IsSmallRow p k) p.form.rows) (sym e) rows2

  -- a table of a seat on its grid
  is_table : (seat : ℕ) → IsSeat seat → IsTable (pair_actions p seat) (pair_grid p seat) (pair_table p seat)
  is_table seat (inl e) = subst (λ k. IsTable (pair_actions p k) (pair_grid p k) (pair_table p k)) (sym e) ok.is1
  is_table seat (inr e) = subst (λ k. IsTable (pair_actions p k) (pair_grid p k) (pair_table p k)) (sym e) ok.is2

  -- a grid is from 1 up to 2^12
  grid_small : (seat : ℕ) → IsSeat seat → (1 ≤ pair_grid p seat) × (pair_grid p seat ≤ 2 ^ 12)
  grid_small seat (inl e) = subst (λ k. (1 ≤ pair_grid p k) × (pair_grid p k ≤ 2 ^ 12)) (sym e) (ok.small.grids.0, ok.small.grids.1)
  grid_small seat (inr e) = subst (λ k. (1 ≤ pair_grid p k) × (pair_grid p k ≤ 2 ^ 12)) (sym e) (ok.small.grids.2, ok.small.grids.3)

  -- each seat's sets and paths are those of a form
  form_ok : (seat : ℕ) → IsSeat seat → IsForm p.form seat
  form_ok seat (inl e) = subst (IsForm p.form) (sym e) ok.form1
  form_ok seat (inr e) = subst (IsForm p.form) (sym e) ok.form2

  -- and no way to a set comes to more than 2^77
  ways : (seat : ℕ) → IsSeat seat → HasReach (pair_grid p seat) (sets_of p.form seat) (2 ^ 77)
  ways seat (inl e) = subst (λ k. HasReach (pair_grid p k) (sets_of p.form k) (2 ^ 77)) (sym e) ok.small.ways.0
  ways seat (inr e) = subst (λ k. HasReach (pair_grid p k) (sets_of p.form k) (2 ^ 77)) (sym e) ok.small.ways.1

  -- the weights along steps are at most the grid for each decision
  along_most : (seat : ℕ) → IsSeat seat → (path : List SetAction) → Steps (pair_actions p seat) path → weight_along p seat path ≤ pair_grid p seat ^ deciding (pair_actions p seat) path
  along_most seat is path h = product_le (pair_actions p seat) (reply_by (pair_grid p seat) (pair_actions p seat) (pair_table p seat)) (is_table seat is) path h

  module _ (seat : ℕ) (is : IsSeat seat) where
    -- a row's term
    term : (z : Row) (x : ℕ) → IsSmallRow p seat z → x ≤ pair_grid p seat ^ factors_at p.form seat z → unsigned_abs (pair_worth p seat z *ℤ pos x) ≤ 2 ^ 77
    term z x h le =
        let same = turned_size (eqb seat 1) z.worth in
        term_most (worth_to seat z.worth) (own_weight (pair_grid p (other seat)) (pair_actions p (other seat)) (pair_table p (other seat)) (path_of z (other seat)) (pad_of z (other seat))) x
        (max 1 (unsigned_abs z.worth)) (pair_grid p (other seat) ^ factors_at p.form (other seat) z) (pair_grid p seat ^ factors_at p.form seat z) (omega (arith, same)) h.1 le h.0

    -- the weights that count for the value of a set
    value_weight : (I : ℕ) (z : Row) → IsSmallRow p seat z → grid_before p seat I z * weight_along p seat (path_from I (path_of z seat)) ≤ pair_grid p seat ^ factors_at p.form seat z
    value_weight I z h =
        let ns = pair_actions p seat in
        let path = path_of z seat in
        let D = pair_grid p seat in
        let a = deciding ns (path_before I path) + pad_of z seat in
        let b = deciding ns (path_from I path) in
        let l : D ^ a * weight_along p seat (path_from I path) ≤ D ^ a * D ^ b = mul-le-mul (le_of_eq refl) (along_most seat is (path_from I path) (steps_from ns I path h.2)) in
        let sum : a + b ≡ factors_at p.form seat z = omega (arith, deciding_splits ns I path) in
        let e : D ^ a * D ^ b ≡ D ^ factors_at p.form seat z = sym (pow-add D a b) ∙ ap (λ n. D ^ n) sum in
        omega (arith, l, e)

    -- and for that of an action at a deciding set
    action_weight : (I : ℕ) → decides (pair_actions p seat) I ≡ true → (z : Row) → IsSmallRow p seat z → passes_through I (path_of z seat) ≡ true
        → grid_before p seat I z * pair_grid p seat * weight_along p seat (path_after I (path_of z seat)) ≤ pair_grid p seat ^ factors_at p.form seat z
    action_weight I d z h on =
        let ns = pair_actions p seat in
        let path = path_of z seat in
        let D = pair_grid p seat in
        let a = deciding ns (path_before I path) + pad_of z seat in
        let b = deciding ns (path_after I path) in
        let l : D ^ a * D * weight_along p seat (path_after I path) ≤ D ^ a * D * D ^ b = mul-le-mul (le_of_eq refl) (along_most seat is (path_after I path) (steps_after ns (path_from I path) (steps_from ns I path h.2))) in
        let sum : a + suc b ≡ factors_at p.form seat z = omega (arith, deciding_splits ns I path, after_one ns I d path on) in
        let one : D ^ suc b ≡ D * D ^ b = pow-succ' D b in
        let e : D ^ a * D ^ suc b ≡ D ^ factors_at p.form seat z = sym (pow-add D a (suc b)) ∙ ap (λ n. D ^ n) sum in
        let r : D ^ a * D * D ^ b ≡ D ^ a * D ^ suc b = regroup (D ^ a) D (D ^ b) ∙ ap (λ n. D ^ a * n) (sym one) in
        omega (arith, l, r, e)
      where
        regroup : (x y z : ℕ) → x * y * z ≡ x * (y * z)
        regroup x y z = omega arith

    -- the value of a set
    pub value_small : (I : ℕ) → unsigned_abs (set_value p seat I) ≤ 2 ^ 94
    value_small I =
        let on = λ (z : Row). passes_through I (path_of z seat) in
        let f = λ (z : Row). pair_worth p seat z *ℤ pos (grid_before p seat I z * weight_along p seat (path_from I (path_of z seat))) in
        subst (λ x. unsigned_abs x ≤ 2 ^ 94) (sym (total_filter on f p.form.rows))
        (many (IsSmallRow p seat) (λ z. cond (on z) (f z) (pos 0)) p.form.rows ok.small.few (small_rows seat is) (λ z h. at (on z) (f z) (term z _ h (value_weight I z h))))
      where
        at : (b : Bool) (x : ℤ) → unsigned_abs x ≤ 2 ^ 77 → unsigned_abs (cond b x (pos 0)) ≤ 2 ^ 77
        at true x h = h
        at false x h = omega arith

    -- the value of an action
    pub action_small : (I : ℕ) → decides (pair_actions p seat) I ≡ true → (a : ℕ) → unsigned_abs (action_value p seat I a) ≤ 2 ^ 94
    action_small I d a =
        let on = λ (z : Row). takes I a (path_of z seat) in
        let f = λ (z : Row). pair_worth p seat z *ℤ pos (grid_before p seat I z * pair_grid p seat * weight_along p seat (path_after I (path_of z seat))) in
        subst (λ x. unsigned_abs x ≤ 2 ^ 94) (sym (total_filter on f p.form.rows))
        (many (IsSmallRow p seat) (λ z. cond (on z) (f z) (pos 0)) p.form.rows ok.small.few (small_rows seat is)
        (λ z h. at (on z) (f z) (λ e. term z _ h (action_weight I d z h (takes_passes I a (path_of z seat) e)))))
      where
        at : (b : Bool) (x : ℤ) → (b ≡ true → unsigned_abs x ≤ 2 ^ 77) → unsigned_abs (cond b x (pos 0)) ≤ 2 ^ 77
        at true x h = h refl
        at false x h = omega arith

    -- what a row is worth
    worth_small : (z : Row) → IsSmallRow p seat z → unsigned_abs (pair_worth p seat z) ≤ 2 ^ 77
    worth_small z h =
        let one : 1 ≤ pair_grid p seat ^ factors_at p.form seat z = some_power (pair_grid p seat) (factors_at p.form seat z) (grid_small seat is).0 in
        let size : unsigned_abs (pair_worth p seat z *ℤ pos 1) ≡ unsigned_abs (pair_worth p seat z) * 1 = unsigned_abs-mul (pair_worth p seat z) (pos 1) in
        let le = term z 1 h one in
        omega (arith, size, le)

    -- what all are worth
    worth_sum : sum_over (λ z. unsigned_abs (pair_worth p seat z)) p.form.rows ≤ 2 ^ 94
    worth_sum =
        let le = sum_most (IsSmallRow p seat) (λ z. unsigned_abs (pair_worth p seat z)) (2 ^ 77) p.form.rows (recursion_from_All (IsSmallRow p seat) p.form.rows (small_rows seat is)) worth_small in
        omega (arith, le, ok.small.few)

    -- the weights up to an action of a deciding set
    pub reach_small : (I : ℕ) → decides (pair_actions p seat) I ≡ true → (a : ℕ) → a < slice_index (pair_actions p seat) I → reach_in p seat I * pair_weight p seat I a ≤ 2 ^ 77
    reach_small I d a l =
        let ns = pair_actions p seat in
        let D = pair_grid p seat in
        let form = form_ok seat is in
        let below : I < length ns = decides_there ns I d in
        let low : I < length (sets_of p.form seat) = omega (arith, below, sets_length (sets_of p.form seat)) in
        let path = chain (sets_of p.form seat) (parent_of p.form seat I) in
        let b = deciding ns path in
        let most = along_most seat is path (chain_steps (sets_of p.form seat) form.parents I low) in
        let small = sum_below_term (slice_index ns I) a (pair_weight p seat I) l in
        let sums = (is_table seat is).1 I below d in
        let here : pair_weight p seat I a ≤ D = omega (arith, small, sums) in
        let both : reach_in p seat I * pair_weight p seat I a ≤ D ^ b * D = mul-le-mul most here in
        let up : decisions_to (sets_of p.form seat) I ≡ suc b = decisions_up p.form seat form I low ∙ ap (λ c. b + cond c 1 0) d ∙ next b in
        let one : D ^ (suc b) ≡ D ^ b * D = pow-suc D b in
        let way : D ^ decisions_to (sets_of p.form seat) I ≤ 2 ^ 77 = ways seat is I low in
        omega (arith, both, one, subst (λ n. D ^ n ≤ 2 ^ 77) up way)
      where
        next : (b : ℕ) → b + 1 ≡ suc b
        next b = omega arith

  -- what the rows are worth to a seat
  worths_small : (seat : ℕ) → IsSeat seat → worths_to p seat ≤ 2 ^ 94
  worths_small seat (inl e) = subst (λ k. worths_to p k ≤ 2 ^ 94) (sym e) (worth_sum 1 (inl refl))
  worths_small seat (inr e) = subst (λ k. worths_to p k ≤ 2 ^ 94) (sym e) (worth_sum 2 (inr refl))

  -- a row's term in what seat 1 expects
  terms_small : All (λ z. unsigned_abs (z.worth *ℤ pos (own_weight p.grid1 (actions_of p.form 1) p.table1 z.path1 z.pad1 * own_weight p.grid2 (actions_of p.form 2) p.table2 z.path2 z.pad2)) ≤ 2 ^ 77) p.form.rows
  terms_small k d l =
      let z = get_or p.form.rows k d in
      each z.worth (own_weight p.grid1 (actions_of p.form 1) p.table1 z.path1 z.pad1) (own_weight p.grid2 (actions_of p.form 2) p.table2 z.path2 z.pad2)
      (p.grid1 ^ factors_at p.form 1 z) (p.grid2 ^ factors_at p.form 2 z) (rows2 k d l).1 (rows1 k d l).1 (rows1 k d l).0
    where
      each : (w : ℤ) (a b x y : ℕ) → a ≤ x → b ≤ y → max 1 (unsigned_abs w) * (x * y) ≤ 2 ^ 77 → unsigned_abs (w *ℤ pos (a * b)) ≤ 2 ^ 77
      each w a b x y p q whole =
          let size : unsigned_abs (w *ℤ pos (a * b)) ≡ unsigned_abs w * (a * b) = unsigned_abs-mul w (pos (a * b)) in
          let inner : a * b ≤ x * y = mul-le-mul p q in
          let large : unsigned_abs w ≤ max 1 (unsigned_abs w) = omega arith in
          let l : unsigned_abs w * (a * b) ≤ max 1 (unsigned_abs w) * (x * y) = mul-le-mul large inner in
          omega (arith, size, l, whole)

  -- what seat 1 expects
  expected_small : unsigned_abs (expectation p.grid1 p.grid2 p.form p.table1 p.table2) ≤ 2 ^ 94
  expected_small =
      let f = λ (z : Row). z.worth *ℤ pos (own_weight p.grid1 (actions_of p.form 1) p.table1 z.path1 z.pad1 * own_weight p.grid2 (actions_of p.form 2) p.table2 z.path2 z.pad2) in
      many (λ z. unsigned_abs (f z) ≤ 2 ^ 77) f p.form.rows ok.small.few terms_small (λ z h. h)

-- the law of terms
pub term_law : TermLaw
term_law p ok = (
  terms_small p ok,
  λ seat is. (
    λ k d l. worth_small p ok seat is (get_or p.form.rows k d) (small_rows p ok seat is k d l),
    λ I. (
      λ k d l. let z = get_or p.form.rows k d in let h = small_rows p ok seat is k d l in term p ok seat is z _ h (value_weight p ok seat is I z h),
      λ e k d l on. let z = get_or p.form.rows k d in let h = small_rows p ok seat is k d l in term p ok seat is z _ h (action_weight p ok seat is I e z h on),
    ),
  ),
)

-- the law of sums
pub sum_law : SumLaw
sum_law p ok = (expected_small p ok, λ seat is. (worths_small p ok seat is, λ I. (value_small p ok seat is I, λ d. (action_small p ok seat is I d, reach_small p ok seat is I d))))
