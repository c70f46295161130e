-- Tables with the whole grid on one action at each deciding set: they are tables, and earn what the pure reply does, times the power of the grid.
use Rattle.std.proofs.Common.{◌≡◌, ℕ, zero, suc, ◌+◌, ◌*◌, ◌^◌, ◌<◌, pos, ◌*ℤ◌, List, [], ◌∷◌, ◌++◌, flat_map, Bool, true, false, cond, eqb, None, length, get_or, refl, sym, ap, ◌∙◌, subst, arith, pow-suc, one-add, zero-add}
use Rattle.std.specs.Prelude.{slice_index}
use Rattle.std.specs.List.{All, range_with_len}
use Rattle.std.proofs.lemmas.List.{get_or_append_left, get_or-append-add}
use Rattle.std.proofs.lemmas.List.FromFn.{length-map-range_with_len, get_or-map-range_with_len}
use native.Mathlib.Nat.{pow-zero}
use Rattle.lab_math.specs.Sums.{total, product_over}
use Rattle.lab_math.proofs.Integers.{mul_comm_z}
use Rattle.lab_math.proofs.Totals.{total_cong_all, weighed_scale}
use Rattle.lab_math.proofs.BelowLemmas.{sum_below_cong, sum_below_pick}
use Rattle.lab_defs_game.specs.Forms.{Row, path_of, pad_of, decides, deciding, parent_of, actions_of}
use Rattle.lab_defs_game.specs.Paths.{SetAction}
use Rattle.lab_defs_value.specs.Tables.{weights_of, first_weight, whole_weights, whole_table, factor, own_weight}
use Rattle.lab_defs_value.specs.Replies.{Strategy, opponent, reply_sets, factors_in, reply_factors, reply_factor, reply_by, worth_against, earned}
use Rattle.lab_defs_value.specs.BestValues.{pure_reply, best_response_value}
use Rattle.lab_defs_value.specs.Laws.{Sound, IsPadded, WholeIsTableLaw, WholeTableLaw, BestTableLaw}
use Rattle.lab_defs_value.proofs.Chains.{paths_follow}
use Rattle.lab_defs_value.proofs.Tails.{pow_join}
use Rattle.lab_defs_value.proofs.Bests.{one_pow}
use Rattle.lab_defs_value.proofs.PureReplies.{best_choice}
use Rattle.lab_defs_value.proofs.Sizing.{Steps, steps_of}
use Rattle.lab_defs_value.proofs.Expecting.{path_weight, earned_whole, expectation_law}

-- where the pieces of a list are as long as the sets have weights, a set's weights are its piece
piece_at : (f : ℕ → List ℕ) (ns : List ℕ) (k J a : ℕ) → ((i : ℕ) → i < length ns → length (f (k + i)) ≡ weights_of (slice_index ns i)) → J < length ns → a < length (f (k + J))
    → get_or (flat_map f (range_with_len k (length ns))) (first_weight ns J + a) 0 ≡ get_or (f (k + J)) a 0
piece_at f [] k J a h l la = absurd (omega (arith, l))
piece_at f (n ∷ ns) k zero a h l la =
    let rest = flat_map f (range_with_len (k + 1) (length ns)) in
    let none : k + 0 ≡ k = omega arith in
    ap (λ m. get_or (f k ++ rest) m 0) (zero-add a) ∙ get_or_append_left (f k) rest 0 a (subst (λ m. a < length (f m)) none la) ∙ ap (λ m. get_or (f m) a 0) (sym none)
piece_at f (n ∷ ns) k (suc J) a h l la =
    let rest = flat_map f (range_with_len (k + 1) (length ns)) in
    let next : (i : ℕ) → (k + 1) + i ≡ k + suc i = λ i. omega arith in
    let none : k ≡ k + 0 = omega arith in
    let long : length (f k) ≡ weights_of n = ap (λ m. length (f m)) none ∙ h 0 (omega arith) in
    let place : first_weight (n ∷ ns) (suc J) + a ≡ length (f k) + (first_weight ns J + a) = omega (arith, long) in
    ap (λ m. get_or (f k ++ rest) m 0) place
    ∙ get_or-append-add (f k) rest (first_weight ns J + a) 0
    ∙ piece_at f ns (k + 1) J a (λ i li. ap (λ m. length (f m)) (next i) ∙ h (suc i) (omega (arith, li))) (omega (arith, l)) (subst (λ m. a < length (f m)) (sym (next J)) la)
    ∙ ap (λ m. get_or (f m) a 0) (next J)

-- the weights of the table at a set
abbrev pub weights_at : ℕ → List ℕ → List ℕ → ℕ → List ℕ
weights_at grid actions choice J = cond (decides actions J) (whole_weights grid (slice_index actions J) (slice_index choice J)) []

-- the weight of an action at a deciding set: the grid where it is the chosen one
weight_is : (grid : ℕ) (actions choice : List ℕ) (J a : ℕ) → J < length actions → decides actions J ≡ true → a < slice_index actions J
    → slice_index (whole_table grid actions choice) (first_weight actions J + a) ≡ cond (eqb (slice_index choice J) a) grid 0
weight_is grid actions choice J a l d la =
    let weight = λ (a : ℕ). cond (eqb (slice_index choice J) a) grid 0 in
    let n = slice_index actions J in
    let here : weights_at grid actions choice J ≡ whole_weights grid n (slice_index choice J) = ap (λ b. cond b (whole_weights grid n (slice_index choice J)) []) d in
    let long : length (weights_at grid actions choice J) ≡ n = ap length here ∙ length-map-range_with_len weight 0 n in
    piece_at (weights_at grid actions choice) actions 0 J a (λ i li. ap (λ j. length (weights_at grid actions choice j)) (zero-add i) ∙ lengths i (decides actions i)) l
    (subst (λ j. a < length (weights_at grid actions choice j)) (sym (zero-add J)) (subst (λ m. a < m) (sym long) la))
    ∙ ap (λ j. get_or (weights_at grid actions choice j) a 0) (zero-add J)
    ∙ ap (λ ws. get_or ws a 0) here
    ∙ get_or-map-range_with_len weight 0 n a a 0 la (zero-add a)
  where
    lengths : (i : ℕ) (b : Bool) → length (cond b (whole_weights grid (slice_index actions i) (slice_index choice i)) []) ≡ cond b (slice_index actions i) 0
    lengths i true = length-map-range_with_len (λ a. cond (eqb (slice_index choice i) a) grid 0) 0 (slice_index actions i)
    lengths i false = refl

-- the law that it is a table
pub whole_is_table_law : WholeIsTableLaw
whole_is_table_law grid actions choice some h = (
  some,
  λ J l d.
      sum_below_cong (slice_index actions J) (λ a. slice_index (whole_table grid actions choice) (first_weight actions J + a)) (λ a. cond (eqb (slice_index choice J) a) grid 0) (λ a la. weight_is grid actions choice J a l d la)
      ∙ sum_below_pick (slice_index actions J) (slice_index choice J) (λ a. grid) (h J l),
)

-- one more decision has one more grid, where it is the chosen action
step_scaled : (b : Bool) (grid d q : ℕ) → cond b grid 0 * (grid ^ d * q) ≡ grid ^ suc d * (cond b 1 0 * q)
step_scaled true grid d q = swap (grid ^ d) ∙ ap (λ x. x * (1 * q)) (sym (pow-suc grid d))
  where
    swap : (x : ℕ) → grid * (x * q) ≡ (x * grid) * (1 * q)
    swap x = omega arith
step_scaled false grid d q = omega arith

-- the factors on a path are those of the pure reply, with the grid for each decision
product_scaled : (grid : ℕ) (ns choice : List ℕ) (path : List SetAction) → Steps ns path
    → product_over (factor ns (whole_table grid ns choice)) path ≡ grid ^ deciding ns path * product_over (reply_factor ns (pure_reply choice)) path
product_scaled grid ns choice [] h = ap (λ x. x * 1) (sym (pow-zero grid))
product_scaled grid ns choice (t ∷ ts) h = at (decides ns t.set) refl (product_scaled grid ns choice ts h.1)
  where
    at : (b : Bool) → decides ns t.set ≡ b
        → product_over (factor ns (whole_table grid ns choice)) ts ≡ grid ^ deciding ns ts * product_over (reply_factor ns (pure_reply choice)) ts
        → cond b (slice_index (whole_table grid ns choice) (first_weight ns t.set + t.action)) 1 * product_over (factor ns (whole_table grid ns choice)) ts
        ≡ grid ^ (cond b 1 0 + deciding ns ts) * (cond b (cond (eqb (slice_index choice t.set) t.action) 1 0) 1 * product_over (reply_factor ns (pure_reply choice)) ts)
    at true e rest = rw one-add (
        ap (λ x. x * product_over (factor ns (whole_table grid ns choice)) ts) (weight_is grid ns choice t.set t.action h.0.0 e h.0.1)
        ∙ ap (λ x. cond (eqb (slice_index choice t.set) t.action) grid 0 * x) rest
        ∙ step_scaled (eqb (slice_index choice t.set) t.action) grid (deciding ns ts) (product_over (reply_factor ns (pure_reply choice)) ts))
    at false e rest = rw zero-add (omega (arith, rest))

-- so the own weight is that of the pure reply, times the power of the grid
row_scaled : (grid : ℕ) (ns choice : List ℕ) (path : List SetAction) (pad m : ℕ) → Steps ns path → deciding ns path + pad ≡ m
    → own_weight grid ns (whole_table grid ns choice) path pad ≡ grid ^ m * path_weight ns (pure_reply choice) path pad
row_scaled grid ns choice path pad m h e =
    let q = product_over (reply_factor ns (pure_reply choice)) path in
    let d = deciding ns path in
    ap (λ x. x * grid ^ pad) (product_scaled grid ns choice path h)
    ∙ swap (grid ^ d) q (grid ^ pad)
    ∙ ap (λ x. x * (q * 1)) (pow_join grid d pad m e)
    ∙ ap (λ x. grid ^ m * (q * x)) (sym (one_pow pad))
  where
    swap : (x q y : ℕ) → (x * q) * y ≡ (x * y) * (q * 1)
    swap x q y = omega arith

-- a row whose steps are there, with its pad
abbrev WholeRow : Strategy → Row → Type 0
WholeRow s z = Steps (reply_sets s) (path_of z (opponent s)) × (deciding (reply_sets s) (path_of z (opponent s)) + pad_of z (opponent s) ≡ reply_factors s)

-- as a reply it earns what the pure reply does, times the power of the grid
whole_earned : (s : Strategy) → Sound s → IsPadded s.form (opponent s) → (grid : ℕ) (choice : List ℕ)
    → earned s (reply_by grid (reply_sets s) (whole_table grid (reply_sets s) choice)) 0 ≡ earned s (pure_reply choice) 0 *ℤ pos (grid ^ reply_factors s)
whole_earned s ok padded grid choice =
    let ns = reply_sets s in
    let o = opponent s in
    let m = reply_factors s in
    let r = reply_by grid ns (whole_table grid ns choice) in
    let pure = λ (z : Row). path_weight ns (pure_reply choice) (path_of z o) (pad_of z o) in
    let rows : All (WholeRow s) s.form.rows = λ k d l. (steps_of ns (parent_of s.form o) None (path_of (get_or s.form.rows k d) o) (paths_follow s.form o ok k d l), padded.factors k d l) in
    earned_whole s r padded
    ∙ total_cong_all (WholeRow s) _ (λ z. worth_against s z *ℤ pos (grid ^ m * pure z)) s.form.rows rows
    (λ z h. ap (λ x. worth_against s z *ℤ pos x) (row_scaled grid ns choice (path_of z o) (pad_of z o) m h.0 h.1))
    ∙ weighed_scale (worth_against s) (grid ^ m) pure s.form.rows
    ∙ mul_comm_z (pos (grid ^ m)) (total (λ z. worth_against s z *ℤ pos (pure z)) s.form.rows)
    ∙ ap (λ x. x *ℤ pos (grid ^ m)) (sym (earned_whole s (pure_reply choice) padded))

-- the law of what a seat expects by it
pub whole_table_law : WholeTableLaw
whole_table_law f grid1 grid2 table1 table2 choice b = (
  λ ok padded e.
      sym ((expectation_law f grid1 grid2 table1 (whole_table grid2 (actions_of f 2) choice)).0 padded)
      ∙ whole_earned (record { form = f; keeper = 1; grid = grid1; table = table1 }) ok padded grid2 choice ∙ ap (λ x. x *ℤ pos (grid2 ^ factors_in f 2)) e,
  λ ok padded e.
      sym ((expectation_law f grid1 grid2 (whole_table grid1 (actions_of f 1) choice) table2).1 padded)
      ∙ whole_earned (record { form = f; keeper = 2; grid = grid2; table = table2 }) ok padded grid1 choice ∙ ap (λ x. x *ℤ pos (grid1 ^ factors_in f 1)) e,
)

-- the law that such a table earns the best value
pub best_table_law : BestTableLaw
best_table_law f grid1 grid2 table1 table2 = (
  λ ok padded some.
      let s : Strategy = record { form = f; keeper = 1; grid = grid1; table = table1 } in
      let best = best_choice s ok 0 some in
      (best.0, best.1, (whole_table_law f grid1 grid2 table1 table2 best.0 (best_response_value s 0)).0 ok padded best.2),
  λ ok padded some.
      let s : Strategy = record { form = f; keeper = 2; grid = grid2; table = table2 } in
      let best = best_choice s ok 0 some in
      (best.0, best.1, (whole_table_law f grid1 grid2 table1 table2 best.0 (best_response_value s 0)).1 ok padded best.2),
)
