-- How large what actions back up is.
use Rattle.std.proofs.Common.{◌≡◌, ℕ, zero, suc, ◌+◌, ◌*◌, ◌^◌, ◌<◌, ◌≤◌, ℤ, pos, neg_ℤ, ◌*ℤ◌, List, Bool, true, false, cond, length, map, get_or, max, refl, sym, ap, ◌∙◌, subst, arith, inl, inr, mul-le-mul, eqb}
use Rattle.std.specs.Prelude.{unsigned_abs}
use Rattle.std.specs.List.{All, range_with_len}
use Rattle.std.proofs.lemmas.Int.{ints, unsigned_abs-mul}
use Rattle.std.proofs.lemmas.List.{get_or-map, length-map}
use Rattle.std.proofs.lemmas.List.FromFn.{length-map-range_with_len, get_or-map-range_with_len}
use Rattle.std.proofs.lemmas.List.Elements.{recursion_from_All}
use Rattle.lab_math.specs.Sums.{sum_over}
use Rattle.lab_math.specs.Below.{total_below}
use Rattle.lab_math.proofs.Totals.{total_size}
use Rattle.lab_units.specs.declared.worth.Worth.{Worth}
use Rattle.lab_defs_game.specs.Seats.{IsSeat, other}
use Rattle.lab_defs_game.specs.Forms as model
use Rattle.lab_defs_game.specs.Paths.{is_taken, last_step}
use Rattle.lab_defs_value.specs.Tables.{own_weight}
use Rattle.lab_defs_value.specs.Smallness.{IsSmall, factors_at}
use Rattle.lab_defs_value.specs.Replies.{Strategy, reply_sets, opponent, worth_against}
use Rattle.lab_defs_value.specs.Bounds.{at, through, through_rows}
use Rattle.lab_defs_value.proofs.Bests.{one_pow}
use Rattle.lab_sizes.proofs.SizeSums.{sum_most}
use Rattle.lab_form.specs.Forms.{FormValue, sets_of, sets_model, form_model}
use Rattle.lab_form.proofs.CallerLemmas.{model_actions}
use Rattle.lab_table.specs.Tables.{TableValue, seat_actions, AreWeights}
use Rattle.lab_best.specs.Values.{numbers, grid_at}
use Rattle.lab_bounds.specs.Tables.{BoundsValue, bounded_in, AreOf}
use Rattle.lab_bounds.proofs.WeightSizes.{own_within}

-- ---- forms of the program

-- the definitions have as many actions at the sets of a seat
pub model_seat : (f : FormValue) (seat : ℕ) → model.actions_of (form_model f) seat ≡ seat_actions f seat
model_seat f seat = at (eqb seat 1)
  where
    at : (b : Bool) → model.actions_in (cond b (sets_model f.sets1) (sets_model f.sets2)) ≡ map (λ s. s.actions) (cond b f.sets1 f.sets2)
    at true = model_actions f.sets1
    at false = model_actions f.sets2

-- ---- rows

-- a worth by a weight comes to no more than its row
row_term : (w : ℤ) (own here there : ℕ) → own ≤ here → there ≡ 1 → max 1 (unsigned_abs w) * (here * there) ≤ 2 ^ 77 → unsigned_abs (w *ℤ pos own) ≤ 2 ^ 77
row_term w own here there le one whole =
    let size : unsigned_abs (w *ℤ pos own) ≡ unsigned_abs w * own = unsigned_abs-mul w (pos own) in
    let top : unsigned_abs w ≤ max 1 (unsigned_abs w) = omega arith in
    let product : unsigned_abs w * own ≤ max 1 (unsigned_abs w) * here = mul-le-mul top le in
    let same : here * there ≡ here = ap (λ k. here * k) one ∙ omega arith in
    omega (arith, size, product, ap (λ k. max 1 (unsigned_abs w) * k) same, whole)

-- so does what it is worth to the other seat
turned_term : (w : ℤ) (own here there : ℕ) → own ≤ here → there ≡ 1 → max 1 (unsigned_abs w) * (there * here) ≤ 2 ^ 77 → unsigned_abs (w *ℤ pos own) ≤ 2 ^ 77
turned_term w own here there le one whole =
    let turn : there * here ≡ here * there = omega arith in
    row_term w own here there le one (subst (λ k. max 1 (unsigned_abs w) * k ≤ 2 ^ 77) turn whole)

-- a worth that is turned is as large
turned_size : (w : ℤ) (own : ℕ) → unsigned_abs (neg_ℤ w *ℤ pos own) ≡ unsigned_abs (w *ℤ pos own)
turned_size w own =
    let turned : unsigned_abs (neg_ℤ w) ≡ unsigned_abs w = omega (arith, ints) in
    unsigned_abs-mul (neg_ℤ w) (pos own) ∙ ap (λ k. k * own) turned ∙ sym (unsigned_abs-mul w (pos own))

-- no row of a small form is worth more than 2^77 to the opponent
row_within : (f : model.Form) (keeper grid : ℕ) (weights : List ℕ) → IsSeat keeper → IsSmall (grid_at keeper grid 1) (grid_at keeper grid 2) f → AreWeights grid (model.actions_of f keeper) weights
    → All (λ z. unsigned_abs (worth_against (record { form = f; keeper = keeper; grid = grid; table = weights }) z) ≤ 2 ^ 77) f.rows
row_within f keeper grid weights (inl one) = subst Within (sym one) (λ small ok k d l.
    let z = get_or f.rows k d in
    let own = own_weight grid (model.actions_of f 1) weights z.path1 z.pad1 in
    subst (λ n. n ≤ 2 ^ 77) (sym (turned_size z.worth own))
    (row_term z.worth own (grid ^ factors_at f 1 z) (1 ^ factors_at f 2 z) (own_within grid (model.actions_of f 1) weights ok z.path1 z.pad1) (one_pow (factors_at f 2 z)) (small.rows k d l)))
  where
    Within : ℕ → Type 0
    Within seat = IsSmall (grid_at seat grid 1) (grid_at seat grid 2) f → AreWeights grid (model.actions_of f seat) weights
        → All (λ z. unsigned_abs (worth_against (record { form = f; keeper = seat; grid = grid; table = weights }) z) ≤ 2 ^ 77) f.rows
row_within f keeper grid weights (inr two) = subst Within (sym two) (λ small ok k d l.
    let z = get_or f.rows k d in
    let own = own_weight grid (model.actions_of f 2) weights z.path2 z.pad2 in
    turned_term z.worth own (grid ^ factors_at f 2 z) (1 ^ factors_at f 1 z) (own_within grid (model.actions_of f 2) weights ok z.path2 z.pad2) (one_pow (factors_at f 1 z)) (small.rows k d l))
  where
    Within : ℕ → Type 0
    Within seat = IsSmall (grid_at seat grid 1) (grid_at seat grid 2) f → AreWeights grid (model.actions_of f seat) weights
        → All (λ z. unsigned_abs (worth_against (record { form = f; keeper = seat; grid = grid; table = weights }) z) ≤ 2 ^ 77) f.rows

-- ---- sums

-- what is counted or not is no larger
counted : (b : Bool) (z : ℤ) (c : ℕ) → unsigned_abs z ≤ c → unsigned_abs (cond b z (pos 0)) ≤ c
counted true z c l = l
counted false z c l = omega arith

-- so many numbers sum to at most as many times the largest
below_size : (n c : ℕ) (f : ℕ → ℤ) → ((k : ℕ) → k < n → unsigned_abs (f k) ≤ c) → unsigned_abs (total_below n f) ≤ n * c
below_size zero c f h = omega arith
below_size (suc n) c f h = omega (arith, ints, below_size n c f (λ k l. h k (omega (arith, l))), h n (omega arith))

-- what the rows that end with an action are worth, in a form with few rows
rows_within : (s : Strategy) (J a : ℕ) → length s.form.rows ≤ 2 ^ 17 → All (λ z. unsigned_abs (worth_against s z) ≤ 2 ^ 77) s.form.rows → unsigned_abs (through_rows s J a) ≤ 2 ^ 94
rows_within s J a few all =
    let IsWithin : model.Row → Type 0 = λ z. unsigned_abs (worth_against s z) ≤ 2 ^ 77 in
    let ends : model.Row → Bool = λ z. is_taken (record { set = J; action = a }) (last_step (model.path_of z (opponent s))) in
    let size = total_size IsWithin (λ z. cond (ends z) (worth_against s z) (pos 0)) (λ z. 2 ^ 77) s.form.rows all (λ z h. counted (ends z) (worth_against s z) (2 ^ 77) h) in
    let sum = sum_most IsWithin (λ z. 2 ^ 77) (2 ^ 77) s.form.rows (recursion_from_All IsWithin s.form.rows all) (λ z h. omega arith) in
    omega (arith, size, sum, few)

-- what an action backs up by few numbers that are not large
pub through_within : (s : Strategy) (B : ℕ → ℤ) (J a : ℕ) → length s.form.rows ≤ 2 ^ 17 → All (λ z. unsigned_abs (worth_against s z) ≤ 2 ^ 77) s.form.rows
    → length (reply_sets s) ≤ 2 ^ 16 → ((I : ℕ) → I < length (reply_sets s) → unsigned_abs (B I) ≤ 2 ^ 100) → unsigned_abs (through s B J a) ≤ 2 ^ 117
through_within s B J a few all sets sizes =
    let follows : ℕ → Bool = λ I. is_taken (record { set = J; action = a }) (model.parent_of s.form (opponent s) I) in
    let below = below_size (length (reply_sets s)) (2 ^ 100) (λ I. cond (follows I) (B I) (pos 0)) (λ I l. counted (follows I) (B I) (2 ^ 100) (sizes I l)) in
    omega (arith, ints, below, rows_within s J a few all, sets)

-- ---- bounds

-- there is a bound for each set that the definitions have
pub sets_count : (f : FormValue) (grid : ℕ) (t : TableValue) (b : BoundsValue) → AreOf f grid t b → length (reply_sets (bounded_in f grid t b)) ≡ length b.bounds
sets_count f grid t b of = ap length (model_seat f (other b.keeper)) ∙ length-map (sets_of f (other b.keeper)) (λ s. s.actions) ∙ sym of.count

-- each of these sets has few actions
pub few_actions : (f : FormValue) (grid : ℕ) (t : TableValue) (b : BoundsValue) → AreOf f grid t b → (set : ℕ) → set < length b.bounds → get_or (seat_actions f (other b.keeper)) set 0 ≤ 2 ^ 16
few_actions f grid t b of set l =
    let ns = seat_actions f (other b.keeper) in
    let small : All (λ n. n ≤ 2 ^ 16) ns = subst (All (λ n. n ≤ 2 ^ 16)) (model_seat f (other b.keeper)) (at (eqb (other b.keeper) 1)) in
    small set 0 (omega (arith, l, of.count, length-map (sets_of f (other b.keeper)) (λ s. s.actions)))
  where
    at : (one : Bool) → All (λ n. n ≤ 2 ^ 16) (model.actions_in (cond one (sets_model f.sets1) (sets_model f.sets2)))
    at true = of.small.actions.0
    at false = of.small.actions.1

-- what an action backs up by bounds is below 2^117
pub backed_within : (f : FormValue) (grid : ℕ) (t : TableValue) (b : BoundsValue) → IsSeat b.keeper → AreOf f grid t b → (J a : ℕ)
    → unsigned_abs (through (bounded_in f grid t b) (at b.bounds) J a) ≤ 2 ^ 117
backed_within f grid t b seat of J a =
    let s = bounded_in f grid t b in
    let count = sets_count f grid t b of in
    let few_rows : length s.form.rows ≤ 2 ^ 17 = of.small.few in
    let ok = subst (λ ns. AreWeights grid ns t.weights) (sym (model_seat f b.keeper)) of.weights in
    through_within s (at b.bounds) J a few_rows (row_within (form_model f) b.keeper grid t.weights seat of.small ok)
    (omega (arith, count, of.few)) (λ I l. of.sizes I (pos 0) (omega (arith, l, count)))

-- few bounds that are not large sum to little
pub sum_within : (worths : List Worth) → length (numbers worths) ≤ 2 ^ 16 → All (λ z. unsigned_abs z ≤ 2 ^ 100) (numbers worths) → sum_over (λ (w : Worth). unsigned_abs w.0) worths ≤ 2 ^ 126
sum_within worths few all =
    let IsWithin : Worth → Type 0 = λ w. unsigned_abs w.0 ≤ 2 ^ 100 in
    let each : All IsWithin worths = λ k d l. subst (λ z. unsigned_abs z ≤ 2 ^ 100) (get_or-map (λ (w : Worth). w.0) worths k d d.0 l)
    (all k d.0 (omega (arith, l, length-map worths (λ (w : Worth). w.0)))) in
    let sum = sum_most IsWithin (λ w. unsigned_abs w.0) (2 ^ 100) worths (recursion_from_All IsWithin worths each) (λ w h. h) in
    omega (arith, sum, few, length-map worths (λ (w : Worth). w.0))

-- worths that are numbers of a range are no larger
pub range_within : (h : ℕ → ℤ) (c first n : ℕ) (worths : List Worth) → numbers worths ≡ map h (range_with_len first n) → ((k : ℕ) → unsigned_abs (h k) ≤ c) → All (λ (w : Worth). unsigned_abs w.0 ≤ c) worths
range_within h c first n worths e sizes k d l =
    let long : length worths ≡ n = sym (length-map worths (λ (w : Worth). w.0)) ∙ ap length e ∙ length-map-range_with_len h first n in
    let same : (get_or worths k d).0 ≡ h (first + k) =
    sym (get_or-map (λ (w : Worth). w.0) worths k d (pos 0) l) ∙ ap (λ zs. get_or zs k (pos 0)) e
    ∙ get_or-map-range_with_len h first n k (first + k) (pos 0) (subst (λ m. k < m) long l) refl in
    subst (λ z. unsigned_abs z ≤ c) (sym same) (sizes (first + k))
