-- Strategies of the program's forms: what rows are worth by them, and how large it is.
use Rattle.std.proofs.Common.{◌≡◌, ℕ, ◌+◌, ◌*◌, ◌^◌, ◌<◌, ◌≤◌, inl, inr, ℤ, pos, ◌*ℤ◌, cond, max, List, [], ◌∷◌, map, length, get_or, Some, unsigned_abs, refl, sym, ap, ◌∙◌, subst, arith, mul-le-mul}
use Rattle.std.specs.Option.{option_map}
use Rattle.std.proofs.lemmas.List.{get_or-map, length-map}
use Rattle.std.proofs.lemmas.Int.{unsigned_abs-mul}
use Rattle.std.proofs.lemmas.List.Elements.{recursion_from_All}
use Rattle.std.specs.List.{All}
use Rattle.lab_math.specs.Sums.{total}
use Rattle.lab_math.specs.Below.{total_below}
use Rattle.lab_math.proofs.NaturalSums.{sum_over-map}
use Rattle.lab_math.proofs.SumLemmas.{total-map}
use Rattle.lab_math.proofs.Totals.{total_cong, total_cong_all}
use Rattle.lab_defs_game.specs.Seats.{IsSeat, other}
use Rattle.lab_defs_game.specs.Paths.{SetAction, is_taken, last_step}
use Rattle.lab_defs_game.specs.Forms as model
use Rattle.lab_defs_value.specs.Tables.{own_weight}
use Rattle.lab_defs_value.specs.Replies.{worth_to, worth_against}
use Rattle.lab_defs_value.specs.Replies.{IsTable, reply_sets}
use Rattle.lab_defs_value.specs.Bounds.{through_sets, through_rows}
use Rattle.lab_defs_value.specs.Laws.{worth_sizes}
use Rattle.lab_defs_value.proofs.Sizing.{size_law}
use Rattle.lab_sizes.proofs.SizeSums.{sum_most}
use Rattle.lab_table.specs.Tables.{AreWeights, seat_actions}
use Rattle.lab_table.proofs.CallerLemmas.{weights_sum}
use Rattle.lab_best.proofs.SizeLemmas.{product_small, to_seat_size, grid_least}
use native.Mathlib.Nat.{le_of_eq}
use Rattle.lab_defs_value.specs.Expectation.{expectation}
use Rattle.lab_defs_value.specs.Smallness.{IsSmall, factors_at}
use Rattle.lab_defs_value.proofs.Bests.{one_pow}
use Rattle.lab_form.specs.declared.items.SetId.{SetId}
use Rattle.lab_form.specs.declared.items.FormRow.{FormRow}
use Rattle.lab_form.specs.declared.items.FormSet.{FormSet}
use Rattle.lab_form.specs.Forms.{FormValue, AreSets, AreRows, IsNextRow, sets_of, last_of, actions_in, whole_path, taken_model, sets_model, row_model, form_model}
use Rattle.lab_form.specs.Decisions.{short_decision, row_decisions}
use Rattle.lab_form.specs.Chains.{rows_of}
use Rattle.lab_form.proofs.CallerLemmas.{form_is, form_sets, form_actions, row_path, seat_step, whole_path_last}
use Rattle.lab_best.specs.Parts.{part_at, children_value}
use Rattle.lab_best.specs.Rows.{of_seat, pads_of, row_weight, row_factors, row_worth, row_term, IsPlayed, IsSmallRow, IsSmallTerm}
use Rattle.lab_best.specs.Values.{strategy_in, IsSmallFor}
use Rattle.lab_best.proofs.ThroughLemmas.{no_row, rows_total}

-- the weights of a seat on a row, as the definitions have them
pub row_weight_is : (f : FormValue) (seat grid : ℕ) (weights : List ℕ) (r : FormRow)
    → own_weight grid (model.actions_of (form_model f) seat) weights (model.path_of (row_model f.sets1 f.sets2 r) seat) (model.pad_of (row_model f.sets1 f.sets2 r) seat) ≡ row_weight grid seat (sets_of f seat) weights r
row_weight_is f seat grid weights r =
    ap (λ ns. own_weight grid ns weights (model.path_of (row_model f.sets1 f.sets2 r) seat) (pads_of r seat)) (form_actions f seat)
    ∙ ap (λ path. own_weight grid (actions_in (sets_of f seat)) weights path (pads_of r seat)) (row_path f seat r)

-- what a row is worth against the keeper, as the definitions have it
pub row_worth_is : (f : FormValue) (keeper grid : ℕ) (weights : List ℕ) (r : FormRow) → worth_against (strategy_in f keeper grid weights) (row_model f.sets1 f.sets2 r) ≡ row_worth keeper grid (sets_of f keeper) weights r
row_worth_is f keeper grid weights r = ap (λ n. worth_to (other keeper) r.worth.0 *ℤ pos n) (row_weight_is f keeper grid weights r)

-- how many factors of a seat a row has
pub row_factors_is : (f : FormValue) (seat : ℕ) (r : FormRow)
    → model.deciding (model.actions_of (form_model f) seat) (model.path_of (row_model f.sets1 f.sets2 r) seat) + model.pad_of (row_model f.sets1 f.sets2 r) seat ≡ row_factors seat (sets_of f seat) r
row_factors_is f seat r =
    ap (λ ns. model.deciding ns (model.path_of (row_model f.sets1 f.sets2 r) seat) + pads_of r seat) (form_actions f seat)
    ∙ ap (λ path. model.deciding (actions_in (sets_of f seat)) path + pads_of r seat) (row_path f seat r)

-- ---- last decisions

-- the last decisions of a row are among those of all rows
pub row_decision : (f : FormValue) (seat : ℕ) → IsSeat seat → (n : ℕ) → n < length f.rows → (decisions : List (List ℕ)) (none : List ℕ) (r : FormRow) → decisions ≡ row_decisions f.sets1 f.sets2 f.rows
    → of_seat (get_or decisions n none) seat ≡ short_decision (sets_of f seat) (last_of (get_or f.rows n r) seat)
row_decision f seat ok n l decisions none r e =
    ap (λ ds. of_seat (get_or ds n none) seat) e ∙ ap (λ d. of_seat d seat) (get_or-map of_row f.rows n r none l) ∙ at ok
  where
    of_row : FormRow → List ℕ
    of_row row = short_decision f.sets1 (last_of row 1) ∷ short_decision f.sets2 (last_of row 2) ∷ []

    at : IsSeat seat → of_seat (of_row (get_or f.rows n r)) seat ≡ short_decision (sets_of f seat) (last_of (get_or f.rows n r) seat)
    at (inl e) = subst (λ k. of_seat (of_row (get_or f.rows n r)) k ≡ short_decision (sets_of f k) (last_of (get_or f.rows n r) k)) (sym e) refl
    at (inr e) = subst (λ k. of_seat (of_row (get_or f.rows n r)) k ≡ short_decision (sets_of f k) (last_of (get_or f.rows n r) k)) (sym e) refl

-- there are as many
pub decisions_length : (f : FormValue) → length (row_decisions f.sets1 f.sets2 f.rows) ≡ length f.rows
decisions_length f = length-map f.rows (λ row. short_decision f.sets1 (last_of row 1) ∷ short_decision f.sets2 (last_of row 2) ∷ [])

-- ---- rows that end with an action

-- what the rows at a set add for an action is what the rows are worth that end with it
pub rows_value : (f : FormValue) (keeper grid : ℕ) (weights : List ℕ) → AreSets (sets_of f (other keeper)) → AreRows f.sets1 f.sets2 f.rows → (set : SetId) (first i : ℕ)
    → total (λ n. part_at first (last_of (get_or f.rows n no_row) (other keeper)) (row_worth keeper grid (sets_of f keeper) weights (get_or f.rows n no_row)) i) (rows_of (other keeper) f.rows (Some set))
    ≡ through_rows (strategy_in f keeper grid weights) set.0 (first + i)
rows_value f keeper grid weights order ok set first i =
    let seat = other keeper in
    let s = strategy_in f keeper grid weights in
    let h = row_worth keeper grid (sets_of f keeper) weights in
    let t : SetAction = record { set = set.0; action = first + i } in
    let last : (r : FormRow) → IsNextRow f.sets1 f.sets2 r → last_step (model.path_of (row_model f.sets1 f.sets2 r) seat) ≡ option_map taken_model (last_of r seat) =
    λ r next. ap last_step (row_path f seat r) ∙ whole_path_last (sets_of f seat) order (last_of r seat) (seat_step f seat r next) in
    rows_total seat f.rows h set first i
    ∙ total_cong_all (IsNextRow f.sets1 f.sets2) (λ r. cond (is_taken t (option_map taken_model (last_of r seat))) (h r) (pos 0))
    (λ r. cond (is_taken t (last_step (model.path_of (row_model f.sets1 f.sets2 r) seat))) (worth_against s (row_model f.sets1 f.sets2 r)) (pos 0)) f.rows ok
    (λ r next.
    ap (λ o. cond (is_taken t o) (h r) (pos 0)) (sym (last r next))
    ∙ ap (λ z. cond (is_taken t (last_step (model.path_of (row_model f.sets1 f.sets2 r) seat))) z (pos 0)) (sym (row_worth_is f keeper grid weights r)))
    ∙ sym (total-map (λ (z : model.Row). cond (is_taken t (last_step (model.path_of z seat))) (worth_against s z) (pos 0)) (row_model f.sets1 f.sets2) f.rows)

-- so it is where rows, sets, seat and numbers are known by equations
pub rows_walk : (f : FormValue) (keeper grid : ℕ) (weights : List ℕ) → AreSets (sets_of f (other keeper)) → AreRows f.sets1 f.sets2 f.rows → (set : SetId) (first i : ℕ)
    → (rows : List FormRow) (sets : List FormSet) (seat : ℕ) (numbers : List ℕ) → rows ≡ f.rows → sets ≡ sets_of f keeper → seat ≡ other keeper → numbers ≡ rows_of seat f.rows (Some set)
    → total (λ n. part_at first (last_of (get_or rows n no_row) seat) (row_worth keeper grid sets weights (get_or rows n no_row)) i) numbers ≡ through_rows (strategy_in f keeper grid weights) set.0 (first + i)
rows_walk f keeper grid weights order ok set first i rows sets seat numbers a b c e =
    ap (λ ns. total (λ n. part_at first (last_of (get_or rows n no_row) seat) (row_worth keeper grid sets weights (get_or rows n no_row)) i) ns) e
    ∙ ap (λ (rs : List FormRow). total (λ n. part_at first (last_of (get_or rs n no_row) seat) (row_worth keeper grid sets weights (get_or rs n no_row)) i) (rows_of seat f.rows (Some set))) a
    ∙ ap (λ (ss : List FormSet). total (λ n. part_at first (last_of (get_or f.rows n no_row) seat) (row_worth keeper grid ss weights (get_or f.rows n no_row)) i) (rows_of seat f.rows (Some set))) b
    ∙ ap (λ k. total (λ n. part_at first (last_of (get_or f.rows n no_row) k) (row_worth keeper grid (sets_of f keeper) weights (get_or f.rows n no_row)) i) (rows_of k f.rows (Some set))) c
    ∙ rows_value f keeper grid weights order ok set first i

-- ---- small forms

-- what a row of a small form comes to
row_size_is : (grid1 grid2 : ℕ) (f : FormValue) → IsSmall grid1 grid2 (form_model f) → (n : ℕ) (d : FormRow) → n < length f.rows →
    let r = get_or f.rows n d in
    max 1 (unsigned_abs r.worth.0) * (grid1 ^ row_factors 1 f.sets1 r * grid2 ^ row_factors 2 f.sets2 r) ≤ 2 ^ 77
row_size_is grid1 grid2 f small n d l =
    let r = get_or f.rows n d in
    let there : n < length (map (row_model f.sets1 f.sets2) f.rows) = omega (arith, l, length-map f.rows (row_model f.sets1 f.sets2)) in
    let row : get_or (map (row_model f.sets1 f.sets2) f.rows) n (row_model f.sets1 f.sets2 d) ≡ row_model f.sets1 f.sets2 r = get_or-map (row_model f.sets1 f.sets2) f.rows n d (row_model f.sets1 f.sets2 d) l in
    subst (λ k. max 1 (unsigned_abs r.worth.0) * (grid1 ^ row_factors 1 f.sets1 r * grid2 ^ k) ≤ 2 ^ 77) (row_factors_is f 2 r)
    (subst (λ k. max 1 (unsigned_abs r.worth.0) * (grid1 ^ k * grid2 ^ (model.deciding (model.actions_of (form_model f) 2) (whole_path f.sets2 (last_of r 2)) + pads_of r 2)) ≤ 2 ^ 77) (row_factors_is f 1 r)
    (subst (λ (z : model.Row). max 1 (unsigned_abs z.worth) * (grid1 ^ (model.deciding (model.actions_of (form_model f) 1) z.path1 + z.pad1) * grid2 ^ (model.deciding (model.actions_of (form_model f) 2) z.path2 + z.pad2)) ≤ 2 ^ 77) row
    (small.rows n (row_model f.sets1 f.sets2 d) there)))

-- so is each row of a form that is small for the keeper's grid, as the keeper sees it
pub small_rows : (f : FormValue) (keeper grid : ℕ) → IsSeat keeper → IsSmallFor keeper grid f → AreRows f.sets1 f.sets2 f.rows → (n : ℕ) (d : FormRow) → n < length f.rows → IsSmallRow keeper grid (sets_of f keeper) (get_or f.rows n d)
small_rows f keeper grid (inl e) small rows n d l =
    subst (λ k. IsSmallFor k grid f → IsSmallRow k grid (sets_of f k) (get_or f.rows n d)) (sym e) (λ small.
    let r = get_or f.rows n d in
    record {
      step = (rows n d l).one;
      size = subst (λ x. max 1 (unsigned_abs r.worth.0) * x ≤ 2 ^ 77) (ap (λ x. grid ^ row_factors 1 f.sets1 r * x) (one_pow (row_factors 2 f.sets2 r)) ∙ omega arith) (row_size_is grid 1 f small n d l);
    }) small
small_rows f keeper grid (inr e) small rows n d l =
    subst (λ k. IsSmallFor k grid f → IsSmallRow k grid (sets_of f k) (get_or f.rows n d)) (sym e) (λ small.
    let r = get_or f.rows n d in
    record {
      step = (rows n d l).two;
      size = subst (λ x. max 1 (unsigned_abs r.worth.0) * x ≤ 2 ^ 77) (ap (λ x. x * grid ^ row_factors 2 f.sets2 r) (one_pow (row_factors 1 f.sets1 r)) ∙ omega arith) (row_size_is 1 grid f small n d l);
    }) small

-- ---- sets that follow an action

-- the values of the sets that follow an action, as the definitions have them
pub children_through : (f : FormValue) (keeper grid : ℕ) (weights : List ℕ) (B : ℕ → ℤ) (J a : ℕ) → children_value (sets_of f (other keeper)) B J a ≡ through_sets (strategy_in f keeper grid weights) B J a
children_through f keeper grid weights B J a =
    let seat = other keeper in
    let t : SetAction = record { set = J; action = a } in
    let long : length (sets_of f seat) ≡ length (model.actions_of (form_model f) seat) = sym (ap length (form_actions f seat) ∙ length-map (sets_of f seat) (λ (s : FormSet). s.actions)) in
    ap (λ n. total_below n (λ I. cond (is_taken t (model.parent_at (sets_model (sets_of f seat)) I)) (B I) (pos 0))) long
    ∙ ap (λ (sets : List model.FormSet). total_below (length (model.actions_of (form_model f) seat)) (λ I. cond (is_taken t (model.parent_at sets I)) (B I) (pos 0))) (sym (form_sets f seat))

-- as many replying sets as the form has
pub replies_length : (f : FormValue) (keeper grid : ℕ) (weights : List ℕ) → length (reply_sets (strategy_in f keeper grid weights)) ≡ length (sets_of f (other keeper))
replies_length f keeper grid weights = ap length (form_actions f (other keeper)) ∙ length-map (sets_of f (other keeper)) (λ (s : FormSet). s.actions)

-- ---- worths together

-- the keeper's grid is at least 1
pub keeper_grid : (f : FormValue) (keeper grid : ℕ) → IsSeat keeper → IsSmallFor keeper grid f → 1 ≤ grid
keeper_grid f keeper grid (inl e) small = (subst (λ k. IsSmallFor k grid f) e small).grids.0
keeper_grid f keeper grid (inr e) small = (subst (λ k. IsSmallFor k grid f) e small).grids.2

-- a seat's weights on a small form make a table there
pub is_table : (f : FormValue) (keeper grid : ℕ) (weights : List ℕ) → 1 ≤ grid → AreWeights grid (seat_actions f keeper) weights → IsTable (model.actions_of (form_model f) keeper) grid weights
is_table f keeper grid weights least ok = subst (λ ns. IsTable ns grid weights) (sym (form_actions f keeper)) (least, weights_sum grid (seat_actions f keeper) weights ok)

-- the rows of a form that is small for the keeper are worth at most 2^94 together
pub worths_small : (f : FormValue) (keeper grid : ℕ) (weights : List ℕ) → IsSeat keeper → IsSmallFor keeper grid f → AreSets (sets_of f keeper) → AreRows f.sets1 f.sets2 f.rows → IsPlayed grid (sets_of f keeper) weights
    → worth_sizes (strategy_in f keeper grid weights) ≤ 2 ^ 94
worths_small f keeper grid weights seat small order rows played =
    let s = strategy_in f keeper grid weights in
    let F = form_model f in
    let own = size_law.0 F keeper grid weights (form_is f keeper order rows) (is_table f keeper grid weights played.least played.weights) in
    let each : All (λ (r : FormRow). unsigned_abs (worth_against s (row_model f.sets1 f.sets2 r)) ≤ 2 ^ 77) f.rows = λ n d l.
    let r = get_or f.rows n d in
    let small_row = small_rows f keeper grid seat small rows n d l in
    let there : n < length F.rows = omega (arith, l, length-map f.rows (row_model f.sets1 f.sets2)) in
    let row : get_or F.rows n (row_model f.sets1 f.sets2 d) ≡ row_model f.sets1 f.sets2 r = get_or-map (row_model f.sets1 f.sets2) f.rows n d (row_model f.sets1 f.sets2 d) l in
    let most : row_weight grid keeper (sets_of f keeper) weights r ≤ grid ^ row_factors keeper (sets_of f keeper) r =
    subst (λ k. row_weight grid keeper (sets_of f keeper) weights r ≤ grid ^ k) (row_factors_is f keeper r)
    (subst (λ w. w ≤ grid ^ (model.deciding (model.actions_of F keeper) (model.path_of (row_model f.sets1 f.sets2 r) keeper) + model.pad_of (row_model f.sets1 f.sets2 r) keeper)) (row_weight_is f keeper grid weights r)
    (subst (λ (z : model.Row). own_weight grid (model.actions_of F keeper) weights (model.path_of z keeper) (model.pad_of z keeper) ≤ grid ^ (model.deciding (model.actions_of F keeper) (model.path_of z keeper) + model.pad_of z keeper)) row (own n (row_model f.sets1 f.sets2 d) there))) in
    let product = product_small (unsigned_abs r.worth.0) (grid ^ row_factors keeper (sets_of f keeper) r) small_row.size (row_weight grid keeper (sets_of f keeper) weights r) most in
    let size : unsigned_abs (row_worth keeper grid (sets_of f keeper) weights r) ≡ unsigned_abs r.worth.0 * row_weight grid keeper (sets_of f keeper) weights r =
    unsigned_abs-mul (worth_to (other keeper) r.worth.0) (pos (row_weight grid keeper (sets_of f keeper) weights r)) ∙ ap (λ n. n * row_weight grid keeper (sets_of f keeper) weights r) (to_seat_size (other keeper) r.worth.0) in
    subst (λ z. unsigned_abs z ≤ 2 ^ 77) (sym (row_worth_is f keeper grid weights r)) (omega (arith, size, product)) in
    let together = sum_most (λ (r : FormRow). unsigned_abs (worth_against s (row_model f.sets1 f.sets2 r)) ≤ 2 ^ 77) (λ r. unsigned_abs (worth_against s (row_model f.sets1 f.sets2 r))) (2 ^ 77) f.rows
    (recursion_from_All (λ (r : FormRow). unsigned_abs (worth_against s (row_model f.sets1 f.sets2 r)) ≤ 2 ^ 77) f.rows each) (λ r h. h) in
    let few : length f.rows ≤ 2 ^ 17 = subst (λ n. n ≤ 2 ^ 17) (length-map f.rows (row_model f.sets1 f.sets2)) small.few in
    omega (arith, together, few, sum_over-map (λ (z : model.Row). unsigned_abs (worth_against s z)) (row_model f.sets1 f.sets2) f.rows)

-- ---- both seats

-- a form that is small for both grids is small for the grid of each seat alone
pub small_for : (f : FormValue) (grid1 grid2 : ℕ) → IsSmall grid1 grid2 (form_model f) → IsSmallFor 1 grid1 f × IsSmallFor 2 grid2 f
small_for f grid1 grid2 small =
    let F = form_model f in
    let g = small.grids in (
      record {
        grids = (g.0, g.1, omega arith, omega arith);
        few = small.few;
        rows = λ n d l.
            let z = get_or F.rows n d in
            let one = one_pow (factors_at F 2 z) in
            let least = grid_least grid2 (factors_at F 2 z) g.2 in
            let le : max 1 (unsigned_abs z.worth) * (grid1 ^ factors_at F 1 z * 1 ^ factors_at F 2 z) ≤ max 1 (unsigned_abs z.worth) * (grid1 ^ factors_at F 1 z * grid2 ^ factors_at F 2 z) =
            mul-le-mul (le_of_eq refl) (mul-le-mul (le_of_eq refl) (omega (arith, one, least))) in
            omega (arith, le, small.rows n d l);
        actions = small.actions;
        ways = (small.ways.0, λ I l. let one = one_pow (model.decisions_to F.sets2 I) in omega (arith, one));
      },
      record {
        grids = (omega arith, omega arith, g.2, g.3);
        few = small.few;
        rows = λ n d l.
            let z = get_or F.rows n d in
            let one = one_pow (factors_at F 1 z) in
            let least = grid_least grid1 (factors_at F 1 z) g.0 in
            let le : max 1 (unsigned_abs z.worth) * (1 ^ factors_at F 1 z * grid2 ^ factors_at F 2 z) ≤ max 1 (unsigned_abs z.worth) * (grid1 ^ factors_at F 1 z * grid2 ^ factors_at F 2 z) =
            mul-le-mul (le_of_eq refl) (mul-le-mul (omega (arith, one, least)) (le_of_eq refl)) in
            omega (arith, le, small.rows n d l);
        actions = small.actions;
        ways = (λ I l. let one = one_pow (model.decisions_to F.sets1 I) in omega (arith, one), small.ways.1);
      },
    )

-- each of its rows is small for both seats together
pub small_terms : (f : FormValue) (grid1 grid2 : ℕ) → IsSmall grid1 grid2 (form_model f) → AreRows f.sets1 f.sets2 f.rows → (n : ℕ) (d : FormRow) → n < length f.rows → IsSmallTerm grid1 grid2 f.sets1 f.sets2 (get_or f.rows n d)
small_terms f grid1 grid2 small rows n d l =
    let each = small_for f grid1 grid2 small in
    record {
      one = small_rows f 1 grid1 (inl refl) each.0 rows n d l;
      two = small_rows f 2 grid2 (inr refl) each.1 rows n d l;
      size = row_size_is grid1 grid2 f small n d l;
    }

-- the terms of all rows are what seat 1 expects
pub terms_total : (f : FormValue) (grid1 grid2 : ℕ) (one two : List ℕ) → total (row_term grid1 grid2 f.sets1 f.sets2 one two) f.rows ≡ expectation grid1 grid2 (form_model f) one two
terms_total f grid1 grid2 one two =
    let F = form_model f in
    let term : model.Row → ℤ = λ r. r.worth *ℤ pos (own_weight grid1 (model.actions_of F 1) one r.path1 r.pad1 * own_weight grid2 (model.actions_of F 2) two r.path2 r.pad2) in
    total_cong (row_term grid1 grid2 f.sets1 f.sets2 one two) (λ r. term (row_model f.sets1 f.sets2 r)) f.rows
    (λ r.
    ap (λ w. r.worth.0 *ℤ pos (w * row_weight grid2 2 f.sets2 two r)) (sym (row_weight_is f 1 grid1 one r))
    ∙ ap (λ w. r.worth.0 *ℤ pos (own_weight grid1 (model.actions_of F 1) one (whole_path f.sets1 (last_of r 1)) (pads_of r 1) * w)) (sym (row_weight_is f 2 grid2 two r)))
    ∙ sym (total-map term (row_model f.sets1 f.sets2) f.rows)
