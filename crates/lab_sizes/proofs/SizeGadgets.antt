-- How much a row of a gadget comes to.
use Rattle.std.proofs.Common.{◌≡◌, ℕ, suc, ◌+◌, ◌*◌, ◌^◌, ◌<◌, ◌≤◌, ℤ, pos, neg_ℤ, ◌≤ℤ◌, List, [], ◌∷◌, ◌++◌, Bool, true, false, cond, eqb, length, map, max, refl, sym, ap, ◌∙◌, subst, arith, inl, inr, mul-le-mul, le_of_eq}
use native.Mathlib.Nat.{pow-zero, pow-succ'}
use Rattle.std.proofs.Math.Nat.{pow-le-pow_right}
use Rattle.std.specs.Prelude.{unsigned_abs, slice_index, nat_le}
use Rattle.std.specs.List.{range_with_len}
use Rattle.std.proofs.lemmas.Int.{ints}
use Rattle.std.proofs.lemmas.Bool.{and_parts, leb-true}
use Rattle.std.proofs.lemmas.List.{get_or-append-add}
use Rattle.std.proofs.lemmas.List.Elements.{recursion_from_All, All-from_recursion}
use Rattle.lab_math.proofs.Elements.{all_map}
use Rattle.lab_math.proofs.Members.{in_get_or}
use Rattle.lab_defs_text.specs.Games.{GameModel}
use Rattle.lab_defs_text.specs.Texts.{game_ok}
use Rattle.lab_defs_text.proofs.GameLemmas.{game_fine}
use Rattle.lab_defs_game.specs.Sets.{most_decisions}
use Rattle.lab_defs_game.specs.Chance.{scale}
use Rattle.lab_defs_game.specs.Forms.{FormSet, Row, Form, path_of, actions_in, actions_of, decides, deciding}
use Rattle.lab_defs_game.specs.Paths.{SetAction}
use Rattle.lab_defs_game.specs.Unfolding.{top_payoff}
use Rattle.lab_defs_game.specs.Seats.{grid_of, other, IsSeat}
use Rattle.lab_defs_value.specs.Replies.{worth_to}
use Rattle.lab_defs_value.specs.Allowances.{Rule, cfrd, reach, margin}
use Rattle.lab_defs_game.specs.Nodes.{root_sets}
use Rattle.lab_defs_value.specs.Subgames.{subgame_form}
use Rattle.lab_defs_value.specs.Gadgets.{gadget_sets, sets_entered, raised, follow_step, terminate_step, terminate_worth, entered_path, with_path, terminate_row, node_limit, gadget_form}
use Rattle.lab_defs_value.proofs.Chains.{sets_length}
use Rattle.lab_defs_value.proofs.Entries.{actions_entered}
use Rattle.lab_defs_value.proofs.GameStrategies.{roots_below}
use Rattle.lab_defs_value.proofs.GadgetForms.{all_images}
use Rattle.lab_defs_value.proofs.RoundedTables.{all_both_parts}
use Rattle.lab_defs_value.specs.Bounds.{value_limit, HasBounds}
use Rattle.lab_defs_game.specs.Accepted.{IsAccepted}
use Rattle.lab_sizes.proofs.SizeMass.{turned_size}
use Rattle.lab_defs_game.proofs.ChanceSizes.{some_scale}
use Rattle.lab_defs_game.proofs.GridSizes.{some_grid}
use Rattle.lab_sizes.proofs.SizeRanges.{some_power}
use Rattle.lab_sizes.proofs.SizeLimits.{limit_law}
use Rattle.lab_sizes.proofs.SizeRows.{top, whole_most, game_rows, subgame_rows}
use Rattle.lab_sizes.specs.Sizes.{RowLaw}
use Rattle.lab_defs_value.specs.Smallness.{row_size, HasRows}

-- ---- paths that enter

-- as many decide on a raised path
pub deciding_raised : (front ns : List ℕ) (n : ℕ) → n ≡ length front → (path : List SetAction) → deciding (front ++ ns) (map (raised n) path) ≡ deciding ns path
deciding_raised front ns n e [] = refl
deciding_raised front ns n e (t ∷ ts) =
    ap (λ k. cond (nat_le 2 k) 1 0 + deciding (front ++ ns) (map (raised n) ts)) (ap (λ m. slice_index (front ++ ns) (m + t.set)) e ∙ get_or-append-add front ns t.set 0)
    ∙ ap (λ k. cond (decides ns t.set) 1 0 + k) (deciding_raised front ns n e ts)

-- a test counts at most one
pub one_most : (b : Bool) → cond b 1 0 ≤ 1
one_most true = omega arith
one_most false = omega arith

-- a path that enters has at most one deciding set more
deciding_entered : (rule : Rule) (roots : ℕ) (sets : List FormSet) (path : List SetAction)
    → deciding (actions_in (sets_entered rule roots sets)) (entered_path rule (length (gadget_sets rule roots)) path) ≤ 1 + deciding (actions_in sets) path
deciding_entered rule roots sets path =
    subst (λ ns. deciding ns (entered_path rule (length (gadget_sets rule roots)) path) ≤ 1 + deciding (actions_in sets) path) (sym (actions_entered rule roots sets)) (by path)
  where
    front : List ℕ
    front = actions_in (gadget_sets rule roots)

    by : (path : List SetAction) → deciding (front ++ actions_in sets) (entered_path rule (length (gadget_sets rule roots)) path) ≤ 1 + deciding (actions_in sets) path
    by [] = omega arith
    by (t ∷ ts) =
        let one = one_most (decides (front ++ actions_in sets) (follow_step rule t.set).set) in
        let rest = deciding_raised front (actions_in sets) (length (gadget_sets rule roots)) (sym (sets_length (gadget_sets rule roots))) (t ∷ ts) in
        omega (arith, one, rest)

-- ---- numbers

-- the grid is at most 2^12
pub grid_most : (g : GameModel) → game_ok g ≡ true → g.grid ≤ 4096
grid_most g ok = leb-true g.grid 4096 (and_parts (nat_le 1 g.grid) (nat_le g.grid 4096) (game_fine g ok).grid).1

-- one more factor of a grid
pub power_more : (d e f : ℕ) → 1 ≤ d → d ≤ 4096 → f ≤ 1 + e → d ^ f ≤ 4096 * d ^ e
power_more d e f some le more =
    let up : d ^ f ≤ d ^ (suc e) = pow-le-pow_right some (omega (arith, more)) in
    let one : d ^ (suc e) ≡ d * d ^ e = pow-succ' d e in
    let l : d * d ^ e ≤ 4096 * d ^ e = mul-le-mul le (le_of_eq refl) in
    omega (arith, up, one, l)

-- a row with one more factor
entered_most : (m x d e f : ℕ) → 1 ≤ d → d ≤ 4096 → f ≤ 1 + e → m * (x * d ^ e) ≤ 2 ^ 64 → m * (x * d ^ f) ≤ 2 ^ 77
entered_most m x d e f some le more whole =
    let p = power_more d e f some le more in
    let inner : x * d ^ f ≤ x * (4096 * d ^ e) = mul-le-mul (le_of_eq refl) p in
    let l : m * (x * d ^ f) ≤ m * (x * (4096 * d ^ e)) = mul-le-mul (le_of_eq refl) inner in
    let r : m * (x * (4096 * d ^ e)) ≡ 4096 * (m * (x * d ^ e)) = regroup m x (d ^ e) in
    omega (arith, l, r, whole)
  where
    regroup : (m x y : ℕ) → m * (x * (4096 * y)) ≡ 4096 * (m * (x * y))
    regroup m x y = omega arith

-- a row that ends before a root set
ending_most : (w : ℤ) (m d nk most f : ℕ) → unsigned_abs w ≤ 2 * (m * d ^ nk) → 1 ≤ m → 1 ≤ d → d ≤ 4096 → f ≤ 1 + most → m * (d ^ nk * d ^ most) ≤ 2 ^ 64 → max 1 (unsigned_abs w) * d ^ f ≤ 2 ^ 77
ending_most w m d nk most f size large some le more whole =
    let power : 1 ≤ d ^ nk = some_power d nk some in
    let one : 1 * 1 ≤ m * d ^ nk = mul-le-mul large power in
    let a : max 1 (unsigned_abs w) ≤ 2 * (m * d ^ nk) = omega (arith, size, one) in
    let l : max 1 (unsigned_abs w) * d ^ f ≤ (2 * (m * d ^ nk)) * (4096 * d ^ most) = mul-le-mul a (power_more d most f some le more) in
    let e : (2 * (m * d ^ nk)) * (4096 * d ^ most) ≡ 8192 * (m * (d ^ nk * d ^ most)) = regroup m (d ^ nk) (d ^ most) in
    omega (arith, l, e, whole)
  where
    regroup : (m x y : ℕ) → (2 * (m * x)) * (4096 * y) ≡ 8192 * (m * (x * y))
    regroup m x y = omega arith

-- what is earned at an end is as large as the limit
ending_size : (rule : Rule) (o : ℕ) (l : ℤ) → unsigned_abs (worth_to o (terminate_worth rule l)) ≡ unsigned_abs l
ending_size cfrd o l = turned_size (eqb o 1) l
ending_size reach o l = turned_size (eqb o 1) l
ending_size margin o l = turned_size (eqb o 1) (neg_ℤ l) ∙ omega (arith, ints)

-- ---- the gadgets of an accepted game

module _ (g : GameModel) (ok : IsAccepted g) (node table : List ℕ) (bounds : List ℤ) (rule : Rule) where
  -- a limit is at most twice the most that a best value may be
  limit_size : (keeper : ℕ) → IsSeat keeper → HasBounds g keeper table bounds → (i : ℕ) → i < length (root_sets g (other keeper) node)
      → unsigned_abs (node_limit g rule keeper node table bounds i) ≤ 2 * value_limit g keeper
  limit_size keeper is has i l =
      let I = slice_index (root_sets g (other keeper) node) i in
      let there = roots_below g (other keeper) node I (in_get_or (root_sets g (other keeper) node) i 0 l) in
      let b = (limit_law g ok keeper is table bounds has rule node I there).0 in
      between (node_limit g rule keeper node table bounds i) (value_limit g keeper) b.0 b.1
    where
      between : (x : ℤ) (m : ℕ) → neg_ℤ (pos m) ≤ℤ x → x ≤ℤ pos (2 * m) → unsigned_abs x ≤ 2 * m
      between x m p q = omega (arith, ints, p, q)

  some_top : 1 ≤ top g ok
  some_top = let one : 1 ≤ max 1 (top_payoff g) = omega arith in let r : 1 * 1 ≤ max 1 (top_payoff g) * scale g = mul-le-mul one (some_scale g ok.good) in omega (arith, r)

  -- against seat 1
  gadget1 : HasBounds g 1 table bounds → HasRows (grid_of g 1) (grid_of g 2) (gadget_form g rule 1 node table bounds) (2 ^ 77)
  gadget1 has =
      let f = subgame_form g 1 node table in
      let roots = length (root_sets g 2 node) in
      let further = gadget_sets rule roots in
      let h = gadget_form g rule 1 node table bounds in
      let H = λ (z : Row). with_path 2 (entered_path rule (length further) (path_of z 2)) z in
      let l = λ (i : ℕ). node_limit g rule 1 node table bounds i in
      let E = λ (i : ℕ). terminate_row rule 2 (most_decisions g 2) i (l i) in
      let P = λ (z : Row). row_size (grid_of g 1) (grid_of g 2) f z ≤ 2 ^ 64 in
      let Q = λ (z : Row). row_size (grid_of g 1) (grid_of g 2) h z ≤ 2 ^ 77 in
      let first = all_map P Q H f.rows (λ z small. entered1 f roots z small) (recursion_from_All P f.rows (subgame_rows g ok node table 1 (inl refl) has.sums)) in
      let last = all_images Q E 0 roots (λ i ge lt.
      let size = limit_size 1 (inl refl) has i (omega (arith, lt)) in
      ended1 ((actions_of h 2)) i (l i) size) in
      All-from_recursion Q h.rows (all_both_parts Q (map H f.rows) (map E (range_with_len 0 roots)) first last)
    where
      entered1 : (f : Form) (roots : ℕ) (z : Row) → max 1 (unsigned_abs z.worth) * (g.grid ^ (deciding (actions_of f 1) z.path1 + z.pad1) * g.grid ^ (deciding (actions_of f 2) z.path2 + z.pad2)) ≤ 2 ^ 64
          → max 1 (unsigned_abs z.worth) * (g.grid ^ (deciding (actions_of f 1) z.path1 + z.pad1) * g.grid ^ (deciding (actions_in (sets_entered rule roots f.sets2)) (entered_path rule (length (gadget_sets rule roots)) z.path2) + z.pad2)) ≤ 2 ^ 77
      entered1 f roots z small =
          let one = deciding_entered rule roots f.sets2 z.path2 in
          entered_most (max 1 (unsigned_abs z.worth)) (g.grid ^ (deciding (actions_of f 1) z.path1 + z.pad1)) g.grid (deciding (actions_of f 2) z.path2 + z.pad2) (deciding (actions_in (sets_entered rule roots f.sets2)) (entered_path rule (length (gadget_sets rule roots)) z.path2) + z.pad2)
          (some_grid g ok.good) (grid_most g ok.good) (omega (arith, one)) small

      ended1 : (ns : List ℕ) (i : ℕ) (l : ℤ) → unsigned_abs l ≤ 2 * value_limit g 1
          → max 1 (unsigned_abs (worth_to 2 (terminate_worth rule l))) * (g.grid ^ (0 + 0) * g.grid ^ (deciding ns (terminate_step rule i ∷ []) + most_decisions g 2)) ≤ 2 ^ 77
      ended1 ns i l size =
          let w = worth_to 2 (terminate_worth rule l) in
          let one = one_most (decides ns (terminate_step rule i).set) in
          let most = ending_most w (top g ok) g.grid (most_decisions g 1) (most_decisions g 2) (deciding ns (terminate_step rule i ∷ []) + most_decisions g 2) (omega (arith, ending_size rule 2 l, size)) some_top (some_grid g ok.good) (grid_most g ok.good) (omega (arith, one)) (whole_most g ok) in
          omega (arith, most, ap (λ x. max 1 (unsigned_abs w) * (x * g.grid ^ (deciding ns (terminate_step rule i ∷ []) + most_decisions g 2))) (pow-zero g.grid))

  -- against seat 2
  gadget2 : HasBounds g 2 table bounds → HasRows (grid_of g 1) (grid_of g 2) (gadget_form g rule 2 node table bounds) (2 ^ 77)
  gadget2 has =
      let f = subgame_form g 2 node table in
      let roots = length (root_sets g 1 node) in
      let further = gadget_sets rule roots in
      let h = gadget_form g rule 2 node table bounds in
      let H = λ (z : Row). with_path 1 (entered_path rule (length further) (path_of z 1)) z in
      let l = λ (i : ℕ). node_limit g rule 2 node table bounds i in
      let E = λ (i : ℕ). terminate_row rule 1 (most_decisions g 1) i (l i) in
      let P = λ (z : Row). row_size (grid_of g 1) (grid_of g 2) f z ≤ 2 ^ 64 in
      let Q = λ (z : Row). row_size (grid_of g 1) (grid_of g 2) h z ≤ 2 ^ 77 in
      let first = all_map P Q H f.rows (λ z small. entered2 f roots z small) (recursion_from_All P f.rows (subgame_rows g ok node table 2 (inr refl) has.sums)) in
      let last = all_images Q E 0 roots (λ i ge lt.
      let size = limit_size 2 (inr refl) has i (omega (arith, lt)) in
      ended2 ((actions_of h 1)) i (l i) size) in
      All-from_recursion Q h.rows (all_both_parts Q (map H f.rows) (map E (range_with_len 0 roots)) first last)
    where
      turn : (m x y : ℕ) → m * (x * y) ≡ m * (y * x)
      turn m x y = omega arith

      entered2 : (f : Form) (roots : ℕ) (z : Row) → max 1 (unsigned_abs z.worth) * (g.grid ^ (deciding (actions_of f 1) z.path1 + z.pad1) * g.grid ^ (deciding (actions_of f 2) z.path2 + z.pad2)) ≤ 2 ^ 64
          → max 1 (unsigned_abs z.worth) * (g.grid ^ (deciding (actions_in (sets_entered rule roots f.sets1)) (entered_path rule (length (gadget_sets rule roots)) z.path1) + z.pad1) * g.grid ^ (deciding (actions_of f 2) z.path2 + z.pad2)) ≤ 2 ^ 77
      entered2 f roots z small =
          let one = deciding_entered rule roots f.sets1 z.path1 in
          let m = max 1 (unsigned_abs z.worth) in
          let y = g.grid ^ (deciding (actions_of f 2) z.path2 + z.pad2) in
          let e : ℕ = deciding (actions_of f 1) z.path1 + z.pad1 in
          let e' : ℕ = deciding (actions_in (sets_entered rule roots f.sets1)) (entered_path rule (length (gadget_sets rule roots)) z.path1) + z.pad1 in
          subst (λ x. x ≤ 2 ^ 77) (turn m y (g.grid ^ e'))
          (entered_most m y g.grid e e' (some_grid g ok.good) (grid_most g ok.good) (omega (arith, one)) (subst (λ x. x ≤ 2 ^ 64) (turn m (g.grid ^ e) y) small))

      ended2 : (ns : List ℕ) (i : ℕ) (l : ℤ) → unsigned_abs l ≤ 2 * value_limit g 2
          → max 1 (unsigned_abs (worth_to 1 (terminate_worth rule l))) * (g.grid ^ (deciding ns (terminate_step rule i ∷ []) + most_decisions g 1) * g.grid ^ (0 + 0)) ≤ 2 ^ 77
      ended2 ns i l size =
          let w = worth_to 1 (terminate_worth rule l) in
          let one = one_most (decides ns (terminate_step rule i).set) in
          let whole = subst (λ x. x ≤ 2 ^ 64) (turn (top g ok) (g.grid ^ most_decisions g 1) (g.grid ^ most_decisions g 2)) (whole_most g ok) in
          let most = ending_most w (top g ok) g.grid (most_decisions g 2) (most_decisions g 1) (deciding ns (terminate_step rule i ∷ []) + most_decisions g 1) (omega (arith, ending_size rule 1 l, size)) some_top (some_grid g ok.good) (grid_most g ok.good) (omega (arith, one)) whole in
          omega (arith, most, ap (λ x. max 1 (unsigned_abs w) * (g.grid ^ (deciding ns (terminate_step rule i ∷ []) + most_decisions g 1) * x)) (pow-zero g.grid))

-- the law of rows
pub row_law : RowLaw
row_law g ok = (game_rows g ok, λ keeper is node table tab. subgame_rows g ok node table keeper is tab, λ keeper is node table bounds has rule. by keeper is node table bounds rule has)
  where
    by : (keeper : ℕ) → IsSeat keeper → (node table : List ℕ) (bounds : List ℤ) (rule : Rule) → HasBounds g keeper table bounds → HasRows (grid_of g 1) (grid_of g 2) (gadget_form g rule keeper node table bounds) (2 ^ 77)
    by keeper (inl e) node table bounds rule = subst (λ k. HasBounds g k table bounds → HasRows (grid_of g 1) (grid_of g 2) (gadget_form g rule k node table bounds) (2 ^ 77)) (sym e) (gadget1 g ok node table bounds rule)
    by keeper (inr e) node table bounds rule = subst (λ k. HasBounds g k table bounds → HasRows (grid_of g 1) (grid_of g 2) (gadget_form g rule k node table bounds) (2 ^ 77)) (sym e) (gadget2 g ok node table bounds rule)
