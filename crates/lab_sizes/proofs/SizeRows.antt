-- How much a row of a game, of a subgame and of a gadget comes to.
use Rattle.std.proofs.Common.{◌≡◌, ℕ, ◌+◌, ◌*◌, ◌-◌, ◌^◌, ◌<◌, ◌≤◌, ℤ, pos, ◌*ℤ◌, List, [], ◌∷◌, Bool, true, false, cond, not, None, map, max, refl, sym, ap, ◌∙◌, subst, arith, inl, inr, mul-le-mul, le_of_eq, pow-add}
use Rattle.std.specs.Prelude.{unsigned_abs, nat_le, nat_lt}
use Rattle.std.proofs.lemmas.Int.{unsigned_abs-mul}
use Rattle.std.proofs.lemmas.Bool.{and_parts, leb-true, ltb-true}
use Rattle.std.proofs.lemmas.List.Elements.{recursion_from_All, All-from_recursion}
use Rattle.lab_math.specs.Sums.{product_over}
use Rattle.lab_math.proofs.Members.{In, all_in, all_from_in, in_from_filter, in_from_map, in_map}
use Rattle.lab_defs_text.specs.Games.{GameModel}
use Rattle.lab_defs_game.specs.Histories.{History, payoff}
use Rattle.lab_defs_game.specs.Sets.{most_decisions, public_list}
use Rattle.lab_defs_game.specs.Chance.{scale, chance}
use Rattle.lab_defs_game.specs.Nodes.{begins, ends_by_nodes}
use Rattle.lab_defs_game.specs.Forms.{Row, form_of, row_along, game_actions, actions_in, actions_of, path_of, decides, deciding, parent_of}
use Rattle.lab_defs_game.specs.Paths.{SetAction, path_along}
use Rattle.lab_defs_game.specs.Unfolding.{top_payoff}
use Rattle.lab_defs_game.proofs.Legal.{history_legal}
use Rattle.lab_defs_game.proofs.UnfoldLaws.{accepted_law}
use Rattle.lab_defs_value.specs.Tables.{factor}
use Rattle.lab_defs_game.specs.Seats.{grid_of, IsSeat}
use Rattle.lab_defs_value.proofs.Chains.{IsPath, paths_follow}
use Rattle.lab_defs_value.specs.Replies.{IsTable, reply_by, factors_in}
use Rattle.lab_defs_value.specs.Subgames.{Span, is_inside, inside, before, renumbered, span_actions, span_at, part_at, weight_before, subgame_row, subgame_ends, subgame_form}
use Rattle.lab_defs_value.proofs.Sizing.{Steps, steps_of, product_le}
use Rattle.lab_defs_value.proofs.SubgameRows.{actions_inside}
use Rattle.lab_defs_game.specs.Accepted.{IsAccepted}
use Rattle.lab_defs_value.proofs.GameForms.{ends_there}
use Rattle.lab_defs_value.proofs.GameValues.{form_for, game_padded_law}
use Rattle.lab_sizes.proofs.SizeMass.{payoff_top}
use Rattle.lab_defs_game.proofs.ChanceSizes.{chance_le, some_scale}
use Rattle.lab_defs_game.proofs.GridSizes.{some_grid}
use Rattle.lab_sizes.proofs.SizeRanges.{some_power}
use Rattle.lab_defs_value.specs.Smallness.{factors_at, row_size, HasRows}

-- ---- numbers

-- a worth is at most the top payoff by the scale
worth_most : (c k u : ℕ) (p : ℤ) → c ≤ k → 0 < k → unsigned_abs p ≤ u → max 1 (unsigned_abs (pos c *ℤ p)) ≤ max 1 u * k
worth_most c k u p le some l =
    let size : unsigned_abs (pos c *ℤ p) ≡ c * unsigned_abs p = unsigned_abs-mul (pos c) p in
    let top : u ≤ max 1 u = omega arith in
    let one : 1 ≤ max 1 u = omega arith in
    let a : unsigned_abs p * c ≤ max 1 u * k = mul-le-mul (omega (arith, l, top)) le in
    let b : 1 * 1 ≤ max 1 u * k = mul-le-mul one some in
    let e : c * unsigned_abs p ≡ unsigned_abs p * c = omega arith in
    omega (arith, size, a, b, e)

-- a row with the weights before a node comes to no more than the whole row may
inside_most : (w : ℤ) (m wb d wide ek mk eo mo : ℕ) → max 1 (unsigned_abs w) ≤ m → 1 ≤ d → wb ≤ d ^ wide → wide + ek ≡ mk → eo ≡ mo
    → max 1 (unsigned_abs (w *ℤ pos wb)) * (d ^ ek * d ^ eo) ≤ m * (d ^ mk * d ^ mo)
inside_most w m wb d wide ek mk eo mo le some small sum same =
    let size : unsigned_abs (w *ℤ pos wb) ≡ unsigned_abs w * wb = unsigned_abs-mul w (pos wb) in
    let power : 1 ≤ d ^ wide = some_power d wide some in
    let large : unsigned_abs w ≤ m = omega (arith, le) in
    let one : 1 ≤ m = omega (arith, le) in
    let a : unsigned_abs w * wb ≤ m * d ^ wide = mul-le-mul large small in
    let b : 1 * 1 ≤ m * d ^ wide = mul-le-mul one power in
    let c : max 1 (unsigned_abs (w *ℤ pos wb)) ≤ m * d ^ wide = omega (arith, size, a, b) in
    let whole : d ^ wide * d ^ ek ≡ d ^ mk = sym (pow-add d wide ek) ∙ ap (λ x. d ^ x) sum in
    let e : (m * d ^ wide) * (d ^ ek * d ^ eo) ≡ m * (d ^ mk * d ^ mo) = regroup m (d ^ wide) (d ^ ek) (d ^ eo) ∙ ap (λ x. m * (x * d ^ eo)) whole ∙ ap (λ x. m * (d ^ mk * d ^ x)) same in
    let l : max 1 (unsigned_abs (w *ℤ pos wb)) * (d ^ ek * d ^ eo) ≤ (m * d ^ wide) * (d ^ ek * d ^ eo) = mul-le-mul c (le_of_eq refl) in
    omega (arith, l, e)
  where
    regroup : (m x y z : ℕ) → (m * x) * (y * z) ≡ m * ((x * y) * z)
    regroup m x y z = omega arith

-- ---- an accepted game

-- the decisions and pad of a row are the most decisions of the seat
pub row_factors : (g : GameModel) → IsAccepted g → (seat : ℕ) → IsSeat seat → (h : History) → In h (ends_by_nodes g) → factors_at (form_of g) seat (row_along g h) ≡ most_decisions g seat
row_factors g ok seat is h i =
    let padded = game_padded_law g ok seat is in
    let P = λ (z : Row). factors_at (form_of g) seat z ≡ factors_in (form_of g) seat in
    all_in P (form_of g).rows (row_along g h) (recursion_from_All P (form_of g).rows padded.0.factors) (in_map (row_along g) (ends_by_nodes g) h i) ∙ padded.1

-- the steps of a seat on a row are there
steps_on : (g : GameModel) → IsAccepted g → (seat : ℕ) → IsSeat seat → (h : History) → In h (ends_by_nodes g) → Steps (actions_of (form_of g) seat) (path_of (row_along g h) seat)
steps_on g ok seat is h i =
    let f = form_of g in
    let P = λ (z : Row). IsPath (actions_of f seat) (parent_of f seat) None (path_of z seat) in
    steps_of (actions_of f seat) (parent_of f seat) None (path_of (row_along g h) seat)
    (all_in P f.rows (row_along g h) (recursion_from_All P f.rows (paths_follow f seat (form_for g ok seat is))) (in_map (row_along g) (ends_by_nodes g) h i))

module _ (g : GameModel) (ok : IsAccepted g) where
  -- the top payoff by the scale
  abbrev pub top : ℕ
  top = max 1 (top_payoff g) * scale g

  -- with the grid for each decision that is the size, at most 2^64
  pub whole_most : top * (grid_of g 1 ^ most_decisions g 1 * grid_of g 2 ^ most_decisions g 2) ≤ 2 ^ 64
  whole_most = ((accepted_law g).0 ok.unfolds).2

  -- the worth of a row
  worth_top : (h : History) → In h (ends_by_nodes g) → max 1 (unsigned_abs (pos (chance g h) *ℤ payoff g h)) ≤ top
  worth_top h i =
      let there = ends_there g h i in
      worth_most (chance g h) (scale g) (top_payoff g) (payoff g h) (chance_le g h (history_legal g h there).1) (some_scale g ok.good) (payoff_top g h i)

  -- rows of the game
  pub game_rows : HasRows (grid_of g 1) (grid_of g 2) (form_of g) (2 ^ 64)
  game_rows =
      let hs = ends_by_nodes g in
      let P = λ (z : Row). row_size (grid_of g 1) (grid_of g 2) (form_of g) z ≤ 2 ^ 64 in
      All-from_recursion P (map (row_along g) hs) (all_from_in P (map (row_along g) hs) (λ z j.
      let r = in_from_map (row_along g) hs z j in subst P r.2 (each r.0 r.1)))
    where
      each : (h : History) → In h (ends_by_nodes g) → row_size (grid_of g 1) (grid_of g 2) (form_of g) (row_along g h) ≤ 2 ^ 64
      each h i =
          let m = max 1 (unsigned_abs (pos (chance g h) *ℤ payoff g h)) in
          let e : row_size (grid_of g 1) (grid_of g 2) (form_of g) (row_along g h) ≡ m * (grid_of g 1 ^ most_decisions g 1 * grid_of g 2 ^ most_decisions g 2) =
          ap (λ x. m * (grid_of g 1 ^ x * grid_of g 2 ^ (deciding (game_actions g 2) (path_along g 2 h) + (most_decisions g 2 - deciding (game_actions g 2) (path_along g 2 h))))) (row_factors g ok 1 (inl refl) h i)
          ∙ ap (λ x. m * (grid_of g 1 ^ most_decisions g 1 * grid_of g 2 ^ x)) (row_factors g ok 2 (inr refl) h i) in
          let l : m * (grid_of g 1 ^ most_decisions g 1 * grid_of g 2 ^ most_decisions g 2) ≤ top * (grid_of g 1 ^ most_decisions g 1 * grid_of g 2 ^ most_decisions g 2) = mul-le-mul (worth_top h i) (le_of_eq refl) in
          omega (arith, e, l, whole_most)

-- ---- subgames

-- of the sets inside as many decide in the subgame
pub deciding_inside : (s : Span) (path : List SetAction) → deciding (span_actions s) (renumbered s (inside s path)) ≡ deciding (actions_in s.sets) (inside s path)
deciding_inside s [] = refl
deciding_inside s (t ∷ ts) = at (is_inside s t) refl (deciding_inside s ts)
  where
    at : (b : Bool) → is_inside s t ≡ b → deciding (span_actions s) (renumbered s (inside s ts)) ≡ deciding (actions_in s.sets) (inside s ts)
        → deciding (span_actions s) (renumbered s (cond b (t ∷ inside s ts) (inside s ts))) ≡ deciding (actions_in s.sets) (cond b (t ∷ inside s ts) (inside s ts))
    at true e rest =
        let parts = and_parts (nat_le s.start t.set) (nat_lt t.set s.end) e in
        ap (λ n. cond (nat_le 2 n) 1 0 + deciding (span_actions s) (renumbered s (inside s ts))) (actions_inside s t.set (leb-true s.start t.set parts.0) (ltb-true t.set s.end parts.1))
        ∙ ap (λ n. cond (decides (actions_in s.sets) t.set) 1 0 + n) rest
    at false e rest = rest

-- the sets before and inside are all
deciding_parts : (s : Span) (path : List SetAction) → deciding (actions_in s.sets) (before s path) + deciding (actions_in s.sets) (inside s path) ≡ deciding (actions_in s.sets) path
deciding_parts s [] = refl
deciding_parts s (t ∷ ts) = at (is_inside s t) (deciding_parts s ts)
  where
    at : (b : Bool) → deciding (actions_in s.sets) (before s ts) + deciding (actions_in s.sets) (inside s ts) ≡ deciding (actions_in s.sets) ts
        → deciding (actions_in s.sets) (cond (not b) (t ∷ before s ts) (before s ts)) + deciding (actions_in s.sets) (cond b (t ∷ inside s ts) (inside s ts)) ≡ deciding (actions_in s.sets) (t ∷ ts)
    at true rest = omega (arith, rest)
    at false rest = omega (arith, rest)

-- the steps before a node are there
steps_before : (s : Span) (path : List SetAction) → Steps (actions_in s.sets) path → Steps (actions_in s.sets) (before s path)
steps_before s [] h = tt
steps_before s (t ∷ ts) h = at (is_inside s t) (steps_before s ts h.1)
  where
    at : (b : Bool) → Steps (actions_in s.sets) (before s ts) → Steps (actions_in s.sets) (cond (not b) (t ∷ before s ts) (before s ts))
    at true rest = rest
    at false rest = (h.0, rest)

-- the weights before a node are at most the grid for each decision there
before_most : (s : Span) (grid : ℕ) (table : List ℕ) → IsTable (actions_in s.sets) grid table → (path : List SetAction) → Steps (actions_in s.sets) path → product_over (factor (actions_in s.sets) table) (before s path) ≤ grid ^ deciding (actions_in s.sets) (before s path)
before_most s grid table is path h = product_le (actions_in s.sets) (reply_by grid (actions_in s.sets) table) is (before s path) (steps_before s path h)

module _ (g : GameModel) (ok : IsAccepted g) (node table : List ℕ) where
  -- the keeper's decisions inside and its pad, with those before, are the most
  kept : (s : Span) (path : List SetAction) (most : ℕ) → deciding (actions_in s.sets) path + (most - deciding (actions_in s.sets) path) ≡ most
      → deciding (actions_in s.sets) (before s path) + (deciding (span_actions s) (renumbered s (inside s path)) + (most - deciding (actions_in s.sets) path)) ≡ most
  kept s path most e = omega (arith, e, deciding_inside s path, deciding_parts s path)

  -- the opponent's inside and its pad are the most
  replied : (s : Span) (path : List SetAction) (most : ℕ) → deciding (actions_in s.sets) path + (most - deciding (actions_in s.sets) path) ≡ most
      → deciding (span_actions s) (renumbered s (inside s path)) + (most - deciding (actions_in s.sets) (inside s path)) ≡ most
  replied s path most e = omega (arith, e, deciding_inside s path, deciding_parts s path)

  turn : (m x y : ℕ) → m * (x * y) ≡ m * (y * x)
  turn m x y = omega arith

  -- a row of a subgame where seat 1 keeps
  row1 : IsTable (game_actions g 1) (grid_of g 1) table → (h : History) → In h (ends_by_nodes g)
      → row_size (grid_of g 1) (grid_of g 2) (subgame_form g 1 node table) (subgame_row (part_at g 1 node table) (row_along g h)) ≤ top g ok * (grid_of g 1 ^ most_decisions g 1 * grid_of g 2 ^ most_decisions g 2)
  row1 is h i =
      let s1 = span_at g 1 node in
      let s2 = span_at g 2 node in
      inside_most (pos (chance g h) *ℤ payoff g h) (top g ok) (weight_before (part_at g 1 node table) (row_along g h)) g.grid (deciding (game_actions g 1) (before s1 (path_along g 1 h))) _ (most_decisions g 1) _ (most_decisions g 2)
      (worth_top g ok h i) (some_grid g ok.good) (before_most s1 (grid_of g 1) table is (path_along g 1 h) (steps_on g ok 1 (inl refl) h i)) (kept s1 (path_along g 1 h) (most_decisions g 1) (row_factors g ok 1 (inl refl) h i)) (replied s2 (path_along g 2 h) (most_decisions g 2) (row_factors g ok 2 (inr refl) h i))

  -- and where seat 2 does
  row2 : IsTable (game_actions g 2) (grid_of g 2) table → (h : History) → In h (ends_by_nodes g)
      → row_size (grid_of g 1) (grid_of g 2) (subgame_form g 2 node table) (subgame_row (part_at g 2 node table) (row_along g h)) ≤ top g ok * (grid_of g 1 ^ most_decisions g 1 * grid_of g 2 ^ most_decisions g 2)
  row2 is h i =
      let s1 = span_at g 1 node in
      let s2 = span_at g 2 node in
      let z = subgame_row (part_at g 2 node table) (row_along g h) in
      let m = max 1 (unsigned_abs z.worth) in
      let e1 : ℕ = deciding (span_actions s1) z.path1 + z.pad1 in
      let e2 : ℕ = deciding (span_actions s2) z.path2 + z.pad2 in
      let le = inside_most (pos (chance g h) *ℤ payoff g h) (top g ok) (weight_before (part_at g 2 node table) (row_along g h)) g.grid (deciding (game_actions g 2) (before s2 (path_along g 2 h))) e2 (most_decisions g 2) e1 (most_decisions g 1)
      (worth_top g ok h i) (some_grid g ok.good) (before_most s2 (grid_of g 2) table is (path_along g 2 h) (steps_on g ok 2 (inr refl) h i)) (kept s2 (path_along g 2 h) (most_decisions g 2) (row_factors g ok 2 (inr refl) h i)) (replied s1 (path_along g 1 h) (most_decisions g 1) (row_factors g ok 1 (inl refl) h i)) in
      omega (arith, le, turn m (g.grid ^ e1) (g.grid ^ e2), turn (top g ok) (g.grid ^ most_decisions g 1) (g.grid ^ most_decisions g 2))

  -- all rows of a subgame
  rows_of : (keeper : ℕ) → ((h : History) → In h (ends_by_nodes g)
      → row_size (grid_of g 1) (grid_of g 2) (subgame_form g keeper node table) (subgame_row (part_at g keeper node table) (row_along g h)) ≤ top g ok * (grid_of g 1 ^ most_decisions g 1 * grid_of g 2 ^ most_decisions g 2))
      → HasRows (grid_of g 1) (grid_of g 2) (subgame_form g keeper node table) (2 ^ 64)
  rows_of keeper each =
      let R = λ (h : History). subgame_row (part_at g keeper node table) (row_along g h) in
      let hs = subgame_ends g node in
      let P = λ (z : Row). row_size (grid_of g 1) (grid_of g 2) (subgame_form g keeper node table) z ≤ 2 ^ 64 in
      All-from_recursion P (map R hs) (all_from_in P (map R hs) (λ z j.
      let r = in_from_map R hs z j in
      let i = (in_from_filter (λ h. begins node (public_list g h)) (ends_by_nodes g) r.0 r.1).0 in
      subst P r.2 (omega (arith, each r.0 i, whole_most g ok))))

  pub subgame_rows : (keeper : ℕ) → IsSeat keeper → IsTable (game_actions g keeper) (grid_of g keeper) table → HasRows (grid_of g 1) (grid_of g 2) (subgame_form g keeper node table) (2 ^ 64)
  subgame_rows keeper (inl e) = subst (λ k. IsTable (game_actions g k) (grid_of g k) table → HasRows (grid_of g 1) (grid_of g 2) (subgame_form g k node table) (2 ^ 64)) (sym e) (λ is. rows_of 1 (row1 is))
  subgame_rows keeper (inr e) = subst (λ k. IsTable (game_actions g k) (grid_of g k) table → HasRows (grid_of g 1) (grid_of g 2) (subgame_form g k node table) (2 ^ 64)) (sym e) (λ is. rows_of 2 (row2 is))
