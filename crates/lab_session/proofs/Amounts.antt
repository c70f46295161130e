-- How large the amounts of a session are.
use Rattle.std.proofs.Common.{◌≡◌, ℕ, ◌*◌, ◌^◌, ◌<◌, ◌≤◌, List, length, refl, sym, ap, ◌∙◌, subst, arith, inl, inr, mul-le-mul}
use Rattle.std.specs.Prelude.{unsigned_abs, ◌==◌, if◌then◌else◌}
use Rattle.std.proofs.lemmas.List.FromFn.{length-map-range_with_len}
use Rattle.lab_defs_text.specs.Games.{GameModel}
use Rattle.lab_defs_game.specs.Accepted.{IsAccepted}
use Rattle.lab_defs_game.specs.Forms.{form_of}
use Rattle.lab_defs_game.specs.Seats.{IsSeat, grid_of, other}
use Rattle.lab_defs_game.specs.Sets.{most_decisions, sets}
use Rattle.lab_defs_game.proofs.ChanceSizes.{some_scale}
use Rattle.lab_defs_game.proofs.GridSizes.{some_grid}
use Rattle.lab_defs_value.specs.Replies.{strategy_of}
use Rattle.lab_defs_value.specs.BestValues.{best_response_value}
use Rattle.lab_defs_value.specs.Bounds.{at, bound_units, tight_bounds}
use Rattle.lab_defs_value.specs.Expectation.{expectation, expectation_units}
use Rattle.lab_defs_value.proofs.GameStrategies.{at_tight}
use Rattle.lab_defs_value.proofs.GameValues.{form_for, some_set}
use Rattle.lab_sizes.proofs.SizeCounts.{small_law}
use Rattle.lab_sizes.proofs.SizeRanges.{range_law, some_power}
use Rattle.lab_sizes.proofs.SizeSums.{sum_law}
use Rattle.lab_sizes.proofs.SizeUnits.{unit_law}
use Rattle.lab_tree.specs.Trees.{TreeValue, tree_of}
use Rattle.lab_unfold.specs.Values.{Unfolded, scale_in}
use Rattle.lab_unfold.specs.declared.history.Scale.{Scale}
use Rattle.lab_table.specs.Tables.{TableValue}
use Rattle.lab_session.specs.Boards.{IsTableFor}
use Rattle.lab_session.proofs.TableLemmas.{table_is}

module _ (g : GameModel) (ok : IsAccepted g) where
  -- a power of the grid of a seat is not 0
  power_some : (seat : ℕ) → 1 ≤ grid_of g seat ^ most_decisions g seat
  power_some seat = some_power (grid_of g seat) (most_decisions g seat) (some_grid g ok.good)

  -- there are units of an expectation
  pub some_expectation_units : 1 ≤ expectation_units g
  some_expectation_units = mul-le-mul (some_scale g ok.good) (mul-le-mul (power_some 1) (power_some 2))

  -- and of the bounds of a seat
  pub some_bound_units : (seat : ℕ) → 1 ≤ bound_units g seat
  some_bound_units seat = mul-le-mul (some_scale g ok.good) (power_some seat)

  -- an expectation is small
  pub expectation_small : (one two : TableValue) → IsTableFor g 1 one → IsTableFor g 2 two
      → unsigned_abs (expectation (grid_of g 1) (grid_of g 2) (form_of g) one.weights two.weights) ≤ 2 ^ 94
  expectation_small one two is1 is2 =
      (sum_law (record { form = form_of g; grid1 = grid_of g 1; grid2 = grid_of g 2; table1 = one.weights; table2 = two.weights }) (record {
        form1 = form_for g ok 1 (inl refl);
        form2 = form_for g ok 2 (inr refl);
        small = (small_law g ok).0;
        is1 = table_is g ok 1 one is1;
        is2 = table_is g ok 2 two is2;
      })).0

  -- there is a tight bound of the first set
  pub some_bound : (seat : ℕ) (weights : List ℕ) → 0 < length (tight_bounds g seat weights)
  some_bound seat weights =
      let long = length-map-range_with_len (best_response_value (strategy_of g seat weights)) 0 (length (sets g (other seat))) in
      omega (arith, long, some_set g (other seat) ok.good)

  -- which is small
  pub bound_small : (seat : ℕ) → IsSeat seat → (t : TableValue) → IsTableFor g seat t → unsigned_abs (at (tight_bounds g seat t.weights) 0) ≤ 2 ^ 64
  bound_small seat is t for =
      let some = some_set g (other seat) ok.good in
      let range = range_law g ok seat is t.weights (table_is g ok seat t for) 0 some in
      let limit = ((unit_law g ok).1 seat is).1 in
      subst (λ z. unsigned_abs z ≤ 2 ^ 64) (sym (at_tight g ok seat is t.weights 0 some)) (omega (arith, range, limit))

-- ---- units by the scale

-- the scale of the tree of a game
pub scale_is : (g : GameModel) (t : TreeValue) (u : Unfolded) (s : Scale) → t ≡ tree_of g → u ≡ t.unfolded → s ≡ u.scale → s ≡ scale_in g
scale_is g t u s tree unfolds scale = scale ∙ ap (λ (u : Unfolded). u.scale) (unfolds ∙ ap (λ (t : TreeValue). t.unfolded) tree)

-- the most decisions of a seat
pub most_is : (g : GameModel) (s : Scale) → s ≡ scale_in g → (seat : ℕ) → IsSeat seat → (if seat == 1 then s.most1 else s.most2) ≡ most_decisions g seat
most_is g s e seat (inl k) = subst (λ n. (if n == 1 then s.most1 else s.most2) ≡ most_decisions g n) (sym k) (ap (λ (s : Scale). s.most1) e)
most_is g s e seat (inr k) = subst (λ n. (if n == 1 then s.most1 else s.most2) ≡ most_decisions g n) (sym k) (ap (λ (s : Scale). s.most2) e)

-- the units of an expectation
pub expectation_units_are : (g : GameModel) (s : Scale) (p1 p2 : ℕ) → s ≡ scale_in g → p1 ≡ g.grid ^ s.most1 → p2 ≡ g.grid ^ s.most2 → s.k * (p1 * p2) ≡ expectation_units g
expectation_units_are g s p1 p2 e one two =
    let first = one ∙ ap (λ (s : Scale). g.grid ^ s.most1) e in
    let second = two ∙ ap (λ (s : Scale). g.grid ^ s.most2) e in
    λ i. (e i).k * (first i * second i)

-- and those of the bounds of a seat
pub bound_units_are : (g : GameModel) (s : Scale) (seat p most : ℕ) → s ≡ scale_in g → p ≡ g.grid ^ most → most ≡ most_decisions g seat → s.k * (p * 1) ≡ bound_units g seat
bound_units_are g s seat p most e one m =
    let power : p * 1 ≡ g.grid ^ most_decisions g seat = whole p (g.grid ^ most_decisions g seat) (one ∙ ap (λ n. g.grid ^ n) m) in
    λ i. (e i).k * power i
  where
    whole : (p q : ℕ) → p ≡ q → p * 1 ≡ q
    whole p q e = omega (arith, e)
