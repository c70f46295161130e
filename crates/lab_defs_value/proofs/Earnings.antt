-- The value of a set is what the seat's table earns at it.
use Rattle.std.proofs.Common.{◌≡◌, ℕ, ◌+◌, ◌-◌, ◌*◌, ◌^◌, pos, ◌*ℤ◌, List, [], ◌∷◌, Bool, true, false, cond, eqb, filter, refl, sym, ap, ◌∙◌, subst, arith, inl, inr, mul_comm}
use Rattle.lab_math.specs.Sums.{total}
use Rattle.lab_math.proofs.Totals.{total_cong_all, total_filter}
use Rattle.lab_defs_game.specs.Forms.{Row, path_of, pad_of, deciding}
use Rattle.lab_defs_game.specs.Paths.{SetAction}
use Rattle.lab_defs_value.specs.Parents.{passes_through, path_from}
use Rattle.lab_defs_value.specs.Replies.{reply_by, factors_in, earned, tail}
use Rattle.lab_defs_game.specs.Seats.{other}
use Rattle.lab_defs_value.specs.Matching.{Pair, pair_grid, pair_actions, pair_table, weight_along, pair_worth, path_before, grid_before, set_value}
use Rattle.lab_defs_value.specs.Laws.{HasFactors}
use Rattle.lab_defs_value.specs.MatchingLaws.{EarningLaw}

-- the decisions of a path are those before a set and those from it on
pub deciding_splits : (ns : List ℕ) (I : ℕ) (path : List SetAction) → deciding ns path ≡ deciding ns (path_before I path) + deciding ns (path_from I path)
deciding_splits ns I [] = refl
deciding_splits ns I (t ∷ ts) = at (eqb t.set I) (deciding_splits ns I ts)
  where
    at : (b : Bool) → deciding ns ts ≡ deciding ns (path_before I ts) + deciding ns (path_from I ts)
        → deciding ns (t ∷ ts) ≡ deciding ns (cond b [] (t ∷ path_before I ts)) + deciding ns (cond b (t ∷ ts) (path_from I ts))
    at true rest = omega arith
    at false rest = omega (arith, rest)

-- what counts of a row is the tail of the table as a reply
row_tail : (p : Pair) (seat I m : ℕ) (z : Row) → deciding (pair_actions p seat) (path_of z seat) + pad_of z seat ≡ m
    → grid_before p seat I z * weight_along p seat (path_from I (path_of z seat)) ≡ tail (pair_actions p seat) m (reply_by (pair_grid p seat) (pair_actions p seat) (pair_table p seat)) I (path_of z seat)
row_tail p seat I m z e =
    let ns = pair_actions p seat in
    let inside : deciding ns (path_before I (path_of z seat)) + pad_of z seat ≡ m - deciding ns (path_from I (path_of z seat)) = omega (arith, e, deciding_splits ns I (path_of z seat)) in
    mul_comm (grid_before p seat I z) (weight_along p seat (path_from I (path_of z seat)))
    ∙ ap (λ d. weight_along p seat (path_from I (path_of z seat)) * pair_grid p seat ^ d) inside

-- so over all rows
value_tails : (p : Pair) (seat I : ℕ) → HasFactors p.form seat
    → set_value p seat I
    ≡ total (λ z. pair_worth p seat z *ℤ pos (tail (pair_actions p seat) (factors_in p.form seat) (reply_by (pair_grid p seat) (pair_actions p seat) (pair_table p seat)) I (path_of z seat))) (filter (λ z. passes_through I (path_of z seat)) p.form.rows)
value_tails p seat I h =
    let passes = λ (z : Row). passes_through I (path_of z seat) in
    let here = λ (z : Row). pair_worth p seat z *ℤ pos (grid_before p seat I z * weight_along p seat (path_from I (path_of z seat))) in
    let there = λ (z : Row). pair_worth p seat z *ℤ pos (tail (pair_actions p seat) (factors_in p.form seat) (reply_by (pair_grid p seat) (pair_actions p seat) (pair_table p seat)) I (path_of z seat)) in
    total_filter passes here p.form.rows
    ∙ total_cong_all (λ z. deciding (pair_actions p seat) (path_of z seat) + pad_of z seat ≡ factors_in p.form seat) (λ z. cond (passes z) (here z) (pos 0)) (λ z. cond (passes z) (there z) (pos 0)) p.form.rows h
    (λ z e. ap (λ k. cond (passes z) (pair_worth p seat z *ℤ pos k) (pos 0)) (row_tail p seat I (factors_in p.form seat) z e))
    ∙ sym (total_filter passes there p.form.rows)

-- the law of earnings
pub earning_law : EarningLaw
earning_law p seat I (inl e) h = subst Earns (sym e) (value_tails p 1 I (subst (HasFactors p.form) e h))
  where
    Earns : ℕ → Type 0
    Earns k = set_value p k I ≡ earned (record { form = p.form; keeper = other k; grid = pair_grid p (other k); table = pair_table p (other k) }) (reply_by (pair_grid p k) (pair_actions p k) (pair_table p k)) I
earning_law p seat I (inr e) h = subst Earns (sym e) (value_tails p 2 I (subst (HasFactors p.form) e h))
  where
    Earns : ℕ → Type 0
    Earns k = set_value p k I ≡ earned (record { form = p.form; keeper = other k; grid = pair_grid p (other k); table = pair_table p (other k) }) (reply_by (pair_grid p k) (pair_actions p k) (pair_table p k)) I
