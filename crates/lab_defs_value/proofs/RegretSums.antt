-- The value of a set is the weighed sum of its actions' values, so its regrets sum to zero.
use Rattle.std.proofs.Common.{◌≡◌, ℕ, ◌*◌, ◌<◌, pos, ◌+ℤ◌, ◌*ℤ◌, List, [], ◌∷◌, length, drop, Bool, true, false, cond, eqb, refl, sym, ap, ◌∙◌, subst, arith, inl, inr, eq-eqb, Some, None, ◌||◌}
use Rattle.std.specs.Prelude.{ℤ, ◌-ℤ◌, neg_ℤ, slice_index}
use Rattle.std.specs.List.{All, AllByRecursion}
use Rattle.std.proofs.lemmas.Int.{ints}
use Rattle.std.proofs.lemmas.Bool.{cases_eq}
use Rattle.std.proofs.lemmas.List.Elements.{recursion_from_All, All-from_recursion}
use Rattle.lab_math.specs.Below.{sum_below, total_below}
use Rattle.lab_math.proofs.Integers.{mul_add_z}
use Rattle.lab_math.proofs.BelowLemmas.{eqb_apart, sum_below_cong, sum_below_zero, sum_below_pick, total_below_cong, total_below_add, total_below_scale}
use Rattle.lab_math.proofs.Totals.{total_cong, total_cong_all, total_filter, weighed, weighed_scale, weighed_sum}
use Rattle.lab_math.proofs.Elements.{all_imp}
use Rattle.lab_defs_game.specs.Forms.{Row, actions_of, path_of, decides, parent_of}
use Rattle.lab_defs_game.specs.Paths.{SetAction}
use Rattle.lab_defs_value.specs.Tables.{factor}
use Rattle.lab_defs_value.specs.Parents.{passes_through, path_from, IsStepBelow}
use Rattle.lab_defs_value.proofs.Chains.{IsPath, paths_follow}
use Rattle.lab_defs_value.specs.Matching.{Pair, pair_grid, pair_actions, pair_table, pair_weight, weight_along, pair_worth, path_after, takes, grid_before, action_value, set_value}
use Rattle.lab_defs_value.specs.MatchingLaws.{ActionsLaw, ValueLaw, RegretLaw}
use Rattle.lab_defs_value.proofs.Sizing.{Steps, steps_of}

-- ---- one row

-- a number goes into a condition
mul_cond : (b : Bool) (x y : ℕ) → x * cond b y 0 ≡ cond b (x * y) 0
mul_cond true x y = refl
mul_cond false x y = omega arith

-- the factor of an action at a deciding set is its weight
factor_at : (p : Pair) (seat I J a : ℕ) → J ≡ I → decides (pair_actions p seat) I ≡ true → factor (pair_actions p seat) (pair_table p seat) (record { set = J; action = a }) ≡ pair_weight p seat I a
factor_at p seat I J a e d =
    subst (λ K. factor (pair_actions p seat) (pair_table p seat) (record { set = K; action = a }) ≡ pair_weight p seat I a) (sym e) (ap (λ b. cond b (pair_weight p seat I a) 1) d)

-- what a path counts at a set, times the grid, is what it counts at each action there, times the action's weight
path_splits : (p : Pair) (seat I k : ℕ) (path : List SetAction) → decides (pair_actions p seat) I ≡ true → AllByRecursion (λ t. t.action < slice_index (pair_actions p seat) t.set) path
    → pair_grid p seat * cond (passes_through I path) (k * weight_along p seat (path_from I path)) 0
    ≡ sum_below (slice_index (pair_actions p seat) I) (λ a. pair_weight p seat I a * cond (takes I a path) (k * pair_grid p seat * weight_along p seat (path_after I path)) 0)
path_splits p seat I k [] d h =
    let n = slice_index (pair_actions p seat) I in
    let z : pair_grid p seat * 0 ≡ 0 = omega arith in
    z ∙ sym (sum_below_cong n (λ a. pair_weight p seat I a * 0) (λ a. 0) (λ a l. omega arith) ∙ sum_below_zero n)
path_splits p seat I k (t ∷ ts) d h = elim (cases_eq t.set I) [
  | inl e ↦ subst Splits (sym (eq-eqb t.set I e)) (here e)
  | inr ne ↦ subst Splits (sym (eqb_apart t.set I ne)) (path_splits p seat I k ts d h.1)
]
  where
    n : ℕ
    n = slice_index (pair_actions p seat) I

    Splits : Bool → Type 0
    Splits b =
        pair_grid p seat * cond (b || passes_through I ts) (k * weight_along p seat (cond b (t ∷ ts) (path_from I ts))) 0
        ≡ sum_below (slice_index (pair_actions p seat) I) (λ a. pair_weight p seat I a * cond (cond b (eqb t.action a) (takes I a ts)) (k * pair_grid p seat * weight_along p seat (drop 1 (cond b (t ∷ ts) (path_from I ts)))) 0)

    regroup : (g k f w : ℕ) → g * (k * (f * w)) ≡ f * (k * g * w)
    regroup g k f w = omega arith

    here : t.set ≡ I → Splits true
    here e =
        let behind = k * pair_grid p seat * weight_along p seat ts in
        regroup (pair_grid p seat) k (factor (pair_actions p seat) (pair_table p seat) t) (weight_along p seat ts)
        ∙ ap (λ f. f * behind) (factor_at p seat I t.set t.action e d)
        ∙ sym (sum_below_cong n (λ a. pair_weight p seat I a * cond (eqb t.action a) behind 0) (λ a. cond (eqb t.action a) (pair_weight p seat I a * behind) 0) (λ a l. mul_cond (eqb t.action a) (pair_weight p seat I a) behind)
        ∙ sum_below_pick n t.action (λ a. pair_weight p seat I a * behind) (subst (λ J. t.action < slice_index (pair_actions p seat) J) e h.0))

-- ---- all rows

-- what counts of a row at a set, and at an action there
abbrev pub set_share : Pair → (seat I : ℕ) → Row → ℕ
set_share p seat I z = cond (passes_through I (path_of z seat)) (grid_before p seat I z * weight_along p seat (path_from I (path_of z seat))) 0

abbrev pub action_share : Pair → (seat I a : ℕ) → Row → ℕ
action_share p seat I a z = cond (takes I a (path_of z seat)) (grid_before p seat I z * pair_grid p seat * weight_along p seat (path_after I (path_of z seat))) 0

-- a condition goes into a product
cond_inside : (b : Bool) (w : ℤ) (t : ℕ) → cond b (w *ℤ pos t) (pos 0) ≡ w *ℤ pos (cond b t 0)
cond_inside true w t = refl
cond_inside false w t = omega (arith, ints)

set_value_is : (p : Pair) (seat I : ℕ) → set_value p seat I ≡ weighed (pair_worth p seat) (set_share p seat I) p.form.rows
set_value_is p seat I =
    total_filter (λ z. passes_through I (path_of z seat)) (λ z. pair_worth p seat z *ℤ pos (grid_before p seat I z * weight_along p seat (path_from I (path_of z seat)))) p.form.rows
    ∙ total_cong _ (λ z. pair_worth p seat z *ℤ pos (set_share p seat I z)) p.form.rows (λ z. cond_inside (passes_through I (path_of z seat)) (pair_worth p seat z) (grid_before p seat I z * weight_along p seat (path_from I (path_of z seat))))

action_value_is : (p : Pair) (seat I a : ℕ) → action_value p seat I a ≡ weighed (pair_worth p seat) (action_share p seat I a) p.form.rows
action_value_is p seat I a =
    total_filter (λ z. takes I a (path_of z seat)) (λ z. pair_worth p seat z *ℤ pos (grid_before p seat I z * pair_grid p seat * weight_along p seat (path_after I (path_of z seat)))) p.form.rows
    ∙ total_cong _ (λ z. pair_worth p seat z *ℤ pos (action_share p seat I a z)) p.form.rows
    (λ z. cond_inside (takes I a (path_of z seat)) (pair_worth p seat z) (grid_before p seat I z * pair_grid p seat * weight_along p seat (path_after I (path_of z seat))))

-- the law of values
pub value_law : ValueLaw
value_law p seat I there d =
    let n = slice_index (pair_actions p seat) I in
    let w = pair_worth p seat in
    ap (λ v. pos (pair_grid p seat) *ℤ v) (set_value_is p seat I)
    ∙ sym (weighed_scale w (pair_grid p seat) (set_share p seat I) p.form.rows)
    ∙ total_cong_all (λ z. All (λ (t : SetAction). t.action < slice_index (pair_actions p seat) t.set) (path_of z seat)) _ (λ z. w z *ℤ pos (sum_below n (λ a. pair_weight p seat I a * action_share p seat I a z))) p.form.rows there
    (λ z h. ap (λ t. w z *ℤ pos t) (path_splits p seat I (grid_before p seat I z) (path_of z seat) d (recursion_from_All (λ (t : SetAction). t.action < slice_index (pair_actions p seat) t.set) (path_of z seat) h)))
    ∙ weighed_sum w n (λ a z. pair_weight p seat I a * action_share p seat I a z) p.form.rows
    ∙ total_below_cong n _ (λ a. pos (pair_weight p seat I a) *ℤ action_value p seat I a)
    (λ a l. weighed_scale w (pair_weight p seat I a) (action_share p seat I a) p.form.rows ∙ ap (λ v. pos (pair_weight p seat I a) *ℤ v) (sym (action_value_is p seat I a)))

-- ---- regrets

-- a difference goes out of a product
mul_sub_z : (w v x : ℤ) → w *ℤ (v -ℤ x) ≡ w *ℤ v +ℤ w *ℤ neg_ℤ x
mul_sub_z w v x = mul_add_z w v (neg_ℤ x)

-- the law of regrets
pub regret_law : RegretLaw
regret_law p seat I there d sums =
    let n = slice_index (pair_actions p seat) I in
    let x = set_value p seat I in
    let w = pair_weight p seat I in
    total_below_cong n (λ a. pos (w a) *ℤ (action_value p seat I a -ℤ x)) (λ a. pos (w a) *ℤ action_value p seat I a +ℤ pos (w a) *ℤ neg_ℤ x) (λ a l. mul_sub_z (pos (w a)) (action_value p seat I a) x)
    ∙ total_below_add n (λ a. pos (w a) *ℤ action_value p seat I a) (λ a. pos (w a) *ℤ neg_ℤ x)
    ∙ ap (λ t. t +ℤ total_below n (λ a. pos (w a) *ℤ neg_ℤ x)) (sym (value_law p seat I there d))
    ∙ ap (λ t. pos (pair_grid p seat) *ℤ x +ℤ t) (total_below_scale n w (neg_ℤ x) ∙ ap (λ s. pos s *ℤ neg_ℤ x) sums)
    ∙ none (pos (pair_grid p seat)) x
  where
    none : (g x : ℤ) → g *ℤ x +ℤ g *ℤ neg_ℤ x ≡ pos 0
    none g x = sym (mul_add_z g x (neg_ℤ x)) ∙ ap (λ t. g *ℤ t) (zero_sum x) ∙ omega (arith, ints)
      where
        zero_sum : (x : ℤ) → x +ℤ neg_ℤ x ≡ pos 0
        zero_sum x = omega (arith, ints)

-- ---- forms

-- a path of a form has actions that are there
path_actions : (ns : List ℕ) (path : List SetAction) → Steps ns path → AllByRecursion (λ t. t.action < slice_index ns t.set) path
path_actions ns path h = all_imp (λ t. IsStepBelow ns (length ns) (Some t)) (λ t. t.action < slice_index ns t.set) path (λ t h. h.1) h

-- the law of forms
pub actions_law : ActionsLaw
actions_law f seat ok =
    let ns = actions_of f seat in
    let Row_ok = λ (z : Row). IsPath ns (parent_of f seat) None (path_of z seat) in
    let Row_has = λ (z : Row). All (λ (t : SetAction). t.action < slice_index ns t.set) (path_of z seat) in
    All-from_recursion Row_has f.rows (all_imp Row_ok Row_has f.rows (λ z h. All-from_recursion (λ (t : SetAction). t.action < slice_index ns t.set) (path_of z seat) (path_actions ns (path_of z seat) (steps_of ns (parent_of f seat) None (path_of z seat) h)))
    (recursion_from_All Row_ok f.rows (paths_follow f seat ok)))
