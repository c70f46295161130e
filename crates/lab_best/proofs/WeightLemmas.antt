-- Weights on a path, from its last step back.
use Rattle.std.proofs.Common.{◌≡◌, ℕ, zero, suc, ◌+◌, ◌*◌, ◌-◌, ◌^◌, ◌<◌, ◌≤◌, Bool, true, false, cond, List, [], ◌∷◌, ◌++◌, drop, length, get_or, Option, Some, None, refl, sym, ap, ◌∙◌, subst, arith, mul-le-mul, pow-suc, pow-add}
use Rattle.std.proofs.Math.Nat.{one-le-pow}
use Rattle.std.specs.Prelude.{nat_le, slice_index}
use Rattle.std.proofs.lemmas.Bool.{le-leb}
use Rattle.std.proofs.lemmas.List.{get_or-map, length-map, take-map, drop_more}
use native.Mathlib.Nat.{le_of_eq, pow-zero}
use Rattle.lab_math.specs.Sums.{sum_over, product_over}
use Rattle.lab_math.proofs.BelowLemmas.{sum_below_term}
use Rattle.lab_defs_game.specs.Paths.{SetAction}
use Rattle.lab_defs_game.specs.Forms.{decides, deciding}
use Rattle.lab_defs_game.specs.Forms as model
use Rattle.lab_defs_game.proofs.FormLemmas.{count_push}
use Rattle.lab_defs_value.specs.Tables.{weights_of, first_weight, factor}
use Rattle.lab_defs_value.proofs.WholeLaw.{product_push}
use Rattle.lab_defs_value.proofs.SubgameRows.{first_weight_from}
use Rattle.lab_form.specs.declared.items.SetId.{SetId}
use Rattle.lab_form.specs.declared.items.FormSet.{FormSet}
use Rattle.lab_form.specs.Forms.{IsStepBelow, actions_in, taken_model, sets_model, whole_path}
use Rattle.lab_form.proofs.CallerLemmas.{chain_step, model_length, model_parent, parents_below}
use Rattle.lab_table.proofs.CallerLemmas.{weights_sum}
use Rattle.lab_best.specs.Rows.{path_weight, path_factors, set_at, step_weight, weight_above, count_above, HasWeight, IsPlayed}

-- what reads as a set past the last one
abbrev pub no_set : FormSet
no_set = record { parent = None; actions = 0; first_weight = 0 }

-- ---- one step

-- the weights of the next set begin after those of a set
weights_next : (ns : List ℕ) (i : ℕ) → i < length ns → first_weight ns (suc i) ≡ first_weight ns i + weights_of (get_or ns i 0)
weights_next ns i l =
    let next : i + 1 ≡ suc i = omega arith in
    let own : first_weight (drop i ns) 1 ≡ first_weight (get_or ns i 0 ∷ drop (i + 1) ns) 1 = ap (λ xs. first_weight xs 1) (drop_more ns i 0 l) in
    omega (arith, first_weight_from ns i 1, ap (first_weight ns) next, own)

-- the weights of later sets come later
pub weights_rise : (ns : List ℕ) (i k : ℕ) → i ≤ k → first_weight ns i ≤ first_weight ns k
weights_rise ns i k le =
    let rest : i + (k - i) ≡ k = omega (arith, le) in
    omega (arith, first_weight_from ns i (k - i), ap (first_weight ns) rest)

module _ (grid : ℕ) (sets : List FormSet) (table : List ℕ) (ok : IsPlayed grid sets table) (t : SetId × ℕ) (there : IsStepBelow sets (Some t)) where
  actions_is : get_or (actions_in sets) t.0.0 0 ≡ (set_at sets t.0.0).actions
  actions_is = get_or-map (λ (s : FormSet). s.actions) sets t.0.0 no_set 0 there.0

  -- its first weight has the place that it says
  first_is : first_weight (actions_in sets) t.0.0 ≡ (set_at sets t.0.0).first_weight
  first_is = ap (sum_over weights_of) (take-map (λ (s : FormSet). s.actions) t.0.0 sets) ∙ sym (ok.order t.0.0 no_set there.0).first

  -- where its set decides the weight of the step is among those of the set
  pub weight_within_set : 2 ≤ (set_at sets t.0.0).actions
      → (first_weight (actions_in sets) t.0.0 < (set_at sets t.0.0).first_weight + t.1 + 1) × ((set_at sets t.0.0).first_weight + t.1 + 1 ≤ first_weight (actions_in sets) (suc t.0.0))
  weight_within_set two =
      let own : weights_of (get_or (actions_in sets) t.0.0 0) ≡ (set_at sets t.0.0).actions = ap weights_of actions_is ∙ ap (λ b. cond b (set_at sets t.0.0).actions 0) (le-leb 2 (set_at sets t.0.0).actions two) in
      let l : t.0.0 < length (actions_in sets) = omega (arith, there.0, length-map sets (λ (s : FormSet). s.actions)) in
      let action : t.1 < (set_at sets t.0.0).actions = omega (arith, there.1, actions_is) in
      (omega (arith, first_is), omega (arith, weights_next (actions_in sets) t.0.0 l, own, first_is, action))

  -- so it is among all
  pub weight_there : HasWeight sets table t
  weight_there two =
      let rise = weights_rise (actions_in sets) (suc t.0.0) (length (actions_in sets)) (omega (arith, there.0, length-map sets (λ (s : FormSet). s.actions))) in
      omega (arith, (weight_within_set two).1, rise, ok.weights.count)

  -- the factor of the step, as the set has it
  pub factor_is : factor (actions_in sets) table (taken_model t) ≡ step_weight sets table t
  factor_is = ap (λ n. cond (nat_le 2 n) (get_or table (first_weight (actions_in sets) t.0.0 + t.1) 0) 1) actions_is ∙ ap (λ k. cond (nat_le 2 (set_at sets t.0.0).actions) (get_or table (k + t.1) 0) 1) first_is

  -- it is at most the grid where the set decides, and else 1
  factor_most : (b : Bool) → decides (actions_in sets) t.0.0 ≡ b → factor (actions_in sets) table (taken_model t) ≤ grid ^ cond b 1 0
  factor_most true e =
      let l : t.0.0 < length (actions_in sets) = omega (arith, there.0, length-map sets (λ (s : FormSet). s.actions)) in
      let own : factor (actions_in sets) table (taken_model t) ≡ slice_index table (first_weight (actions_in sets) t.0.0 + t.1) = ap (λ b. cond b (slice_index table (first_weight (actions_in sets) t.0.0 + t.1)) 1) e in
      let sums = weights_sum grid (actions_in sets) table ok.weights t.0.0 l e in
      let term = sum_below_term (slice_index (actions_in sets) t.0.0) t.1 (λ a. slice_index table (first_weight (actions_in sets) t.0.0 + a)) there.1 in
      let one : grid ^ 1 ≡ grid = pow-suc grid 0 ∙ ap (λ x. x * grid) (pow-zero grid) ∙ omega arith in
      omega (arith, own, sums, term, one)
  factor_most false e =
      let own : factor (actions_in sets) table (taken_model t) ≡ 1 = ap (λ b. cond b (slice_index table (first_weight (actions_in sets) t.0.0 + t.1)) 1) e in
      omega (arith, own, pow-zero grid)

  -- where the set decides the weight is at most the grid
  pub step_most : 2 ≤ (set_at sets t.0.0).actions → step_weight sets table t ≤ grid
  step_most two =
      let one : grid ^ 1 ≡ grid = pow-suc grid 0 ∙ ap (λ x. x * grid) (pow-zero grid) ∙ omega arith in
      let most = factor_most true (ap (nat_le 2) actions_is ∙ le-leb 2 (set_at sets t.0.0).actions two) in
      subst (λ x. x ≤ grid) factor_is (omega (arith, most, one))

  -- ---- the path that ends with the step

  -- it is the path that ends with the parent of its set, with the step
  path_is : whole_path sets (Some t) ≡ whole_path sets (set_at sets t.0.0).parent ++ taken_model t ∷ []
  path_is =
      chain_step (sets_model sets) (taken_model t) (parents_below sets ok.order) (omega (arith, there.0, model_length sets))
      ∙ ap (λ o. model.chain (sets_model sets) o ++ taken_model t ∷ []) (model_parent sets t.0.0 no_set there.0)

  -- the weights on it are those on the path to its set, and that of the step
  pub path_value : product_over (factor (actions_in sets) table) (whole_path sets (Some t)) ≡ weight_above sets table t.0.0 * step_weight sets table t
  path_value =
      ap (product_over (factor (actions_in sets) table)) path_is
      ∙ product_push (factor (actions_in sets) table) (whole_path sets (set_at sets t.0.0).parent) (taken_model t)
      ∙ ap (λ x. weight_above sets table t.0.0 * x) factor_is

  -- and so are the decisions
  pub path_count : deciding (actions_in sets) (whole_path sets (Some t)) ≡ count_above sets t.0.0 + cond (nat_le 2 (set_at sets t.0.0).actions) 1 0
  path_count =
      ap (deciding (actions_in sets)) path_is
      ∙ count_push (λ (u : SetAction). decides (actions_in sets) u.set) (whole_path sets (set_at sets t.0.0).parent) (taken_model t)
      ∙ ap (λ n. count_above sets t.0.0 + cond (nat_le 2 n) (suc zero) zero) actions_is

  -- a weight with that of the step is as small
  pub step_small : (weight own : ℕ) → own ≡ step_weight sets table t → (weight * own) * grid ^ count_above sets t.0.0 ≤ weight * grid ^ deciding (actions_in sets) (whole_path sets (Some t))
  step_small weight own e =
      let before : ℕ = count_above sets t.0.0 in
      let one : ℕ = cond (nat_le 2 (set_at sets t.0.0).actions) (suc zero) zero in
      let power : grid ^ deciding (actions_in sets) (whole_path sets (Some t)) ≡ grid ^ before * grid ^ one = ap (λ k. grid ^ k) path_count ∙ pow-add grid before one in
      let most : own ≤ grid ^ one = subst (λ x. x ≤ grid ^ one) (factor_is ∙ sym e) (subst (λ n. factor (actions_in sets) table (taken_model t) ≤ grid ^ cond (nat_le 2 n) 1 0) actions_is (factor_most (decides (actions_in sets) t.0.0) refl)) in
      let le : (weight * own) * grid ^ before ≤ (weight * grid ^ one) * grid ^ before = mul-le-mul (mul-le-mul (le_of_eq refl) most) (le_of_eq refl) in
      omega (arith, le, regroup weight (grid ^ one) (grid ^ before), ap (λ x. weight * x) power)
    where
      regroup : (w x r : ℕ) → (w * x) * r ≡ w * (r * x)
      regroup w x r = omega arith

-- ---- the whole path

-- no path ends with no step
pub path_none : (sets : List FormSet) → whole_path sets None ≡ []
path_none sets = at (length (sets_model sets))
  where
    at : (n : ℕ) → model.chain_within (sets_model sets) n None ≡ []
    at zero = refl
    at (suc n) = refl

-- where a walk begins, the pads and the path come to the weight of the path
pub walk_begins : (grid : ℕ) (sets : List FormSet) (table : List ℕ) (step : Option (SetId × ℕ)) (pad : ℕ)
    → ((grid ^ pad) * product_over (factor (actions_in sets) table) (whole_path sets step) ≡ path_weight grid sets table step pad)
    × ((grid ^ pad) * grid ^ deciding (actions_in sets) (whole_path sets step) ≤ grid ^ path_factors sets step pad)
walk_begins grid sets table step pad =
    let n = deciding (actions_in sets) (whole_path sets step) in
    let p = product_over (factor (actions_in sets) table) (whole_path sets step) in
    let power : grid ^ (n + pad) ≡ grid ^ n * grid ^ pad = pow-add grid n pad in
    (omega arith, omega (arith, power))

-- a weight is at most itself by a power of a grid
pub weight_within : (grid weight n : ℕ) → 1 ≤ grid → weight ≤ weight * grid ^ n
weight_within grid weight n least =
    let one : 1 ≤ grid ^ n = one-le-pow n grid least in
    let le : weight * 1 ≤ weight * grid ^ n = mul-le-mul (le_of_eq refl) one in
    omega (arith, le)

-- ---- the first step of a walk

-- what is known of it: with the step's own weight and what is above its set all comes to the weight of the path, and stays as small
pub record IsPathStep (grid : ℕ) (sets : List FormSet) (table : List ℕ) (step : Option (SetId × ℕ)) (pad set weight own : ℕ) : Type 0 where
  pub value : (weight * own) * weight_above sets table set ≡ path_weight grid sets table step pad
  pub small : (weight * own) * grid ^ count_above sets set ≤ grid ^ path_factors sets step pad
  pub within : weight * own ≤ grid ^ path_factors sets step pad

-- a walk from a step begins with the grid for each decision more
pub first_step : (grid : ℕ) (sets : List FormSet) (table : List ℕ) → IsPlayed grid sets table → (step : Option (SetId × ℕ)) (t : SetId × ℕ) (pad weight own : ℕ) → step ≡ Some t → IsStepBelow sets step
    → weight ≡ grid ^ pad → own ≡ step_weight sets table t → IsPathStep grid sets table step pad t.0.0 weight own
first_step grid sets table ok step t pad weight own e b w o =
    let there : IsStepBelow sets (Some t) = subst (IsStepBelow sets) e b in
    let begin = walk_begins grid sets table (Some t) pad in
    let whole : (grid ^ pad) * product_over (factor (actions_in sets) table) (whole_path sets (Some t)) ≡ weight * (weight_above sets table t.0.0 * own) =
    ap (λ x. x * product_over (factor (actions_in sets) table) (whole_path sets (Some t))) (sym w) ∙ ap (λ x. weight * x) (path_value grid sets table ok t there ∙ ap (λ x. weight_above sets table t.0.0 * x) (sym o)) in
    let start : weight * grid ^ deciding (actions_in sets) (whole_path sets (Some t)) ≤ grid ^ path_factors sets (Some t) pad = subst (λ x. x * grid ^ deciding (actions_in sets) (whole_path sets (Some t)) ≤ grid ^ path_factors sets (Some t) pad) (sym w) begin.1 in
    let own_small = step_small grid sets table ok t there weight own o in
    let small : (weight * own) * grid ^ count_above sets t.0.0 ≤ grid ^ path_factors sets (Some t) pad = omega (arith, own_small, start) in
    subst (λ p. IsPathStep grid sets table p pad t.0.0 weight own) (sym e) record {
      value = regroup weight own (weight_above sets table t.0.0) ∙ sym whole ∙ begin.0;
      small = small;
      within = omega (arith, small, weight_within grid (weight * own) (count_above sets t.0.0) ok.least);
    }
  where
    regroup : (w x r : ℕ) → (w * x) * r ≡ w * (r * x)
    regroup w x r = omega arith
