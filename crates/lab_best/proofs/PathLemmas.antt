-- The decisions above a set, one by one.
use Rattle.std.proofs.Common.{◌≡◌, ℕ, zero, suc, ◌+◌, ◌*◌, ◌-◌, ◌^◌, ◌<◌, ◌≤◌, ◌⊎◌, inl, inr, cond, List, take, length, get_or, Option, Some, None, refl, sym, ap, ◌∙◌, subst, arith, mul-le-mul, pow-suc}
use Rattle.std.specs.Prelude.{slice_index}
use Rattle.std.proofs.Math.Nat.{mod-eq_of_lt}
use Rattle.std.proofs.lemmas.Bool.{cases_lt, le-leb, lt-leb}
use Rattle.std.proofs.lemmas.List.{get_or-map, length-map, length-take-le}
use native.Mathlib.Nat.{le_of_eq}
use Rattle.lab_math.specs.Sums.{product_over}
use Rattle.lab_defs_game.specs.Forms.{deciding}
use Rattle.lab_defs_value.specs.Tables.{first_weight, factor}
use Rattle.lab_form.specs.declared.items.SetId.{SetId}
use Rattle.lab_form.specs.declared.items.FormSet.{FormSet}
use Rattle.lab_form.specs.Forms.{IsStepBelow, AreSets, AreShort, actions_in, whole_path}
use Rattle.lab_form.specs.Columns.{place_of_step}
use Rattle.lab_form.specs.Decisions.{last_decision, short_decision, last_set, decisions_above, sets_above}
use Rattle.lab_form.proofs.CallerLemmas.{by_parents, step_more, step_placed, decision_step, decides_at, passes_at, no_set, set_decided, set_step, above_short, no_decision}
use Rattle.lab_best.specs.Rows.{set_at, step_weight, weight_above, count_above, IsPlayed, ArePaths}
use Rattle.lab_best.proofs.WeightLemmas.{no_set as none, weights_rise, weight_within_set, weight_there, path_value, path_count, step_most, path_none, weight_within}

-- the columns of a form are its paths
pub paths_known : (sets : List FormSet) (above over : List ℕ) → AreSets sets → AreShort sets → above ≡ decisions_above sets → over ≡ sets_above sets → ArePaths sets above over
paths_known sets above over ok short a o = record { decisions = a ∙ above_short sets ok short; sets_over = o }

-- ---- the last decision of a path

-- the weights on the path to a step, and how many decisions are on it
abbrev weight_to : List FormSet → List ℕ → Option (SetId × ℕ) → ℕ
weight_to sets table o = product_over (factor (actions_in sets) table) (whole_path sets o)

abbrev count_to : List FormSet → Option (SetId × ℕ) → ℕ
count_to sets o = deciding (actions_in sets) (whole_path sets o)

-- the step that a set follows is at a lower one
parent_low : (grid : ℕ) (sets : List FormSet) (table : List ℕ) → IsPlayed grid sets table → (K : ℕ) → K < length sets → place_of_step (set_at sets K).parent ≤ K
parent_low grid sets table ok K l = omega (arith, step_placed (take K sets) (set_at sets K).parent (ok.order K none l).parent, length-take-le K sets (omega (arith, l)))

-- the last decision on the path to a step has this weight's number plus one, and is at this set
record IsBack (grid : ℕ) (sets : List FormSet) (table : List ℕ) (o : Option (SetId × ℕ)) (number set : ℕ) : Type 0 where
  pub earlier : suc set ≤ place_of_step o
  pub some : 0 < number
  pub within : number ≤ length table
  pub value : weight_to sets table o ≡ weight_above sets table set * slice_index table (number - 1)
  pub count : count_to sets o ≡ count_above sets set + 1
  pub most : slice_index table (number - 1) ≤ grid
  pub after : first_weight (actions_in sets) set < number
  pub before : number ≤ first_weight (actions_in sets) (suc set)

-- the same by the number of its set plus one; with 0 there is no decision
abbrev Back : (grid : ℕ) → List FormSet → List ℕ → Option (SetId × ℕ) → ℕ → ℕ → Type 0
Back grid sets table o number zero = (weight_to sets table o ≡ 1) × (count_to sets o ≡ 0) × (number ≡ 0)
Back grid sets table o number (suc set) = IsBack grid sets table o number set

-- so it is of a later step with the same decisions
back_later : (grid : ℕ) (sets : List FormSet) (table : List ℕ) (o later : Option (SetId × ℕ)) → weight_to sets table later ≡ weight_to sets table o → count_to sets later ≡ count_to sets o → place_of_step o ≤ place_of_step later
    → (number set : ℕ) → Back grid sets table o number set → Back grid sets table later number set
back_later grid sets table o later value count low number zero r = (value ∙ r.0, count ∙ r.1, r.2)
back_later grid sets table o later value count low number (suc set) r = record {
  earlier = omega (arith, r.earlier, low);
  some = r.some;
  within = r.within;
  value = value ∙ r.value;
  count = count ∙ r.count;
  most = r.most;
  after = r.after;
  before = r.before;
}

-- the last decision of each step that is there
back : (grid : ℕ) (sets : List FormSet) (table : List ℕ) → IsPlayed grid sets table → (o : Option (SetId × ℕ)) → IsStepBelow sets o → Back grid sets table o (last_decision sets o) (last_set sets o)
back grid sets table ok = by_parents sets none ok.order P first at
  where
    P : Option (SetId × ℕ) → Type 0
    P o = Back grid sets table o (last_decision sets o) (last_set sets o)

    first : P None
    first = subst (λ k. Back grid sets table None (last_decision sets None) k) (sym (no_set sets)) (ap (product_over (factor (actions_in sets) table)) (path_none sets), ap (deciding (actions_in sets)) (path_none sets), no_decision sets)

    at : (t : SetId × ℕ) → IsStepBelow sets (Some t) → P (set_at sets t.0.0).parent → P (Some t)
    at t b r = by (cases_lt (set_at sets t.0.0).actions 2)
      where
        by : ((set_at sets t.0.0).actions < 2) ⊎ (2 ≤ (set_at sets t.0.0).actions) → P (Some t)
        by (inl few) =
            let s = set_at sets t.0.0 in
            let J : ℕ = t.0.0 in
            let pass = lt-leb 2 s.actions few in
            let n : last_decision sets (Some t) ≡ last_decision sets s.parent = decision_step sets t none ok.order b.0 ∙ passes_at sets s t.1 few in
            let k : last_set sets (Some t) ≡ last_set sets s.parent = set_step sets t none ok.order b.0 ∙ ap (λ b. cond b (J + 1) (last_set sets s.parent)) pass in
            let value : weight_to sets table (Some t) ≡ weight_to sets table s.parent =
            path_value grid sets table ok t b ∙ ap (λ b. weight_above sets table J * cond b (slice_index table (s.first_weight + t.1)) 1) pass ∙ omega arith in
            let count : count_to sets (Some t) ≡ count_to sets s.parent = path_count grid sets table ok t b ∙ ap (λ b. count_above sets J + cond b (suc zero) zero) pass ∙ omega arith in
            let low : place_of_step s.parent ≤ suc J = omega (arith, parent_low grid sets table ok J b.0) in
            subst (λ m. Back grid sets table (Some t) m (last_set sets (Some t))) (sym n)
            (subst (λ m. Back grid sets table (Some t) (last_decision sets s.parent) m) (sym k) (back_later grid sets table s.parent (Some t) value count low (last_decision sets s.parent) (last_set sets s.parent) r))
        by (inr two) =
            let s = set_at sets t.0.0 in
            let J : ℕ = t.0.0 in
            let number : ℕ = s.first_weight + t.1 + 1 in
            let decides = le-leb 2 s.actions two in
            let n : last_decision sets (Some t) ≡ number = decision_step sets t none ok.order b.0 ∙ decides_at sets s t.1 two in
            let next : J + 1 ≡ suc J = omega arith in
            let k : last_set sets (Some t) ≡ suc J = set_decided sets t none ok.order b.0 two ∙ next in
            let place : s.first_weight + t.1 ≡ number - 1 = omega arith in
            let own : step_weight sets table t ≡ slice_index table (number - 1) = ap (λ b. cond b (slice_index table (s.first_weight + t.1)) 1) decides ∙ ap (slice_index table) place in
            let is : IsBack grid sets table (Some t) number J = record {
              earlier = omega arith;
              some = omega arith;
              within = omega (arith, weight_there grid sets table ok t b two);
              value = path_value grid sets table ok t b ∙ ap (λ x. weight_above sets table J * x) own;
              count = path_count grid sets table ok t b ∙ ap (λ b. count_above sets J + cond b (suc zero) zero) decides;
              most = subst (λ x. x ≤ grid) own (step_most grid sets table ok t b two);
              after = (weight_within_set grid sets table ok t b two).0;
              before = (weight_within_set grid sets table ok t b two).1;
            } in
            subst (λ m. Back grid sets table (Some t) m (last_set sets (Some t))) (sym n) (subst (λ m. Back grid sets table (Some t) number m) (sym k) is)

-- paths with one last decision have the same weights and as many decisions
pub same_way : (grid : ℕ) (sets : List FormSet) (table : List ℕ) → IsPlayed grid sets table → (o other : Option (SetId × ℕ)) → IsStepBelow sets o → IsStepBelow sets other → last_decision sets o ≡ last_decision sets other
    → (weight_to sets table o ≡ weight_to sets table other) × (count_to sets o ≡ count_to sets other)
same_way grid sets table ok o other b b' same =
    at (last_decision sets o) (last_set sets o) (last_set sets other) (back grid sets table ok o b) (subst (λ n. Back grid sets table other n (last_set sets other)) (sym same) (back grid sets table ok other b'))
  where
    -- the set of a decision is known by its number
    one_set : (number J K : ℕ) → IsBack grid sets table o number J → IsBack grid sets table other number K → J ≡ K
    one_set number J K r s = by (cases_lt J K) (cases_lt K J)
      where
        by : (J < K) ⊎ (K ≤ J) → (K < J) ⊎ (J ≤ K) → J ≡ K
        by (inl l) k = absurd (omega (arith, r.before, s.after, weights_rise (actions_in sets) (suc J) K (omega (arith, l))))
        by (inr l) (inl k) = absurd (omega (arith, s.before, r.after, weights_rise (actions_in sets) (suc K) J (omega (arith, k))))
        by (inr l) (inr k) = omega (arith, l, k)

    at : (number J K : ℕ) → Back grid sets table o number J → Back grid sets table other number K → (weight_to sets table o ≡ weight_to sets table other) × (count_to sets o ≡ count_to sets other)
    at number zero zero r s = (r.0 ∙ sym s.0, r.1 ∙ sym s.1)
    at number zero (suc K) r s = absurd (omega (arith, r.2, s.some))
    at number (suc J) zero r s = absurd (omega (arith, s.2, r.some))
    at number (suc J) (suc K) r s =
        let one = one_set number J K r s in
        (r.value ∙ ap (λ I. weight_above sets table I * slice_index table (number - 1)) one ∙ sym s.value, r.count ∙ ap (λ I. count_above sets I + 1) one ∙ sym s.count)

-- 32 bits hold the number of each decision where they hold that of each weight
pub decision_short : (grid : ℕ) (sets : List FormSet) (table : List ℕ) → IsPlayed grid sets table → length table < 2 ^ 32 → (o : Option (SetId × ℕ)) → IsStepBelow sets o → short_decision sets o ≡ last_decision sets o
decision_short grid sets table ok few o b = mod-eq_of_lt (at (last_decision sets o) (last_set sets o) (back grid sets table ok o b))
  where
    at : (number set : ℕ) → Back grid sets table o number set → number < 2 ^ 32
    at number zero r = omega (arith, r.2)
    at number (suc set) r = omega (arith, r.within, few)

-- ---- the last decision above a set

-- what is known of a step of a walk: the next set is lower, and with its weight and what is above it all comes to as much and stays as small
pub record IsWalkStep (grid : ℕ) (sets : List FormSet) (table : List ℕ) (set next weight own : ℕ) : Type 0 where
  pub there : next < length sets
  pub lower : next < set
  pub value : (weight * own) * weight_above sets table next ≡ weight * weight_above sets table set
  pub small : (weight * own) * grid ^ count_above sets next ≤ weight * grid ^ count_above sets set
  pub within : weight * own ≤ weight * grid ^ count_above sets set

module _ (grid : ℕ) (sets : List FormSet) (table above over : List ℕ) (ok : IsPlayed grid sets table) (paths : ArePaths sets above over) (K : ℕ) (l : K < length sets) where
  -- it is as the columns have it
  above_known : Back grid sets table (set_at sets K).parent (slice_index above K) (slice_index over K)
  above_known =
      let o = (set_at sets K).parent in
      let n : slice_index above K ≡ last_decision sets o = ap (λ ns. get_or ns K 0) paths.decisions ∙ get_or-map (λ (s : FormSet). last_decision sets s.parent) sets K none 0 l in
      let k : slice_index over K ≡ last_set sets o = ap (λ ns. get_or ns K 0) paths.sets_over ∙ get_or-map (λ (s : FormSet). last_set sets s.parent) sets K none 0 l in
      subst (λ m. Back grid sets table o m (slice_index over K)) (sym n)
      (subst (λ m. Back grid sets table o (last_decision sets o) m) (sym k) (back grid sets table ok o (step_more K sets o (omega (arith, l)) (ok.order K none l).parent)))

  -- the columns have as many numbers as there are sets
  pub columns_long : (K < length above) × (K < length over)
  columns_long =
      let a = ap length paths.decisions ∙ length-map sets (λ (s : FormSet). last_decision sets s.parent) in
      let o = ap length paths.sets_over ∙ length-map sets (λ (s : FormSet). last_set sets s.parent) in
      (omega (arith, l, a), omega (arith, l, o))

  -- its weight is among all
  pub weight_known : 0 < slice_index over K → (0 < slice_index above K) × (slice_index above K ≤ length table)
  weight_known some = at (slice_index above K) (slice_index over K) some above_known
    where
      at : (n k : ℕ) → 0 < k → Back grid sets table (set_at sets K).parent n k → (0 < n) × (n ≤ length table)
      at n zero some r = absurd (omega (arith, some))
      at n (suc k) some r = (r.some, r.within)

  -- with no decision above, a weight is the whole
  pub walk_ends : (weight : ℕ) → slice_index over K ≡ 0 → (weight ≡ weight * weight_above sets table K) × (weight ≤ weight * grid ^ count_above sets K)
  walk_ends weight e =
      let r : Back grid sets table (set_at sets K).parent (slice_index above K) 0 = subst (Back grid sets table (set_at sets K).parent (slice_index above K)) e above_known in
      (omega (arith, ap (λ x. weight * x) r.0), weight_within grid weight (count_above sets K) ok.least)

  -- what is known of a step of a walk to the next decision
  pub walk_step : (next weight own : ℕ) → slice_index over K ≡ next + 1 → own ≡ slice_index table (slice_index above K - 1) → IsWalkStep grid sets table K next weight own
  walk_step next weight own e w =
      let one : next + 1 ≡ suc next = omega arith in
      let r : IsBack grid sets table (set_at sets K).parent (slice_index above K) next = subst (Back grid sets table (set_at sets K).parent (slice_index above K)) (e ∙ one) above_known in
      let low = parent_low grid sets table ok K l in
      let whole : weight * weight_above sets table K ≡ weight * (weight_above sets table next * own) = ap (λ x. weight * x) (r.value ∙ ap (λ x. weight_above sets table next * x) (sym w)) in
      let before : ℕ = grid ^ count_above sets next in
      let power : grid ^ count_above sets K ≡ before * grid = ap (λ n. grid ^ n) (r.count ∙ one_more (count_above sets next)) ∙ pow-suc grid (count_above sets next) in
      let le : (weight * own) * before ≤ (weight * grid) * before = mul-le-mul (mul-le-mul (le_of_eq refl) (subst (λ x. x ≤ grid) (sym w) r.most)) (le_of_eq refl) in
      let small : (weight * own) * before ≤ weight * grid ^ count_above sets K = omega (arith, le, regroup weight grid before, ap (λ x. weight * x) power) in
      record {
        there = omega (arith, r.earlier, low, l);
        lower = omega (arith, r.earlier, low);
        value = regroup weight own (weight_above sets table next) ∙ sym whole;
        small = small;
        within = omega (arith, small, weight_within grid (weight * own) (count_above sets next) ok.least);
      }
    where
      one_more : (n : ℕ) → n + 1 ≡ suc n
      one_more n = omega arith

      regroup : (w x r : ℕ) → (w * x) * r ≡ w * (r * x)
      regroup w x r = omega arith
