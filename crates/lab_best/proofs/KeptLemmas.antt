-- Weights of paths that are kept.
use Rattle.std.proofs.Common.{◌≡◌, ℕ, ◌*◌, ◌+◌, ◌%◌, ◌^◌, ◌<◌, ◌≤◌, List, length, set, replicate, Option, None, sym, ap, ◌∙◌, subst, arith}
use Rattle.std.proofs.lemmas.List.{length-set, length-replicate}
use Rattle.std.proofs.lemmas.List.Elements.{All-set, All-replicate}
use native.Mathlib.Nat.{pow-zero}
use Rattle.lab_math.specs.Sums.{product_over}
use Rattle.lab_defs_value.specs.Tables.{factor}
use Rattle.lab_form.specs.declared.items.SetId.{SetId}
use Rattle.lab_form.specs.declared.items.FormSet.{FormSet}
use Rattle.lab_form.specs.Forms.{actions_in, IsStepBelow}
use Rattle.lab_form.specs.Decisions.{short_decision}
use Rattle.lab_form.proofs.CallerLemmas.{no_decision}
use Rattle.lab_best.specs.declared.memo.Kept.{Kept}
use Rattle.lab_best.specs.Rows.{path_weight, path_factors, IsPlayed}
use Rattle.lab_best.specs.Kept.{nothing_kept, IsWeightOf, IsKept, AreKept}
use Rattle.lab_best.proofs.WeightLemmas.{path_none}
use Rattle.lab_best.proofs.PathLemmas.{same_way, decision_short}
use Rattle.lab_best.proofs.SizeLemmas.{grid_least}

-- what is known of the path to a step is known of each path with the same last decision
known_of : (grid : ℕ) (sets : List FormSet) (weights : List ℕ) (step : Option (SetId × ℕ)) (k : Kept) → IsStepBelow sets step → k.decision ≡ short_decision sets step
    → k.weight ≡ path_weight grid sets weights step k.pad → k.weight ≤ grid ^ path_factors sets step k.pad → IsKept grid sets weights k
known_of grid sets weights step k there own value within = λ ok few other b same.
    let last = sym (decision_short grid sets weights ok few step there) ∙ sym own ∙ sym same ∙ decision_short grid sets weights ok few other b in
    let way = same_way grid sets weights ok step other there b last in
    record {
      value = value ∙ ap (λ w. w * grid ^ k.pad) way.0;
      within = subst (λ n. k.weight ≤ grid ^ (n + k.pad)) way.1 within;
    }

-- the weight of a path with no decision is known at each place
pub nothing_known : (grid : ℕ) (sets : List FormSet) (weights : List ℕ) (places : ℕ) (first : Kept) → first ≡ nothing_kept → 1 ≤ grid → 0 < places → AreKept grid sets weights (replicate places first)
nothing_known grid sets weights places first same least some = record {
  some = omega (arith, some, length-replicate places first);
  each = All-replicate (IsKept grid sets weights) places first (subst (IsKept grid sets weights) (sym same)
      (known_of grid sets weights None nothing_kept tt (sym (ap (λ n. n % 2 ^ 32) (no_decision sets)))
      (sym (ap (λ path. product_over (factor (actions_in sets) weights) path * grid ^ 0) (path_none sets) ∙ ap (λ x. 1 * x) (pow-zero grid)))
      (grid_least grid (path_factors sets None 0) least)));
}

-- one more
pub one_kept : (grid : ℕ) (sets : List FormSet) (weights : List ℕ) (kept : List Kept) (place : ℕ) (step : Option (SetId × ℕ)) (decision pad weight : ℕ) → AreKept grid sets weights kept → IsStepBelow sets step → decision ≡ short_decision sets step
    → weight ≡ path_weight grid sets weights step pad → weight ≤ grid ^ path_factors sets step pad → AreKept grid sets weights (set kept place (record { decision = decision; pad = pad; weight = weight }))
one_kept grid sets weights kept place step decision pad weight ok there own value within =
    let k : Kept = record { decision = decision; pad = pad; weight = weight } in
    record {
      some = omega (arith, ok.some, length-set kept place k);
      each = All-set (IsKept grid sets weights) kept place k (known_of grid sets weights step k there own value within) ok.each;
    }
