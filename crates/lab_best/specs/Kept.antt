-- Weights of paths that are kept.
use Rattle.std.specs.Prelude.{ℕ, ◌^◌, ◌≡◌, ◌<◌, ◌≤◌, List, length, Option}
use Rattle.std.specs.List.{All}
use Rattle.lab_form.specs.declared.items.SetId.{SetId}
use Rattle.lab_form.specs.declared.items.FormSet.{FormSet}
use Rattle.lab_form.specs.Forms.{IsStepBelow}
use Rattle.lab_form.specs.Decisions.{short_decision}
use Rattle.lab_best.specs.declared.memo.Kept.{Kept}
use Rattle.lab_best.specs.Rows.{path_weight, path_factors, IsPlayed}

-- no decision, with none more, has weight 1
abbrev pub nothing_kept : Kept
nothing_kept = record { decision = 0; pad = 0; weight = 1 }

-- a weight is that of the path to a step, and at most the grid for each decision
pub record IsWeightOf (grid : ℕ) (sets : List FormSet) (weights : List ℕ) (step : Option (SetId × ℕ)) (k : Kept) : Type 0 where
  pub value : k.weight ≡ path_weight grid sets weights step k.pad
  pub within : k.weight ≤ grid ^ path_factors sets step k.pad

-- a weight that is kept is that of every path with its last decision, where 32 bits hold each decision
abbrev pub IsKept : (grid : ℕ) → List FormSet → List ℕ → Kept → Type 0
IsKept grid sets weights k = IsPlayed grid sets weights → length weights < 2 ^ 32 → (step : Option (SetId × ℕ)) → IsStepBelow sets step → short_decision sets step ≡ k.decision → IsWeightOf grid sets weights step k

-- weights that are kept, one at least
pub record AreKept (grid : ℕ) (sets : List FormSet) (weights : List ℕ) (kept : List Kept) : Type 0 where
  pub some : 0 < length kept
  pub each : All (IsKept grid sets weights) kept
