use Rattle.std.proofs.Common.{◌≡◌, ◌++◌, map, drop, string_bytes}
use Rattle.lab_world.specs.Drafts.{part_outcome_by, part_outcome_of}
use Rattle.lab_world.proofs.named.named_outcomes.Given as goal

abbrev pub invariant-loop-outcome : goal.invariant-loop-outcome
invariant-loop-outcome l = map part_outcome_of l.found.items ++ map (part_outcome_by string_bytes) (drop l.outcome-index l.outcomes) ≡ map (part_outcome_by string_bytes) l.outcomes
