use Rattle.std.proofs.Common.{◌≡◌, map, drop}
use Rattle.lab_defs_text.specs.Steps.{each}
use Rattle.lab_defs_text.specs.Assembly.{known_outcome}
use Rattle.lab_world.specs.Drafts.{part_outcome_of}
use Rattle.lab_world.specs.Stages.{outcomes_model}
use Rattle.lab_world.proofs.EachLemmas.{each_on}
use Rattle.lab_world.proofs.known.outcome_list.Given as goal

abbrev pub invariant-loop-outcome : goal.invariant-loop-outcome
invariant-loop-outcome l =
    each_on (known_outcome l.names l.tokens) (outcomes_model l.found.items) (map part_outcome_of (drop l.outcome-index l.outcomes)) ≡ each (known_outcome l.names l.tokens) (map part_outcome_of l.outcomes)
