use Rattle.std.proofs.Common.{◌≡◌, ◌+◌, drop}
use Rattle.lab_defs_game.specs.Chance.{row_total}
use Rattle.lab_world.specs.Stages.{outcomes_model}
use Rattle.lab_world.proofs.placed.total_of.Given as goal

abbrev pub invariant-loop-outcome : goal.invariant-loop-outcome
invariant-loop-outcome l = l.total + row_total (outcomes_model (drop l.outcome-index l.outcomes)) ≡ row_total (outcomes_model l.outcomes)
