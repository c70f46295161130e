use Rattle.std.proofs.Common.{◌≡◌, ◌++◌, drop, map}
use Rattle.lab_defs_text.specs.Lines.{text_of}
use Rattle.lab_defs_text.specs.Texts.{outcome_lines}
use Rattle.lab_world.specs.Models.{outcome_model}
use Rattle.lab_world.specs.Games.{game_model}
use Rattle.lab_text.proofs.places.push_outcomes.Given as goal

abbrev pub invariant-loop-outcome : goal.invariant-loop-outcome
invariant-loop-outcome l =
    l.text.items ++ text_of (outcome_lines (game_model l.game) (map outcome_model (drop l.outcome-index l.outcomes)))
    ≡ l.fn.text.items ++ text_of (outcome_lines (game_model l.game) (map outcome_model l.outcomes))
