use Rattle.lab_defs_text.specs.Texts.{outcome_ok}
use Rattle.lab_world.specs.Models.{outcome_model}
use Rattle.lab_world.specs.Games.{game_model}
use Rattle.std.proofs.lemmas.List.{get_or_default}
use Rattle.lab_math.proofs.ListTests.{image_at}
use Rattle.lab_text.proofs.places.push_outcomes.Goals as goal

pub push_outcome-requires : goal.push_outcome-requires
push_outcome-requires c =
    image_at (outcome_ok (game_model c.args.game.now)) outcome_model c.args.outcomes.now c.loop-outcome.outcome-index _ c.loop-outcome-test.true
    (get_or_default c.args.outcomes.now c.loop-outcome.outcome-index _ _ c.loop-outcome-test.true) c.requires
