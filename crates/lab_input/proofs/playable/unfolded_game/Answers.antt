use Rattle.lab_world.specs.Games.{game_model}
use Rattle.lab_input.proofs.FaultLemmas.{unfolding_denied}
use Rattle.lab_input.proofs.playable.unfolded_game.Goals as goal

pub returns-in-Err-clause-refused : goal.returns-in-Err-clause-refused
returns-in-Err-clause-refused c =
    unfolding_denied (game_model c.args.game.now) c.args.done c.in-Err.fault c.refused_unfolding.result c.in-Err.ensures.fault c.refused_unfolding.ensures
