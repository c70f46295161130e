use Rattle.lab_world.specs.Games.{game_model}
use Rattle.lab_input.proofs.FaultLemmas.{recall_denied}
use Rattle.lab_input.proofs.playable.check_recall.Goals as goal

pub returns-in-Err-clause-refused : goal.returns-in-Err-clause-refused
returns-in-Err-clause-refused c =
    recall_denied (game_model c.args.game.now) c.args.done c.in-Err.fault c.refused_sets.result c.requires.unfolds c.in-Err.ensures.fault c.refused_sets.ensures
