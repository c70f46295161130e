-- A game on which there is no session is refused for the fault of the session.
use Rattle.lab_world.specs.Games.{game_model}
use Rattle.lab_input.proofs.CallerLemmas.{game_denied}
use Rattle.lab_cli.proofs.StartLemmas.{unfolding_refused, recall_refused, worlds_of_fault}
use Rattle.lab_cli.proofs.session.started.Goals as goal

pub refused_recall-requires : goal.refused_recall-requires
refused_recall-requires c = worlds_of_fault _ _ _ _ _ (rw c.in-Err-Recall.field-0-is at c.in-Err-Recall.ensures.fault)

pub returns-in-Err-Unfold-clause-game : goal.returns-in-Err-Unfold-clause-game
returns-in-Err-Unfold-clause-game c =
    game_denied c.args.text.now c.args.done (game_model c.in_ok-game.game) c.refused_unfolding.result c.in_ok-game.ensures
    (unfolding_refused c.in_ok-game.game c.in-Err-Unfold.game c.args.done c.in-Err-Unfold.fault c.refused_unfolding.result (rw c.in-Err-Unfold.field-0-is at c.in-Err-Unfold.ensures.fault) c.refused_unfolding.ensures)

pub returns-in-Err-Recall-clause-game : goal.returns-in-Err-Recall-clause-game
returns-in-Err-Recall-clause-game c =
    game_denied c.args.text.now c.args.done (game_model c.in_ok-game.game) c.refused_recall.result c.in_ok-game.ensures
    (recall_refused c.in_ok-game.game c.in-Err-Recall.game c.args.done c.in-Err-Recall.fault c.in-Err-Recall.first c.in-Err-Recall.second c.refused_recall.result (rw c.in-Err-Recall.field-0-is at c.in-Err-Recall.ensures.fault) c.refused_recall.ensures)
