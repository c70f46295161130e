use Rattle.lab_world.proofs.CallerLemmas.{whole_parts}
use Rattle.lab_world.specs.Games.{game_model}
use Rattle.lab_input.proofs.FaultLemmas.{game_denied, gives_denied}
use Rattle.lab_input.proofs.playable.played_game.Goals as goal

pub invariant_of-result : goal.invariant_of-result
invariant_of-result c = record {
  unfolded = c.in_ok-histories.ensures.unfolded;
  accepted = record { good = (whole_parts c.in_ok-game.game).0; unfolds = c.in_ok-histories.ensures.unfolds; recalls = c.in_ok-check_recall.ensures.recalls };
}

pub returns-in_err-check_recall : goal.returns-in_err-check_recall
returns-in_err-check_recall c =
    gives_denied _ _ c.in_err-check_recall.field-0.0 _ c.from_residual-in_err-check_recall.ensures
    (game_denied c.args.text.now c.args.done (game_model c.in_ok-game.game) c.in_err-check_recall.field-0.0 c.in_ok-game.ensures c.in_err-check_recall.ensures.refused)
