use Rattle.std.proofs.Common.{◌≡◌, ◌<◌, ◌++◌, reverse, length}
use Rattle.lab_defs_game.specs.Sets.{public_list}
use Rattle.lab_world.specs.Games.{game_model}
use Rattle.lab_unfold.specs.Parents.{history_at}
use Rattle.lab_tree.proofs.behind.public_along.Given as goal

abbrev pub invariant-loop-before : goal.invariant-loop-before
invariant-loop-before l = record {
  there : l.at.0 < length l.histories.items;
  seen : public_list (game_model l.game) (history_at (game_model l.game) l.at.0) ++ reverse l.tokens.items ≡ public_list (game_model l.game) (history_at (game_model l.game) l.fn.id.0);
}

abbrev pub decreases-loop-before : goal.decreases-loop-before
decreases-loop-before l = l.at.0
