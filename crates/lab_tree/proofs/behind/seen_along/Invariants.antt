use Rattle.std.proofs.Common.{◌≡◌, ◌<◌, ◌++◌, reverse, length, map}
use Rattle.lab_defs_game.specs.Sets.{seen}
use Rattle.lab_world.specs.Games.{game_model}
use Rattle.lab_world.specs.Seats.{seat_number}
use Rattle.lab_unfold.specs.Items.{item_model}
use Rattle.lab_unfold.specs.Parents.{history_at}
use Rattle.lab_tree.proofs.behind.seen_along.Given as goal

abbrev pub invariant-loop-before : goal.invariant-loop-before
invariant-loop-before l = record {
  there : l.at.0 < length l.histories.items;
  seen : seen (game_model l.game) (seat_number l.seat) (history_at (game_model l.game) l.at.0) ++ map item_model (reverse l.items.items) ≡ seen (game_model l.game) (seat_number l.seat) (history_at (game_model l.game) l.fn.id.0);
}

abbrev pub decreases-loop-before : goal.decreases-loop-before
decreases-loop-before l = l.at.0
