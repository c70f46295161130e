use Rattle.std.proofs.Common.{◌≡◌, ◌++◌, map, filter, drop}
use Rattle.lab_defs_game.specs.Histories.{histories, is_terminal, terminal_histories}
use Rattle.lab_world.specs.Games.{game_model}
use Rattle.lab_tree.specs.Ends.{end_in}
use Rattle.lab_tree.proofs.ends.ends_in_order.Given as goal

abbrev pub invariant-loop-number : goal.invariant-loop-number
invariant-loop-number l =
    l.ends.items ++ map (end_in (game_model l.game)) (filter (is_terminal (game_model l.game)) (drop l.number (histories (game_model l.game))))
    ≡ map (end_in (game_model l.game)) (terminal_histories (game_model l.game))
