use Rattle.std.proofs.Common.{◌≡◌, map, take}
use Rattle.lab_world.specs.Games.{game_model}
use Rattle.lab_tree.specs.Trees.{row_in}
use Rattle.lab_defs_game.specs.Nodes.{ends_by_nodes}
use Rattle.lab_tree.proofs.row_infos.row_infos.Given as goal

abbrev pub invariant-loop-number : goal.invariant-loop-number
invariant-loop-number l = l.rows.items ≡ map (row_in (game_model l.game)) (take l.number (ends_by_nodes (game_model l.game)))
