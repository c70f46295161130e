use Rattle.std.proofs.Common.{◌≡◌, map, take}
use Rattle.lab_world.specs.Games.{game_model}
use Rattle.lab_tree.specs.NodeValues.{parent_node, keys_in}
use Rattle.lab_tree.proofs.node_parts.parents.Given as goal

abbrev pub invariant-loop-entry : goal.invariant-loop-entry
invariant-loop-entry l = l.parents.items ≡ map (parent_node (game_model l.game)) (keys_in (take l.entry-index l.order))
