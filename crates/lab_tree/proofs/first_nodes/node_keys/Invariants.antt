use Rattle.std.proofs.Common.{◌≡◌, true}
use Rattle.lab_defs_game.specs.Histories.{histories}
use Rattle.lab_defs_game.specs.Sets.{public_list}
use Rattle.lab_world.specs.Games.{game_model}
use Rattle.lab_tree.specs.Keyed.{keyed}
use Rattle.lab_tree.proofs.first_nodes.node_keys.Given as goal

abbrev pub invariant-loop-number : goal.invariant-loop-number
invariant-loop-number l = l.keys.items ≡ keyed (λ h. true) (public_list (game_model l.game)) (histories (game_model l.game)) l.firsts l.number
