use Rattle.std.proofs.Common.{◌≡◌, drop}
use Rattle.lab_defs_game.specs.Nodes.{begins}
use Rattle.lab_tree.proofs.node_key.begins_list.Given as goal

abbrev pub invariant-loop-i : goal.invariant-loop-i
invariant-loop-i l = begins (drop l.i l.front) (drop l.i l.whole) ≡ begins l.front l.whole
