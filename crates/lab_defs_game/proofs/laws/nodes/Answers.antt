use Rattle.lab_defs_game.proofs.TreeLaws.{node_law, node_history_law, set_node_law, depth_law}
use Rattle.lab_defs_game.proofs.Groups.{node_end_law}
use Rattle.lab_defs_game.proofs.laws.nodes.Goals as goal

pub returns-clause-one : goal.returns-clause-one
returns-clause-one c = node_law

pub returns-clause-some : goal.returns-clause-some
returns-clause-some c = node_history_law

pub returns-clause-shared : goal.returns-clause-shared
returns-clause-shared c = set_node_law

pub returns-clause-depth : goal.returns-clause-depth
returns-clause-depth c = depth_law

pub returns-clause-ends : goal.returns-clause-ends
returns-clause-ends c = node_end_law
