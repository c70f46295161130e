use Rattle.lab_defs_game.proofs.TreeLaws.{span_law, node_set_law, node_span_law, begins_law, inside_law}
use Rattle.lab_defs_game.proofs.SetNumbers.{number_law, consecutive_law}
use Rattle.lab_defs_game.proofs.RootSets.{root_law}
use Rattle.lab_defs_game.proofs.laws.spans.Goals as goal

pub returns-clause-inside : goal.returns-clause-inside
returns-clause-inside c = span_law

pub returns-clause-first : goal.returns-clause-first
returns-clause-first c = node_set_law

pub returns-clause-nodes : goal.returns-clause-nodes
returns-clause-nodes c = node_span_law

pub returns-clause-begins : goal.returns-clause-begins
returns-clause-begins c = begins_law

pub returns-clause-parents : goal.returns-clause-parents
returns-clause-parents c = inside_law

pub returns-clause-numbers : goal.returns-clause-numbers
returns-clause-numbers c = number_law

pub returns-clause-consecutive : goal.returns-clause-consecutive
returns-clause-consecutive c = consecutive_law

pub returns-clause-roots : goal.returns-clause-roots
returns-clause-roots c = root_law
