use Rattle.lab_tree.proofs.WayLaws.{way_law}
use Rattle.lab_tree.proofs.SetLaws.{at_nodes_law}
use Rattle.lab_tree.proofs.GroupLaws.{grouped_law}
use Rattle.lab_tree.proofs.PathLaws.{paths_law}
use Rattle.lab_tree.proofs.laws.ways.Goals as goal

pub returns-clause-ways : goal.returns-clause-ways
returns-clause-ways c = way_law

pub returns-clause-nodes : goal.returns-clause-nodes
returns-clause-nodes c = at_nodes_law

pub returns-clause-grouped : goal.returns-clause-grouped
returns-clause-grouped c = grouped_law

pub returns-clause-paths : goal.returns-clause-paths
returns-clause-paths c = paths_law
