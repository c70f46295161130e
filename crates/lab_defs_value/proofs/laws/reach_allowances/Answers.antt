use Rattle.lab_defs_value.proofs.Pools.{reach_law, pool_law, even_part_law, path_law}
use Rattle.lab_defs_value.proofs.laws.reach_allowances.Goals as goal

pub returns-clause-each : goal.returns-clause-each
returns-clause-each c = reach_law

pub returns-clause-sums : goal.returns-clause-sums
returns-clause-sums c = pool_law

pub returns-clause-parts : goal.returns-clause-parts
returns-clause-parts c = even_part_law

pub returns-clause-paths : goal.returns-clause-paths
returns-clause-paths c = path_law
