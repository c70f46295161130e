use Rattle.lab_defs_value.proofs.WholeTables.{whole_is_table_law, whole_table_law, best_table_law}
use Rattle.lab_defs_value.proofs.laws.whole_tables.Goals as goal

pub returns-clause-is_table : goal.returns-clause-is_table
returns-clause-is_table c = whole_is_table_law

pub returns-clause-expected : goal.returns-clause-expected
returns-clause-expected c = whole_table_law

pub returns-clause-best : goal.returns-clause-best
returns-clause-best c = best_table_law
