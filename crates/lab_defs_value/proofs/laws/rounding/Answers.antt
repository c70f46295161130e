use Rattle.lab_defs_value.proofs.RoundingSums.{rounded_law}
use Rattle.lab_defs_value.proofs.RoundingUnits.{units_law}
use Rattle.lab_defs_value.proofs.RoundedTables.{rounded_table_law, zero_shares_law}
use Rattle.lab_defs_value.proofs.laws.rounding.Goals as goal

pub returns-clause-weights : goal.returns-clause-weights
returns-clause-weights c = rounded_law

pub returns-clause-units : goal.returns-clause-units
returns-clause-units c = units_law

pub returns-clause-tables : goal.returns-clause-tables
returns-clause-tables c = rounded_table_law

pub returns-clause-zeros : goal.returns-clause-zeros
returns-clause-zeros c = zero_shares_law
