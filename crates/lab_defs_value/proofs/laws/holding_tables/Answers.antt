use Rattle.lab_defs_value.proofs.BestLaws.{holds_law}
use Rattle.lab_defs_value.proofs.HoldsTests.{holds_test_law}
use Rattle.lab_defs_value.proofs.laws.holding_tables.Goals as goal

pub returns-clause-bounds : goal.returns-clause-bounds
returns-clause-bounds c = holds_law

pub returns-clause-test : goal.returns-clause-test
returns-clause-test c = holds_test_law
