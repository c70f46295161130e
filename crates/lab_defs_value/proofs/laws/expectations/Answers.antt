use Rattle.lab_defs_value.proofs.Expecting.{expectation_law, guarantee_law}
use Rattle.lab_defs_value.proofs.laws.expectations.Goals as goal

pub returns-clause-earned : goal.returns-clause-earned
returns-clause-earned c = expectation_law

pub returns-clause-guarantee : goal.returns-clause-guarantee
returns-clause-guarantee c = guarantee_law
