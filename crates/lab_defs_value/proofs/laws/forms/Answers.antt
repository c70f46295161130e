use Rattle.lab_defs_value.proofs.FormTests.{form_test_law}
use Rattle.lab_defs_value.proofs.Chains.{chain_law}
use Rattle.lab_defs_value.proofs.laws.forms.Goals as goal

pub returns-clause-test : goal.returns-clause-test
returns-clause-test c = form_test_law

pub returns-clause-chains : goal.returns-clause-chains
returns-clause-chains c = chain_law
