use Rattle.lab_defs_value.proofs.Passing.{pass_law}
use Rattle.lab_defs_value.proofs.laws.passing.Goals as goal

pub returns : goal.returns
returns c = pass_law
