use Rattle.lab_defs_value.proofs.Safety.{safe_law}
use Rattle.lab_defs_value.proofs.laws.safe_splices.Goals as goal

pub returns : goal.returns
returns c = safe_law
