use Rattle.lab_defs_value.proofs.WholeLaw.{whole_law}
use Rattle.lab_defs_value.proofs.laws.whole.Goals as goal

pub returns : goal.returns
returns c = whole_law
