use Rattle.lab_defs_value.proofs.Sizing.{size_law}
use Rattle.lab_defs_value.proofs.laws.sizes.Goals as goal

pub returns : goal.returns
returns c = size_law
