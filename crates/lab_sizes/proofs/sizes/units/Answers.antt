use Rattle.lab_sizes.proofs.SizeUnits.{unit_law}
use Rattle.lab_sizes.proofs.sizes.units.Goals as goal

pub returns : goal.returns
returns c = unit_law
