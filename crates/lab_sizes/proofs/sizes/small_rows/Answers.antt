use Rattle.lab_sizes.proofs.SizeGadgets.{row_law}
use Rattle.lab_sizes.proofs.sizes.small_rows.Goals as goal

pub returns : goal.returns
returns c = row_law
