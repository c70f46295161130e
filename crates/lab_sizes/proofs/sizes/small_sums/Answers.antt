use Rattle.lab_sizes.proofs.SizeSums.{sum_law}
use Rattle.lab_sizes.proofs.sizes.small_sums.Goals as goal

pub returns : goal.returns
returns c = sum_law
