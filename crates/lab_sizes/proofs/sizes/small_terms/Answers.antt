use Rattle.lab_sizes.proofs.SizeSums.{term_law}
use Rattle.lab_sizes.proofs.sizes.small_terms.Goals as goal

pub returns : goal.returns
returns c = term_law
