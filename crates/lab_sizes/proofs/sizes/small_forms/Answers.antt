use Rattle.lab_sizes.proofs.SizeCounts.{small_law}
use Rattle.lab_sizes.proofs.sizes.small_forms.Goals as goal

pub returns : goal.returns
returns c = small_law
