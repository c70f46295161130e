use Rattle.lab_sizes.proofs.SizeLimits.{bound_law}
use Rattle.lab_sizes.proofs.sizes.bounds.Goals as goal

pub returns : goal.returns
returns c = bound_law
