use Rattle.lab_sizes.proofs.SizeLimits.{limit_law}
use Rattle.lab_sizes.proofs.sizes.limits.Goals as goal

pub returns : goal.returns
returns c = limit_law
