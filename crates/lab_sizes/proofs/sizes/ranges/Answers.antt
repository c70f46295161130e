use Rattle.lab_sizes.proofs.SizeRanges.{range_law}
use Rattle.lab_sizes.proofs.SizeLimits.{tight_bounds_law}
use Rattle.lab_sizes.proofs.sizes.ranges.Goals as goal

pub returns-clause-values : goal.returns-clause-values
returns-clause-values c = range_law

pub returns-clause-tight : goal.returns-clause-tight
returns-clause-tight c = tight_bounds_law
