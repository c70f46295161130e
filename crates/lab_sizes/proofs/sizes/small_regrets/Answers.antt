use Rattle.lab_sizes.proofs.SizeRegrets.{regret_size_law}
use Rattle.lab_sizes.proofs.sizes.small_regrets.Goals as goal

pub returns : goal.returns
returns c = regret_size_law
