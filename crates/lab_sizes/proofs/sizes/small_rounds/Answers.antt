use Rattle.lab_sizes.proofs.SizeShares.{round_size_law}
use Rattle.lab_sizes.proofs.sizes.small_rounds.Goals as goal

pub returns : goal.returns
returns c = round_size_law
