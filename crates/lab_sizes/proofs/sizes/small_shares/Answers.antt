use Rattle.lab_sizes.proofs.SizeShares.{share_size_law}
use Rattle.lab_sizes.proofs.sizes.small_shares.Goals as goal

pub returns : goal.returns
returns c = share_size_law
