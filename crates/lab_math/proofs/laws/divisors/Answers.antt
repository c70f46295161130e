use Rattle.lab_math.proofs.DivisorLemmas.{gcd_is}
use Rattle.lab_math.proofs.laws.divisors.Goals as goal

pub returns : goal.returns
returns c = gcd_is
