use Rattle.std.proofs.Common.{◌<◌, sym, subst}
use Rattle.lab_math.proofs.DivisorLemmas.{gcd_pos}
use Rattle.lab_units.proofs.bounded.lcm_within.Goals as goal

pub nonzero_div-part : goal.nonzero_div-part
nonzero_div-part c = subst (λ n. 0 < n) (sym c.greatest_common_divisor.ensures) (gcd_pos c.args.a c.args.b c.requires.second)
