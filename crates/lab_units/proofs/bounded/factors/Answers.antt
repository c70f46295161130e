use Rattle.std.proofs.Common.{◌^◌, ap, ◌∙◌, arith}
use Rattle.lab_units.proofs.Powers.{few_factors}
use Rattle.lab_units.proofs.bounded.factors.Goals as goal

pub returns-then-base-le1 : goal.returns-then-base-le1
returns-then-base-le1 c = ap (λ k. c.args.base ^ k) c.min.ensures ∙ few_factors c.args.base c.args.exp (omega (arith, c.if-base-le1.true))
