use Rattle.std.proofs.Common.{arith}
use Rattle.lab_units.proofs.Powers.{passes}
use Rattle.lab_units.proofs.bounded.pow_within.Goals as goal

pub returns-then-power-limit : goal.returns-then-power-limit
returns-then-power-limit c =
    passes c.args.base c.args.exp c.args.limit c.loop.power c.loop.counter c.factors-factors.result
    (omega (arith, c.if-base-ne0.true)) c.loop.invariant.so_far (omega (arith, c.loop-test.true)) c.loop.invariant.whole (omega (arith, c.if-power-limit.true))
