use Rattle.std.proofs.Common.{sym, subst, pos, ◌≤ℤ◌}
use Rattle.lab_defs_value.specs.Bounds.{at}
use Rattle.lab_best.specs.Values.{numbers}
use Rattle.lab_bounds.proofs.SearchLemmas.{below_more, number_at}
use Rattle.lab_bounds.proofs.broken.first_above.Goals as goal

pub loop-i-preserved : goal.loop-i-preserved
loop-i-preserved c =
    below_more (at (numbers c.args.worths.now)) c.args.bound.0 0 c.loop-i.i c.loop-i.invariant
    (subst (λ z. z ≤ℤ c.args.bound.0) (sym (number_at c.args.worths.now c.loop-i.i (record { 0 = pos 0 }) c.loop-i-test.true)) c.in_default.ensures.none)
