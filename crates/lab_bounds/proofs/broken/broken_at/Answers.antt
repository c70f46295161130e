use Rattle.std.proofs.Common.{◌+◌, arith}
use Rattle.lab_defs_value.specs.Bounds.{at, through}
use Rattle.lab_bounds.specs.Tables.{bounded_in}
use Rattle.lab_bounds.proofs.SearchLemmas.{below_join}
use Rattle.lab_bounds.proofs.broken.broken_at.Goals as goal

pub loop-from-preserved : goal.loop-from-preserved
loop-from-preserved c =
    let h = through (bounded_in c.args.form.now c.args.d c.args.table.now c.args.bounds.now) (at c.args.bounds.now.bounds) c.args.set.0 in
    record {
      within = omega (arith, c.min-count.ensures, c.loop-from.invariant.within);
      below = below_join h (at c.args.bounds.now.bounds c.args.set.0) 0 c.loop-from.from (c.loop-from.from + c.min-count.result) c.loop-from.invariant.below c.in_default.ensures.none;
    }

pub returns-clause-none : goal.returns-clause-none
returns-clause-none c k ge l = c.loop-from.invariant.below k ge (omega (arith, l, c.loop-from-test.false, c.actions_at-actions.ensures))
