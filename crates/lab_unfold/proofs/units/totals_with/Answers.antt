use Rattle.std.proofs.Common.{◌<◌, ◌≤◌, ◌^◌, sym, ◌∙◌, subst, arith}
use Rattle.lab_unfold.proofs.UnitLemmas.{totals_next, totals_none, totals_end, lcm_some, row_some}
use Rattle.lab_unfold.proofs.units.totals_with.Goals as goal

pub returns-in_err-multiple : goal.returns-in_err-multiple
returns-in_err-multiple c =
    c.from_residual.ensures
    ∙ sym (totals_none c.args.rows.now c.loop-later.later c.args.unit c.loop-later.multiple c.index-rows-rows.result c.requires.rows (omega (arith, c.loop-later-test.true)) c.loop-later.invariant.so_far
    (omega (arith, c.in_err-multiple.ensures)))

pub loop-later-preserved : goal.loop-later-preserved
loop-later-preserved c =
    let m = c.in_ok-multiple.ensures in
    record {
      so_far = m.1 ∙ totals_next c.args.rows.now c.loop-later.later c.args.unit c.loop-later.multiple c.index-rows-rows.result (omega (arith, c.loop-later-test.true)) c.loop-later.invariant.so_far;
      some = subst (λ n. 0 < n) (sym m.1) (lcm_some _ c.loop-later.multiple (row_some c.args.rows.now _ c.index-rows-rows.result c.requires.rows (omega (arith, c.loop-later-test.true))) c.loop-later.invariant.some);
      told = subst (λ n. n ≤ 2 ^ 80) (sym m.1) m.0;
    }

pub returns : goal.returns
returns c = totals_end c.args.rows.now c.loop-later.later c.args.unit c.loop-later.multiple c.requires.rows c.loop-later-test.false c.loop-later.invariant.so_far c.loop-later.invariant.told
