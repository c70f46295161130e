use Rattle.std.proofs.Common.{sym, subst, arith}
use Rattle.std.specs.Prelude.{slice_index}
use Rattle.lab_defs_game.specs.Seats.{other}
use Rattle.lab_defs_value.specs.Bounds.{at, through}
use Rattle.lab_bounds.specs.Tables.{bounded_in, IsBelow, IsFirstAbove}
use Rattle.lab_bounds.proofs.BackedSizes.{model_seat, sets_count}
use Rattle.lab_bounds.proofs.SearchLemmas.{holds_more, first_at}
use Rattle.lab_bounds.proofs.broken.first_broken.Goals as goal

pub returns-in-Some-clause-some : goal.returns-in-Some-clause-some
returns-in-Some-clause-some c =
    let s = bounded_in c.args.form.now c.args.d c.args.table.now c.args.bounds.now in
    let B = at c.args.bounds.now.bounds in
    let i = c.loop-i.i in
    first_at s B i _ _ (omega (arith, c.loop-i-test.true, c.len-i-end.ensures, sets_count c.args.form.now c.args.d c.args.table.now c.args.bounds.now c.requires)) c.loop-i.invariant
    (subst (λ ns. IsFirstAbove (through s B i) (B i) 0 (slice_index ns i) c.in-Some.found.0 c.in-Some.found.1.0) (sym (model_seat c.args.form.now (other c.args.bounds.now.keeper))) c.in-Some.ensures.some)

pub loop-i-preserved : goal.loop-i-preserved
loop-i-preserved c =
    let s = bounded_in c.args.form.now c.args.d c.args.table.now c.args.bounds.now in
    let B = at c.args.bounds.now.bounds in
    let i = c.loop-i.i in
    holds_more s B i c.loop-i.invariant
    (subst (λ ns. IsBelow (through s B i) (B i) 0 (slice_index ns i)) (sym (model_seat c.args.form.now (other c.args.bounds.now.keeper))) c.in_default.ensures.none)
