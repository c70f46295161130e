use Rattle.std.proofs.Common.{rules}
use Rattle.std.specs.Int.{w128}
use Rattle.std.specs.Int.RustNames.{FitsSigned}
use Rattle.std.proofs.lemmas.Int.{to_z-of_z}
use Rattle.std.proofs.lemmas.Result.{err_from_is_err_and}
use Rattle.lab_text.proofs.NumberLemmas.{whole_ok, whole_err}
use Rattle.lab_text.proofs.line_words.whole_in.Goals as goal

pub returns-in_err-whole : goal.returns-in_err-whole
returns-in_err-whole c =
    let p = err_from_is_err_and c.from_residual.result c.from_residual.ensures.1 in
    let lo : FitsSigned w128 c.args.lo = c.ranges.lo in
    let hi : FitsSigned w128 c.args.hi = c.ranges.hi in
    let e = simp to_z-of_z at c.in_err-whole.ensures in
    rw (p.1, p.2) (record { value = whole_err c.args.word.now c.args.place c.args.lo c.args.hi c.in_err-whole.field-0.0 e; within = tt })

pub returns : goal.returns
returns c =
    let fits : FitsSigned w128 c.in_ok-whole.field-0 = search rules in
    let lo : FitsSigned w128 c.args.lo = c.ranges.lo in
    let hi : FitsSigned w128 c.args.hi = c.ranges.hi in
    let e = simp to_z-of_z at c.in_ok-whole.ensures in
    let r = whole_ok c.args.word.now c.args.place c.args.lo c.args.hi c.in_ok-whole.field-0 e in
    simp to_z-of_z (record { value = r.value; within = r.within })
