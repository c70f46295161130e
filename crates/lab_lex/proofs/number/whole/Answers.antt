use Rattle.std.proofs.Common.{◌≡◌, false, int_le, subst, sym, slice_index, ◌==◌}
use Rattle.std.specs.Int.{w128}
use Rattle.std.specs.Int.RustNames.{FitsSigned}
use Rattle.std.proofs.lemmas.Int.{to_z-of_z}
use Rattle.lab_defs_text.specs.Numbers.{signed_of, whole_size}
use Rattle.lab_lex.proofs.WholeAnswers.{parts_are, value_is, answer_ok, answer_out, within_fits, and_false, first_false, second_false}
use Rattle.lab_lex.proofs.number.whole.Goals as goal

pub returns-in-Some-with_sign : goal.returns-in-Some-with_sign
returns-in-Some-with_sign c =
    let f : FitsSigned w128 c.args.lo = c.ranges.lo in
    let g : FitsSigned w128 c.args.hi = c.ranges.hi in
    let p = parts_are c.args.word.now _ _ c.in-Some.ensures in
    let v = value_is c.args.word.now _ _ c.in-Some-with_sign.value p c.in-Some-with_sign.ensures.0 c.in-Some-with_sign.ensures.1 in
    let k : FitsSigned w128 c.in-Some-with_sign.value = subst (λ z. FitsSigned w128 z) (sym c.in-Some-with_sign.ensures.1) c.in-Some-with_sign.ensures.0 in
    simp to_z-of_z (answer_ok c.args.word.now c.args.place c.in-Some-with_sign.value c.args.lo c.args.hi p.whole v (simp to_z-of_z at c.if-lo-value.true) (simp to_z-of_z at c.if-value-hi.true))

pub returns-in_default-with_sign-3 : goal.returns-in_default-with_sign-3
returns-in_default-with_sign-3 c =
    let p = parts_are c.args.word.now _ _ c.in-Some.ensures in
    answer_out c.args.word.now c.args.place c.args.lo c.args.hi p.whole
    (and_false _ _ (λ l h. c.in_default-with_sign.ensures
    (subst (λ b. FitsSigned w128 (signed_of b c.in-Some.size)) (sym p.sign)
    (subst (λ n. FitsSigned w128 (signed_of (slice_index c.args.word.now 0 == 45) n)) (sym p.size)
    (within_fits _ (whole_size c.args.word.now) c.args.lo c.args.hi c.ranges.lo c.ranges.hi l h)))))

pub returns-in_default-with_sign : goal.returns-in_default-with_sign
returns-in_default-with_sign c =
    let g : FitsSigned w128 c.args.hi = c.ranges.hi in
    let p = parts_are c.args.word.now _ _ c.in-Some.ensures in
    let v = value_is c.args.word.now _ _ c.in-Some-with_sign.value p c.in-Some-with_sign.ensures.0 c.in-Some-with_sign.ensures.1 in
    let k : FitsSigned w128 c.in-Some-with_sign.value = subst (λ z. FitsSigned w128 z) (sym c.in-Some-with_sign.ensures.1) c.in-Some-with_sign.ensures.0 in
    answer_out c.args.word.now c.args.place c.args.lo c.args.hi p.whole
    (second_false _ _ (subst (λ z. int_le z c.args.hi ≡ false) v (simp to_z-of_z at c.if-value-hi.false)))

pub returns-in_default-with_sign-2 : goal.returns-in_default-with_sign-2
returns-in_default-with_sign-2 c =
    let f : FitsSigned w128 c.args.lo = c.ranges.lo in
    let p = parts_are c.args.word.now _ _ c.in-Some.ensures in
    let v = value_is c.args.word.now _ _ c.in-Some-with_sign.value p c.in-Some-with_sign.ensures.0 c.in-Some-with_sign.ensures.1 in
    let k : FitsSigned w128 c.in-Some-with_sign.value = subst (λ z. FitsSigned w128 z) (sym c.in-Some-with_sign.ensures.1) c.in-Some-with_sign.ensures.0 in
    answer_out c.args.word.now c.args.place c.args.lo c.args.hi p.whole
    (first_false _ _ (subst (λ z. int_le c.args.lo z ≡ false) v (simp to_z-of_z at c.if-lo-value.false)))
