use Rattle.std.proofs.Common.{true, ◌-◌, ◌≡◌, ◌<◌, sym, subst, arith, length, ◌+ℤ◌, set, unsigned_abs, ◌+◌, ◌^◌}
use Rattle.lab_best.specs.Parts.{is_among, part_at}
use Rattle.lab_best.specs.Values.{numbers}
use Rattle.lab_defs_value.specs.Bounds.{at}
use Rattle.lab_best.proofs.NumberLemmas.{number_at, part_added, among_there}
use Rattle.lab_best.proofs.through.add_at.Goals as goal

pub plus-requires : goal.plus-requires
plus-requires c =
    let t = among_there c.args.first (length c.args.out.now) (c.in-Some.field-0-0, c.in-Some.action) (subst (λ o. is_among c.args.first (length c.args.out.now) o ≡ true) c.in-Some.is (sym c.if-not-is_among.ensures)) in
    subst (λ z. unsigned_abs z + unsigned_abs c.args.value.0 < 2 ^ 127) (number_at c.args.out.now (c.in-Some.action - c.args.first))
    (c.requires (c.in-Some.action - c.args.first) (omega (arith, t.0, t.1)))

pub returns-clause-values : goal.returns-clause-values
returns-clause-values c =
    λ i l.
    let t = among_there c.args.first (length c.args.out.now) (c.in-Some.field-0-0, c.in-Some.action) (subst (λ o. is_among c.args.first (length c.args.out.now) o ≡ true) c.in-Some.is (sym c.if-not-is_among.ensures)) in
    subst (λ o. at (numbers (set c.args.out.now (c.in-Some.action - c.args.first) c.plus.result)) i ≡ at (numbers c.args.out.now) i +ℤ part_at c.args.first o c.args.value.0 i) (sym c.in-Some.is)
    (part_added c.args.out.now c.args.first (c.in-Some.field-0-0, c.in-Some.action) c.args.value.0 c.plus.result t.0 (omega (arith, t.0, t.1)) c.plus.ensures i l)
