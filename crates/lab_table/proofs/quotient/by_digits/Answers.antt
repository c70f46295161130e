use Rattle.std.proofs.Common.{◌≡◌, ◌+◌, ◌-◌, ◌*◌, ◌/◌, ◌^◌, ap, ◌∙◌, arith}
use Rattle.lab_table.proofs.QuotientLemmas.{digit_more}
use Rattle.lab_table.proofs.quotient.by_digits.Goals as goal

pub loop-low-preserved : goal.loop-low-preserved
loop-low-preserved c =
    let low = c.loop-low.low - 1 in
    let up : c.loop-low.low ≡ low + 1 = omega (arith, c.loop-low-test.true) in
    let so_far = c.loop-low.invariant.same ∙ ap (λ k. c.args.d / 2 ^ k * c.args.share) up in
    record {
      low = omega (arith, c.loop-low.invariant.low);
      rest = c.doubled.ensures.rest;
      same = c.doubled.ensures.same
          ∙ ap (λ x. 2 * (c.loop-low.quotient * c.args.total + c.loop-low.rest) + x) c.digit.ensures
          ∙ digit_more c.args.d low c.args.share _ so_far;
    }
