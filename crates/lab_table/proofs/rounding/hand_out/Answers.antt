use Rattle.std.proofs.Common.{arith, ap, ◌∙◌}
use Rattle.std.specs.Prelude.{◌&&◌, nat_lt, if◌then◌else◌}
use Rattle.std.proofs.lemmas.Grind.{common_steps}
use Rattle.lab_defs_value.specs.Rounding.{may_gain}
use Rattle.lab_table.proofs.HandingLemmas.{handed_more, within_more}
use Rattle.lab_table.proofs.rounding.hand_out.Goals as goal

pub loop-i-preserved : goal.loop-i-preserved
loop-i-preserved c =
    let gain = c.gain-gain.ensures.exact ∙ ap (λ s. if may_gain c.args.whole s && nat_lt 0 c.loop-i.left then 1 else 0) c.size.ensures in
    record {
      len = grind (arith, common_steps);
      few = omega arith;
      so_far = handed_more c.args.whole c.loop-i.left _ c.loop-i.i c.args.shares.now c.loop-i.out _ c.loop-i-test.true c.loop-i.invariant.len gain ∙ c.loop-i.invariant.so_far;
      rest = within_more c.args.d c.loop-i.i _ c.loop-i.out c.loop-i.invariant.rest;
    }
