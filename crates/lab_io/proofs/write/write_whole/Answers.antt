-- Each write adds its front to the front that was written before.
use Rattle.std.proofs.Common.{arith}
use Rattle.std.proofs.lemmas.Grind.{common_steps}
use Rattle.std.proofs.lemmas.List.{take_rest}
use Rattle.lab_io.proofs.Fronts.{Appends-more}
use Rattle.lab_io.proofs.write.write_whole.Goals as goal

pub loop-at-preserved : goal.loop-at-preserved
loop-at-preserved g c = record {
  within = grind (arith, common_steps);
  no_fault = grind (arith, common_steps);
  front = Appends-more _ _ _ c.args.piece.now c.loop-at.at c.in_ok-at.field-0 c.loop-at.invariant.front (rw take_rest at c.in_ok-at.ensures.bytes);
}
