use Rattle.std.proofs.Common.{arith}
use Rattle.lab_table.proofs.EvenLemmas.{even_more, even_done}
use Rattle.lab_table.proofs.even.push_even.Goals as goal

pub loop-action-preserved : goal.loop-action-preserved
loop-action-preserved c =
    even_more c.args.d c.args.actions c.loop-action.action _ c.loop-action.weights.items _ _ c.loop-action-test.true c.in_ok-push.ensures.items c.even_part.ensures c.loop-action.invariant

pub returns : goal.returns
returns c = even_done c.args.d c.args.actions c.loop-action.action _ _ (omega (arith, c.loop-action-test.false)) c.loop-action.invariant
