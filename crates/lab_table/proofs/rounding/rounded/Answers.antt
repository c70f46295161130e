use Rattle.lab_table.proofs.HandingLemmas.{rounded_is}
use Rattle.lab_table.proofs.rounding.rounded.Goals as goal

pub returns : goal.returns
returns c = rounded_is c.args.d _ _ c.args.shares.now _ _ c.whole-total.ensures c.parts-left.ensures.left c.parts-left.ensures.parts c.hand_out.ensures
