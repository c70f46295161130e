use Rattle.lab_tree.proofs.PublicOrder.{closing}
use Rattle.lab_tree.proofs.set_key.compare_publics.Goals as goal

pub returns : goal.returns
returns c =
    closing c.args.one.now c.args.two.now c.loop-i.i c.min-i-end.result c.cmp-2.result c.min-i-end.ensures c.loop-i-test.false c.loop-i.auto.i-end c.loop-i.invariant c.cmp-2.ensures
