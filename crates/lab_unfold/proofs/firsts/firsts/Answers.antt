use Rattle.std.proofs.Common.{◌≡◌, length, arith}
use Rattle.std.specs.BTreeMap.{get}
use Rattle.lab_unfold.specs.Links.{link_cmp}
use Rattle.lab_unfold.proofs.ListLemmas.{first_lists}
use Rattle.lab_unfold.proofs.firsts.firsts.Goals as goal

pub returns : goal.returns
returns c all grown =
    let end : length c.loop.firsts.items ≡ length c.args.links.now = omega (arith, c.loop.invariant.count, c.loop-test.false, c.loop.auto.counter-end) in
    first_lists all c.args.links.now c.loop.firsts.items (get link_cmp c.loop.kept) grown c.loop.invariant.keyed end
