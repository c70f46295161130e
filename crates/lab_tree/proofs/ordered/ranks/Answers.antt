use Rattle.std.proofs.Common.{arith, rules}
use Rattle.lab_tree.proofs.RankLemmas.{ranks_more}
use Rattle.lab_tree.proofs.ordered.ranks.Goals as goal

pub loop-place-preserved : goal.loop-place-preserved
loop-place-preserved g c =
    let i = c.loop-place.invariant in
    let w = c.requires.within c.loop-place.place c.index-order-place.result c.loop-place-test.true in
    record {
      count = search rules;
      ranks = ranks_more c.args.order.now c.loop-place.ranks.items c.loop-place.place c.index-order-place.result c.requires.apart c.loop-place-test.true (omega (arith, w, i.count)) i.ranks;
    }
