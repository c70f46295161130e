use Rattle.std.proofs.Common.{◌<◌, ◌+◌, ◌-◌, length, ap, ◌∙◌, arith, pos}
use Rattle.std.proofs.lemmas.List.{length-set}
use Rattle.lab_reach.proofs.ReachLemmas.{allow, written_more}
use Rattle.lab_reach.proofs.reach.ReachRule.allowances.Goals as goal

pub loop-root-preserved : goal.loop-root-preserved
loop-root-preserved c =
    let v = c.args.view.now in
    let n = c.loop-root.root in
    let is = c.worth_of.ensures ∙ ap (λ k. record { 0 = pos k }) c.allowance.ensures.value in
    let low : n < length c.loop-root.out = omega (arith, c.loop-root-test.true, c.requires, c.loop-root.invariant.long) in
    record {
      long = length-set c.loop-root.out n c.worth_of.result ∙ c.loop-root.invariant.long;
      written = written_more (λ i. allow v (length v.sets.now - v.roots + i)) c.loop-root.out n c.worth_of.result low c.loop-root.invariant.written is;
    }
