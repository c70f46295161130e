use Rattle.std.proofs.Common.{arith}
use Rattle.lab_tree.proofs.StartLemmas.{start_behind, start_before, start_within}
use Rattle.lab_tree.proofs.set_starts.start_from.Goals as goal

pub loop-at-init : goal.loop-at-init
loop-at-init c = record { within = omega (arith, c.requires.known, start_within c.args.sets.now c.args.node); known = c.requires.known }

pub loop-at-preserved : goal.loop-at-preserved
loop-at-preserved c = record {
  within = omega (arith, c.loop-at-test.true);
  known = start_behind c.args.sets.now c.args.node c.loop-at.at _ c.requires.rising c.loop-at-test.true c.if-sets-at.true;
}

pub returns-else-sets-at-clause-value : goal.returns-else-sets-at-clause-value
returns-else-sets-at-clause-value c =
    omega (arith, c.loop-at.invariant.known, start_before c.args.sets.now c.args.node c.loop-at.at _ c.requires.rising c.loop-at-test.true c.if-sets-at.false)

pub returns-after-loop-at-clause-value : goal.returns-after-loop-at-clause-value
returns-after-loop-at-clause-value c = omega (arith, c.loop-at.invariant.known, c.loop-at-test.false, start_within c.args.sets.now c.args.node)
