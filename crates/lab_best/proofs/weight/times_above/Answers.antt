use Rattle.std.proofs.Common.{◌∙◌, arith}
use Rattle.lab_best.proofs.PathLemmas.{weight_known, walk_ends, walk_step}
use Rattle.lab_best.proofs.weight.times_above.Goals as goal

pub last_above-requires-clause-weight : goal.last_above-requires-clause-weight
last_above-requires-clause-weight c = weight_known c.args.d c.args.paths.now.sets.now c.args.weights.now c.args.paths.now.above.now c.args.paths.now.over.now c.requires.played c.requires.paths c.loop-own.set c.loop-own.invariant.there

pub overflow_mul-weight : goal.overflow_mul-weight
overflow_mul-weight c =
    let k = walk_step c.args.d c.args.paths.now.sets.now c.args.weights.now c.args.paths.now.above.now c.args.paths.now.over.now c.requires.played c.requires.paths c.loop-own.set c.loop-own.invariant.there c.in-Some.next c.loop-own.weight c.in-Some.own c.in-Some.ensures.set c.in-Some.ensures.weight in
    omega (arith, k.within, c.loop-own.invariant.small, c.requires.small)

pub loop-own-smaller : goal.loop-own-smaller
loop-own-smaller c =
    let k = walk_step c.args.d c.args.paths.now.sets.now c.args.weights.now c.args.paths.now.above.now c.args.paths.now.over.now c.requires.played c.requires.paths c.loop-own.set c.loop-own.invariant.there c.in-Some.next c.loop-own.weight c.in-Some.own c.in-Some.ensures.set c.in-Some.ensures.weight in
    k.lower

pub loop-own-preserved : goal.loop-own-preserved
loop-own-preserved c =
    let k = walk_step c.args.d c.args.paths.now.sets.now c.args.weights.now c.args.paths.now.above.now c.args.paths.now.over.now c.requires.played c.requires.paths c.loop-own.set c.loop-own.invariant.there c.in-Some.next c.loop-own.weight c.in-Some.own c.in-Some.ensures.set c.in-Some.ensures.weight in
    record {
      there = k.there;
      value = k.value ∙ c.loop-own.invariant.value;
      small = omega (arith, k.small, c.loop-own.invariant.small);
    }

pub returns-clause-value : goal.returns-clause-value
returns-clause-value c = (walk_ends c.args.d c.args.paths.now.sets.now c.args.weights.now c.args.paths.now.above.now c.args.paths.now.over.now c.requires.played c.requires.paths c.loop-own.set c.loop-own.invariant.there c.loop-own.weight c.in_default.ensures.none).0 ∙ c.loop-own.invariant.value

pub returns-clause-within : goal.returns-clause-within
returns-clause-within c =
    let e = walk_ends c.args.d c.args.paths.now.sets.now c.args.weights.now c.args.paths.now.above.now c.args.paths.now.over.now c.requires.played c.requires.paths c.loop-own.set c.loop-own.invariant.there c.loop-own.weight c.in_default.ensures.none in
    omega (arith, e.1, c.loop-own.invariant.small)
