use Rattle.std.proofs.Common.{◌^◌, ◌∙◌, subst, arith}
use Rattle.lab_defs_game.specs.Forms.{deciding}
use Rattle.lab_form.specs.Forms.{IsStepBelow, actions_in, whole_path}
use Rattle.lab_best.proofs.WeightLemmas.{weight_there, walk_begins, weight_within, first_step}
use Rattle.lab_best.proofs.weight.path_weight.Goals as goal

pub pow-weight-requires : goal.pow-weight-requires
pow-weight-requires c =
    let b = walk_begins c.args.d c.args.paths.now.sets.now c.args.weights.now c.args.step c.args.pad in
    omega (arith, b.1, weight_within c.args.d (c.args.d ^ c.args.pad) (deciding (actions_in c.args.paths.now.sets.now) (whole_path c.args.paths.now.sets.now c.args.step)) c.requires.played.least, c.requires.small)

pub step_weight-own-requires-clause-weight : goal.step_weight-own-requires-clause-weight
step_weight-own-requires-clause-weight c =
    weight_there c.args.d c.args.paths.now.sets.now c.args.weights.now c.requires.played c.in-Some.taken (subst (IsStepBelow c.args.paths.now.sets.now) c.in-Some.is c.requires.step)

pub overflow_mul-weight : goal.overflow_mul-weight
overflow_mul-weight c =
    let k = first_step c.args.d c.args.paths.now.sets.now c.args.weights.now c.requires.played c.args.step c.in-Some.taken c.args.pad c.pow-weight.result c.step_weight-own.result c.in-Some.is c.requires.step c.pow-weight.ensures c.step_weight-own.ensures in
    omega (arith, k.within, c.requires.small)

pub times_above-requires-clause-small : goal.times_above-requires-clause-small
times_above-requires-clause-small c =
    let k = first_step c.args.d c.args.paths.now.sets.now c.args.weights.now c.requires.played c.args.step c.in-Some.taken c.args.pad c.pow-weight.result c.step_weight-own.result c.in-Some.is c.requires.step c.pow-weight.ensures c.step_weight-own.ensures in
    omega (arith, k.small, c.requires.small)

pub returns-clause-value : goal.returns-clause-value
returns-clause-value c =
    let k = first_step c.args.d c.args.paths.now.sets.now c.args.weights.now c.requires.played c.args.step c.in-Some.taken c.args.pad c.pow-weight.result c.step_weight-own.result c.in-Some.is c.requires.step c.pow-weight.ensures c.step_weight-own.ensures in
    c.times_above.ensures.value ∙ k.value

pub returns-clause-within : goal.returns-clause-within
returns-clause-within c =
    let k = first_step c.args.d c.args.paths.now.sets.now c.args.weights.now c.requires.played c.args.step c.in-Some.taken c.args.pad c.pow-weight.result c.step_weight-own.result c.in-Some.is c.requires.step c.pow-weight.ensures c.step_weight-own.ensures in
    omega (arith, c.times_above.ensures.within, k.small)
