use Rattle.std.proofs.Common.{◌≤◌, ◌+◌, cond, get_or, sym, ap, ◌∙◌, arith}
use Rattle.std.proofs.lemmas.Bool.{le-leb, lt-leb}
use Rattle.lab_tree.proofs.SubformLemmas.{step_there, weight_there, factor_is}
use Rattle.lab_tree.proofs.TreeFormLemmas.{no_set}
use Rattle.lab_tree.proofs.subgame_row.factor.Goals as goal

pub bounds-weights-set : goal.bounds-weights-set
bounds-weights-set c =
    let two : 2 ≤ (get_or c.args.sets.now c.args.step.0.0 no_set).actions = omega (arith, c.if-set-lt2.false) in
    let there = weight_there c.args.sets.now c.args.step no_set c.requires.sets c.requires.there two in
    omega (arith, there, c.requires.weights)

pub returns-then-set-lt2 : goal.returns-then-set-lt2
returns-then-set-lt2 c =
    let set = get_or c.args.sets.now c.args.step.0.0 no_set in
    let is = factor_is c.args.sets.now c.args.step no_set c.args.weights.now c.requires.sets (step_there c.args.sets.now c.args.step c.requires.there) in
    sym (is ∙ ap (λ b. cond b (get_or c.args.weights.now (set.first_weight + c.args.step.1) 0) 1) (lt-leb 2 set.actions (omega (arith, c.if-set-lt2.true))))

pub returns-else-set-lt2 : goal.returns-else-set-lt2
returns-else-set-lt2 c =
    let set = get_or c.args.sets.now c.args.step.0.0 no_set in
    let is = factor_is c.args.sets.now c.args.step no_set c.args.weights.now c.requires.sets (step_there c.args.sets.now c.args.step c.requires.there) in
    sym (is ∙ ap (λ b. cond b (get_or c.args.weights.now (set.first_weight + c.args.step.1) 0) 1) (le-leb 2 set.actions (omega (arith, c.if-set-lt2.false))))
