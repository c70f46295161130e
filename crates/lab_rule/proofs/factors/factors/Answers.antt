use Rattle.std.proofs.Common.{arith}
use Rattle.lab_rule.proofs.FactorLemmas.{factors_are}
use Rattle.lab_rule.proofs.factors.factors.Goals as goal

pub overflow_add-result : goal.overflow_add-result
overflow_add-result c =
    let few = (factors_are c.args.view.now c.rows.result.now c.other-opponent.result c.sets.result.now c.last_of.result c.decisions.result c.pad_of.result c.rows.ensures.rows c.other-opponent.ensures c.sets.ensures.sets c.last_of.ensures c.decisions.ensures c.pad_of.ensures).1 in
    omega (arith, few)

pub returns : goal.returns
returns c =
    (factors_are c.args.view.now c.rows.result.now c.other-opponent.result c.sets.result.now c.last_of.result c.decisions.result c.pad_of.result c.rows.ensures.rows c.other-opponent.ensures c.sets.ensures.sets c.last_of.ensures c.decisions.ensures c.pad_of.ensures).0
