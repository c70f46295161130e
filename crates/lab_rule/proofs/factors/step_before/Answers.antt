use Rattle.lab_rule.proofs.StepLemmas.{no_set, parent_there, path_push}
use Rattle.lab_rule.proofs.factors.step_before.Goals as goal

pub returns : goal.returns
returns c =
    let l = c.requires.there.0 in
    let below = parent_there c.args.sets.now c.args.step.0.0 no_set c.requires.sets l in
    record { there = below.0; earlier = below.1; path = path_push c.args.sets.now c.args.step no_set c.requires.sets l }
