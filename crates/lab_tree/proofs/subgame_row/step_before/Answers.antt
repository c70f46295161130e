use Rattle.lab_tree.proofs.SubformLemmas.{step_there, parent_below, path_push}
use Rattle.lab_tree.proofs.TreeFormLemmas.{no_set}
use Rattle.lab_tree.proofs.subgame_row.step_before.Goals as goal

pub returns : goal.returns
returns c =
    let l = step_there c.args.sets.now c.args.step c.requires.there in
    let below = parent_below c.args.sets.now c.args.step.0.0 no_set c.requires.sets l in
    record { there = below.0; earlier = below.1; path = path_push c.args.sets.now c.args.step no_set c.requires.sets l }
