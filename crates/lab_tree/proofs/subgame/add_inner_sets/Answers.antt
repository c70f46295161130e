use Rattle.lab_tree.proofs.SubformSets.{inner_stand}
use Rattle.lab_tree.proofs.subgame.add_inner_sets.Goals as goal

pub add_sets-requires-clause-sets : goal.add_sets-requires-clause-sets
add_sets-requires-clause-sets c = inner_stand c.args.sets.now c.args.span c.requires.order c.requires.end c.requires.sets
