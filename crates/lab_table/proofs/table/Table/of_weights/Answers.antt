use Rattle.lab_table.proofs.PlaceLemmas.{table_is, table_fits}
use Rattle.lab_table.proofs.table.Table.of_weights.Goals as goal

pub invariant_of-result : goal.invariant_of-result
invariant_of-result c = table_fits c.args.sets.now c.args.weights.items _ c.requires.order c.in_ok-places.ensures c.requires.count

pub returns : goal.returns
returns c = table_is c.args.sets.now c.args.weights.items _ c.requires.order c.in_ok-places.ensures
