use Rattle.std.proofs.Common.{length, ap, ◌∙◌}
use Rattle.lab_table.proofs.EvenLemmas.{uniform_length}
use Rattle.lab_table.proofs.table.Table.uniform.Goals as goal

pub of_weights-requires-clause-count : goal.of_weights-requires-clause-count
of_weights-requires-clause-count c = ap length c.in-Ok.ensures ∙ uniform_length c.args.d _
