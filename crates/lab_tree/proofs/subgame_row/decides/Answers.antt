use Rattle.std.proofs.Common.{sym, ap}
use Rattle.std.specs.Prelude.{nat_le}
use Rattle.lab_tree.proofs.SubformLemmas.{actions_at}
use Rattle.lab_tree.proofs.TreeFormLemmas.{no_set}
use Rattle.lab_tree.proofs.subgame_row.decides.Goals as goal

pub returns : goal.returns
returns c = sym (ap (nat_le 2) (actions_at c.args.sets.now c.args.set.0 no_set c.requires))
