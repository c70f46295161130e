use Rattle.lab_defs_value.proofs.BestLaws.{unique_best_law}
use Rattle.lab_defs_value.proofs.laws.unique_best.Goals as goal

pub returns : goal.returns
returns c = unique_best_law
