use Rattle.lab_defs_value.proofs.Backing.{through_law}
use Rattle.lab_defs_value.proofs.BestLaws.{backed_up_law}
use Rattle.lab_defs_value.proofs.laws.backed_up.Goals as goal

pub returns-clause-each : goal.returns-clause-each
returns-clause-each c = through_law

pub returns-clause-values : goal.returns-clause-values
returns-clause-values c = backed_up_law
