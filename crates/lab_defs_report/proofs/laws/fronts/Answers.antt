use Rattle.lab_defs_report.proofs.FrontLemmas.{front_law}
use Rattle.lab_defs_report.proofs.laws.fronts.Goals as goal

pub returns : goal.returns
returns c = front_law
