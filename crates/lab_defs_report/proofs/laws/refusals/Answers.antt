use Rattle.lab_defs_report.proofs.FrontLemmas.{refusal_law}
use Rattle.lab_defs_report.proofs.laws.refusals.Goals as goal

pub returns : goal.returns
returns c = refusal_law
