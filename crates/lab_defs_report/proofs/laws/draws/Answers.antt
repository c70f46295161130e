use Rattle.lab_defs_report.proofs.Draws.{draw_is}
use Rattle.lab_defs_report.proofs.laws.draws.Goals as goal

pub returns : goal.returns
returns c = draw_is
