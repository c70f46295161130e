use Rattle.lab_laws.proofs.SessionPrinted.{printed_law}
use Rattle.lab_laws.proofs.sessions.printed_bounds.Goals as goal

pub returns : goal.returns
returns c = printed_law
