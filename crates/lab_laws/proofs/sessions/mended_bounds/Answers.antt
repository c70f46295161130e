use Rattle.lab_laws.proofs.SessionMending.{mended_law}
use Rattle.lab_laws.proofs.sessions.mended_bounds.Goals as goal

pub returns : goal.returns
returns c = mended_law
