use Rattle.lab_laws.proofs.SessionBounds.{session_bounds_law}
use Rattle.lab_laws.proofs.sessions.kept_bounds.Goals as goal

pub returns : goal.returns
returns c = session_bounds_law
