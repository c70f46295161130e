use Rattle.lab_laws.proofs.SessionSteps.{headline_law}
use Rattle.lab_laws.proofs.sessions.headline.Goals as goal

pub returns : goal.returns
returns c = headline_law
