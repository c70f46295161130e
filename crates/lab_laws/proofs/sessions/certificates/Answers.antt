use Rattle.lab_laws.proofs.SessionCertificates.{certified_law, certificate_law, broken_law}
use Rattle.lab_laws.proofs.SessionSteps.{session_certificate_law}
use Rattle.lab_laws.proofs.sessions.certificates.Goals as goal

pub returns-clause-bounded : goal.returns-clause-bounded
returns-clause-bounded c = certified_law

pub returns-clause-tight : goal.returns-clause-tight
returns-clause-tight c = certificate_law

pub returns-clause-tested : goal.returns-clause-tested
returns-clause-tested c = broken_law

pub returns-clause-handed_out : goal.returns-clause-handed_out
returns-clause-handed_out c = session_certificate_law
