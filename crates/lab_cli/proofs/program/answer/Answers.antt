use Rattle.std.proofs.Common.{[], arith}
use Rattle.lab_cli.proofs.AnsweredLemmas.{answered_within}
use Rattle.lab_cli.proofs.ContinuedLemmas.{answered_nothing}
use Rattle.lab_cli.proofs.program.answer.Goals as goal

pub returns-in_default-clause-answered : goal.returns-in_default-clause-answered
returns-in_default-clause-answered g c = answered_nothing _ _ [] _ _ (omega arith)

pub returns-in-Check-clause-answered : goal.returns-in-Check-clause-answered
returns-in-Check-clause-answered g c = rw c.in-Check.is (answered_within _ c.check.result (omega arith) c.check.ensures.answered)

pub returns-clause-answered : goal.returns-clause-answered
returns-clause-answered g c = rw c.in-Print.is (answered_within _ c.print.result (omega arith) c.print.ensures.answered)
