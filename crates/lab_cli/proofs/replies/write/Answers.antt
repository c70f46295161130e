-- A command that the session does not take is refused.
use Rattle.std.proofs.Common.{subst}
use Rattle.lab_session.specs.Answers.{Steps}
use Rattle.lab_lines.specs.Lines.{reply_words}
use Rattle.lab_cli.proofs.CommandLemmas.{fault_refused}
use Rattle.lab_cli.proofs.replies.write.Goals as goal

pub returns-in-Err-clause-replies : goal.returns-in-Err-clause-replies
returns-in-Err-clause-replies g c = λ before d b h.
    fault_refused c.args.line before c.args.session.now d c.in-Err.fault _ c.refused_command.result b (subst (Steps reply_words before d c.args.session.now) c.in-Err.is h) c.refused_command.ensures
