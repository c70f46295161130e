-- A line is answered as its command, or refused where it is none.
use Rattle.lab_text.specs.Faults.{line_fault}
use Rattle.lab_commands.specs.Commands.{command_model}
use Rattle.lab_cli.proofs.CommandLemmas.{line_refused}
use Rattle.lab_cli.proofs.FewLemmas.{gives_few}
use Rattle.lab_cli.proofs.replies.answer_line.Goals as goal

pub answer-requires : goal.answer-requires
answer-requires g c = gives_few c.args.number c.args.bytes.now (command_model c.in-Ok.command) c.requires c.in-Ok.ensures

pub returns-in-Err-clause-replies : goal.returns-in-Err-clause-replies
returns-in-Err-clause-replies g c =
    line_refused c.args.line c.args.number c.args.session.now c.args.bytes.now (line_fault c.in-Err.fault) _ c.refused_line.result c.in-Err.ensures c.refused_line.ensures
