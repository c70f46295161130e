-- The lines of a game come first; what follows them is answered by its replies.
use Rattle.std.proofs.Common.{◌+◌, Err, sym, ap, ◌∙◌, subst, arith}
use Rattle.lab_defs_report.specs.Cuts.{game_limit, commands_limit}
use Rattle.lab_defs_report.specs.GameModes.{playable}
use Rattle.lab_input.proofs.CallerLemmas.{rose_earlier}
use Rattle.lab_input.specs.Stops.{Denies}
use Rattle.lab_input.specs.declared.stop.Stop.TheVariants as stop
use Rattle.lab_cli.specs.Answering.{Answered}
use Rattle.lab_cli.proofs.AnsweredLemmas.{session_refuses, answered_within, answered_cut_off, answered_denied}
use Rattle.lab_cli.proofs.ContinuedLemmas.{answered_passed}
use Rattle.lab_cli.proofs.ReplyLemmas.{replies_from}
use Rattle.lab_cli.proofs.SessionLemmas.{answered_commands}
use Rattle.lab_cli.proofs.StopLemmas.{found_no_stop, stop_passed, other_passed, not_passed, cut_off_no_write_fault, denied_no_read_fault, denied_no_write_fault}
use Rattle.lab_cli.proofs.session.session.Goals as goal

pub returns-in_err-part-clause-answered : goal.returns-in_err-part-clause-answered
returns-in_err-part-clause-answered g c =
    answered_passed c.in_err-part.field-0.0 c.from_residual.result c.from_residual.ensures
    (answered_within (game_limit + commands_limit) (Err c.in_err-part.field-0.0) (omega arith) (answered_cut_off _ c.in_err-part.field-0.0 session_refuses c.in_err-part.ensures.stop))

pub returns-in_err-part-clause-read_fault : goal.returns-in_err-part-clause-read_fault
returns-in_err-part-clause-read_fault g c =
    λ e. c.in_err-part.ensures.fault (stop_passed c.in_err-part.field-0.0 stop.ReadFault c.from_residual.result c.from_residual.ensures e)

pub returns-in_err-part-clause-write_fault : goal.returns-in_err-part-clause-write_fault
returns-in_err-part-clause-write_fault g c =
    λ e. absurd (not_passed c.in_err-part.field-0.0 stop.WriteFault c.from_residual.result c.from_residual.ensures (cut_off_no_write_fault _ _ c.in_err-part.field-0.0 c.in_err-part.ensures.stop) e)

pub returns-in_err-part-clause-no_read_fault : goal.returns-in_err-part-clause-no_read_fault
returns-in_err-part-clause-no_read_fault g c =
    λ other. c.in_err-part.ensures.no_fault (other_passed c.in_err-part.field-0.0 stop.ReadFault c.from_residual.result c.from_residual.ensures other)

pub returns-in_err-started-clause-answered : goal.returns-in_err-started-clause-answered
returns-in_err-started-clause-answered g c =
    answered_passed c.in_err-started.field-0.0 c.from_residual-in_err-started.result c.from_residual-in_err-started.ensures
    (answered_within (game_limit + commands_limit) (Err c.in_err-started.field-0.0) (omega arith)
    (answered_denied _ c.in_err-started.field-0.0 session_refuses c.in_ok-part.ensures.part c.in_ok-part.ensures.ahead
    (subst (λ t. Denies (playable t c.in_ok-part.part.done) c.in_err-started.field-0.0) c.as_slice.ensures.value c.in_err-started.ensures.game)))

pub returns-in_err-started-clause-read_fault : goal.returns-in_err-started-clause-read_fault
returns-in_err-started-clause-read_fault g c =
    λ e. absurd (not_passed c.in_err-started.field-0.0 stop.ReadFault c.from_residual-in_err-started.result c.from_residual-in_err-started.ensures (denied_no_read_fault _ c.in_err-started.field-0.0 c.in_err-started.ensures.game) e)

pub returns-in_err-started-clause-write_fault : goal.returns-in_err-started-clause-write_fault
returns-in_err-started-clause-write_fault g c =
    λ e. absurd (not_passed c.in_err-started.field-0.0 stop.WriteFault c.from_residual-in_err-started.result c.from_residual-in_err-started.ensures (denied_no_write_fault _ c.in_err-started.field-0.0 c.in_err-started.ensures.game) e)

pub returns-in_err-started-clause-no_read_fault : goal.returns-in_err-started-clause-no_read_fault
returns-in_err-started-clause-no_read_fault g c = λ _. c.in_ok-part.ensures.no_fault (found_no_stop c.in_ok-part.part stop.ReadFault)

pub replies-requires-clause-done : goal.replies-requires-clause-done
replies-requires-clause-done g c = omega (arith, c.in_ok-part.ensures.part.few, c.in_ok-part.ensures.part.short)

pub returns-clause-answered : goal.returns-clause-answered
returns-clause-answered g c =
    answered_commands _ _ _ _ _ c.read.new.reader.ahead c.in_ok-part.part.text.items c.in_ok-part.part.done c.in_ok-started.started.game c.replies.result c.in_ok-part.ensures.part
    (ap (λ t. playable t c.in_ok-part.part.done) (sym c.as_slice.ensures.value) ∙ c.in_ok-started.ensures.game)
    (subst (λ s. Answered (replies_from c.in_ok-part.part.done 1 commands_limit s) commands_limit c.read.new.reader.ahead (g.S.Source.left c.read.new.source) (g.S.Source.left c.replies.new.source) (g.K.Sink.written c.args.sink.now) (g.K.Sink.written c.replies.new.sink) c.replies.result) c.in_ok-started.ensures.start c.replies.ensures.answered)

pub returns-clause-read_fault : goal.returns-clause-read_fault
returns-clause-read_fault g c = λ e. rose_earlier _ _ _ c.in_ok-part.ensures.later (c.replies.ensures.read_fault e)

pub returns-clause-no_read_fault : goal.returns-clause-no_read_fault
returns-clause-no_read_fault g c = λ other. c.replies.ensures.no_read_fault other ∙ c.in_ok-part.ensures.no_fault (found_no_stop c.in_ok-part.part stop.ReadFault)
