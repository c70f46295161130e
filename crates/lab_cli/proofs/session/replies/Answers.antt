-- Each turn answers one line, and each end is that of what follows the lines so far.
use Rattle.std.proofs.Common.{◌≡◌, ◌+◌, [], ◌∷◌, ◌++◌, length, Ok, Err, refl, ap, ◌∙◌, subst, arith, length-append}
use Rattle.lab_io.specs.Reading.{IsLine}
use Rattle.lab_defs_report.specs.Modes.{is_built_command}
use Rattle.lab_defs_report.specs.Sessions.{answered}
use Rattle.lab_input.proofs.CallerLemmas.{rose_earlier}
use Rattle.lab_input.specs.declared.stop.Stop.TheVariants as stop
use Rattle.lab_io.specs.declared.line_reader.ReadStop.TheVariants as read
use Rattle.lab_cli.specs.LineReplies.{Replies}
use Rattle.lab_cli.proofs.ContinuedLemmas.{answered_passed}
use Rattle.lab_cli.proofs.ReplyLemmas.{answered_end, answered_stop, answered_line, replied_none, replied_more, replied_all, stopped_by_fault, stopped_fault, stopped_no_write_fault}
use Rattle.lab_cli.proofs.StopLemmas.{stop_passed, other_passed}
use Rattle.lab_cli.proofs.session.replies.Goals as goal

pub loop-stop-init : goal.loop-stop-init
loop-stop-init g c = record {
  live = rw c.allow.ensures c.requires.live;
  no_read_fault = refl;
  no_write_fault = refl;
  replied = rw c.allow.ensures (replied_none _ _ _ _ _);
}

pub returns-in-Ok-End-clause-answered : goal.returns-in-Ok-End-clause-answered
returns-in-Ok-End-clause-answered g c =
    replied_all _ _ _ _ _ _ _ _ _ _ _ _ _ _ c.loop-stop.invariant.replied
    (answered_end _ _ _ _ _ _ _ _ _ tt (rw c.in-Ok-End.field-0-is at c.in-Ok-End.ensures.bytes) (c.in-Ok-End.ensures.end (ap Ok c.in-Ok-End.field-0-is)))

pub returns-in-Ok-End-clause-no_read_fault : goal.returns-in-Ok-End-clause-no_read_fault
returns-in-Ok-End-clause-no_read_fault g c = λ _. c.in-Ok-End.ensures.no_fault (λ e. cc) ∙ c.loop-stop.invariant.no_read_fault

pub overflow_add-done : goal.overflow_add-done
overflow_add-done g c = omega (arith, c.requires.done, c.loop-stop.invariant.replied.few, c.loop-stop.invariant.replied.paid)

pub returns-in-Err-clause-answered : goal.returns-in-Err-clause-answered
returns-in-Err-clause-answered g c =
    replied_all _ _ _ _ _ _ _ _ _ _ _ _ _ _ c.loop-stop.invariant.replied (answered_stop _ _ _ _ _ _ _ _ c.in-Err.stop c.refused_read.result c.in-Err.ensures.stop c.refused_read.ensures)

pub returns-in-Err-clause-read_fault : goal.returns-in-Err-clause-read_fault
returns-in-Err-clause-read_fault g c = λ e.
    let same : c.refused_read.result ≡ stop.ReadFault = cc in
    rose_earlier (g.S.Source.faults c.args.source.now) (g.S.Source.faults c.loop-stop.source) (g.S.Source.faults c.next.new.source) (omega (arith, c.loop-stop.invariant.no_read_fault))
    (c.in-Err.ensures.fault (ap Err (stopped_by_fault (c.args.done + c.loop-stop.number) c.in-Err.stop c.refused_read.result c.refused_read.ensures same)))

pub returns-in-Err-clause-write_fault : goal.returns-in-Err-clause-write_fault
returns-in-Err-clause-write_fault g c = λ e.
    let same : c.refused_read.result ≡ stop.WriteFault = cc in
    absurd (stopped_no_write_fault (c.args.done + c.loop-stop.number) c.in-Err.stop c.refused_read.result c.refused_read.ensures same)

pub returns-in-Err-clause-no_read_fault : goal.returns-in-Err-clause-no_read_fault
returns-in-Err-clause-no_read_fault g c = λ other.
    c.in-Err.ensures.no_fault (λ e. let same : c.in-Err.stop ≡ read.ReadFault = cc in other (ap Err (stopped_fault (c.args.done + c.loop-stop.number) c.in-Err.stop c.refused_read.result c.refused_read.ensures same)))
    ∙ c.loop-stop.invariant.no_read_fault

pub overflow_add-done-in-loop-stop : goal.overflow_add-done-in-loop-stop
overflow_add-done-in-loop-stop g c = omega (arith, c.requires.done, c.loop-stop.invariant.replied.few, c.loop-stop.invariant.replied.paid)

pub answer_line-requires : goal.answer_line-requires
answer_line-requires g c =
    let kept : IsLine c.next.new.self.line = rw c.in-Ok-Line.field-0-is at c.in-Ok-Line.ensures.line in
    omega (arith, kept.short, ap length c.line.ensures)

pub returns-in_err-answer_line-clause-answered : goal.returns-in_err-answer_line-clause-answered
returns-in_err-answer_line-clause-answered g c =
    answered_passed c.in_err-answer_line.field-0.0 c.from_residual.result c.from_residual.ensures
    (replied_all _ _ _ _ _ _ _ _ _ _ _ _ _ _ c.loop-stop.invariant.replied
    (answered_line _ _ _ _ _ _ _ _ _ _ _ _ _ c.in_err-answer_line.field-0.0 (rw c.in-Ok-Line.field-0-is at c.in-Ok-Line.ensures.bytes) (rw c.in-Ok-Line.field-0-is at c.in-Ok-Line.ensures.line)
    (rw c.in-Ok-Line.field-0-is at c.in-Ok-Line.ensures.allowance) c.in-Ok-Line.ensures.short
    (subst (λ bytes. Replies c.loop-stop.session (answered is_built_command (c.args.done + c.loop-stop.number) c.loop-stop.number c.loop-stop.session bytes) c.answer_line.new.session
    (g.K.Sink.written c.loop-stop.sink) (g.K.Sink.written c.answer_line.new.sink) (Err c.in_err-answer_line.field-0.0)) c.line.ensures c.in_err-answer_line.ensures.replies)))

pub returns-in_err-answer_line-clause-read_fault : goal.returns-in_err-answer_line-clause-read_fault
returns-in_err-answer_line-clause-read_fault g c =
    λ e. absurd (c.in_err-answer_line.ensures.no_read_fault (stop_passed c.in_err-answer_line.field-0.0 stop.ReadFault c.from_residual.result c.from_residual.ensures e))

pub returns-in_err-answer_line-clause-write_fault : goal.returns-in_err-answer_line-clause-write_fault
returns-in_err-answer_line-clause-write_fault g c =
    λ e. rose_earlier _ _ _ (omega (arith, c.loop-stop.invariant.no_write_fault))
    (c.in_err-answer_line.ensures.fault (stop_passed c.in_err-answer_line.field-0.0 stop.WriteFault c.from_residual.result c.from_residual.ensures e))

pub returns-in_err-answer_line-clause-no_read_fault : goal.returns-in_err-answer_line-clause-no_read_fault
returns-in_err-answer_line-clause-no_read_fault g c = λ _. c.in-Ok-Line.ensures.no_fault (λ e. cc) ∙ c.loop-stop.invariant.no_read_fault

pub returns-in_err-answer_line-clause-no_write_fault : goal.returns-in_err-answer_line-clause-no_write_fault
returns-in_err-answer_line-clause-no_write_fault g c = λ other.
    c.in_err-answer_line.ensures.no_fault (other_passed c.in_err-answer_line.field-0.0 stop.WriteFault c.from_residual.result c.from_residual.ensures other)
    ∙ c.loop-stop.invariant.no_write_fault

pub overflow_add-number : goal.overflow_add-number
overflow_add-number g c = omega (arith, c.loop-stop.invariant.replied.few, c.loop-stop.invariant.replied.paid)

pub loop-stop-smaller : goal.loop-stop-smaller
loop-stop-smaller g c =
    let paid : c.next.new.self.allowance + length (c.next.new.self.line ++ 10 ∷ []) ≡ c.loop-stop.reader.allowance = rw c.in-Ok-Line.field-0-is at c.in-Ok-Line.ensures.allowance in
    omega (arith, paid, length-append c.next.new.self.line (10 ∷ []))

pub loop-stop-preserved : goal.loop-stop-preserved
loop-stop-preserved g c = record {
  live = c.in-Ok-Line.ensures.live;
  no_read_fault = c.in-Ok-Line.ensures.no_fault (λ e. cc) ∙ c.loop-stop.invariant.no_read_fault;
  no_write_fault = c.in_ok-answer_line.ensures.no_fault (λ e. cc) ∙ c.loop-stop.invariant.no_write_fault;
  replied =
      replied_more _ _ _ _ _ _ _ _ _ _ _ _ _ _ _ _ _ _ c.loop-stop.invariant.replied (rw c.in-Ok-Line.field-0-is at c.in-Ok-Line.ensures.bytes) (rw c.in-Ok-Line.field-0-is at c.in-Ok-Line.ensures.line)
      (rw c.in-Ok-Line.field-0-is at c.in-Ok-Line.ensures.allowance)
      (rw c.line.ensures at c.in_ok-answer_line.ensures.replies);
}
