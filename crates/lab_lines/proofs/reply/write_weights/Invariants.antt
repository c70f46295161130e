-- The words so far were added.
use Rattle.std.proofs.Common.{◌≡◌, [], take}
use Rattle.lab_defs_text.specs.Lines.{joined}
use Rattle.lab_session.specs.Answers.{show_words}
use Rattle.lab_lines.specs.Lines.{Adds}
use Rattle.lab_lines.proofs.reply.write_weights.Given as goal

abbrev pub invariant-loop-weight : goal.invariant-loop-weight
invariant-loop-weight g l = record {
  no_fault : g.K.Sink.faults l.sink ≡ g.K.Sink.faults l.fn.sink;
  added : Adds [] l.line (g.K.Sink.written l.fn.sink) (g.K.Sink.written l.sink) (joined (show_words l.seat (take l.weight-index l.weights)));
}
