-- The lines so far were answered, and nothing failed.
use Rattle.std.proofs.Common.{◌≡◌}
use Rattle.std.specs.Prelude.{IsTrue}
use Rattle.lab_cli.proofs.ReplyLemmas.{Replied}
use Rattle.lab_cli.proofs.session.replies.Given as goal

abbrev pub invariant-loop-stop : goal.invariant-loop-stop
invariant-loop-stop g l = record {
  live : IsTrue l.reader.live;
  no_read_fault : g.S.Source.faults l.source ≡ g.S.Source.faults l.fn.source;
  no_write_fault : g.K.Sink.faults l.sink ≡ g.K.Sink.faults l.fn.sink;
  replied : Replied l.done l.fn.session l.session l.fn.reader.ahead (g.S.Source.left l.fn.source) l.reader.ahead (g.S.Source.left l.source) (g.K.Sink.written l.fn.sink) (g.K.Sink.written l.sink)
      l.reader.allowance l.number;
}

abbrev pub decreases-loop-stop : goal.decreases-loop-stop
decreases-loop-stop g l = l.reader.allowance
