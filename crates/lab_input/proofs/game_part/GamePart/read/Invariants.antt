use Rattle.std.proofs.Common.{◌≡◌, ◌+◌, ◌≤◌, length}
use Rattle.std.specs.Prelude.{IsTrue}
use Rattle.lab_io.specs.declared.line_reader.TheConstants.{READ_AHEAD}
use Rattle.lab_defs_report.specs.Cuts.{game_limit}
use Rattle.lab_input.proofs.Collecting.{Collected}
use Rattle.lab_input.proofs.game_part.GamePart.read.Given as goal

abbrev pub invariant-loop-text : goal.invariant-loop-text
invariant-loop-text g l = record {
  live : IsTrue l.reader.live;
  ahead : length l.reader.ahead ≤ READ_AHEAD;
  left : l.reader.allowance + length l.text.items ≡ game_limit;
  no_fault : g.S.Source.faults l.source ≡ g.S.Source.faults l.fn.source;
  collected : Collected (g.S.Source.left l.fn.source) l.reader.ahead (g.S.Source.left l.source) l.text.items l.number;
}

abbrev pub decreases-loop-text : goal.decreases-loop-text
decreases-loop-text g l = l.reader.allowance
