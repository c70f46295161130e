-- What was given is in `line`, within its limit and the allowance, and the count of faults is as it was.
-- Where a line feed was ahead, source and bytes ahead are as they were: such a turn ends with the line.
use Rattle.std.proofs.Common.{◌≡◌, ◌≤◌, ◌-◌, vec_len, not, IsTrue}
use Rattle.lab_io.specs.Reading.{Takes, IsLine, no_feed}
use Rattle.lab_io.proofs.line.read_line.Given as goal

abbrev pub invariant-loop-ready : goal.invariant-loop-ready
invariant-loop-ready g l = record {
  within : vec_len l.line ≤ l.allowance;
  whole : IsLine l.line.items;
  no_fault : g.S.Source.faults l.source ≡ g.S.Source.faults l.fn.source;
  at_hand : IsTrue (not (no_feed l.fn.ahead)) → (l.source ≡ l.fn.source) × (l.ahead ≡ l.fn.ahead);
  given : Takes l.fn.ahead (g.S.Source.left l.fn.source) l.ahead (g.S.Source.left l.source) l.line.items;
}

abbrev pub decreases-loop-ready : goal.decreases-loop-ready
decreases-loop-ready g l = l.allowance - vec_len l.line
