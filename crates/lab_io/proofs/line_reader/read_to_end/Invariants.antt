-- What was given stands in `bytes`, within the allowance, and the count of faults is as it was.
use Rattle.std.proofs.Common.{◌≡◌, ◌≤◌, ◌-◌, vec_len}
use Rattle.lab_io.specs.Reading.{Takes}
use Rattle.lab_io.proofs.line_reader.read_to_end.Given as goal

abbrev pub invariant-loop-count : goal.invariant-loop-count
invariant-loop-count g l = record {
  within : vec_len l.bytes ≤ l.allowance;
  no_fault : g.S.Source.faults l.source ≡ g.S.Source.faults l.fn.source;
  given : Takes l.fn.ahead (g.S.Source.left l.fn.source) l.ahead (g.S.Source.left l.source) l.bytes.items;
}

abbrev pub decreases-loop-count : goal.decreases-loop-count
decreases-loop-count g l = l.allowance - vec_len l.bytes
