use Rattle.std.proofs.Common.{◌≤◌, ◌-◌, length, take}
use Rattle.lab_input.specs.PlainLines.{ArePlainLines}
use Rattle.lab_input.proofs.game_part.plain_lines.Given as goal

abbrev pub invariant-loop-length : goal.invariant-loop-length
invariant-loop-length l = record {
  within : l.taken ≤ length l.fn.bytes;
  lines : ArePlainLines (take l.taken l.fn.bytes) l.count;
}

abbrev pub decreases-loop-length : goal.decreases-loop-length
decreases-loop-length l = length l.fn.bytes - l.taken
