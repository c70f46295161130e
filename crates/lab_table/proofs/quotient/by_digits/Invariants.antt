use Rattle.std.proofs.Common.{◌≡◌, ◌<◌, ◌≤◌, ◌+◌, ◌*◌, ◌/◌, ◌^◌}
use Rattle.lab_table.proofs.quotient.by_digits.Given as goal

abbrev pub invariant-loop-low : goal.invariant-loop-low
invariant-loop-low l = record {
  low : l.low ≤ 13;
  rest : l.rest < l.total;
  same : l.quotient * l.total + l.rest ≡ l.d / 2 ^ l.low * l.share;
}

abbrev pub decreases-loop-low : goal.decreases-loop-low
decreases-loop-low l = l.low
