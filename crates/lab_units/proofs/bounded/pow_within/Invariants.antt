use Rattle.std.proofs.Common.{◌≡◌, ◌^◌}
use Rattle.lab_units.proofs.bounded.pow_within.Given as goal

abbrev pub invariant-loop : goal.invariant-loop
invariant-loop l = record {
  so_far : l.power ≡ l.base ^ l.counter;
  whole : l.base ^ l.factors ≡ l.base ^ l.exp;
}
