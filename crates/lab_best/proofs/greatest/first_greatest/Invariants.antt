use Rattle.std.proofs.Common.{length, ◌≤◌}
use Rattle.lab_defs_value.specs.Bounds.{at}
use Rattle.lab_best.specs.Values.{numbers}
use Rattle.lab_best.specs.Parts.{IsFirstGreatest}
use Rattle.lab_best.proofs.greatest.first_greatest.Given as goal

abbrev pub invariant-loop-k : goal.invariant-loop-k
invariant-loop-k l = record {
  greatest : IsFirstGreatest l.k (at (numbers l.values)) (at (numbers l.values) l.place) l.place;
  within : l.k ≤ length l.values;
}
