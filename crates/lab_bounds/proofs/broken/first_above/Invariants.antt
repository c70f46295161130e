use Rattle.lab_defs_value.specs.Bounds.{at}
use Rattle.lab_best.specs.Values.{numbers}
use Rattle.lab_bounds.specs.Tables.{IsBelow}
use Rattle.lab_bounds.proofs.broken.first_above.Given as goal

abbrev pub invariant-loop-i : goal.invariant-loop-i
invariant-loop-i l = IsBelow (at (numbers l.worths)) l.bound.0 0 l.i
