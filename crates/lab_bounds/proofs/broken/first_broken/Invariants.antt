use Rattle.lab_defs_value.specs.Bounds.{at}
use Rattle.lab_bounds.specs.Tables.{bounded_in}
use Rattle.lab_bounds.proofs.SearchLemmas.{HoldsBefore}
use Rattle.lab_bounds.proofs.broken.first_broken.Given as goal

abbrev pub invariant-loop-i : goal.invariant-loop-i
invariant-loop-i l = HoldsBefore (bounded_in l.form l.d l.table l.bounds) (at l.bounds.bounds) l.i
