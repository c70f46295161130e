use Rattle.std.proofs.Common.{◌≤◌, ◌-◌}
use Rattle.lab_defs_value.specs.Bounds.{at, through}
use Rattle.lab_bounds.specs.Tables.{bounded_in, IsBelow}
use Rattle.lab_bounds.proofs.broken.broken_at.Given as goal

abbrev pub invariant-loop-from : goal.invariant-loop-from
invariant-loop-from l = record {
  within : l.from ≤ l.actions;
  below : IsBelow (through (bounded_in l.form l.d l.table l.bounds) (at l.bounds.bounds) l.set.0) (at l.bounds.bounds l.set.0) 0 l.from;
}

abbrev pub decreases-loop-from : goal.decreases-loop-from
decreases-loop-from l = l.actions - l.from
