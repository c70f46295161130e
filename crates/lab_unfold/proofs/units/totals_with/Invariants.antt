use Rattle.std.proofs.Common.{◌≡◌, ◌<◌, ◌≤◌, ◌-◌, ◌^◌, length, map, drop}
use Rattle.lab_world.specs.declared.place.Row.{Row}
use Rattle.lab_unfold.specs.Units.{lcm_with}
use Rattle.lab_unfold.proofs.units.totals_with.Given as goal

abbrev pub invariant-loop-later : goal.invariant-loop-later
invariant-loop-later l = record {
  so_far : l.multiple ≡ lcm_with (map (λ (r : Row). r.total) (drop (length l.rows - l.later) l.rows)) l.unit;
  some : 0 < l.multiple;
  told : l.multiple ≤ 2 ^ 80;
}
