use Rattle.std.proofs.Common.{◌≡◌, ◌+◌, ◌++◌, drop}
use Rattle.lab_form.specs.Forms.{actions_in, weight_count}
use Rattle.lab_table.specs.Places.{places_from}
use Rattle.lab_table.proofs.places.places_of.Given as goal

abbrev pub invariant-loop-i : goal.invariant-loop-i
invariant-loop-i l = record {
  so_far : l.places.items ++ places_from l.place (actions_in (drop l.i l.sets)) ≡ places_from 0 (actions_in l.sets);
  count : l.place + weight_count (drop l.i l.sets) ≡ weight_count l.sets;
}
