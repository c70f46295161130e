use Rattle.std.proofs.Common.{◌≡◌, ◌+◌, ◌≤◌, ◌++◌, map, drop, length, true, nat_lt}
use Rattle.std.specs.List.{list_all}
use Rattle.lab_lex.specs.Names.{name_bytes}
use Rattle.lab_world.specs.declared.place.ActionId.{ActionId}
use Rattle.lab_world.specs.Models.{action_list}
use Rattle.lab_world.specs.Wholes.{with_new}
use Rattle.lab_world.proofs.numbered.id_list.Given as goal

abbrev pub invariant-loop-i : goal.invariant-loop-i
invariant-loop-i l = record {
  table : with_new l.actions (map name_bytes (drop l.i l.names)) ≡ with_new l.fn.actions (map name_bytes l.names);
  ids : action_list l.actions l.ids.items ++ map name_bytes (drop l.i l.names) ≡ map name_bytes l.names;
  below : list_all (λ (i : ActionId). nat_lt i.0 (length l.actions)) l.ids.items ≡ true;
  few : length l.actions ≤ length l.fn.actions + l.i;
}
