use Rattle.std.proofs.Common.{◌≡◌, ◌≤◌, take}
use Rattle.std.specs.Prelude.{vec_capacity}
use Rattle.lab_form.specs.Forms.{actions_in}
use Rattle.lab_regret.specs.Room.{firsts_of}
use Rattle.lab_regret.proofs.room.write_places.Given as goal

abbrev pub invariant-loop-i : goal.invariant-loop-i
invariant-loop-i l = record {
  actions : l.places.actions.items ≡ actions_in (take l.i l.sets);
  firsts : l.places.firsts.items ≡ firsts_of (take l.i l.sets);
  room1 : vec_capacity l.fn.places.actions ≤ vec_capacity l.places.actions;
  room2 : vec_capacity l.fn.places.firsts ≤ vec_capacity l.places.firsts;
}
