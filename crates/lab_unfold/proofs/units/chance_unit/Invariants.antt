use Rattle.std.proofs.Common.{◌≡◌, ◌<◌, ◌≤◌, ◌-◌, ◌^◌, length, drop}
use Rattle.lab_world.specs.Games.{game_model}
use Rattle.lab_unfold.specs.Units.{unit_of}
use Rattle.lab_unfold.proofs.units.chance_unit.Given as goal

abbrev pub invariant-loop-later : goal.invariant-loop-later
invariant-loop-later l = record {
  so_far : l.unit ≡ unit_of (game_model l.game) l.depth (drop (length l.items - l.later) l.items);
  some : 0 < l.unit;
  told : l.unit ≤ 2 ^ 80;
}
