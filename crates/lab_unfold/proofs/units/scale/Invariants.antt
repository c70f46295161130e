use Rattle.std.proofs.Common.{◌≡◌, ◌<◌, ◌≤◌, ◌-◌, ◌^◌}
use Rattle.lab_defs_game.specs.Chance.{units_from}
use Rattle.lab_world.specs.Games.{game_model}
use Rattle.lab_unfold.proofs.units.scale.Given as goal

abbrev pub invariant-loop-later : goal.invariant-loop-later
invariant-loop-later l = record {
  so_far : l.scale ≡ units_from (game_model l.game) (l.game.horizon - l.later) l.later;
  some : 0 < l.scale;
  told : l.scale ≤ 2 ^ 80;
}
