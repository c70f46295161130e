use Rattle.std.proofs.Common.{◌≡◌, ◌≤◌, ◌+◌, ◌++◌, length, map, flat_map, drop, take}
use Rattle.lab_defs_game.specs.Histories.{longer}
use Rattle.lab_world.specs.Games.{game_model}
use Rattle.lab_unfold.specs.Values.{history_in}
use Rattle.lab_unfold.specs.Levels.{histories_to}
use Rattle.lab_unfold.proofs.levels.push_level.Given as goal

abbrev pub invariant-loop-number : goal.invariant-loop-number
invariant-loop-number l = record {
  so_far : l.items.items ++ map (history_in (game_model l.game)) (flat_map (longer (game_model l.game)) (drop l.number (histories_to (game_model l.game) l.depth)))
      ≡ map (history_in (game_model l.game)) (histories_to (game_model l.game) (l.depth + 1));
  kept : take (length l.fn.items.items) l.items.items ≡ l.fn.items.items;
  few : length l.items.items ≤ 65536;
}
