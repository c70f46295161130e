use Rattle.std.proofs.Common.{◌≡◌, ◌≤◌, ℕ, map}
use Rattle.lab_defs_game.specs.Unfolding.{history_count}
use Rattle.lab_world.specs.Games.{game_model}
use Rattle.lab_unfold.specs.Values.{history_in}
use Rattle.lab_unfold.specs.Levels.{histories_to, IsFirstOf}
use Rattle.lab_unfold.proofs.levels.all_histories.Given as goal

abbrev pub invariant-loop-depth : goal.invariant-loop-depth
invariant-loop-depth l = record {
  items : l.items.items ≡ map (history_in (game_model l.game)) (histories_to (game_model l.game) l.depth);
  last : IsFirstOf (game_model l.game) l.depth l.last;
  few : (t : ℕ) → t ≤ l.depth → history_count (game_model l.game) t ≤ 65536;
}
