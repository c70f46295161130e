use Rattle.std.proofs.Common.{◌≡◌, map, drop}
use Rattle.lab_defs_game.specs.Unfolding.{first_world}
use Rattle.lab_world.specs.Games.{game_model}
use Rattle.lab_unfold.specs.declared.history.History.{History}
use Rattle.lab_unfold.proofs.levels.open_world.Given as goal

abbrev pub invariant-loop-history : goal.invariant-loop-history
invariant-loop-history l =
    first_world (game_model l.game) (map (λ (h : History). h.world.0) (drop l.history-index l.level)) ≡ first_world (game_model l.game) (map (λ (h : History). h.world.0) l.level)
