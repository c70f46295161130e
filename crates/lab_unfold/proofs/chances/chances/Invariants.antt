use Rattle.std.proofs.Common.{◌≡◌, map, take}
use Rattle.lab_defs_game.specs.Chance.{chance}
use Rattle.lab_defs_game.specs.Histories.{histories}
use Rattle.lab_world.specs.Games.{game_model}
use Rattle.lab_unfold.proofs.chances.chances.Given as goal

abbrev pub invariant-loop : goal.invariant-loop
invariant-loop l = l.chances.items ≡ map (chance (game_model l.game)) (take l.counter (histories (game_model l.game)))
