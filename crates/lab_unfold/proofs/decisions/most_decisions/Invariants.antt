use Rattle.std.proofs.Common.{◌≡◌, map, take, drop}
use Rattle.std.specs.Prelude.{max}
use Rattle.lab_math.specs.Sums.{greatest_over}
use Rattle.lab_defs_game.specs.Histories.{histories}
use Rattle.lab_defs_game.specs.Sets as sets
use Rattle.lab_world.specs.Games.{game_model}
use Rattle.lab_world.specs.Seats.{seat_number}
use Rattle.lab_unfold.proofs.decisions.most_decisions.Given as goal

abbrev pub invariant-loop : goal.invariant-loop
invariant-loop l = record {
  counts : l.counts.items ≡ map (sets.decisions_from (game_model l.game) (seat_number l.seat) l.game.root.0) (take l.counter (histories (game_model l.game)));
  most : max l.most (greatest_over (sets.decisions_from (game_model l.game) (seat_number l.seat) l.game.root.0) (drop l.counter (histories (game_model l.game)))) ≡ sets.most_decisions (game_model l.game) (seat_number l.seat);
}
