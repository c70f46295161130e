use Rattle.std.proofs.Common.{◌≡◌}
use Rattle.lab_defs_game.specs.Histories.{histories}
use Rattle.lab_defs_game.specs.Sets.{seen}
use Rattle.lab_world.specs.Games.{game_model}
use Rattle.lab_world.specs.Seats.{seat_number}
use Rattle.lab_unfold.specs.Firsts.{is_inner}
use Rattle.lab_tree.specs.Keyed.{keyed}
use Rattle.lab_tree.proofs.first_sets.set_keys.Given as goal

abbrev pub invariant-loop-number : goal.invariant-loop-number
invariant-loop-number l = l.keys.items ≡ keyed (is_inner (game_model l.game)) (seen (game_model l.game) (seat_number l.seat)) (histories (game_model l.game)) l.firsts l.number
