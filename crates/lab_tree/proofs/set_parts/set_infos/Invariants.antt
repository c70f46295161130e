use Rattle.std.proofs.Common.{◌≡◌, ◌≤◌, ◌*◌, map, take}
use Rattle.lab_defs_game.specs.Forms.{game_actions}
use Rattle.lab_defs_game.specs.Sets.{sets}
use Rattle.lab_defs_value.specs.Tables.{first_weight}
use Rattle.lab_world.specs.Games.{game_model}
use Rattle.lab_world.specs.Seats.{seat_number}
use Rattle.lab_tree.specs.Trees.{set_in}
use Rattle.lab_tree.proofs.set_parts.set_infos.Given as goal

abbrev pub invariant-loop-place : goal.invariant-loop-place
invariant-loop-place l = record {
  infos : l.infos.items ≡ map (set_in (game_model l.game) (seat_number l.seat)) (take l.place (sets (game_model l.game) (seat_number l.seat)));
  weights : l.weights ≡ first_weight (game_actions (game_model l.game) (seat_number l.seat)) l.place;
  small : l.weights ≤ l.place * 65536;
}
