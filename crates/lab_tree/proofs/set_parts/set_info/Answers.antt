use Rattle.lab_world.specs.Games.{game_model}
use Rattle.lab_world.specs.Seats.{seat_number}
use Rattle.lab_tree.proofs.SetLemmas.{told_is}
use Rattle.lab_tree.proofs.set_parts.set_info.Goals as goal

pub returns-clause-value : goal.returns-clause-value
returns-clause-value c =
    told_is (game_model c.args.game.now) (seat_number c.args.seat) c.args.id.0 c.args.number c.args.first_weight c.actions_after.result c.args.node_of.now c.parent_set.result
    c.requires.alike c.requires.seen c.requires.nodes c.parent_set.ensures c.actions_after.ensures.value
