use Rattle.std.proofs.Common.{◌<◌, arith}
use Rattle.lab_defs_game.specs.Histories as model
use Rattle.std.proofs.Common.{length}
use Rattle.lab_world.specs.Games.{game_model}
use Rattle.lab_world.specs.Seats.{seat_number}
use Rattle.lab_unfold.specs.Items.{item_model}
use Rattle.lab_tree.specs.Behind.{IsBehind}
use Rattle.lab_tree.proofs.SetLemmas.{parent_is}
use Rattle.lab_tree.proofs.set_parts.parent_set.Goals as goal

pub returns-in-Some : goal.returns-in-Some
returns-in-Some c =
    let g = game_model c.args.game.now in
    let b : IsBehind g (seat_number c.args.seat) c.args.id.0 c.in_ok-before.before.0 (item_model c.in_ok-before.item) = c.in_ok-before.ensures.some in
    let l : c.in_ok-before.before.0 < length (model.histories g) = omega (arith, b.before, c.requires.there) in
    parent_is g (seat_number c.args.seat) c.args.id.0 c.in_ok-before.before.0 (item_model c.in_ok-before.item) c.args.of.now c.in-Some.set c.requires.of l b c.in-Some.is
