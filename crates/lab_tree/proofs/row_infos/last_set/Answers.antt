use Rattle.std.proofs.lemmas.List.{length-map}
use Rattle.std.proofs.Common.{◌<◌, None, length, get_or, ap, ◌∙◌, arith}
use Rattle.lab_defs_text.proofs.GameLemmas.{game_fine}
use Rattle.lab_defs_game.specs.Histories.{histories}
use Rattle.lab_world.proofs.CallerLemmas.{whole_parts}
use Rattle.lab_unfold.proofs.CallerLemmas.{here_below, read_parent, read_root}
use Rattle.lab_unfold.specs.Parents.{history_at}
use Rattle.lab_world.specs.Games.{game_model}
use Rattle.lab_world.specs.Seats.{seat_number}
use Rattle.lab_tree.specs.Trees.{set_at}
use Rattle.lab_tree.proofs.Reading.{said_at, item_step}
use Rattle.lab_tree.proofs.RowLemmas.{terminal_long, set_behind, last_found}
use Rattle.lab_tree.proofs.row_infos.last_set.Goals as goal

pub unreachable-requires : goal.unreachable-requires
unreachable-requires c =
    let g = game_model c.args.game.now in
    terminal_long g (history_at g c.args.id.0) (game_fine g (whole_parts c.args.game.now).0).root c.requires.terminal
    (read_root g c.args.items.now c.args.id.0 c.item-history.result.now c.requires.unfolded c.item-history.ensures c.in_default.is)

pub unreachable-requires-in_default-step : goal.unreachable-requires-in_default-step
unreachable-requires-in_default-step c =
    let g = game_model c.args.game.now in
    let b = read_parent g c.args.items.now c.args.id.0 c.item-history.result.now c.in-Some.parent c.requires.unfolded c.item-history.ensures c.in-Some.is in
    c.in_default-step.not-Some _ (item_step g c.args.items.now c.args.id.0 c.in-Some.parent.0 c.item-history.result.now c.requires.unfolded c.item-history.ensures b)

pub bounds : goal.bounds
bounds c =
    let g = game_model c.args.game.now in
    let b = read_parent g c.args.items.now c.args.id.0 c.item-history.result.now c.in-Some.parent c.requires.unfolded c.item-history.ensures c.in-Some.is in
    let there : c.args.id.0 < length c.args.items.now.items = c.requires.there in
    omega (arith, here_below g c.args.items.now c.args.id.0 c.requires.unfolded there, ap length c.requires.sets, length-map (histories g) (set_at g (seat_number c.args.seat)), b.below)

pub unreachable-requires-in_default-sets : goal.unreachable-requires-in_default-sets
unreachable-requires-in_default-sets c =
    let g = game_model c.args.game.now in
    let b = read_parent g c.args.items.now c.args.id.0 c.item-history.result.now c.in-Some.parent c.requires.unfolded c.item-history.ensures c.in-Some.is in
    let there : c.args.id.0 < length c.args.items.now.items = c.requires.there in
    c.in_default-sets.not-Some _
    (said_at g (set_at g (seat_number c.args.seat)) c.args.sets.now c.in-Some.parent.0 None c.requires.sets (omega (arith, here_below g c.args.items.now c.args.id.0 c.requires.unfolded there, b.below))
    ∙ set_behind g (seat_number c.args.seat) c.args.id.0 c.in-Some.parent.0 b)

pub returns : goal.returns
returns c =
    let g = game_model c.args.game.now in
    let b = read_parent g c.args.items.now c.args.id.0 c.item-history.result.now c.in-Some.parent c.requires.unfolded c.item-history.ensures c.in-Some.is in
    let there : c.args.id.0 < length c.args.items.now.items = c.requires.there in
    let set = said_at g (set_at g (seat_number c.args.seat)) c.args.sets.now c.in-Some.parent.0 None c.requires.sets (omega (arith, here_below g c.args.items.now c.args.id.0 c.requires.unfolded there, b.below))
    ∙ set_behind g (seat_number c.args.seat) c.args.id.0 c.in-Some.parent.0 b in
    let step = item_step g c.args.items.now c.args.id.0 c.in-Some.parent.0 c.item-history.result.now c.requires.unfolded c.item-history.ensures b in
    last_found g (seat_number c.args.seat) c.args.id.0 c.in-Some.parent.0 b c.in-Some-sets.set c.action_of.result (get_or c.args.sets.now c.in-Some.parent.0 None) c.item-history.result.now.step c.in-Some-step.step
    set c.in-Some-sets.is step c.in-Some-step.is c.action_of.ensures
