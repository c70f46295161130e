use Rattle.std.proofs.Common.{rules, ◌<◌, ◌^◌, length, ap, ◌∙◌, subst, arith}
use Rattle.std.proofs.lemmas.List.{length-map}
use Rattle.lab_world.specs.Games.{game_model}
use Rattle.lab_tree.specs.Ends.{end_in}
use Rattle.lab_defs_game.specs.Nodes.{ends_by_nodes}
use Rattle.lab_tree.proofs.EndLemmas.{histories_few}
use Rattle.lab_tree.proofs.RowLemmas.{ends_few, end_at, row_is}
use Rattle.lab_tree.proofs.row_infos.row_info.Goals as goal

pub overflow_cast-result : goal.overflow_cast-result
overflow_cast-result c =
    let g = game_model c.args.game.now in
    let long = ap length c.requires.ends ∙ length-map (ends_by_nodes g) (end_in g) in
    let fits : c.args.number < 2 ^ 32 = omega (arith, c.requires.there, long, ends_few g, histories_few g c.requires.accepted) in
    search rules

pub worth-requires-clause-there : goal.worth-requires-clause-there
worth-requires-clause-there c =
    (end_at (game_model c.args.game.now) c.args.items.now c.args.ends.now c.args.number _ c.requires.unfolded c.requires.ends c.requires.there).there

pub worth-requires-clause-terminal : goal.worth-requires-clause-terminal
worth-requires-clause-terminal c =
    (end_at (game_model c.args.game.now) c.args.items.now c.args.ends.now c.args.number _ c.requires.unfolded c.requires.ends c.requires.there).terminal

pub last_set-requires-clause-there : goal.last_set-requires-clause-there
last_set-requires-clause-there c =
    (end_at (game_model c.args.game.now) c.args.items.now c.args.ends.now c.args.number _ c.requires.unfolded c.requires.ends c.requires.there).there

pub last_set-requires-clause-terminal : goal.last_set-requires-clause-terminal
last_set-requires-clause-terminal c =
    (end_at (game_model c.args.game.now) c.args.items.now c.args.ends.now c.args.number _ c.requires.unfolded c.requires.ends c.requires.there).terminal

pub last_set-requires-2-clause-there : goal.last_set-requires-2-clause-there
last_set-requires-2-clause-there c =
    (end_at (game_model c.args.game.now) c.args.items.now c.args.ends.now c.args.number _ c.requires.unfolded c.requires.ends c.requires.there).there

pub last_set-requires-2-clause-terminal : goal.last_set-requires-2-clause-terminal
last_set-requires-2-clause-terminal c =
    (end_at (game_model c.args.game.now) c.args.items.now c.args.ends.now c.args.number _ c.requires.unfolded c.requires.ends c.requires.there).terminal

pub returns : goal.returns
returns c =
    let g = game_model c.args.game.now in
    let below : c.args.number < length (ends_by_nodes g) = subst (λ n. c.args.number < n) (ap length c.requires.ends ∙ length-map (ends_by_nodes g) (end_in g)) c.requires.there in
    row_is g c.args.items.now c.args.number _ c.worth.result c.last_set.result c.last_set-2.result
    (end_at g c.args.items.now c.args.ends.now c.args.number _ c.requires.unfolded c.requires.ends c.requires.there) below c.worth.ensures c.last_set.ensures c.last_set-2.ensures
