use Rattle.std.proofs.Common.{sym, ◌∙◌}
use Rattle.lab_defs_text.specs.Texts.{place_at}
use Rattle.lab_defs_game.specs.Histories.{action_names}
use Rattle.lab_world.specs.Games.{game_model}
use Rattle.lab_world.specs.Seats.{seat_number}
use Rattle.lab_recall.proofs.NameLemmas.{compared, one_place}
use Rattle.lab_recall.proofs.names.same_names.Goals as goal

pub returns-then-eq : goal.returns-then-eq
returns-then-eq c = c.if-eq.true ∙ sym (one_place (game_model c.args.game.now) (seat_number c.args.seat) c.args.one.0 c.args.two.0 (sym c.if-eq.ensures))

pub returns-else-eq : goal.returns-else-eq
returns-else-eq c =
    let g = game_model c.args.game.now in
    c.eq-else-eq.ensures
    ∙ compared c.args.game.now c.actions_of.result.now c.actions_of-else-eq.result.now (action_names (seat_number c.args.seat) (place_at g c.args.one.0)) (action_names (seat_number c.args.seat) (place_at g c.args.two.0))
    c.actions_of.ensures.fit c.actions_of-else-eq.ensures.fit c.actions_of.ensures.names c.actions_of-else-eq.ensures.names
