use Rattle.std.proofs.Common.{[], ◌∙◌, sym, ap, cond, arith}
use Rattle.std.specs.Prelude.{◌==◌}
use Rattle.lab_defs_text.specs.Texts.{is_world}
use Rattle.lab_defs_game.specs.Histories as model
use Rattle.lab_defs_game.specs.Histories.{place_of}
use Rattle.lab_math.proofs.Members.{in_get_or}
use Rattle.lab_world.specs.Games.{game_model}
use Rattle.lab_world.specs.Seats.{seat_number}
use Rattle.lab_world.proofs.CallerLemmas.{whole_parts}
use Rattle.lab_unfold.proofs.CallerLemmas.{here_below}
use Rattle.lab_unfold.specs.Parents.{history_at}
use Rattle.lab_tree.proofs.EndLemmas.{histories_few}
use Rattle.lab_tree.proofs.ActionLemmas.{actions_few, actions_are, actions_none, place_read}
use Rattle.lab_tree.proofs.inner.actions_after.Goals as goal

pub overflow_cast-result : goal.overflow_cast-result
overflow_cast-result c =
    let g = game_model c.args.game.now in
    let h = history_at g c.args.id.0 in
    let is = actions_are c.args.game.now.actions c.in-Some.world.now (seat_number c.args.seat) c.actions.result.now (place_of g h)
    (sym (place_read g c.args.histories.now c.args.id.0 c.item.result.now c.requires.unfolded c.item.ensures) ∙ c.in-Some.ensures.some) (c.actions.ensures ∙ ap (λ n. cond (n == 1) c.in-Some.world.now.one c.in-Some.world.now.two) c.number.ensures.number) in
    let few = actions_few g (seat_number c.args.seat) h (whole_parts c.args.game.now).0 c.requires.accepted (in_get_or (model.histories g) c.args.id.0 [] (here_below g c.args.histories.now c.args.id.0 c.requires.unfolded c.requires.there)) in
    omega (arith, is, few, histories_few g c.requires.accepted)

pub returns-in-Some-clause-value : goal.returns-in-Some-clause-value
returns-in-Some-clause-value c =
    let g = game_model c.args.game.now in
    actions_are c.args.game.now.actions c.in-Some.world.now (seat_number c.args.seat) c.actions.result.now (place_of g (history_at g c.args.id.0))
    (sym (place_read g c.args.histories.now c.args.id.0 c.item.result.now c.requires.unfolded c.item.ensures) ∙ c.in-Some.ensures.some) (c.actions.ensures ∙ ap (λ n. cond (n == 1) c.in-Some.world.now.one c.in-Some.world.now.two) c.number.ensures.number)

pub returns-in-Some-clause-small : goal.returns-in-Some-clause-small
returns-in-Some-clause-small c =
    let g = game_model c.args.game.now in
    let h = history_at g c.args.id.0 in
    let is = actions_are c.args.game.now.actions c.in-Some.world.now (seat_number c.args.seat) c.actions.result.now (place_of g h)
    (sym (place_read g c.args.histories.now c.args.id.0 c.item.result.now c.requires.unfolded c.item.ensures) ∙ c.in-Some.ensures.some) (c.actions.ensures ∙ ap (λ n. cond (n == 1) c.in-Some.world.now.one c.in-Some.world.now.two) c.number.ensures.number) in
    let few = actions_few g (seat_number c.args.seat) h (whole_parts c.args.game.now).0 c.requires.accepted (in_get_or (model.histories g) c.args.id.0 [] (here_below g c.args.histories.now c.args.id.0 c.requires.unfolded c.requires.there)) in
    omega (arith, is, few, histories_few g c.requires.accepted)

pub returns-in-None-clause-value : goal.returns-in-None-clause-value
returns-in-None-clause-value c =
    let g = game_model c.args.game.now in
    actions_none (seat_number c.args.seat) (place_of g (history_at g c.args.id.0))
    (ap is_world (sym (place_read g c.args.histories.now c.args.id.0 c.item.result.now c.requires.unfolded c.item.ensures)) ∙ c.in-None.ensures.none)
