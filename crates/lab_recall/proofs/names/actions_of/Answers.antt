use Rattle.std.proofs.Common.{◌∙◌, ap, cond}
use Rattle.std.specs.Prelude.{◌==◌}
use Rattle.lab_world.specs.Seats.{seat_number}
use Rattle.lab_recall.proofs.NameLemmas.{seat_ids, seat_names}
use Rattle.lab_recall.proofs.names.actions_of.Goals as goal

pub returns-in-Some-clause-names : goal.returns-in-Some-clause-names
returns-in-Some-clause-names c =
    seat_names c.args.game.now.actions (seat_number c.args.seat) c.in-Some.world.now c.actions.result.now _
    (c.actions.ensures ∙ ap (λ n. cond (n == 1) c.in-Some.world.now.one c.in-Some.world.now.two) c.number.ensures.number) c.in-Some.ensures.some

pub returns-in-Some-clause-fit : goal.returns-in-Some-clause-fit
returns-in-Some-clause-fit c =
    seat_ids _ (seat_number c.args.seat) c.in-Some.world.now c.actions.result.now
    (c.actions.ensures ∙ ap (λ n. cond (n == 1) c.in-Some.world.now.one c.in-Some.world.now.two) c.number.ensures.number) c.in-Some.ensures.ids
