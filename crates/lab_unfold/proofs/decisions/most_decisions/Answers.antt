use Rattle.std.proofs.Common.{arith}
use Rattle.lab_world.specs.Games.{game_model}
use Rattle.lab_world.specs.Seats.{seat_number}
use Rattle.lab_world.proofs.CallerLemmas.{horizon_small}
use Rattle.lab_unfold.proofs.ParentLemmas.{most_small}
use Rattle.lab_unfold.proofs.decisions.most_decisions.Goals as goal

pub returns-clause-small : goal.returns-clause-small
returns-clause-small c = omega (arith, c.loop.invariant.most, most_small (game_model c.args.game.now) (seat_number c.args.seat), horizon_small c.args.game.now)
