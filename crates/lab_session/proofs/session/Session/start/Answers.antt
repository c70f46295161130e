use Rattle.std.proofs.Common.{sym, subst}
use Rattle.lab_defs_game.specs.Accepted.{IsAccepted}
use Rattle.lab_session.proofs.session.Session.start.Goals as goal

pub invariant_of-result : goal.invariant_of-result
invariant_of-result c = record { accepted = subst IsAccepted (sym c.in_ok-board.ensures.game) c.in_ok-board.ensures.accepted; expected = c.expected_evenly-even.ensures; sides = tt }
