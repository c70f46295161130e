use Rattle.lab_world.proofs.CallerLemmas.{whole_parts}
use Rattle.lab_session.proofs.board.Board.start.Goals as goal

pub returns-clause-accepted : goal.returns-clause-accepted
returns-clause-accepted c = record { good = (whole_parts c.args.game).0; unfolds = c.in-Ok.ensures.none; recalls = c.in_default.ensures.none }
