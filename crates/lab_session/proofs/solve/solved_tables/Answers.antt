use Rattle.std.proofs.Common.{◌≡◌, ◌≤◌, arith}
use Rattle.lab_session.proofs.TableLemmas.{solved_by}
use Rattle.lab_session.proofs.solve.solved_tables.Goals as goal

pub returns-clause-tables : goal.returns-clause-tables
returns-clause-tables c =
    solved_by c.args.board.now c.args.rounds c.in-Ok.tables.0 c.in-Ok.tables.1 (omega (arith, c.if-rounds-eq0.false)) c.if-rounds-gt-MOST_ROUNDS.false c.in-Ok.ensures.one c.in-Ok.ensures.two
