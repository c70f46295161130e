-- The first line, with its line feed, is a plain one.
use Rattle.std.proofs.Common.{refl}
use Rattle.lab_input.proofs.Collecting.{done_test}
use Rattle.lab_input.proofs.PlainLemmas.{plain_one}
use Rattle.lab_input.proofs.game_part.plain_line.Goals as goal

pub returns-clause-line : goal.returns-clause-line
returns-clause-line c = plain_one c.args.bytes.now c.in_ok-end.end c.in_ok-end.ensures (done_test _ _ _ _ c.if-eq.ensures refl c.as_slice.ensures)
