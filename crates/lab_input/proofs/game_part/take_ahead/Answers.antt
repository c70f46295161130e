-- No more lines are taken than there are bytes within the limit.
use Rattle.std.proofs.Common.{take, arith}
use Rattle.std.proofs.lemmas.List.{length-take}
use Rattle.lab_input.proofs.PlainLemmas.{plain_within}
use Rattle.lab_input.proofs.game_part.take_ahead.Goals as goal

pub overflow_cast-result : goal.overflow_cast-result
overflow_cast-result c =
    let allowed = take c.min-allowed.result c.ahead-ahead.result.now in
    let few = plain_within allowed c.plain_lines-bytes.result.0 c.plain_lines-bytes.result.1 c.plain_lines-bytes.ensures.within c.plain_lines-bytes.ensures.lines in
    omega (arith, few, c.plain_lines-bytes.ensures.within, length-take c.min-allowed.result c.ahead-ahead.result.now, c.min-allowed.ensures)
