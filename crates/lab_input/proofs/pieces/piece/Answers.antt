use Rattle.std.proofs.Common.{◌∙◌}
use Rattle.lab_input.proofs.PieceLemmas.{piece_after}
use Rattle.lab_input.proofs.pieces.piece.Goals as goal

pub loop-preserved : goal.loop-preserved
loop-preserved c = c.loop.invariant ∙ piece_after _ _ _ _ c.following-rest.ensures c.loop-test.true
