use Rattle.std.proofs.Common.{arith, length}
use Rattle.lab_world.specs.Models.{world_model}
use Rattle.lab_world.specs.Games.{game_model}
use Rattle.lab_text.proofs.LineLemmas.{row_added}
use Rattle.lab_text.proofs.places.push_rows.Goals as goal

pub loop-number-preserved : goal.loop-number-preserved
loop-number-preserved c =
    row_added (game_model c.args.game.now) (world_model c.args.game.now.actions c.args.world.now) c.loop-number.number (length c.args.world.now.rows) _ _ _
    (omega (arith, c.loop-number-test.true, c.len-number-end.ensures)) c.in_ok-push_row.ensures c.loop-number.invariant
