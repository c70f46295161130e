use Rattle.std.proofs.Common.{subst}
use Rattle.lab_defs_game.specs.Forms.{form_of}
use Rattle.lab_defs_game.specs.Seats.{grid_of}
use Rattle.lab_defs_value.specs.Expectation.{expectation, expectation_units}
use Rattle.lab_table.specs.Tables.{TableValue}
use Rattle.lab_session.specs.Answers.{IsReduced}
use Rattle.lab_session.specs.Boards.{even_table}
use Rattle.lab_session.proofs.board.Board.expected_evenly.Goals as goal

pub returns : goal.returns
returns c =
    let g = c.args.self.now in
    subst (λ (t : TableValue). IsReduced c.expected.result (expectation (grid_of g 1) (grid_of g 2) (form_of g) (even_table g 1).weights t.weights) (expectation_units g)) c.even_split-2.ensures.table
    (subst (λ (t : TableValue). IsReduced c.expected.result (expectation (grid_of g 1) (grid_of g 2) (form_of g) t.weights c.even_split-2.result.now.weights) (expectation_units g)) c.even_split.ensures.table c.expected.ensures)
