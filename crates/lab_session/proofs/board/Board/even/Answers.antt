use Rattle.std.proofs.Common.{◌≡◌, arith, subst}
use Rattle.std.specs.Prelude.{IfOk}
use Rattle.lab_world.specs.Games.{game_model}
use Rattle.lab_session.specs.Boards.{IsTableFor, even_table}
use Rattle.lab_session.proofs.TableLemmas.{form_few, even_found, even_for}
use Rattle.lab_session.proofs.board.Board.even.Goals as goal

pub uniform-requires-clause-few : goal.uniform-requires-clause-few
uniform-requires-clause-few c =
    omega (arith, form_few (game_model c.self.inside.game) c.self.invariant.accepted c.self.inside.form c.self.invariant.model c.args.seat c.requires)

pub returns-clause-table : goal.returns-clause-table
returns-clause-table c =
    subst (λ g. IfOk c.uniform.result (λ t. t ≡ even_table g c.args.seat)) c.self.view_is
    (even_found (game_model c.self.inside.game) c.self.inside.form c.self.invariant.model c.args.seat c.requires c.uniform.result c.uniform.ensures)

pub returns-clause-is : goal.returns-clause-is
returns-clause-is c =
    subst (λ g. IfOk c.uniform.result (IsTableFor g c.args.seat)) c.self.view_is
    (even_for (game_model c.self.inside.game) c.args.seat c.uniform.result (even_found (game_model c.self.inside.game) c.self.inside.form c.self.invariant.model c.args.seat c.requires c.uniform.result c.uniform.ensures))
