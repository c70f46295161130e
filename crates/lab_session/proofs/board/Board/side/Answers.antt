use Rattle.std.proofs.Common.{ap, ◌∙◌, sym, subst}
use Rattle.lab_world.specs.Games.{game_model}
use Rattle.lab_bounds.specs.Tables.{BoundsValue}
use Rattle.lab_session.specs.Boards.{IsTableFor}
use Rattle.lab_session.specs.Kept.{IsSide}
use Rattle.lab_session.proofs.TableLemmas.{form_small, form_table, values_tight}
use Rattle.lab_session.proofs.board.Board.side.Goals as goal

pub fresh-requires-clause-small : goal.fresh-requires-clause-small
fresh-requires-clause-small c =
    form_small (game_model c.self.inside.game) c.self.invariant.accepted c.self.inside.form c.self.invariant.model c.args.seat c.requires.seat

pub fresh-requires-clause-weights : goal.fresh-requires-clause-weights
fresh-requires-clause-weights c =
    form_table (game_model c.self.inside.game) c.self.inside.form c.self.invariant.model c.args.seat c.requires.seat c.args.table
    (subst (λ g. IsTableFor g c.args.seat c.args.table) (sym c.self.view_is) c.requires.table)

pub returns-clause-is : goal.returns-clause-is
returns-clause-is c =
    subst (λ g. IsSide g c.args.seat (record { table = c.args.table; bounds = c.in-Ok.bounds })) c.self.view_is (record {
      table = subst (λ g. IsTableFor g c.args.seat c.args.table) (sym c.self.view_is) c.requires.table;
      keeper = ap (λ (b : BoundsValue). b.keeper) c.in-Ok.ensures.bounds;
      tight = ap (λ (b : BoundsValue). b.bounds) c.in-Ok.ensures.bounds
          ∙ values_tight (game_model c.self.inside.game) c.self.invariant.accepted c.self.inside.form c.self.invariant.model c.args.seat c.requires.seat c.args.table.weights;
    })
