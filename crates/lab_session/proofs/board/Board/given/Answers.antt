use Rattle.std.proofs.Common.{◌≡◌, Err, None, Some, ◌∙◌, refl, sym, ap, subst, arith}
use Rattle.lab_defs_game.specs.Forms.{game_actions}
use Rattle.lab_defs_game.specs.Seats.{grid_of}
use Rattle.lab_defs_value.specs.Tables.{weight_count}
use Rattle.lab_defs_report.specs.States.{first_wrong_sum}
use Rattle.lab_world.specs.Games.{game_model}
use Rattle.lab_table.specs.Tables.{all_weights}
use Rattle.lab_session.specs.Boards.{IsTableFor}
use Rattle.lab_session.proofs.TableLemmas.{form_actions, form_few, table_for}
use Rattle.lab_session.proofs.WrongSums.{none_wrong, some_wrong}
use Rattle.lab_session.proofs.board.Board.given.Goals as goal

pub given-requires-clause-few : goal.given-requires-clause-few
given-requires-clause-few c =
    omega (arith, form_few (game_model c.self.inside.game) c.self.invariant.accepted c.self.inside.form c.self.invariant.model c.args.seat c.requires.seat)

pub unreachable-requires : goal.unreachable-requires
unreachable-requires c =
    let w = (c.given.ensures.wrong_count c.in-Err-WrongCount.field-0-0 c.in-Err-WrongCount.field-0-1).0 (c.in-Err-WrongCount.is ∙ ap (λ e. Err e) c.in-Err-WrongCount.field-0-is) in
    let actions = form_actions (game_model c.self.inside.game) c.self.inside.form c.self.invariant.model c.args.seat c.requires.seat in
    w.differ (w.needed ∙ ap all_weights actions ∙ ap (λ g. weight_count g c.args.seat) c.self.view_is ∙ sym c.requires.count ∙ sym w.given)

pub returns-in-Ok-clause-is : goal.returns-in-Ok-clause-is
returns-in-Ok-clause-is c =
    subst (λ g. IsTableFor g c.args.seat c.in-Ok.table) c.self.view_is
    (table_for (game_model c.self.inside.game) c.self.inside.form c.self.invariant.model c.args.seat c.requires.seat c.in-Ok.table c.args.weights.now c.in-Ok.ensures.table c.in-Ok.ensures.sums)

pub returns-in-Ok-clause-sums : goal.returns-in-Ok-clause-sums
returns-in-Ok-clause-sums c =
    subst (λ g. first_wrong_sum (grid_of g c.args.seat) 0 (game_actions g c.args.seat) c.args.weights.now ≡ None) c.self.view_is
    (none_wrong (game_model c.self.inside.game) c.self.inside.form c.self.invariant.model c.args.seat c.requires.seat c.args.weights.now c.in-Ok.ensures.sums)

pub returns-in-Err-Memory-clause-sums : goal.returns-in-Err-Memory-clause-sums
returns-in-Err-Memory-clause-sums c =
    subst (λ g. first_wrong_sum (grid_of g c.args.seat) 0 (game_actions g c.args.seat) c.args.weights.now ≡ None) c.self.view_is
    (none_wrong (game_model c.self.inside.game) c.self.inside.form c.self.invariant.model c.args.seat c.requires.seat c.args.weights.now
    (c.given.ensures.memory (c.in-Err-Memory.is ∙ ap (λ e. Err e) c.in-Err-Memory.field-0-is)))

pub returns-in-Err-WrongSum-clause-wrong : goal.returns-in-Err-WrongSum-clause-wrong
returns-in-Err-WrongSum-clause-wrong c =
    let set = c.in-Err-WrongSum.set in
    let first = (c.given.ensures.wrong_sum set).0 (c.in-Err-WrongSum.is ∙ ap (λ e. Err e) c.in-Err-WrongSum.field-0-is) in (
      set,
      refl,
      subst (λ g. first_wrong_sum (grid_of g c.args.seat) 0 (game_actions g c.args.seat) c.args.weights.now ≡ Some set.0) c.self.view_is
          (some_wrong (game_model c.self.inside.game) c.self.inside.form c.self.invariant.model c.args.seat c.requires.seat c.args.weights.now set.0 first),
    )
