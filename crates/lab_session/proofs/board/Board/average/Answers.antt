use Rattle.std.proofs.Common.{◌≡◌, refl, sym, ap, ◌∙◌, subst}
use Rattle.lab_defs_game.specs.Forms.{Form, form_of, game_actions}
use Rattle.lab_defs_game.specs.Seats.{grid_of}
use Rattle.lab_defs_value.specs.Smallness.{IsSmall}
use Rattle.lab_sizes.proofs.SizeCounts.{small_law}
use Rattle.lab_regret.specs.Kept.{AreRegretsOf}
use Rattle.lab_world.specs.Games.{game_model}
use Rattle.lab_session.specs.Solved.{IsSolvedGame}
use Rattle.lab_session.proofs.SolvedLemmas.{small_kept}
use Rattle.lab_session.proofs.TableLemmas.{form_actions}
use Rattle.lab_session.proofs.board.Board.average.Goals as goal

pub averaged-requires-clause-small : goal.averaged-requires-clause-small
averaged-requires-clause-small c =
    let g = game_model c.self.inside.game in
    let solved = subst (λ g. IsSolvedGame g c.args.rounds c.args.regrets.now) (sym c.self.view_is) c.requires.solved in
    subst (IsSmall c.args.regrets.now.grid1 c.args.regrets.now.grid2) (sym c.self.invariant.model)
    (small_kept (form_of g) (grid_of g 1) (grid_of g 2) c.args.rounds c.args.regrets.now solved (small_law g c.self.invariant.accepted).0)

pub averaged-requires-clause-table : goal.averaged-requires-clause-table
averaged-requires-clause-table c =
    let g = game_model c.self.inside.game in
    let actions = ap (λ (t : _). t.actions) c.in_ok-table.ensures.table ∙ ap (λ g. game_actions g c.args.seat) (sym c.self.view_is) in
    actions ∙ sym (form_actions g c.self.inside.form c.self.invariant.model c.args.seat c.requires.seat)
