use Rattle.std.proofs.Common.{◌≡◌, ◌≤◌, arith, refl, sym, subst, inl, inr}
use Rattle.lab_defs_game.specs.Seats.{grid_of}
use Rattle.lab_defs_value.specs.Smallness.{IsSmall}
use Rattle.lab_sizes.proofs.SizeCounts.{small_law}
use Rattle.lab_world.specs.Games.{game_model}
use Rattle.lab_defs_value.specs.Tables.{weight_count}
use Rattle.lab_session.proofs.TableLemmas.{form_weights}
use Rattle.lab_session.proofs.board.Board.solved.Goals as goal

pub solved-requires-clause-small : goal.solved-requires-clause-small
solved-requires-clause-small c =
    let g = game_model c.self.inside.game in
    subst (IsSmall (grid_of g 1) (grid_of g 2)) (sym c.self.invariant.model) (small_law g c.self.invariant.accepted).0

pub solved-requires-clause-weights1 : goal.solved-requires-clause-weights1
solved-requires-clause-weights1 c =
    let g = game_model c.self.inside.game in
    let count : c.weight_count.result ≡ weight_count g 1 = subst (λ g. c.weight_count.result ≡ weight_count g 1) (sym c.self.view_is) c.weight_count.ensures.count in
    omega (arith, form_weights g c.self.inside.form c.self.invariant.model 1 (inl refl), count, c.max-weights.ensures)

pub solved-requires-clause-weights2 : goal.solved-requires-clause-weights2
solved-requires-clause-weights2 c =
    let g = game_model c.self.inside.game in
    let count : c.weight_count-2.result ≡ weight_count g 2 = subst (λ g. c.weight_count-2.result ≡ weight_count g 2) (sym c.self.view_is) c.weight_count-2.ensures.count in
    omega (arith, form_weights g c.self.inside.form c.self.invariant.model 2 (inr refl), count, c.max-weights.ensures)
