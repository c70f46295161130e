use Rattle.std.proofs.Common.{◌≡◌, ◌≤◌, ◌^◌, ap, ◌∙◌, sym, subst, inl, inr, refl}
use Rattle.std.specs.Prelude.{unsigned_abs}
use Rattle.lab_defs_game.specs.Forms.{form_of}
use Rattle.lab_defs_game.specs.Seats.{grid_of}
use Rattle.lab_defs_value.specs.Expectation.{expectation, expectation_units}
use Rattle.lab_defs_value.specs.Smallness.{IsSmall}
use Rattle.lab_sizes.proofs.SizeCounts.{small_law}
use Rattle.lab_table.specs.Tables.{seat_actions, AreWeights}
use Rattle.lab_world.specs.Games.{game_model}
use Rattle.lab_session.specs.Answers.{IsReduced}
use Rattle.lab_session.specs.Boards.{IsTableFor}
use Rattle.lab_session.proofs.Amounts.{expectation_small}
use Rattle.lab_session.proofs.TableLemmas.{form_table}
use Rattle.lab_session.proofs.board.Board.expected.Goals as goal

pub expect-value-requires-clause-small : goal.expect-value-requires-clause-small
expect-value-requires-clause-small c =
    let g = game_model c.self.inside.game in
    subst (IsSmall (grid_of g 1) (grid_of g 2)) (sym c.self.invariant.model) (small_law g c.self.invariant.accepted).0

pub expect-value-requires-clause-one : goal.expect-value-requires-clause-one
expect-value-requires-clause-one c =
    let g = game_model c.self.inside.game in
    subst (AreWeights (grid_of g 1) (seat_actions c.self.inside.form 1)) (sym c.weights.ensures.weights)
    (form_table g c.self.inside.form c.self.invariant.model 1 (inl refl) c.args.one.now (subst (λ g. IsTableFor g 1 c.args.one.now) (sym c.self.view_is) c.requires.one))

pub expect-value-requires-clause-two : goal.expect-value-requires-clause-two
expect-value-requires-clause-two c =
    let g = game_model c.self.inside.game in
    subst (AreWeights (grid_of g 2) (seat_actions c.self.inside.form 2)) (sym c.weights-2.ensures.weights)
    (form_table g c.self.inside.form c.self.invariant.model 2 (inr refl) c.args.two.now (subst (λ g. IsTableFor g 2 c.args.two.now) (sym c.self.view_is) c.requires.two))

pub fraction-requires-clause-amount : goal.fraction-requires-clause-amount
fraction-requires-clause-amount c =
    let g = game_model c.self.inside.game in
    let value : c.expect-value.result.0 ≡ expectation (grid_of g 1) (grid_of g 2) (form_of g) c.args.one.now.weights c.args.two.now.weights =
    c.expect-value.ensures ∙ (λ i. expectation (grid_of g 1) (grid_of g 2) (c.self.invariant.model i) (c.weights.ensures.weights i) (c.weights-2.ensures.weights i)) in
    subst (λ z. unsigned_abs z ≤ 2 ^ 94) (sym value)
    (expectation_small g c.self.invariant.accepted c.args.one.now c.args.two.now (subst (λ g. IsTableFor g 1 c.args.one.now) (sym c.self.view_is) c.requires.one)
    (subst (λ g. IsTableFor g 2 c.args.two.now) (sym c.self.view_is) c.requires.two))

pub returns : goal.returns
returns c =
    let g = game_model c.self.inside.game in
    let value : c.expect-value.result.0 ≡ expectation (grid_of g 1) (grid_of g 2) (form_of g) c.args.one.now.weights c.args.two.now.weights =
    c.expect-value.ensures ∙ (λ i. expectation (grid_of g 1) (grid_of g 2) (c.self.invariant.model i) (c.weights.ensures.weights i) (c.weights-2.ensures.weights i)) in
    let here : c.expect-value.result.0 ≡ expectation (grid_of c.args.self.now 1) (grid_of c.args.self.now 2) (form_of c.args.self.now) c.args.one.now.weights c.args.two.now.weights =
    value ∙ ap (λ g. expectation (grid_of g 1) (grid_of g 2) (form_of g) c.args.one.now.weights c.args.two.now.weights) c.self.view_is in
    subst (λ z. IsReduced c.fraction.result z (expectation_units c.args.self.now)) here
    (subst (IsReduced c.fraction.result c.expect-value.result.0) c.expectation_units.ensures.units c.fraction.ensures)
