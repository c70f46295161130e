use Rattle.std.proofs.Common.{◌≡◌, ◌^◌, ◌≤◌, ap, ◌∙◌, sym, subst, inl, inr, refl}
use Rattle.lab_defs_value.specs.Expectation.{expectation_units}
use Rattle.lab_defs_game.proofs.ChanceSizes.{some_scale}
use Rattle.lab_sizes.proofs.SizeUnits.{power_most, unit_law}
use Rattle.lab_unfold.specs.declared.history.Scale.{Scale}
use Rattle.lab_world.specs.Games.{game_model}
use Rattle.lab_session.proofs.Amounts.{scale_is, expectation_units_are, some_expectation_units}
use Rattle.lab_session.proofs.board.Board.expectation_units.Goals as goal

pub power-requires : goal.power-requires
power-requires c =
    let g = game_model c.self.inside.game in
    let scale = scale_is g c.self.inside.tree c.histories.result.now c.scale-scale.result.now c.self.invariant.tree c.histories.ensures c.scale-scale.ensures in
    subst (λ (s : Scale). g.grid ^ s.most1 ≤ 2 ^ 64) (sym scale) (power_most g c.self.invariant.accepted 1 (inl refl))

pub power-requires-2 : goal.power-requires-2
power-requires-2 c =
    let g = game_model c.self.inside.game in
    let scale = scale_is g c.self.inside.tree c.histories.result.now c.scale-scale.result.now c.self.invariant.tree c.histories.ensures c.scale-scale.ensures in
    subst (λ (s : Scale). g.grid ^ s.most2 ≤ 2 ^ 64) (sym scale) (power_most g c.self.invariant.accepted 2 (inr refl))

pub product-requires-clause-some : goal.product-requires-clause-some
product-requires-clause-some c =
    let g = game_model c.self.inside.game in
    let scale = scale_is g c.self.inside.tree c.histories.result.now c.scale-scale.result.now c.self.invariant.tree c.histories.ensures c.scale-scale.ensures in
    subst (λ (s : Scale). 1 ≤ s.k) (sym scale) (some_scale g c.self.invariant.accepted.good)

pub product-requires-clause-small : goal.product-requires-clause-small
product-requires-clause-small c =
    let g = game_model c.self.inside.game in
    let scale = scale_is g c.self.inside.tree c.histories.result.now c.scale-scale.result.now c.self.invariant.tree c.histories.ensures c.scale-scale.ensures in
    subst (λ n. n ≤ 2 ^ 64) (sym (expectation_units_are g c.scale-scale.result.now c.power.result c.power-2.result scale c.power.ensures c.power-2.ensures)) (unit_law g c.self.invariant.accepted).0

pub returns : goal.returns
returns c =
    let g = game_model c.self.inside.game in
    let scale = scale_is g c.self.inside.tree c.histories.result.now c.scale-scale.result.now c.self.invariant.tree c.histories.ensures c.scale-scale.ensures in
    let units : c.product.result ≡ expectation_units g = c.product.ensures ∙ expectation_units_are g c.scale-scale.result.now c.power.result c.power-2.result scale c.power.ensures c.power-2.ensures in
    record {
      units = units ∙ ap expectation_units c.self.view_is;
      some = subst (λ n. 1 ≤ n) (sym units) (some_expectation_units g c.self.invariant.accepted);
      small = subst (λ n. n ≤ 2 ^ 64) (sym units) (unit_law g c.self.invariant.accepted).0;
    }
