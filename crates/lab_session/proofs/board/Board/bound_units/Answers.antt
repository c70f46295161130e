use Rattle.std.proofs.Common.{◌≡◌, ◌^◌, ◌≤◌, ap, ◌∙◌, sym, subst}
use Rattle.lab_defs_game.specs.Accepted.{IsAccepted}
use Rattle.lab_defs_game.proofs.ChanceSizes.{some_scale}
use Rattle.lab_defs_value.specs.Bounds.{bound_units}
use Rattle.lab_sizes.proofs.SizeUnits.{power_most, unit_law}
use Rattle.lab_unfold.specs.declared.history.Scale.{Scale}
use Rattle.lab_world.specs.Games.{game_model}
use Rattle.lab_session.proofs.Amounts.{scale_is, most_is, bound_units_are, some_bound_units}
use Rattle.lab_session.proofs.board.Board.bound_units.Goals as goal

pub power-power-requires : goal.power-power-requires
power-power-requires c =
    let g = game_model c.self.inside.game in
    let scale = scale_is g c.self.inside.tree c.histories.result.now c.scale-scale.result.now c.self.invariant.tree c.histories.ensures c.scale-scale.ensures in
    subst (λ n. g.grid ^ n ≤ 2 ^ 64) (sym (c.most_decisions.ensures ∙ most_is g c.scale-scale.result.now scale c.args.seat c.requires)) (power_most g c.self.invariant.accepted c.args.seat c.requires)

pub product-requires-clause-some : goal.product-requires-clause-some
product-requires-clause-some c =
    let g = game_model c.self.inside.game in
    let scale = scale_is g c.self.inside.tree c.histories.result.now c.scale-scale.result.now c.self.invariant.tree c.histories.ensures c.scale-scale.ensures in
    subst (λ (s : Scale). 1 ≤ s.k) (sym scale) (some_scale g c.self.invariant.accepted.good)

pub product-requires-clause-small : goal.product-requires-clause-small
product-requires-clause-small c =
    let g = game_model c.self.inside.game in
    let scale = scale_is g c.self.inside.tree c.histories.result.now c.scale-scale.result.now c.self.invariant.tree c.histories.ensures c.scale-scale.ensures in
    let most = c.most_decisions.ensures ∙ most_is g c.scale-scale.result.now scale c.args.seat c.requires in
    subst (λ n. n ≤ 2 ^ 64) (sym (bound_units_are g c.scale-scale.result.now c.args.seat c.power-power.result c.most_decisions.result scale c.power-power.ensures most))
    ((unit_law g c.self.invariant.accepted).1 c.args.seat c.requires).0

pub returns : goal.returns
returns c =
    let g = game_model c.self.inside.game in
    let scale = scale_is g c.self.inside.tree c.histories.result.now c.scale-scale.result.now c.self.invariant.tree c.histories.ensures c.scale-scale.ensures in
    let most = c.most_decisions.ensures ∙ most_is g c.scale-scale.result.now scale c.args.seat c.requires in
    let units : c.product.result ≡ bound_units g c.args.seat =
    c.product.ensures ∙ bound_units_are g c.scale-scale.result.now c.args.seat c.power-power.result c.most_decisions.result scale c.power-power.ensures most in
    record {
      units = units ∙ ap (λ g. bound_units g c.args.seat) c.self.view_is;
      some = subst (λ n. 1 ≤ n) (sym units) (some_bound_units g c.self.invariant.accepted c.args.seat);
      small = subst (λ n. n ≤ 2 ^ 64) (sym units) ((unit_law g c.self.invariant.accepted).1 c.args.seat c.requires).0;
      accepted = subst IsAccepted c.self.view_is c.self.invariant.accepted;
    }
