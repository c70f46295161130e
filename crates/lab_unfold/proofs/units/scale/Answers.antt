use Rattle.std.proofs.Common.{◌<◌, ◌≤◌, ◌*◌, ◌+◌, ◌-◌, ◌^◌, sym, ◌∙◌, ap, subst, arith}
use Rattle.lab_defs_game.specs.Unfolding.{told_scale}
use Rattle.lab_world.specs.Games.{game_model}
use Rattle.lab_world.proofs.CallerLemmas.{whole_parts}
use Rattle.lab_unfold.proofs.UnitLemmas.{told_is, units_some, units_next, unit_past, product_past, scale_end}
use Rattle.lab_unfold.proofs.units.scale.Goals as goal

pub returns-in_err-unit : goal.returns-in_err-unit
returns-in_err-unit c =
    c.from_residual.ensures ∙ sym (unit_past (game_model c.args.game.now) (whole_parts c.args.game.now).0 c.loop-later.later (omega (arith, c.loop-later-test.true)) c.in_err-unit.ensures)

pub product-requires-clause-first : goal.product-requires-clause-first
product-requires-clause-first c = let u = told_is _ c.in_ok-unit.unit (sym c.in_ok-unit.ensures) in subst (λ n. n ≤ 2 ^ 80) (sym u.0) u.1

pub returns-in_err-scale : goal.returns-in_err-scale
returns-in_err-scale c =
    let g = game_model c.args.game.now in
    let u = told_is _ c.in_ok-unit.unit (sym c.in_ok-unit.ensures) in
    c.from_residual-in_err-scale.ensures
    ∙ sym (product_past g (whole_parts c.args.game.now).0 c.loop-later.later c.loop-later.scale (omega (arith, c.loop-later-test.true)) c.loop-later.invariant.so_far
    (c.in_err-scale.ensures ∙ ap (λ n. told_scale (n * c.loop-later.scale)) u.0))

pub loop-later-preserved : goal.loop-later-preserved
loop-later-preserved c =
    let g = game_model c.args.game.now in
    let u = told_is _ c.in_ok-unit.unit (sym c.in_ok-unit.ensures) in
    let k = told_is _ c.in_ok-scale.scale (sym c.in_ok-scale.ensures) in
    let next = k.0 ∙ ap (λ n. n * c.loop-later.scale) u.0 ∙ units_next g c.loop-later.later c.loop-later.scale (omega (arith, c.loop-later-test.true)) c.loop-later.invariant.so_far in
    record {
      so_far = next;
      some = subst (λ n. 0 < n) (sym next) (units_some g (whole_parts c.args.game.now).0 (c.args.game.now.horizon - (c.loop-later.later + 1)) (c.loop-later.later + 1));
      told = subst (λ n. n ≤ 2 ^ 80) (sym k.0) k.1;
    }

pub returns : goal.returns
returns c =
    scale_end (game_model c.args.game.now) c.loop-later.later c.loop-later.scale (omega (arith, c.loop-later-test.false, c.loop-later.auto.later-end)) c.loop-later.invariant.so_far c.loop-later.invariant.told
