use Rattle.std.proofs.Common.{◌<◌, ◌≤◌, ◌+◌, ◌-◌, ◌^◌, length, drop, sym, ◌∙◌, subst, arith}
use Rattle.lab_world.specs.Games.{game_model}
use Rattle.lab_world.proofs.CallerLemmas.{whole_parts}
use Rattle.lab_unfold.proofs.UnitLemmas.{told_is, unit_some, unit_next, unit_none, unit_end}
use Rattle.lab_unfold.proofs.units.chance_unit.Goals as goal

pub returns-in_err-unit : goal.returns-in_err-unit
returns-in_err-unit c =
    c.from_residual.ensures
    ∙ sym (unit_none (game_model c.args.game.now) (whole_parts c.args.game.now).0 c.args.depth c.args.items.now c.loop-later.later c.loop-later.unit _ c.requires
    (omega (arith, c.loop-later-test.true)) c.loop-later.invariant.so_far c.in_err-unit.ensures)

pub loop-later-preserved : goal.loop-later-preserved
loop-later-preserved c =
    let g = game_model c.args.game.now in
    let m = told_is _ c.in_ok-unit.unit (sym c.in_ok-unit.ensures) in
    let next = m.0 ∙ unit_next g c.args.depth c.args.items.now c.loop-later.later c.loop-later.unit _ (omega (arith, c.loop-later-test.true)) c.loop-later.invariant.so_far in
    record {
      so_far = next;
      some = subst (λ n. 0 < n) (sym next) (unit_some g (whole_parts c.args.game.now).0 c.args.depth (drop (length c.args.items.now - (c.loop-later.later + 1)) c.args.items.now));
      told = subst (λ n. n ≤ 2 ^ 80) (sym m.0) m.1;
    }

pub returns : goal.returns
returns c =
    unit_end (game_model c.args.game.now) c.args.depth c.args.items.now c.loop-later.later c.loop-later.unit c.requires c.loop-later-test.false c.loop-later.invariant.so_far c.loop-later.invariant.told
