use Rattle.std.proofs.Common.{◌≤◌, ◌≡◌, ◌+◌, sym, subst, arith, length}
use Rattle.lab_world.specs.Games.{game_model}
use Rattle.lab_unfold.specs.Levels.{IsFirstOf}
use Rattle.lab_unfold.proofs.LevelLemmas.{kept_count, first_behind, few_more}
use Rattle.lab_defs_game.proofs.UnfoldLaws.{few_is}
use Rattle.lab_unfold.proofs.levels.all_histories.Goals as goal

pub loop-depth-preserved : goal.loop-depth-preserved
loop-depth-preserved c =
    let long : length c.loop-depth.items.items ≡ c.len-last.result = omega (arith, c.len-last.ensures, c.loop-depth.items.ok.0) in
    record {
      items = c.in_ok-add_level.ensures.ok;
      last = subst (IsFirstOf (game_model c.args.game.now) (c.loop-depth.depth + 1)) long (first_behind (game_model c.args.game.now) c.loop-depth.depth c.loop-depth.items.items c.loop-depth.invariant.items);
      few = few_more (game_model c.args.game.now) c.loop-depth.depth c.loop-depth.invariant.few
          (subst (λ n. n ≤ 65536) (kept_count (game_model c.args.game.now) (c.loop-depth.depth + 1) c.add_level.new.items.items c.in_ok-add_level.ensures.ok) c.in_ok-add_level.ensures.few);
    }

pub returns-clause-few : goal.returns-clause-few
returns-clause-few c =
    subst (λ n. n ≤ 65536) (sym (kept_count (game_model c.args.game.now) c.loop-depth.depth c.loop-depth.items.items c.loop-depth.invariant.items)) (c.loop-depth.invariant.few c.loop-depth.depth (omega arith))

pub returns-clause-none : goal.returns-clause-none
returns-clause-none c = (few_is (game_model c.args.game.now)).0 (λ t l. c.loop-depth.invariant.few t (omega (arith, l, c.loop-depth-test.false)))
