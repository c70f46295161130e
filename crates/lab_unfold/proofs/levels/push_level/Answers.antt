use Rattle.std.proofs.Common.{◌<◌, ◌≤◌, ◌+◌, ◌++◌, [], length, map, flat_map, drop, sym, ap, ◌∙◌, subst, arith, rules}
use Rattle.std.proofs.lemmas.List.{length-map}
use Rattle.std.proofs.Math.Seq.{take-length}
use Rattle.lab_defs_game.specs.Histories.{longer}
use Rattle.lab_world.specs.Games.{game_model}
use Rattle.lab_unfold.specs.declared.history.History.{History}
use Rattle.lab_unfold.specs.Values.{history_in}
use Rattle.lab_unfold.specs.Levels.{histories_to}
use Rattle.lab_unfold.proofs.ChildLemmas.{moved, passed}
use Rattle.lab_world.proofs.CallerLemmas.{horizon_small}
use Rattle.lab_unfold.proofs.LevelLemmas.{level_start, level_next, kept_read, kept_more, kept_short, kept_below, depth_small}
use Rattle.lab_unfold.proofs.levels.push_level.Goals as goal

pub loop-number-init : goal.loop-number-init
loop-number-init c = record {
  so_far =
      ap (λ hs. hs ++ map (history_in (game_model c.args.game.now)) (flat_map (longer (game_model c.args.game.now)) (drop c.args.first (histories_to (game_model c.args.game.now) c.args.depth)))) c.requires.items
      ∙ level_start (game_model c.args.game.now) c.args.depth c.args.first c.requires.first;
  kept = take-length c.args.items.now.items;
  few = c.requires.few;
}

pub push_children-requires-clause-depth : goal.push_children-requires-clause-depth
push_children-requires-clause-depth c =
    let g = game_model c.args.game.now in
    let below : c.loop-number.number < length c.args.items.now.items = omega (arith, c.loop-number-test.true, c.len-number-end.ensures, c.args.items.now.ok.0) in
    let read = kept_read g c.args.depth c.loop-number.number c.loop-number.items.items c.args.items.now.items c.index-history.result.now c.index-history.ensures c.loop-number.invariant.kept c.requires.items below in
    let small = depth_small g c.args.depth c.loop-number.number (omega (arith, c.requires.horizon)) (kept_below g c.args.depth c.loop-number.number c.args.items.now.items c.requires.items below) in
    subst (λ (h : History). h.depth ≤ 32) (sym read) (omega (arith, small, horizon_small c.args.game.now))

pub returns-in_err-push_children-clause-full : goal.returns-in_err-push_children-clause-full
returns-in_err-push_children-clause-full c e =
    let g = game_model c.args.game.now in
    let full = c.in_err-push_children.ensures.full (search rules) in
    let below : c.loop-number.number < length c.args.items.now.items = omega (arith, c.loop-number-test.true, c.len-number-end.ensures, c.args.items.now.ok.0) in
    let read = kept_read g c.args.depth c.loop-number.number c.loop-number.items.items c.args.items.now.items c.index-history.result.now c.index-history.ensures c.loop-number.invariant.kept c.requires.items below in
    let next = level_next g c.args.depth c.loop-number.number c.loop-number.items.items (map (history_in g) (histories_to g (c.args.depth + 1))) c.index-history.result.now (omega (arith, c.requires.horizon))
    (kept_below g c.args.depth c.loop-number.number c.args.items.now.items c.requires.items below) read c.loop-number.invariant.so_far in
    let all = passed c.loop-number.items.items _ _ [] (map (history_in g) (histories_to g (c.args.depth + 1))) 65536 next full in
    omega (arith, all, length-map (histories_to g (c.args.depth + 1)) (history_in g))

pub loop-number-preserved : goal.loop-number-preserved
loop-number-preserved c =
    let g = game_model c.args.game.now in
    let below : c.loop-number.number < length c.args.items.now.items = omega (arith, c.loop-number-test.true, c.len-number-end.ensures, c.args.items.now.ok.0) in
    let read = kept_read g c.args.depth c.loop-number.number c.loop-number.items.items c.args.items.now.items c.index-history.result.now c.index-history.ensures c.loop-number.invariant.kept c.requires.items below in
    let next = level_next g c.args.depth c.loop-number.number c.loop-number.items.items (map (history_in g) (histories_to g (c.args.depth + 1))) c.index-history.result.now (omega (arith, c.requires.horizon))
    (kept_below g c.args.depth c.loop-number.number c.args.items.now.items c.requires.items below) read c.loop-number.invariant.so_far in
    record {
      so_far = moved c.loop-number.items.items _ _ c.push_children.new.items.items _ next c.in_ok-push_children.ensures.ok;
      kept = kept_more c.loop-number.items.items _ c.push_children.new.items.items c.args.items.now.items c.loop-number.invariant.kept
          (kept_short c.loop-number.items.items c.args.items.now.items c.loop-number.invariant.kept) c.in_ok-push_children.ensures.ok;
      few = c.in_ok-push_children.ensures.few;
    }
