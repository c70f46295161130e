use Rattle.std.proofs.Common.{◌+◌, ◌<◌, ◌++◌, length, map, filter, drop, [], Vec, Global, subst, sym, ap, ◌∙◌}
use Rattle.lab_defs_game.specs.Histories.{histories, is_terminal, terminal_histories}
use Rattle.lab_world.specs.Games.{game_model}
use Rattle.lab_tree.specs.declared.end.End.{End}
use Rattle.lab_tree.specs.Ends.{end_in}
use Rattle.lab_unfold.proofs.CallerLemmas.{here_below}
use Rattle.lab_tree.proofs.Grouping.{with_one, kept_step}
use Rattle.lab_tree.proofs.ends.ends_in_order.Goals as goal
use Rattle.lab_tree.proofs.ends.ends_in_order.Goals.{in-Some+in_ok-push, in_default}

pub loop-number-preserved : goal.loop-number-preserved
loop-number-preserved c =
    let g = game_model c.args.game.now in
    let i = c.loop-number.number in
    let all = map (end_in g) (terminal_histories g) in
    let left = map (end_in g) (filter (is_terminal g) (drop (i + 1) (histories g))) in
    let below : i < length (histories g) =
    here_below g c.args.items.now i c.requires.unfolded (subst (λ n. i < n) c.count-number-end.ensures.count c.loop-number-test.true) in
    let kept = kept_step (is_terminal g) (end_in g) (histories g) i [] c.end_at.result c.loop-number.ends.items all below c.end_at.ensures c.loop-number.invariant in
    elim c.match-end_at.branch [
      | in-Some+in_ok-push w ↦
          ap (λ (v : Vec End Global). v.items ++ left) w.ends-is ∙ ap (λ ends. ends ++ left) w.in_ok-push.ensures.items
          ∙ ap (λ o. with_one c.loop-number.ends.items o ++ left) (sym w.in-Some.is) ∙ kept
      | in_default w ↦ ap (λ (v : Vec End Global). v.items ++ left) w.ends-is ∙ ap (λ o. with_one c.loop-number.ends.items o ++ left) (sym w.in_default.is) ∙ kept
    ]
