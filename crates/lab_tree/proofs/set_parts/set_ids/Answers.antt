use Rattle.std.proofs.Common.{◌∙◌, ◌++◌, ◌∷◌, [], ap, sym, arith}
use Rattle.std.proofs.lemmas.List.FromFn.{map-range_with_len_more}
use Rattle.lab_world.specs.Games.{game_model}
use Rattle.lab_tree.specs.SetValues.{ranked_set}
use Rattle.lab_tree.proofs.set_parts.set_ids.Goals as goal

pub loop-number-preserved : goal.loop-number-preserved
loop-number-preserved c =
    let f = ranked_set (game_model c.args.game.now) c.args.firsts.now c.args.ranks.now in
    let n = c.loop-number.number in
    c.in_ok-push.ensures.items ∙ ap (λ s. c.loop-number.ids.items ++ s ∷ []) c.set_id.ensures ∙ ap (λ ss. ss ++ f n ∷ []) c.loop-number.invariant
    ∙ sym (map-range_with_len_more f 0 n n (omega arith))
