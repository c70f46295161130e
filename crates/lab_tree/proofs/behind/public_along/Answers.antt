use Rattle.std.proofs.Common.{◌++◌, ◌∙◌, ap, reverse, arith}
use Rattle.lab_defs_game.specs.Sets.{public_list}
use Rattle.lab_world.specs.Games.{game_model}
use Rattle.lab_unfold.specs.Items.{item_model}
use Rattle.lab_unfold.specs.Parents.{history_at}
use Rattle.lab_tree.specs.Behind.{IsBehind}
use Rattle.lab_tree.proofs.BehindLemmas.{public_behind, token_back}
use Rattle.lab_tree.proofs.behind.public_along.Goals as goal

pub loop-before-preserved : goal.loop-before-preserved
loop-before-preserved c =
    let g = game_model c.args.game.now in
    let b : IsBehind g 1 c.loop-before.at.0 c.in-Some.before.0 (item_model c.in-Some.item) = c.in-Some.ensures.some in
    let i = c.loop-before.invariant in
    record {
      there = omega (arith, b.before, i.there);
      seen = ap (λ ts. public_list g (history_at g c.in-Some.before.0) ++ reverse ts) c.in_ok-push.ensures.items
          ∙ token_back (public_list g (history_at g c.loop-before.at.0)) (public_list g (history_at g c.in-Some.before.0)) c.loop-before.tokens.items _ c.in-Some.item.public
          (public_behind g 1 c.loop-before.at.0 c.in-Some.before.0 (item_model c.in-Some.item) b) i.seen;
    }
