use Rattle.std.proofs.lemmas.Result.{on_ok_weaker}
use Rattle.lab_text.proofs.FitLemmas.{root_known}
use Rattle.lab_text.proofs.LineLemmas.{game_added}
use Rattle.lab_text.proofs.write.push_game.Goals as goal

pub name_with-requires : goal.name_with-requires
name_with-requires c = root_known c.args.game.now

pub returns : goal.returns
returns c =
    on_ok_weaker c.push_line-2.result
    (λ last. game_added c.args.game.now _ _ _ _ _ _ _ c.in_ok-push_head.ensures c.in_ok-push_tokens.ensures c.in_ok-push_places.ensures c.name_with.ensures c.in_ok-push_line.ensures.added last)
    c.push_line-2.ensures.added
