use Rattle.std.proofs.Common.{sym, ap, ◌∙◌}
use Rattle.std.specs.Prelude.{not}
use Rattle.lab_defs_text.specs.Texts.{is_world, place_at}
use Rattle.lab_world.specs.Games.{game_model}
use Rattle.lab_unfold.proofs.CallerLemmas.{here_below, read_here}
use Rattle.lab_unfold.specs.declared.history.History.{History}
use Rattle.lab_game_tests.proofs.trees.inner_at.Goals as goal

pub returns-clause-there : goal.returns-clause-there
returns-clause-there c = here_below (game_model c.args.game.now) c.args.histories.now c.in_ok-history.history.0 c.requires c.in_ok-history.ensures

pub returns-clause-inner : goal.returns-clause-inner
returns-clause-inner c =
    let g = game_model c.args.game.now in
    let read = read_here g c.args.histories.now c.in_ok-history.history.0 c.item.result.now c.requires c.item.ensures in
    ap (λ (h : History). not (is_world (place_at g h.world.0))) (sym read) ∙ ap (λ p. not (is_world p)) c.in-Some.ensures.some
