use Rattle.std.proofs.Common.{◌∙◌}
use Rattle.std.specs.Int.RustNames.{unsigned_abs}
use Rattle.lab_defs_text.specs.Texts.{place_at}
use Rattle.lab_defs_game.specs.Histories.{payoff_at}
use Rattle.lab_world.specs.Games.{game_model}
use Rattle.lab_unfold.specs.declared.history.History.{History}
use Rattle.lab_unfold.proofs.PayoffLemmas.{greatest_end, top_is}
use Rattle.lab_unfold.proofs.payoffs.top_payoff.Goals as goal

pub returns : goal.returns
returns c =
    greatest_end (λ (h : History). unsigned_abs (payoff_at (place_at (game_model c.args.game.now) h.world.0))) c.args.items.now c.loop-history.history-index c.loop-history.top
    c.loop-history-test.false c.loop-history.invariant
    ∙ top_is (game_model c.args.game.now) c.args.items.now c.requires
