use Rattle.std.proofs.Common.{◌≡◌, drop}
use Rattle.std.specs.Prelude.{max}
use Rattle.std.specs.Int.RustNames.{unsigned_abs}
use Rattle.lab_math.specs.Sums.{greatest_over}
use Rattle.lab_defs_text.specs.Texts.{place_at}
use Rattle.lab_defs_game.specs.Histories.{payoff_at}
use Rattle.lab_world.specs.Games.{game_model}
use Rattle.lab_unfold.specs.declared.history.History.{History}
use Rattle.lab_unfold.proofs.payoffs.top_payoff.Given as goal

abbrev pub invariant-loop-history : goal.invariant-loop-history
invariant-loop-history l =
    max l.top (greatest_over (λ (h : History). unsigned_abs (payoff_at (place_at (game_model l.game) h.world.0))) (drop l.history-index l.items))
    ≡ greatest_over (λ (h : History). unsigned_abs (payoff_at (place_at (game_model l.game) h.world.0))) l.items
