use Rattle.std.proofs.Common.{◌≡◌, map, take}
use Rattle.lab_defs_text.specs.Texts.{place_at}
use Rattle.lab_defs_game.specs.Histories.{payoff_at}
use Rattle.lab_world.specs.Games.{game_model}
use Rattle.lab_unfold.specs.declared.history.History.{History}
use Rattle.lab_unfold.proofs.payoffs.payoffs.Given as goal

abbrev pub invariant-loop-history : goal.invariant-loop-history
invariant-loop-history l = l.payoffs.items ≡ map (λ (h : History). payoff_at (place_at (game_model l.game) h.world.0)) (take l.history-index l.items)
