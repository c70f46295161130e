use Rattle.std.proofs.Common.{rules, w32, sym, ap, ◌∙◌, map, take, [], ◌∷◌, ◌++◌}
use Rattle.std.specs.Int.RustNames.{FitsSigned}
use Rattle.std.proofs.lemmas.Int.{to_z-of_z}
use Rattle.std.proofs.lemmas.List.{take_all}
use Rattle.lab_defs_text.specs.Texts.{place_at}
use Rattle.lab_defs_game.specs.Histories.{payoff_at}
use Rattle.lab_world.specs.Games.{game_model}
use Rattle.lab_unfold.specs.declared.history.History.{History}
use Rattle.lab_unfold.proofs.PayoffLemmas.{payoffs_are, payoffs_more}
use Rattle.lab_unfold.proofs.payoffs.payoffs.Goals as goal

pub loop-history-preserved : goal.loop-history-preserved
loop-history-preserved c =
    let fits : FitsSigned w32 c.payoff.result = search rules in
    c.in_ok-push.ensures.items
    ∙ ap (λ z. c.loop-history.payoffs.items ++ z ∷ []) (to_z-of_z w32 c.payoff.result fits)
    ∙ ap (λ ps. ps ++ c.payoff.result ∷ []) c.loop-history.invariant
    ∙ ap (λ p. map (λ (h : History). payoff_at (place_at (game_model c.args.game.now) h.world.0)) (take c.loop-history.history-index c.args.items.now) ++ p ∷ []) c.payoff.ensures
    ∙ sym (payoffs_more (game_model c.args.game.now) c.args.items.now c.loop-history.history-index _ c.loop-history-test.true)

pub returns : goal.returns
returns c =
    c.loop-history.invariant
    ∙ ap (map (λ (h : History). payoff_at (place_at (game_model c.args.game.now) h.world.0))) (take_all c.loop-history.history-index c.args.items.now c.loop-history-test.false)
    ∙ payoffs_are (game_model c.args.game.now) c.args.items.now c.requires
