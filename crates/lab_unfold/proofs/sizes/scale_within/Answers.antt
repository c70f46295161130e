use Rattle.std.proofs.Common.{sym, ◌∙◌}
use Rattle.lab_world.specs.Games.{game_model}
use Rattle.lab_defs_game.specs.Chance.{scale}
use Rattle.lab_world.proofs.CallerLemmas.{whole_parts, grid_some}
use Rattle.lab_unfold.proofs.UnitLemmas.{units_some}
use Rattle.lab_unfold.proofs.SizeLemmas.{told_fine, size_within, size_past}
use Rattle.lab_unfold.proofs.sizes.scale_within.Goals as goal

pub fitting-requires-clause-told : goal.fitting-requires-clause-told
fitting-requires-clause-told c =
    let g = game_model c.args.game.now in
    told_fine c.scale-told.result (scale g) c.scale-told.ensures (units_some g (whole_parts c.args.game.now).0 0 g.horizon)

pub returns-in-None-clause-fault : goal.returns-in-None-clause-fault
returns-in-None-clause-fault c =
    size_past (game_model c.args.game.now) c.top_payoff-top.result c.scale-told.result c.in-Ok.most1 c.in-Ok-most_decisions.most2 (grid_some c.args.game.now)
    c.top_payoff-top.ensures c.scale-told.ensures c.in-Ok.ensures.value c.in-Ok-most_decisions.ensures.value c.in-None.ensures.none

pub returns-in-Some-clause-none : goal.returns-in-Some-clause-none
returns-in-Some-clause-none c =
    size_within (game_model c.args.game.now) c.top_payoff-top.result c.in-Some.k c.in-Ok.most1 c.in-Ok-most_decisions.most2
    c.top_payoff-top.ensures (sym c.in-Some.ensures.some.0 ∙ c.scale-told.ensures) c.in-Ok.ensures.value c.in-Ok-most_decisions.ensures.value c.in-Some.ensures.some.1
