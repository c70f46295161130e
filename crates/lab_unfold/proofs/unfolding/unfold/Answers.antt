use Rattle.std.proofs.Common.{◌∙◌}
use Rattle.lab_world.specs.Games.{game_model}
use Rattle.lab_unfold.specs.Faults.{IsFault}
use Rattle.lab_unfold.proofs.FaultLemmas.{horizon_found, size_decides, size_reason, handed_on}
use Rattle.lab_unfold.proofs.unfolding.unfold.Goals as goal

pub returns-in-Some-clause-fault : goal.returns-in-Some-clause-fault
returns-in-Some-clause-fault c =
    horizon_found (game_model c.args.game.now) c.deref.result.now c.in_ok-items.field-0.last c.in-Some.history_world.0 (c.deref.ensures.value ∙ c.in_ok-items.ensures.items) c.in_ok-items.ensures.last
    c.in_ok-items.ensures.none c.in-Some.ensures

pub returns-in_err-scale-clause-fault : goal.returns-in_err-scale-clause-fault
returns-in_err-scale-clause-fault c =
    let g = game_model c.args.game.now in
    let decides = size_decides g c.deref.result.now c.in_ok-items.field-0.last (c.deref.ensures.value ∙ c.in_ok-items.ensures.items) c.in_ok-items.ensures.last c.in_ok-items.ensures.none c.in_default.ensures in
    handed_on c.from_residual-in_err-scale.result c.in_err-scale.field-0.0 (IsFault g) c.from_residual-in_err-scale.ensures.1 (size_reason g c.in_err-scale.field-0.0 decides c.in_err-scale.ensures.fault)

pub returns-clause-none : goal.returns-clause-none
returns-clause-none c =
    size_decides (game_model c.args.game.now) c.deref.result.now c.in_ok-items.field-0.last (c.deref.ensures.value ∙ c.in_ok-items.ensures.items) c.in_ok-items.ensures.last
    c.in_ok-items.ensures.none c.in_default.ensures
    ∙ c.in_ok-scale.ensures.none
