use Rattle.std.proofs.Common.{◌<◌, ◌*◌, ◌/◌, ◌≤◌, length, get_or, List, sym, ap, ◌∙◌, subst}
use Rattle.lab_defs_text.specs.Texts.{place_at}
use Rattle.lab_defs_game.specs.Histories.{outcome_of}
use Rattle.lab_world.specs.declared.place.Outcome.{Outcome}
use Rattle.lab_world.specs.declared.place.Row.{Row}
use Rattle.lab_world.specs.Games.{game_model}
use Rattle.lab_unfold.specs.Values.{step_model}
use Rattle.lab_unfold.proofs.ChildLemmas.{step_open, total_is, weight_is, weight_small}
use Rattle.lab_unfold.proofs.chances.share.Goals as goal

pub part-requires-clause-weight : goal.part-requires-clause-weight
part-requires-clause-weight c =
    let g = game_model c.args.game.now in
    let open_step = step_open c.args.game.now.actions c.in-Some.world.now (place_at g c.args.id.0) (step_model c.args.step) c.in-Some.ensures.some c.requires in
    let below : c.args.step.outcome < length c.row-row.result.now.outcomes = subst (λ (r : Row). c.args.step.outcome < length r.outcomes) (sym c.row-row.ensures.row) open_step.2 in
    subst (λ (os : List Outcome). (get_or os c.args.step.outcome _).weight ≤ c.row-row.result.now.total) (sym c.as_slice.ensures)
    (weight_small c.row-row.result.now c.args.step.outcome _ c.row-row.ensures.filled below)

-- what is read where there is no outcome
abbrev none : Outcome
none = record { weight = 0; next = record { 0 = 0 }; own1 = record { 0 = 0 }; own2 = record { 0 = 0 }; public = record { 0 = 0 } }

pub returns : goal.returns
returns c =
    let g = game_model c.args.game.now in
    let open_step = step_open c.args.game.now.actions c.in-Some.world.now (place_at g c.args.id.0) (step_model c.args.step) c.in-Some.ensures.some c.requires in
    let below : c.args.step.outcome < length c.row-row.result.now.outcomes = subst (λ (r : Row). c.args.step.outcome < length r.outcomes) (sym c.row-row.ensures.row) open_step.2 in
    let total = total_is c.args.game.now.actions c.in-Some.world.now (place_at g c.args.id.0) (step_model c.args.step) c.row-row.result.now c.in-Some.ensures.some c.row-row.ensures.row c.row-row.ensures.filled in
    let weight = weight_is c.args.game.now.actions c.in-Some.world.now g c.args.id.0 (step_model c.args.step) c.row-row.result.now none c.in-Some.ensures.some c.row-row.ensures.row below in
    c.part.ensures
    ∙ ap (λ (os : List Outcome). c.args.chance / c.row-row.result.now.total * (get_or os c.args.step.outcome none).weight) c.as_slice.ensures
    ∙ ap (λ n. c.args.chance / c.row-row.result.now.total * n) weight
    ∙ ap (λ n. c.args.chance / n * (outcome_of g c.args.id.0 (step_model c.args.step)).weight) total
