use Rattle.std.proofs.Common.{Err, map, ap, ◌∙◌}
use Rattle.std.proofs.lemmas.List.{map-append}
use Rattle.std.proofs.lemmas.Result.{err_from_is_err_and}
use Rattle.lab_defs_text.specs.Steps.{each}
use Rattle.lab_defs_text.specs.Assembly.{known_outcome}
use Rattle.lab_world.specs.Drafts.{part_outcome_of, assemble_fault}
use Rattle.lab_world.specs.Models.{outcome_model}
use Rattle.lab_world.specs.Stages.{outcomes_model}
use Rattle.lab_world.proofs.EachLemmas.{each_on, each_first, each_at, fault_at, agrees_by_fault}
use Rattle.lab_world.proofs.known.outcome_list.Goals as goal

pub loop-outcome-init : goal.loop-outcome-init
loop-outcome-init c =
    let step = known_outcome c.args.names.now c.args.tokens.now in
    ap (λ ys. each_on step (outcomes_model ys) (map part_outcome_of c.args.outcomes.now)) c.in_ok-found.ensures.items ∙ each_first step (map part_outcome_of c.args.outcomes.now)

pub loop-outcome-preserved : goal.loop-outcome-preserved
loop-outcome-preserved c =
    let step = known_outcome c.args.names.now c.args.tokens.now in
    let items = c.args.outcomes.now in
    let before = c.loop-outcome.found.items in
    let after = c.push.new.self.items in
    each_at step part_outcome_of items c.loop-outcome.outcome-index _ (outcomes_model before) (outcomes_model after) (outcome_model c.in_ok-known_outcome.field-0) (each step (map part_outcome_of items)) c.loop-outcome-test.true c.in_ok-known_outcome.ensures
    (ap (outcomes_model) c.in_ok-push.ensures.items ∙ map-append outcome_model before _) c.loop-outcome.invariant

pub returns-in_err-known_outcome : goal.returns-in_err-known_outcome
returns-in_err-known_outcome c =
    let step = known_outcome c.args.names.now c.args.tokens.now in
    let items = c.args.outcomes.now in
    let q = err_from_is_err_and c.from_residual-in_err-known_outcome.result c.from_residual-in_err-known_outcome.ensures.1 in
    agrees_by_fault _ assemble_fault c.from_residual-in_err-known_outcome.result _ (each step (map part_outcome_of items)) (q.1 ∙ ap Err q.2)
    (fault_at (assemble_fault c.in_err-known_outcome.field-0.0) step part_outcome_of items c.loop-outcome.outcome-index _ (outcomes_model c.loop-outcome.found.items) (each step (map part_outcome_of items)) c.loop-outcome-test.true c.in_err-known_outcome.ensures c.loop-outcome.invariant)
