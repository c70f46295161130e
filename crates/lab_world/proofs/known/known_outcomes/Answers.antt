use Rattle.std.proofs.Common.{Err, map, ap, ◌∙◌, arith}
use Rattle.std.proofs.lemmas.Result.{err_from_is_err_and}
use Rattle.lab_defs_text.specs.Steps.{each}
use Rattle.lab_defs_text.specs.Assembly.{known_outcome}
use Rattle.lab_world.specs.Drafts.{part_outcome_of, assemble_fault}
use Rattle.lab_world.specs.Models.{outcome_model}
use Rattle.lab_world.specs.Stages.{outcomes_model}
use Rattle.lab_world.proofs.EachLemmas.{each_one, fault_one, agrees_by_fault}
use Rattle.lab_world.proofs.known.known_outcomes.Goals as goal

pub returns-in_err-known_outcome : goal.returns-in_err-known_outcome
returns-in_err-known_outcome c =
    let step = known_outcome c.args.names.now c.args.tokens.now in
    let items = c.args.outcomes.now in
    let q = err_from_is_err_and c.from_residual.result c.from_residual.ensures.1 in
    agrees_by_fault _ assemble_fault c.from_residual.result _ (each step (map part_outcome_of items)) (q.1 ∙ ap Err q.2)
    (fault_one (assemble_fault c.in_err-known_outcome.field-0.0) step part_outcome_of items _ (omega (arith, c.in-len1.len_at_least, c.in-len1.len_below)) c.in_err-known_outcome.ensures)

pub returns-in-len1 : goal.returns-in-len1
returns-in-len1 c =
    let step = known_outcome c.args.names.now c.args.tokens.now in
    each_one step part_outcome_of c.args.outcomes.now _ (outcome_model c.in_ok-known_outcome.field-0) (outcomes_model c.one.result) (omega (arith, c.in-len1.len_at_least, c.in-len1.len_below)) c.in_ok-known_outcome.ensures
    (ap outcomes_model c.one.ensures)
