use Rattle.std.proofs.Common.{◌≢◌, ◌∙◌, ap, Ok}
use Rattle.std.proofs.lemmas.Result.{err_from_is_err_and}
use Rattle.lab_defs_text.specs.Agreement.{Agrees}
use Rattle.lab_defs_text.specs.Readings.{game_of}
use Rattle.lab_world.specs.Drafts.{assemble_fault}
use Rattle.lab_world.specs.Games.{game_model}
use Rattle.lab_world.specs.declared.parts.AssembleFault.TheVariants.{Memory}
use Rattle.lab_text.specs.declared.fault.TextFault.TheVariants.{Assemble}
use Rattle.lab_text.specs.Faults.{text_fault}
use Rattle.lab_text.proofs.FaultSteps.{parts_told, parts_not_memory, told_holds}
use Rattle.lab_text.proofs.GameSteps.{all_fit, game_is, parts_fault, whole_fault, fault_told, text_read, only_read}
use Rattle.lab_text.proofs.read.read_game.Goals as goal

pub assemble_named-requires-clause-fit : goal.assemble_named-requires-clause-fit
assemble_named-requires-clause-fit c = all_fit c.args.bytes.now c.in_ok-draft.draft c.all_parts.result c.requires c.in_ok-draft.ensures.parts c.all_parts.ensures

pub returns-in_err-draft-clause-only : goal.returns-in_err-draft-clause-only
returns-in_err-draft-clause-only c =
    let p = err_from_is_err_and c.from_residual.result c.from_residual.ensures.1 in
    let fault = text_fault c.in_err-draft.field-0.0 in
    only_read c.args.bytes.now c.from_residual.result (fault_told c.args.bytes.now c.from_residual.result p.0 fault p.1 (ap text_fault p.2) (parts_fault c.args.bytes.now fault c.in_err-draft.ensures.parts))

-- the fault of the whole
refused : (c : goal.After-from_residual-in_err-assemble_named) → Agrees game_model text_fault c.from_residual-in_err-assemble_named.result (game_of c.args.bytes.now)
refused c =
    let p = err_from_is_err_and c.from_residual-in_err-assemble_named.result c.from_residual-in_err-assemble_named.ensures.1 in
    let fault = assemble_fault c.in_err-assemble_named.field-0.0 in
    fault_told c.args.bytes.now c.from_residual-in_err-assemble_named.result p.0 fault p.1 (ap text_fault p.2 ∙ parts_told c.in_err-assemble_named.field-0.0)
    (whole_fault c.args.bytes.now c.in_ok-draft.draft c.all_parts.result fault c.in_ok-draft.ensures.parts c.all_parts.ensures c.in_err-assemble_named.ensures)

pub returns-in_err-assemble_named-clause-exact : goal.returns-in_err-assemble_named-clause-exact
returns-in_err-assemble_named-clause-exact c = refused c

pub returns-in_err-assemble_named-clause-only : goal.returns-in_err-assemble_named-clause-only
returns-in_err-assemble_named-clause-only c = only_read c.args.bytes.now c.from_residual-in_err-assemble_named.result (refused c)

pub returns-in_err-assemble_named-clause-memory : goal.returns-in_err-assemble_named-clause-memory
returns-in_err-assemble_named-clause-memory c =
    let p = err_from_is_err_and c.from_residual-in_err-assemble_named.result c.from_residual-in_err-assemble_named.ensures.1 in
    told_holds (λ e. e ≢ Assemble Memory) c.from_residual-in_err-assemble_named.result p.0 p.1 (parts_not_memory c.in_err-assemble_named.field-0.0 p.0 p.2)

pub returns-clause-exact : goal.returns-clause-exact
returns-clause-exact c = game_is c.args.bytes.now c.in_ok-draft.draft c.all_parts.result c.in_ok-draft.ensures.parts c.all_parts.ensures ∙ c.in_ok-assemble_named.ensures

pub returns-clause-text : goal.returns-clause-text
returns-clause-text c =
    text_read c.args.bytes.now (game_model c.in_ok-assemble_named.field-0) (game_is c.args.bytes.now c.in_ok-draft.draft c.all_parts.result c.in_ok-draft.ensures.parts c.all_parts.ensures ∙ c.in_ok-assemble_named.ensures)

pub returns-clause-only : goal.returns-clause-only
returns-clause-only c =
    only_read c.args.bytes.now (Ok c.in_ok-assemble_named.field-0) (game_is c.args.bytes.now c.in_ok-draft.draft c.all_parts.result c.in_ok-draft.ensures.parts c.all_parts.ensures ∙ c.in_ok-assemble_named.ensures)
