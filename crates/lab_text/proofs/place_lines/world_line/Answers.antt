use Rattle.std.proofs.Common.{◌++◌, ◌∷◌, []}
use Rattle.std.proofs.lemmas.Result.{err_from_is_err_and}
use Rattle.lab_defs_text.specs.Words.{stands_in}
use Rattle.lab_defs_text.specs.Drafts.{unless_twice}
use Rattle.lab_defs_text.specs.Reading.{rest_at, world_kind}
use Rattle.lab_text.specs.Faults.{line_fault}
use Rattle.lab_text.specs.Drafts.{pieces, applied}
use Rattle.lab_text.proofs.FaultSteps.{fault_same}
use Rattle.lab_text.proofs.PlaceSteps.{world_begins, world_refused}
use Rattle.lab_text.proofs.place_lines.world_line.Goals as goal

pub returns-in_err-add_name-clause-line : goal.returns-in_err-add_name-clause-line
returns-in_err-add_name-clause-line c =
    let p = err_from_is_err_and c.from_residual-in_err-add_name.result c.from_residual-in_err-add_name.ensures.1 in
    let name = c.in_ok-name.name.now in
    let names = c.close.new.draft.names in
    rw (p.1, p.2) (fault_same (line_fault c.in_err-add_name.field-0.0) (unless_twice (stands_in name names) (names ++ name ∷ []))
    (applied c.args.line c.args.last c.args.draft.now (rest_at world_kind (pieces c.args.rest.now)))
    (λ f t. world_refused c.args.line c.args.last c.args.draft.now c.close.new.draft (pieces c.args.rest.now) c.in_ok-word.word.now name f
    c.requires.named c.in_ok-close.ensures c.in_ok-word.ensures c.in_ok-name.ensures t)
    c.in_err-add_name.ensures)

pub returns-clause-line : goal.returns-clause-line
returns-clause-line c =
    world_begins c.args.line c.args.last c.args.draft.now c.close.new.draft (pieces c.args.rest.now) c.in_ok-word.word.now c.in_ok-name.name.now c.add_name.new.names
    c.begin_world.new.world c.requires.named c.in_ok-close.ensures c.in_ok-word.ensures c.in_ok-name.ensures c.in_ok-add_name.ensures c.begin_world.ensures
