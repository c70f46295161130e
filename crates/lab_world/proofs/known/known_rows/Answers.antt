use Rattle.std.proofs.Common.{Err, map, ap, sym, subst, ◌∙◌}
use Rattle.std.proofs.lemmas.List.{map-append}
use Rattle.std.proofs.lemmas.Result.{err_from_is_err_and}
use Rattle.std.specs.Borrow.{Bor}
use Rattle.lab_defs_text.specs.Agreement.{FaultAgrees}
use Rattle.lab_defs_text.specs.Words.{Bytes}
use Rattle.lab_defs_text.specs.Steps.{each}
use Rattle.lab_defs_text.specs.Assembly.{known_row}
use Rattle.lab_world.specs.declared.parts.PartRow.{PartRow}
use Rattle.lab_world.specs.Drafts.{part_row_of, assemble_fault}
use Rattle.lab_world.specs.Stages.{known_row_of}
use Rattle.lab_world.proofs.EachLemmas.{each_on, each_first, each_at, fault_at, agrees_by_fault}
use Rattle.lab_world.proofs.known.known_rows.Goals as goal

pub loop-row-init : goal.loop-row-init
loop-row-init c =
    let step = known_row c.args.names.now c.args.tokens.now in
    ap (λ ys. each_on step (map known_row_of ys) (map part_row_of c.args.rows.now)) c.in_ok-found.ensures.items ∙ each_first step (map part_row_of c.args.rows.now)

pub loop-row-preserved : goal.loop-row-preserved
loop-row-preserved c =
    let step = known_row c.args.names.now c.args.tokens.now in
    let items = c.args.rows.now in
    let before = c.loop-row.found.items in
    let after = c.push.new.self.items in
    each_at step part_row_of items c.loop-row.row-index c.row-item.result (map known_row_of before) (map known_row_of after) (known_row_of c.in_ok-known_row.field-0) (each step (map part_row_of items)) c.loop-row-test.true
    (ap (λ (r : PartRow (Bor Bytes)). step (part_row_of r)) (sym c.row-item.is) ∙ c.in_ok-known_row.ensures)
    (ap (map known_row_of) c.in_ok-push.ensures.items ∙ map-append known_row_of before _) c.loop-row.invariant

pub returns-in_err-known_row : goal.returns-in_err-known_row
returns-in_err-known_row c =
    let step = known_row c.args.names.now c.args.tokens.now in
    let items = c.args.rows.now in
    let q = err_from_is_err_and c.from_residual-in_err-known_row.result c.from_residual-in_err-known_row.ensures.1 in
    agrees_by_fault _ assemble_fault c.from_residual-in_err-known_row.result _ (each step (map part_row_of items)) (q.1 ∙ ap Err q.2)
    (fault_at (assemble_fault c.in_err-known_row.field-0.0) step part_row_of items c.loop-row.row-index c.row-item.result (map known_row_of c.loop-row.found.items) (each step (map part_row_of items)) c.loop-row-test.true
    (subst (λ (r : PartRow (Bor Bytes)). FaultAgrees (assemble_fault c.in_err-known_row.field-0.0) (step (part_row_of r))) c.row-item.is c.in_err-known_row.ensures) c.loop-row.invariant)
