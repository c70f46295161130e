use Rattle.std.proofs.Common.{◌++◌, ◌∷◌, [], rules}
use Rattle.std.specs.Int.{w32}
use Rattle.std.specs.Int.RustNames.{FitsSigned}
use Rattle.std.proofs.lemmas.Int.{to_z-of_z}
use Rattle.std.proofs.lemmas.Result.{err_from_is_err_and}
use Rattle.lab_defs_text.specs.Words.{stands_in}
use Rattle.lab_defs_text.specs.Drafts.{unless_twice}
use Rattle.lab_defs_text.specs.Reading.{rest_at, end_kind}
use Rattle.lab_text.specs.Faults.{line_fault}
use Rattle.lab_text.specs.Drafts.{pieces, applied}
use Rattle.lab_text.proofs.FaultSteps.{fault_same}
use Rattle.lab_text.proofs.PlaceSteps.{end_added, end_refused}
use Rattle.lab_text.proofs.place_lines.end_line.Goals as goal

pub returns-in_err-add_name-clause-line : goal.returns-in_err-add_name-clause-line
returns-in_err-add_name-clause-line c =
    let p = err_from_is_err_and c.from_residual-in_err-add_name.result c.from_residual-in_err-add_name.ensures.1 in
    let name = c.in_ok-name-2.name.now in
    let names = c.close.new.draft.names in
    rw (p.1, p.2) (fault_same (line_fault c.in_err-add_name.field-0.0) (unless_twice (stands_in name names) (names ++ name ∷ []))
    (applied c.args.line c.args.last c.args.draft.now (rest_at end_kind (pieces c.args.rest.now)))
    (λ f t. end_refused c.args.line c.args.last c.args.draft.now c.close.new.draft (pieces c.args.rest.now) c.in_ok-name.name.now c.in_ok-name.payoff.now name c.in_ok-payoff.payoff f
    c.requires.named c.in_ok-close.ensures c.in_ok-name.ensures c.in_ok-name-2.ensures c.in_ok-payoff.ensures t)
    c.in_err-add_name.ensures)

pub returns-clause-line : goal.returns-clause-line
returns-clause-line c =
    let fits : FitsSigned w32 c.in_ok-payoff.payoff = search rules in
    let pushed = simp to_z-of_z at c.in_ok-push.ensures.items in
    end_added c.args.line c.args.last c.args.draft.now c.close.new.draft (pieces c.args.rest.now) c.in_ok-name.name.now c.in_ok-name.payoff.now c.in_ok-name-2.name.now c.in_ok-payoff.payoff
    c.add_name.new.names c.push.new.self.items c.requires.named c.in_ok-close.ensures c.in_ok-name.ensures c.in_ok-name-2.ensures c.in_ok-payoff.ensures c.in_ok-add_name.ensures pushed
