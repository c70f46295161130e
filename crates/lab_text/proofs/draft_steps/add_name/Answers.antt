use Rattle.std.proofs.Common.{◌++◌, ◌∷◌, [], ap, sym, ◌∙◌, Ok}
use Rattle.lab_text.proofs.NameSteps.{new_name, old_name}
use Rattle.lab_text.proofs.draft_steps.add_name.Goals as goal

pub returns-in-Ok : goal.returns-in-Ok
returns-in-Ok c =
    new_name c.args.name.now c.args.names.now (c.args.names.now ++ c.args.name.now ∷ []) c.in-Ok.ensures.ok.1 ∙ ap (λ ns. Ok ns) (sym c.in-Ok.ensures.added)

pub returns-in-Err-Twice : goal.returns-in-Err-Twice
returns-in-Err-Twice c =
    old_name c.args.name.now c.args.names.now (c.args.names.now ++ c.args.name.now ∷ []) c.in-Err-Twice.field-0-0 (c.in-Err-Twice.ensures.twice c.in-Err-Twice.field-0-0 c.in-Err-Twice.field-0-is)
