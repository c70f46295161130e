use Rattle.std.proofs.Common.{List, ap, ◌∙◌}
use Rattle.lab_defs_text.specs.Words.{Bytes}
use Rattle.lab_defs_text.specs.Texts.{name_of}
use Rattle.lab_world.proofs.ActionNameLemmas.{stands_at, stands_nowhere}
use Rattle.lab_world.proofs.numbered.action_id.Goals as goal

pub returns-in-Err-Twice-clause-table : goal.returns-in-Err-Twice-clause-table
returns-in-Err-Twice-clause-table c =
    let was = c.in-Err-Twice.ensures.twice c.in-Err-Twice.number c.in-Err-Twice.field-0-is in
    let s = (stands_at c.args.name.now c.args.actions.now c.in-Err-Twice.number was).stands in
    rw s c.in-Err-Twice.ensures.kept

pub returns-in-Err-Twice-clause-id : goal.returns-in-Err-Twice-clause-id
returns-in-Err-Twice-clause-id c =
    let was = c.in-Err-Twice.ensures.twice c.in-Err-Twice.number c.in-Err-Twice.field-0-is in
    let same = (stands_at c.args.name.now c.args.actions.now c.in-Err-Twice.number was).same in
    ap (λ (ns : List Bytes). name_of ns c.in-Err-Twice.number) c.in-Err-Twice.ensures.kept ∙ same

pub returns-in-Ok-clause-table : goal.returns-in-Ok-clause-table
returns-in-Ok-clause-table c = let none = stands_nowhere c.args.name.now c.args.actions.now c.in-Ok.ensures.ok.1 in rw none c.in-Ok.ensures.added
