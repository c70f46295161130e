use Rattle.std.proofs.Common.{ℕ, ◌-◌, [], ◌∷◌, get_or, Some, ap, ◌∙◌}
use Rattle.lab_form.specs.declared.items.FormRow.{FormRow}
use Rattle.lab_tree.specs.TreeForms.{last_set}
use Rattle.lab_tree.proofs.forms.next_row.Goals as goal

pub returns : goal.returns
returns c =
    ap (λ n. told n c.saturating_sub-2.result) c.saturating_sub.ensures
    ∙ ap (told (get_or c.args.most 0 0 - get_or c.args.counts1.now (last_set c.args.row.now 1).0.0 0)) c.saturating_sub-2.ensures
  where
    told : ℕ → ℕ → FormRow
    told m n = record { worth = c.args.row.now.worth; last = Some (last_set c.args.row.now 1) ∷ Some (last_set c.args.row.now 2) ∷ []; pads = m ∷ n ∷ [] }
