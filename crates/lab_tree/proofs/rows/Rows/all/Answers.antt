use Rattle.std.proofs.Common.{◌∙◌, flat_map, List, ap, sym}
use Rattle.lab_tree.specs.declared.info.RowInfo.{RowInfo}
use Rattle.lab_tree.proofs.Parts.{parts_whole}
use Rattle.lab_tree.proofs.rows.Rows.all.Goals as goal

pub returns : goal.returns
returns c =
    c.as_slice.ensures.value ∙ sym (parts_whole c.self.inside.starts.items c.self.inside.items.items c.self.invariant)
    ∙ ap (λ (rows : List (List RowInfo)). flat_map (λ r. r) rows) c.self.view_is
