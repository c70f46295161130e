-- The decisions on the ways up to sets.
use Rattle.std.specs.Prelude.{ℕ, ◌-◌, List, [], ◌∷◌, map, length, Some, slice_index}
use Rattle.std.specs.List.{range_with_len}
use Rattle.lab_defs_game.specs.Forms.{decisions_to}
use Rattle.lab_form.specs.Forms.{sets_model}
use Rattle.lab_form.specs.declared.items.FormRow.{FormRow}
use Rattle.lab_tree.specs.declared.info.SetInfo.{SetInfo}
use Rattle.lab_tree.specs.declared.info.RowInfo.{RowInfo}
use Rattle.lab_tree.specs.TreeForms.{form_sets, last_set}

-- for each set how many deciding sets the way up to it has, it included
abbrev pub set_decisions : List SetInfo → List ℕ
set_decisions sets = map (decisions_to (sets_model (form_sets sets))) (range_with_len 0 (length sets))

-- a row of a tree as one of a form, by the decisions on the way up to each set of a seat
abbrev pub counted_row : (counts1 counts2 : List ℕ) → (most1 most2 : ℕ) → RowInfo → FormRow
counted_row counts1 counts2 most1 most2 r = record {
  worth = r.worth;
  last = Some (last_set r 1) ∷ Some (last_set r 2) ∷ [];
  pads = (most1 - slice_index counts1 (last_set r 1).0.0) ∷ (most2 - slice_index counts2 (last_set r 2).0.0) ∷ [];
}
