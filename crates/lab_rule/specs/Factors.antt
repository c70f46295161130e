-- What a seat brings to a row.
use Rattle.std.specs.Prelude.{ℕ, List, None, ◌==◌, nat_le, if◌then◌else◌, slice_index, slice_index_or}
use Rattle.lab_form.specs.declared.items.FormSet.{FormSet}
use Rattle.lab_form.specs.declared.items.FormRow.{FormRow}

-- how many decisions a row lacks of a seat
abbrev pub pad_of : FormRow → ℕ → ℕ
pad_of r seat = if seat == 1 then slice_index r.pads 0 else slice_index r.pads 1

-- 1 for a deciding set, else 0
abbrev pub decision_at : List FormSet → ℕ → ℕ
decision_at sets set = if nat_le 2 (slice_index_or sets set (record { parent = None; actions = 0; first_weight = 0 })).actions then 1 else 0
