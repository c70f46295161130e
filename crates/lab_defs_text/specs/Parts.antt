-- What holds of the parts of a text where each of its lines is well formed and in its place.
use Rattle.std.specs.Prelude.{Bool, ◌&&◌, nat_lt, length, map}
use Rattle.std.specs.List.{list_all}
use Rattle.lab_defs_text.specs.Words.{are_names}
use Rattle.lab_defs_text.specs.Texts.{is_within, is_payoff}
use Rattle.lab_defs_text.specs.Drafts.{Draft, PartPlace, part_world, part_end, PartRow, PartOutcome, place_name}

-- the weight of an outcome
abbrev pub part_outcome_ok : PartOutcome → Bool
part_outcome_ok o = is_within 1 1048576 o.weight

-- a row has an outcome
abbrev pub part_row_ok : PartRow → Bool
part_row_ok r = nat_lt 0 (length r.outcomes) && list_all part_outcome_ok r.outcomes

-- the actions of a world, its rows, and the payoff of an end
abbrev pub part_ok : PartPlace → Bool
part_ok (part_world w) = are_names w.one && (are_names w.two && list_all part_row_ok w.rows)
part_ok (part_end n line z) = is_payoff z

-- numbers within their limits, and names apart
abbrev pub parts_ok : Draft → Bool
parts_ok d =
    is_within 1 4096 d.grid && (is_within 1 32 d.horizon && (are_names d.tokens && (are_names (map place_name d.places) && list_all part_ok d.places)))
