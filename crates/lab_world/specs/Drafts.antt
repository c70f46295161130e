-- The parts of a game as the definitions have them, and the faults of parts.
use Rattle.std.specs.Prelude.{List, [], ◌∷◌, Bool, ◌&&◌, map, String, string_bytes, Option, Some, None}
use Rattle.std.specs.List.{list_all}
use Rattle.std.specs.Borrow.{Bor}
use Rattle.std.specs.Global.{Global}
use Rattle.lab_defs_text.specs.Words.{Bytes, is_name, apart_after}
use Rattle.lab_defs_text.specs.Texts.{is_within}
use Rattle.lab_defs_text.specs.Parts.{part_ok}
use Rattle.lab_defs_text.specs.Drafts as draft
use Rattle.lab_defs_text.specs.Faults as fault
use Rattle.lab_lex.specs.Names.{name_bytes}
use Rattle.lab_world.specs.declared.parts.PartOutcome.{PartOutcome}
use Rattle.lab_world.specs.declared.parts.PartRow.{PartRow}
use Rattle.lab_world.specs.declared.parts.PartPlace.{PartPlace}
use Rattle.lab_world.specs.declared.parts.PartPlace.TheVariants as place
use Rattle.lab_world.specs.declared.parts.Parts.{Parts}
use Rattle.lab_world.specs.declared.parts.AssembleFault.{AssembleFault}
use Rattle.lab_world.specs.declared.parts.AssembleFault.TheVariants as assemble
use Rattle.lab_world.specs.Models.{recall_model}
use Rattle.lab_world.specs.Sizes.{sizes_ok}

-- parts by a function that gives the bytes of a name
abbrev pub part_outcome_by : {T : Type 0} → (T → Bytes) → PartOutcome T → draft.PartOutcome
part_outcome_by text o = record { line = o.line; weight = o.weight; next = text o.next; own1 = text o.own1; own2 = text o.own2; public = text o.public }

abbrev pub part_row_by : {T : Type 0} → (T → Bytes) → PartRow T → draft.PartRow
part_row_by text r = record { line = r.line; first = text r.first; second = text r.second; outcomes = map (part_outcome_by text) r.outcomes }

abbrev pub part_place_by : {T : Type 0} → (T → Bytes) → Bytes → PartPlace T → draft.PartPlace
part_place_by text name (place.World line one two rows) =
    draft.part_world (record { name = name; line = line; one = map text one; two = map text two; rows = map (part_row_by text) rows })
part_place_by text name (place.End line payoff) = draft.part_end name line payoff

-- each place with its name
abbrev pub part_places_by : {T : Type 0} → (T → Bytes) → List Bytes → List (PartPlace T) → List draft.PartPlace
part_places_by text (n ∷ ns) (p ∷ ps) = part_place_by text n p ∷ part_places_by text ns ps
part_places_by text _ _ = []

-- the parts that the definitions have
abbrev pub draft_by : {T : Type 0} → (T → Bytes) → Parts T → draft.Draft
draft_by text p = record {
  grid = p.grid;
  horizon = p.horizon;
  recall = recall_model p.recall;
  tokens = p.tokens;
  places = part_places_by text p.names p.places;
  open_world = draft.no_world;
  open_row = draft.no_row;
  root = text p.root;
  root_line = p.root_line;
}

abbrev pub draft_of : Parts (String Global) → draft.Draft
draft_of = draft_by string_bytes

-- ---- names that stand in a text

abbrev pub part_outcome_of : PartOutcome (Bor Bytes) → draft.PartOutcome
part_outcome_of = part_outcome_by name_bytes

abbrev pub part_row_of : PartRow (Bor Bytes) → draft.PartRow
part_row_of = part_row_by name_bytes

abbrev pub part_place_of : Bytes → PartPlace (Bor Bytes) → draft.PartPlace
part_place_of = part_place_by name_bytes

abbrev pub part_places_of : List Bytes → List (PartPlace (Bor Bytes)) → List draft.PartPlace
part_places_of = part_places_by name_bytes

abbrev pub named_draft_of : Parts (Bor Bytes) → draft.Draft
named_draft_of = draft_by name_bytes

-- ---- what may be assembled

-- names that are well formed, none of them twice; there may be none
abbrev pub are_apart : List Bytes → Bool
are_apart ns = list_all is_name ns && apart_after [] ns

-- numbers within their limits, names of tokens and of places, places in order, and sizes that numbers of the program hold;
-- there may be no token and no place
abbrev pub may_assemble : draft.Draft → Bool
may_assemble d =
    is_within 1 4096 d.grid
    && (is_within 1 32 d.horizon && (are_apart d.tokens && (are_apart (map draft.place_name d.places) && (list_all part_ok d.places && sizes_ok d.places))))

-- the fault of a text that a fault of its parts is
abbrev pub assemble_fault : AssembleFault → Option fault.TextFault
assemble_fault (assemble.UnknownName line place) = Some (fault.unknown_name line place)
assemble_fault (assemble.ExtraRow line) = Some (fault.extra_row line)
assemble_fault (assemble.MissingRow line first second) = Some (fault.missing_row line first second)
assemble_fault (assemble.NoRoot line) = Some (fault.no_root line)
assemble_fault assemble.Memory = None
