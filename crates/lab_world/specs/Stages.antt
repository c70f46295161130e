-- Places on the way from parts to a game, as the definitions have them.
use Rattle.std.specs.Prelude.{ℕ, ◌^◌, nat_lt, List, [], ◌∷◌, Bool, true, ◌==◌, ◌&&◌, ◌++◌, length, map, Result, Ok, Err, if◌then◌else◌}
use Rattle.std.specs.List.{list_all}
use Rattle.lab_defs_text.specs.Words.{Bytes, apart_after}
use Rattle.lab_defs_text.specs.Games as model
use Rattle.lab_defs_text.specs.Faults.{TextFault, no_root}
use Rattle.lab_defs_text.specs.Drafts as draft
use Rattle.lab_defs_text.specs.Steps.{◌>>=◌, each}
use Rattle.lab_defs_text.specs.Assembly as assembly
use Rattle.lab_defs_game.specs.Chance.{row_total}
use Rattle.lab_lex.specs.Names.{name_bytes}
use Rattle.lab_world.specs.declared.place.Outcome.{Outcome}
use Rattle.lab_world.specs.declared.place.Row.{Row}
use Rattle.lab_world.specs.declared.stages.KnownRow.{KnownRow}
use Rattle.lab_world.specs.declared.stages.KnownPlace.{KnownPlace}
use Rattle.lab_world.specs.declared.stages.KnownPlace.TheVariants as known
use Rattle.lab_world.specs.declared.stages.PlacedRows.{PlacedRows}
use Rattle.lab_world.specs.declared.stages.PlacedPlace.{PlacedPlace}
use Rattle.lab_world.specs.declared.stages.PlacedPlace.TheVariants as placed
use Rattle.lab_world.specs.declared.stages.OrderedPlace.{OrderedPlace}
use Rattle.lab_world.specs.declared.stages.OrderedPlace.TheVariants as ordered
use Rattle.lab_world.specs.declared.stages.RootedPlaces.{RootedPlaces}
use Rattle.lab_world.specs.Models.{outcome_model, row_model, place_model}

abbrev pub outcomes_model : List Outcome → List model.Outcome
outcomes_model os = map outcome_model os

abbrev pub known_row_of : KnownRow → assembly.KnownRow
known_row_of r = record { line = r.line; first = name_bytes r.first; second = name_bytes r.second; outcomes = outcomes_model r.outcomes }

abbrev pub known_place_of : KnownPlace → assembly.KnownPlace
known_place_of (known.World line one two rows) = assembly.known_world line (map name_bytes one) (map name_bytes two) (map known_row_of rows.items)
known_place_of (known.End z) = assembly.known_end z

-- the weights of a row together are a `u64`
abbrev pub weights_fit : assembly.KnownRow → Bool
weights_fit r = nat_lt (row_total r.outcomes) (2 ^ 64)

-- no action of a seat is named twice, actions and rows are counted by a `u32`, and the weights of each row fit
abbrev pub known_fits : assembly.KnownPlace → Bool
known_fits (assembly.known_world line one two rows) =
    (apart_after [] one && apart_after [] two) && ((nat_lt (length one) (2 ^ 32) && nat_lt (length two) (2 ^ 32)) && (nat_lt (length rows) (2 ^ 32) && list_all weights_fit rows))
known_fits (assembly.known_end z) = true

-- each number with the row beside it
abbrev pub numbered_rows : List ℕ → List Row → List assembly.PlacedRow
numbered_rows (k ∷ ks) (r ∷ rs) = record { number = k; outcomes = row_model r } ∷ numbered_rows ks rs
numbered_rows _ _ = []

abbrev pub placed_rows_of : PlacedRows → List assembly.PlacedRow
placed_rows_of p = numbered_rows p.numbers p.rows.items

-- rows by their joint actions and one more, whose joint action is new
abbrev pub with_row : List Bytes → List Bytes → List assembly.PlacedRow → assembly.KnownRow → Result (List assembly.PlacedRow) TextFault
with_row one two before r =
    assembly.action_of one two r >>= λ k. assembly.unless_taken r.line k before >>= λ i. Ok (before ++ record { number = k; outcomes = r.outcomes } ∷ [])

-- the total of a row is that of its weights
abbrev pub total_fits : Row → Bool
total_fits r = r.total == row_total (row_model r)

-- as many rows as numbers, each with its total
abbrev pub rows_fit : PlacedRows → Bool
rows_fit p = length p.numbers == length p.rows.items && list_all total_fits p.rows.items

-- likewise the rows of a place, whose actions are counted by a `u32`
abbrev pub placed_fits : PlacedPlace → Bool
placed_fits (placed.World line one two rows) = (nat_lt (length one) (2 ^ 32) && nat_lt (length two) (2 ^ 32)) && rows_fit rows
placed_fits (placed.End z) = true

abbrev pub placed_place_of : PlacedPlace → assembly.PlacedPlace
placed_place_of (placed.World line one two rows) = assembly.placed_world line (map name_bytes one) (map name_bytes two) (placed_rows_of rows)
placed_place_of (placed.End z) = assembly.placed_end z

abbrev pub ordered_place_of : OrderedPlace → model.Place
ordered_place_of (ordered.World one two rows) = model.a_world (record { one = map name_bytes one; two = map name_bytes two; rows = map row_model rows })
ordered_place_of (ordered.End z) = model.an_end z

-- the rows of a place have their totals
abbrev pub totals_fit : OrderedPlace → Bool
totals_fit (ordered.World one two rows) = list_all total_fits rows
totals_fit (ordered.End z) = true

-- places, and the number of the root
pub record Rooted : Type 0 where
  pub places : List model.Place
  pub root : ℕ

abbrev pub rooted_of : RootedPlaces → Rooted
rooted_of r = record { places = map (place_model r.numbered.actions) r.numbered.places.items; root = r.root }

-- the places and the root that parts make, `line` being that of the root
abbrev pub rooted : (names tokens : List Bytes) (line : ℕ) (root : Bytes) → List draft.PartPlace → Result Rooted TextFault
rooted names tokens line root ps =
    each (assembly.known_place names tokens) ps >>= λ ks. assembly.known names line 2 root >>= λ r. each assembly.placed ks >>= λ qs. each assembly.ordered qs >>= λ places.
    if assembly.is_world_at r places then Ok (record { places = places; root = r }) else Err (no_root line)
