-- What is read so far, as the definitions have it.
use Rattle.std.specs.Prelude.{◌≡◌, ◌+◌, ◌<◌, ℕ, List, [], ◌∷◌, ◌++◌, map, length, Bool, ◌==◌, Result, Ok}
use Rattle.std.specs.Borrow.{Bor}
use Rattle.lab_defs_text.specs.Steps.{◌>>=◌}
use Rattle.lab_defs_text.specs.Words.{Bytes}
use Rattle.lab_defs_text.specs.Faults.{LineFault}
use Rattle.lab_defs_text.specs.Lines.{Line}
use Rattle.lab_defs_text.specs.Texts.{name_of}
use Rattle.lab_defs_text.specs.Reading.{Kind, start_kind, head_kind, grid_kind, horizon_kind, memory_kind, token_kind, world_kind, one_kind, two_kind, row_kind, to_kind, end_kind, root_kind, done_kind, kind_of, line_at, some_words, names_at}
use Rattle.lab_defs_text.specs.Drafts as draft
use Rattle.lab_lex.specs.Names.{name_bytes}
use Rattle.lab_world.specs.declared.parts.PartPlace.{PartPlace}
use Rattle.lab_world.specs.declared.parts.PartPlace.TheVariants as place
use Rattle.lab_world.specs.declared.parts.PartRow.{PartRow}
use Rattle.lab_world.specs.declared.parts.Parts.{Parts}
use Rattle.lab_world.specs.Models.{recall_model}
use Rattle.lab_world.specs.Drafts.{part_outcome_of, part_row_of, part_places_of}
use Rattle.lab_text.specs.declared.line_kind.LineKind.{LineKind}
use Rattle.lab_text.specs.declared.line_kind.LineKind.TheVariants as kind
use Rattle.lab_text.specs.declared.draft.OpenRow.{OpenRow}
use Rattle.lab_text.specs.declared.draft.OpenWorld.{OpenWorld}
use Rattle.lab_text.specs.declared.draft.Draft.{Draft}

abbrev pub kind_is : LineKind → Kind
kind_is kind.Start = start_kind
kind_is kind.Head = head_kind
kind_is kind.Grid = grid_kind
kind_is kind.Horizon = horizon_kind
kind_is kind.Memory = memory_kind
kind_is kind.Token = token_kind
kind_is kind.World = world_kind
kind_is kind.One = one_kind
kind_is kind.Two = two_kind
kind_is kind.Row = row_kind
kind_is kind.To = to_kind
kind_is kind.End = end_kind
kind_is kind.Root = root_kind
kind_is kind.Done = done_kind

-- words as their bytes
abbrev pub pieces : List (Bor Bytes) → List Bytes
pieces ws = map (λ w. w.now) ws

abbrev pub open_row_of : OpenRow → draft.PartRow
open_row_of r = record { line = r.line; first = name_bytes r.first; second = name_bytes r.second; outcomes = map part_outcome_of r.outcomes.items }

-- the open world with its name
abbrev pub open_world_of : Bytes → OpenWorld → draft.PartWorld
open_world_of name w = record { name = name; line = w.line; one = pieces w.one; two = pieces w.two; rows = map part_row_of w.rows.items }

-- the parts so far: the name behind those of the places is that of the open world
abbrev pub draft_is : Draft → draft.Draft
draft_is x = record {
  grid = x.grid;
  horizon = x.horizon;
  recall = recall_model x.recall;
  tokens = x.tokens;
  places = part_places_of x.names x.places.items;
  open_world = open_world_of (name_of x.names (length x.places.items)) x.open_world;
  open_row = open_row_of x.open_row;
  root = name_bytes x.root;
  root_line = x.root_line;
}

-- the names of actions, none of them twice
abbrev pub apart_at : List Bytes → Result (List Bytes) LineFault
apart_at ws = names_at 2 ws >>= λ xs. draft.unless_repeated xs xs

-- likewise one or more
abbrev pub actions_at : List Bytes → Result (List Bytes) LineFault
actions_at ws = some_words ws >>= apart_at

-- the parts with the line that was read
abbrev pub applied : ℕ → LineKind → Draft → Result Line LineFault → Result draft.Draft LineFault
applied n last x read = read >>= draft.with_line n (kind_is last) (draft_is x)

-- the kind of the line that has these bytes, and the parts with it
abbrev pub stepped : ℕ → LineKind → Draft → Bytes → Result (Kind × draft.Draft) LineFault
stepped n last x bytes = line_at (kind_is last) bytes >>= λ l. draft.with_line n (kind_is last) (draft_is x) l >>= λ e. Ok (kind_of l, e)

-- a row with all its outcomes
abbrev pub whole_row : OpenRow → PartRow (Bor Bytes)
whole_row r = record { line = r.line; first = r.first; second = r.second; outcomes = r.outcomes.items }

-- a world with its last row
abbrev pub whole_world : OpenWorld → OpenRow → PartPlace (Bor Bytes)
whole_world w r = place.World w.line w.one w.two (w.rows.items ++ whole_row r ∷ [])

-- the places: behind an outcome the last world is one of them
abbrev pub closed_places : LineKind → Draft → List (PartPlace (Bor Bytes))
closed_places kind.To x = x.places.items ++ whole_world x.open_world x.open_row ∷ []
closed_places _ x = x.places.items

-- the world that is open where another place or the root begins, without its name
abbrev pub closed_world : LineKind → Draft → draft.PartWorld
closed_world kind.To x = draft.no_world
closed_world _ x = open_world_of [] x.open_world

-- likewise the row
abbrev pub closed_row : LineKind → Draft → draft.PartRow
closed_row kind.To x = draft.no_row
closed_row _ x = open_row_of x.open_row

-- behind an outcome the last row is whole, and with it the last world
pub record Closed (last : LineKind) (old new : Draft) : Type 0 where
  pub places : new.places.items ≡ closed_places last old
  pub world : open_world_of [] new.open_world ≡ closed_world last old
  pub row : open_row_of new.open_row ≡ closed_row last old
  pub names : new.names ≡ old.names
  pub tokens : new.tokens ≡ old.tokens
  pub grid : new.grid ≡ old.grid
  pub horizon : new.horizon ≡ old.horizon
  pub recall : new.recall ≡ old.recall
  pub root : new.root ≡ old.root
  pub root_line : new.root_line ≡ old.root_line

-- the same places and names
pub record KeepsNames (old new : Draft) : Type 0 where
  pub places : new.places.items ≡ old.places.items
  pub names : new.names ≡ old.names
  pub tokens : new.tokens ≡ old.tokens

-- how many worlds are open behind a line of a kind
abbrev pub open_worlds : LineKind → ℕ
open_worlds kind.World = 1
open_worlds kind.One = 1
open_worlds kind.Two = 1
open_worlds kind.Row = 1
open_worlds kind.To = 1
open_worlds _ = 0

-- how many worlds are whole behind a line of a kind, but not among the places yet
abbrev pub whole_worlds : LineKind → ℕ
whole_worlds kind.To = 1
whole_worlds _ = 0

-- a place and the root follow where no world is open but a whole one, and other lines leave open what is open
abbrev pub fits_behind : LineKind → LineKind → Bool
fits_behind last kind.World = open_worlds last == whole_worlds last
fits_behind last kind.End = open_worlds last == whole_worlds last
fits_behind last kind.Root = open_worlds last == whole_worlds last
fits_behind last k = open_worlds last == open_worlds k

-- before a line with this number each place has a name, and so has the open world; there are fewer names than lines
pub record Counts (line : ℕ) (last : LineKind) (x : Draft) : Type 0 where
  pub named : length x.names ≡ length x.places.items + open_worlds last
  pub few_names : length x.names < line
  pub few_tokens : length x.tokens < line

-- all parts, where the last line was read
abbrev pub all_parts : Draft → Parts (Bor Bytes)
all_parts x = record {
  grid = x.grid;
  horizon = x.horizon;
  recall = x.recall;
  tokens = x.tokens;
  names = x.names;
  places = x.places.items;
  root = x.root;
  root_line = x.root_line;
}
