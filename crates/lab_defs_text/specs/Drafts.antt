-- A text read line by line: the parts of its game so far, or the first fault.
use Rattle.std.specs.Prelude.{ℕ, ◌+◌, Bool, true, false, List, [], ◌∷◌, ◌++◌, map, Result, Ok, Err, ◌==◌, if◌then◌else◌, ℤ}
use Rattle.lab_defs_text.specs.Faults.{LineFault, TextFault, twice_at, cut_short, no_newline, extra_line, in_line}
use Rattle.lab_defs_text.specs.Steps.{◌>>=◌}
use Rattle.lab_defs_text.specs.Words.{Bytes, lines, stands_in}
use Rattle.lab_defs_text.specs.Games.{Recall, by_acts}
use Rattle.lab_defs_text.specs.Lines.{Line, head_line, grid_line, horizon_line, memory_line, token_line, world_line, one_line, two_line, row_line, to_line, end_line, root_line, done_line}
use Rattle.lab_defs_text.specs.Reading.{Kind, start_kind, to_kind, done_kind, kind_of, line_at}

-- an outcome by names, with its line
pub record PartOutcome : Type 0 where
  pub line : ℕ
  pub weight : ℕ
  pub next : Bytes
  pub own1 : Bytes
  pub own2 : Bytes
  pub public : Bytes

-- a row by the names of its actions, with its line
pub record PartRow : Type 0 where
  pub line : ℕ
  pub first : Bytes
  pub second : Bytes
  pub outcomes : List PartOutcome

-- a world with its name, its line, and its rows as they were listed
pub record PartWorld : Type 0 where
  pub name : Bytes
  pub line : ℕ
  pub one : List Bytes
  pub two : List Bytes
  pub rows : List PartRow

-- a world or an end, with its name and its line
pub data PartPlace : Type 0 where
  part_world : (w : PartWorld) → PartPlace
  part_end : (name : Bytes) (line : ℕ) (payoff : ℤ) → PartPlace

-- the name of a place
abbrev pub place_name : PartPlace → Bytes
place_name (part_world w) = w.name
place_name (part_end n line z) = n

-- what the lines so far declare. The last world and the last row are apart until they are whole
pub record Draft : Type 0 where
  pub grid : ℕ
  pub horizon : ℕ
  pub recall : Recall
  pub tokens : List Bytes
  pub places : List PartPlace
  pub open_world : PartWorld
  pub open_row : PartRow
  pub root : Bytes
  pub root_line : ℕ

-- no row
abbrev pub no_row : PartRow
no_row = record { line = 0; first = []; second = []; outcomes = [] }

-- no world
abbrev pub no_world : PartWorld
no_world = record { name = []; line = 0; one = []; two = []; rows = [] }

-- the parts before the first line
abbrev pub empty : Draft
empty = record { grid = 0; horizon = 0; recall = by_acts; tokens = []; places = []; open_world = no_world; open_row = no_row; root = []; root_line = 0 }

-- a world with other rows
abbrev pub with_rows : PartWorld → List PartRow → PartWorld
with_rows w rows = record { name = w.name; line = w.line; one = w.one; two = w.two; rows = rows }

-- a row with other outcomes
abbrev pub with_outcomes : PartRow → List PartOutcome → PartRow
with_outcomes r outcomes = record { line = r.line; first = r.first; second = r.second; outcomes = outcomes }

-- the rows of the last world: after an outcome the last row is one of them
abbrev pub whole_rows : Kind → Draft → List PartRow
whole_rows to_kind d = d.open_world.rows ++ d.open_row ∷ []
whole_rows _ d = d.open_world.rows

-- the places: after an outcome the last world is one of them
abbrev pub whole_places : Kind → Draft → List PartPlace
whole_places to_kind d = d.places ++ part_world (with_rows d.open_world (d.open_world.rows ++ d.open_row ∷ [])) ∷ []
whole_places _ d = d.places

-- the world that is open where another place or the root begins: none after an outcome
abbrev pub cleared_world : Kind → Draft → PartWorld
cleared_world to_kind d = no_world
cleared_world _ d = d.open_world

-- the row that is open where another one begins: none after an outcome
abbrev pub cleared_row : Kind → Draft → PartRow
cleared_row to_kind d = no_row
cleared_row _ d = d.open_row

-- the first place of an equal name before it, where the first name has the given place; 0 where there is none
abbrev pub first_twice : ℕ → List Bytes → List Bytes → ℕ
first_twice place before [] = 0
first_twice place before (n ∷ ns) = if stands_in n before then place else first_twice (place + 1) (before ++ n ∷ []) ns

-- a line whose name must be new
abbrev pub unless_twice : {A : Type 0} → Bool → A → Result A LineFault
unless_twice twice x = if twice then Err (twice_at 2) else Ok x

-- a line whose names must differ
abbrev pub unless_repeated : {A : Type 0} → List Bytes → A → Result A LineFault
unless_repeated ns x = if first_twice 2 [] ns == 0 then Ok x else Err (twice_at (first_twice 2 [] ns))

-- the parts with line n, after a line of a kind that it may follow
abbrev pub with_line : ℕ → Kind → Draft → Line → Result Draft LineFault
with_line n last d head_line = Ok d
with_line n last d (grid_line g) = Ok (record d { grid = g })
with_line n last d (horizon_line h) = Ok (record d { horizon = h })
with_line n last d (memory_line r) = Ok (record d { recall = r })
with_line n last d (token_line t) = unless_twice (stands_in t d.tokens) (record d { tokens = d.tokens ++ t ∷ [] })
with_line n last d (world_line w) =
    unless_twice (stands_in w (map place_name (whole_places last d)))
    (record d { places = whole_places last d; open_world = record { name = w; line = n; one = []; two = []; rows = [] }; open_row = cleared_row last d })
with_line n last d (one_line ns) =
    unless_repeated ns (record d { open_world = record { name = d.open_world.name; line = d.open_world.line; one = ns; two = d.open_world.two; rows = d.open_world.rows } })
with_line n last d (two_line ns) =
    unless_repeated ns (record d { open_world = record { name = d.open_world.name; line = d.open_world.line; one = d.open_world.one; two = ns; rows = d.open_world.rows } })
with_line n last d (row_line a b) =
    Ok (record d { open_world = with_rows d.open_world (whole_rows last d); open_row = record { line = n; first = a; second = b; outcomes = [] } })
with_line n last d (to_line w next o1 o2 p) =
    Ok (record d { open_row = with_outcomes d.open_row (d.open_row.outcomes ++ record { line = n; weight = w; next = next; own1 = o1; own2 = o2; public = p } ∷ []) })
with_line n last d (end_line e z) =
    unless_twice (stands_in e (map place_name (whole_places last d)))
    (record d { places = whole_places last d ++ part_end e n z ∷ []; open_world = cleared_world last d; open_row = cleared_row last d })
with_line n last d (root_line r) =
    Ok (record d { places = whole_places last d; open_world = cleared_world last d; open_row = cleared_row last d; root = r; root_line = n })
with_line n last d done_line = Ok d

-- a fault of line n as one of the text
abbrev pub on_line : {A : Type 0} → ℕ → Result A LineFault → Result A TextFault
on_line n (Ok x) = Ok x
on_line n (Err f) = Err (in_line n f)

-- whether a line of a kind is the last one
abbrev pub is_done : Kind → Bool
is_done done_kind = true
is_done _ = false

-- the parts, where nothing follows line n
abbrev pub at_done : ℕ → Draft → List Bytes → Result Draft TextFault
at_done n d ([] ∷ []) = Ok d
at_done n d _ = Err (extra_line (n + 1))

-- what is wrong where no line feed ends line n
abbrev pub cut : ℕ → Bytes → Result Draft TextFault
cut n [] = Err (cut_short n)
cut n (c ∷ cs) = Err (no_newline n)

-- the parts with the lines from line n on, after a line of a kind; the last of the pieces is no line
abbrev pub read_from : ℕ → Kind → Draft → List Bytes → Result Draft TextFault
read_from n last d [] = Err (cut_short n)
read_from n last d (l ∷ []) = cut n l
read_from n last d (l ∷ m ∷ ms) =
    on_line n (line_at last l) >>= λ x. on_line n (with_line n last d x) >>= λ e.
    if is_done (kind_of x) then at_done n e (m ∷ ms) else read_from (n + 1) (kind_of x) e (m ∷ ms)

-- the parts that the lines of a text declare
abbrev pub parts_of : Bytes → Result Draft TextFault
parts_of bytes = read_from 1 start_kind empty (lines bytes)
