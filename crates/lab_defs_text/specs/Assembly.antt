-- The game that parts make, or the first fault: names first, then joint actions, then their rows in order, then the root.
use Rattle.std.specs.Prelude.{ℕ, ◌+◌, ◌*◌, ◌/◌, ◌%◌, Bool, List, [], ◌∷◌, ◌++◌, length, map, position, Option, Some, None, Result, Ok, Err, ◌==◌, if◌then◌else◌, ℤ, pos, slice_index_or}
use Rattle.std.specs.List.{list_any, range_with_len}
use Rattle.std.specs.Str.{bytes_eq}
use Rattle.lab_defs_text.specs.Faults.{TextFault, unknown_name, extra_row, missing_row, no_root}
use Rattle.lab_defs_text.specs.Steps.{◌>>=◌, each}
use Rattle.lab_defs_text.specs.Words.{Bytes}
use Rattle.lab_defs_text.specs.Games.{GameModel, Place, a_world, an_end, Outcome}
use Rattle.lab_defs_text.specs.Texts.{is_world}
use Rattle.lab_defs_text.specs.Drafts.{Draft, PartPlace, part_world, part_end, PartRow, PartOutcome, place_name}

-- what is there, or a fault
abbrev pub or_fault : {A : Type 0} → TextFault → Option A → Result A TextFault
or_fault e None = Err e
or_fault e (Some x) = Ok x

-- the number of a name
abbrev pub name_number : List Bytes → Bytes → Option ℕ
name_number ns n = position (bytes_eq n) ns

-- the number of the name at a place of a line
abbrev pub known : List Bytes → ℕ → ℕ → Bytes → Result ℕ TextFault
known ns line place n = or_fault (unknown_name line place) (name_number ns n)

-- ---- names to numbers

-- an outcome by numbers
abbrev pub known_outcome : List Bytes → List Bytes → PartOutcome → Result Outcome TextFault
known_outcome names tokens o =
    known names o.line 3 o.next >>= λ n. known tokens o.line 4 o.own1 >>= λ x. known tokens o.line 5 o.own2 >>= λ y. known tokens o.line 6 o.public >>= λ p.
    Ok (record { weight = o.weight; next = n; own1 = x; own2 = y; public = p })

-- a row whose outcomes are known
pub record KnownRow : Type 0 where
  pub line : ℕ
  pub first : Bytes
  pub second : Bytes
  pub outcomes : List Outcome

-- a place whose outcomes are known
pub data KnownPlace : Type 0 where
  known_world : (line : ℕ) (one two : List Bytes) (rows : List KnownRow) → KnownPlace
  known_end : (payoff : ℤ) → KnownPlace

-- the outcomes of a row by numbers
abbrev pub known_row : List Bytes → List Bytes → PartRow → Result KnownRow TextFault
known_row names tokens r = each (known_outcome names tokens) r.outcomes >>= λ os. Ok (record { line = r.line; first = r.first; second = r.second; outcomes = os })

-- the outcomes of a place by numbers
abbrev pub known_place : List Bytes → List Bytes → PartPlace → Result KnownPlace TextFault
known_place names tokens (part_world w) = each (known_row names tokens) w.rows >>= λ rs. Ok (known_world w.line w.one w.two rs)
known_place names tokens (part_end n line z) = Ok (known_end z)

-- ---- rows to their joint actions

-- the outcomes of the joint action with a number
pub record PlacedRow : Type 0 where
  pub number : ℕ
  pub outcomes : List Outcome

-- whether a joint action has a row
abbrev pub taken : ℕ → List PlacedRow → Bool
taken k ps = list_any (λ (p : PlacedRow). p.number == k) ps

-- a joint action that must be new
abbrev pub unless_taken : ℕ → ℕ → List PlacedRow → Result ℕ TextFault
unless_taken line k before = if taken k before then Err (extra_row line) else Ok k

-- the number of the joint action of a row
abbrev pub action_of : List Bytes → List Bytes → KnownRow → Result ℕ TextFault
action_of one two r =
    or_fault (extra_row r.line) (name_number one r.first) >>= λ i. or_fault (extra_row r.line) (name_number two r.second) >>= λ j. Ok (i * length two + j)

-- rows by their joint actions, each of which is new
abbrev pub place_rows : List Bytes → List Bytes → List PlacedRow → List KnownRow → Result (List PlacedRow) TextFault
place_rows one two before [] = Ok []
place_rows one two before (r ∷ rs) =
    action_of one two r >>= λ k. unless_taken r.line k before >>= λ i.
    place_rows one two (before ++ record { number = k; outcomes = r.outcomes } ∷ []) rs >>= λ ps. Ok (record { number = k; outcomes = r.outcomes } ∷ ps)

-- a place whose rows have their joint actions
pub data PlacedPlace : Type 0 where
  placed_world : (line : ℕ) (one two : List Bytes) (rows : List PlacedRow) → PlacedPlace
  placed_end : (payoff : ℤ) → PlacedPlace

-- the rows of a place by their joint actions
abbrev pub placed : KnownPlace → Result PlacedPlace TextFault
placed (known_world line one two rows) = place_rows one two [] rows >>= λ ps. Ok (placed_world line one two ps)
placed (known_end z) = Ok (placed_end z)

-- ---- rows in the order of joint actions

-- the outcomes of a joint action
abbrev pub row_numbered : ℕ → List PlacedRow → Option (List Outcome)
row_numbered k [] = None
row_numbered k (p ∷ ps) = if p.number == k then Some p.outcomes else row_numbered k ps

-- the outcomes that a joint action must have, m being the number of seat 2's actions
abbrev pub row_at : ℕ → ℕ → List PlacedRow → ℕ → Result (List Outcome) TextFault
row_at line m ps k = or_fault (missing_row line (k / m) (k % m)) (row_numbered k ps)

-- a place with a row for each joint action
abbrev pub ordered : PlacedPlace → Result Place TextFault
ordered (placed_world line one two ps) =
    each (row_at line (length two) ps) (range_with_len 0 (length one * length two)) >>= λ rows. Ok (a_world (record { one = one; two = two; rows = rows }))
ordered (placed_end z) = Ok (an_end z)

-- ---- the game

-- whether the place with a number is a world
abbrev pub is_world_at : ℕ → List Place → Bool
is_world_at n ps = is_world (slice_index_or ps n (an_end (pos 0)))

-- the game that parts make
abbrev pub assembled : Draft → Result GameModel TextFault
assembled d =
    each (known_place (map place_name d.places) d.tokens) d.places >>= λ ks.
    known (map place_name d.places) d.root_line 2 d.root >>= λ r.
    each placed ks >>= λ ps.
    each ordered ps >>= λ places.
    if is_world_at r places then Ok (record { grid = d.grid; horizon = d.horizon; recall = d.recall; tokens = d.tokens; names = map place_name d.places; places = places; root = r })
    else Err (no_root d.root_line)
