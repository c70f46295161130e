-- The parts of a game of one toss, as the definitions have them.
use Rattle.std.specs.Prelude.{[], ◌∷◌, pos}
use lib.Chars.{codes}
use Rattle.lab_defs_text.specs.Words.{Bytes}
use Rattle.lab_defs_text.specs.Games.{by_acts}
use Rattle.lab_defs_text.specs.Drafts as draft

-- an outcome that leads to the end
abbrev pub win_outcome : draft.PartOutcome
win_outcome = record { line = 10; weight = 1; next = codes "win"; own1 = codes "-"; own2 = codes "-"; public = codes "-" }

-- the row of the one joint action
abbrev pub win_row : draft.PartRow
win_row = record { line = 9; first = codes "s"; second = codes "s"; outcomes = win_outcome ∷ [] }

-- a world where each seat has one action
abbrev pub toss_world : (name : Bytes) → draft.PartPlace
toss_world name = draft.part_world (record { name = name; line = 6; one = codes "s" ∷ []; two = codes "s" ∷ []; rows = win_row ∷ [] })

-- a toss and its end; the root is the place with this name
abbrev pub toss_of : (root : Bytes) → draft.Draft
toss_of root = record {
  grid = 3;
  horizon = 1;
  recall = by_acts;
  tokens = codes "-" ∷ [];
  places = toss_world (codes "toss") ∷ draft.part_end (codes "win") 11 (pos 1) ∷ [];
  open_world = draft.no_world;
  open_row = draft.no_row;
  root = root;
  root_line = 12;
}
