-- How many actions, rows and outcomes there are.
use Rattle.std.specs.Prelude.{ℕ, ◌+◌, ◌^◌, Bool, List, length, nat_lt}
use Rattle.lab_math.specs.Sums.{sum_over}
use Rattle.lab_defs_text.specs.Games as model
use Rattle.lab_defs_text.specs.Drafts as draft
use Rattle.lab_defs_text.specs.Assembly as assembly

-- a row and its outcomes
abbrev pub row_size : draft.PartRow → ℕ
row_size r = 1 + length r.outcomes

-- the actions of both seats, the rows and their outcomes
abbrev pub place_size : draft.PartPlace → ℕ
place_size (draft.part_world w) = length w.one + length w.two + sum_over row_size w.rows
place_size (draft.part_end n line z) = 0

-- the actions, rows and outcomes of all places are fewer than 2 ^ 32
abbrev pub sizes_ok : List draft.PartPlace → Bool
sizes_ok ps = nat_lt (sum_over place_size ps) (2 ^ 32)

-- the actions of both seats of a known place
abbrev pub known_actions : assembly.KnownPlace → ℕ
known_actions (assembly.known_world line one two rows) = length one + length two
known_actions (assembly.known_end z) = 0

-- likewise of a place whose rows are placed
abbrev pub placed_actions : assembly.PlacedPlace → ℕ
placed_actions (assembly.placed_world line one two rows) = length one + length two
placed_actions (assembly.placed_end z) = 0

-- likewise of a place of the game
abbrev pub model_actions : model.Place → ℕ
model_actions (model.a_world w) = length w.one + length w.two
model_actions (model.an_end z) = 0
