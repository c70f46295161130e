-- The gadgets for the subgame of the fork where seat 2 went in, seat 1 being the keeper.
use Rattle.std.specs.Prelude.{ℕ, ℤ, pos, negsuc, List, [], ◌∷◌, Option}
use Rattle.lab_defs_game.specs.Paths.{SetAction}
use Rattle.lab_defs_game.specs.Forms.{FormSet, Row, Form}
use Rattle.lab_defs_value.specs.Allowances.{Rule}
use Rattle.lab_defs_value.specs.Gadgets.{gadget_form}
use Rattle.lab_examples.specs.Games.{at, fork}

-- the gadget of a rule, by the uniform table and bounds of 10 before the game and of 2 and 3 at the root sets
abbrev pub gadget_by : Rule → Form
gadget_by rule = gadget_form fork rule 1 (1 ∷ []) (2 ∷ 1 ∷ []) (pos 10 ∷ pos 2 ∷ pos 3 ∷ [])

abbrev pub set_after : Option SetAction → ℕ → FormSet
set_after parent actions = record { parent = parent; actions = actions }

-- a row inside: what it is worth, the action of seat 1, and the way of seat 2
abbrev pub inner : ℤ → ℕ → List SetAction → Row
inner worth action path = record { worth = worth; path1 = at 0 action ∷ []; path2 = path; pad1 = 0; pad2 = 1 }

-- a further row: what it is worth, and the one step of seat 2
abbrev pub further : ℤ → SetAction → Row
further worth step = record { worth = worth; path1 = []; path2 = step ∷ []; pad1 = 0; pad2 = 1 }

-- the rows inside, where seat 2 enters its first root set by one way and its second by another
abbrev pub entered_by : (one two : List SetAction) → List Row
entered_by one two = inner (negsuc 0) 0 one ∷ inner (pos 1) 1 one ∷ inner (negsuc 0) 0 two ∷ inner (pos 0) 1 two ∷ []
