-- Terminal histories by their nodes.
use Rattle.std.specs.Prelude.{ℕ, ◌≡◌, ◌+◌, ◌≤◌, List, [], ◌∷◌, map, slice_range, nat_lt}
use Rattle.std.specs.List.{range_with_len}
use Rattle.lab_defs_game.specs.Keys.{count}
use Rattle.lab_defs_text.specs.Games.{GameModel}
use Rattle.lab_defs_game.specs.Histories.{History}
use Rattle.lab_defs_game.specs.Nodes.{node_of}
use Rattle.lab_unfold.specs.Values.{history_number}
use Rattle.lab_tree.specs.declared.end.End.{End}

-- a terminal history as the program has it
abbrev pub end_in : GameModel → History → End
end_in g h = record { node = node_of g h; history = history_number g h }

-- the parts of a list that begin at these places, each up to where the next one begins
abbrev pub parts_of : {X : Type 0} → List ℕ → List X → List (List X)
parts_of [] xs = []
parts_of (a ∷ []) xs = []
parts_of (a ∷ b ∷ bs) xs = slice_range xs a b ∷ parts_of (b ∷ bs) xs

-- places that do not fall, the first one being a and the end of the last part n
abbrev pub CutsFrom : ℕ → List ℕ → ℕ → Type 0
CutsFrom a [] n = a ≡ n
CutsFrom a (b ∷ bs) n = (a ≤ b) × CutsFrom b bs n

-- the places where the parts of a list of n elements begin, and where it ends
abbrev pub AreCuts : List ℕ → ℕ → Type 0
AreCuts [] n = ⊥
AreCuts (a ∷ bs) n = (a ≡ 0) × CutsFrom a bs n

-- how many of these terminal histories are at nodes before one
abbrev pub ends_before : List End → ℕ → ℕ
ends_before ends node = count (λ e. nat_lt e.node node) ends

-- for each of so many nodes, and after the last one, how many are at nodes before
abbrev pub end_starts : List End → ℕ → List ℕ
end_starts ends nodes = map (ends_before ends) (range_with_len 0 (nodes + 1))
