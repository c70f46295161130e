-- Bounds settled after a splice: those inside the subgame and on the path above it are found anew.
use Rattle.std.specs.Prelude.{ℕ, ℤ, List, [], ◌∷◌, length, map, filter, not, ◌==◌, if◌then◌else◌, slice_index}
use Rattle.std.specs.List.{range_with_len}
use Rattle.lab_math.specs.Greatest.{greatest_of}
use Rattle.lab_defs_text.specs.Games.{GameModel}
use Rattle.lab_defs_text.specs.Texts.{one_of}
use Rattle.lab_defs_game.specs.Seats.{other}
use Rattle.lab_defs_game.specs.Sets.{sets}
use Rattle.lab_defs_game.specs.Nodes.{path_sets, subgame_sets}
use Rattle.lab_defs_value.specs.Replies.{Strategy, strategy_of, reply_sets}
use Rattle.lab_defs_value.specs.BestValues.{best_response_value}
use Rattle.lab_defs_value.specs.Bounds.{at, through}

-- bounds with another one at the set J
abbrev pub with_bound : (ℕ → ℤ) → (J : ℕ) → (bound : ℤ) → ℕ → ℤ
with_bound B J bound I = if I == J then bound else B I

-- the greatest that the actions of the set J back up
abbrev pub greatest_through : Strategy → (ℕ → ℤ) → ℕ → ℤ
greatest_through s B J = greatest_of (map (through s B J) (range_with_len 0 (slice_index (reply_sets s) J)))

-- bounds with those of some sets found anew, from the last of them back to the first: the greatest that the actions of each back up
abbrev pub settled_along : Strategy → (above : List ℕ) → (ℕ → ℤ) → ℕ → ℤ
settled_along s [] B = B
settled_along s (J ∷ above) B = let C = settled_along s above B in with_bound C J (greatest_through s C J)

-- bounds settled: the best-response value at the sets inside, what the actions back up at the sets above, and at each other set the bound as it is
abbrev pub settled : Strategy → (above inside : List ℕ) → (ℕ → ℤ) → ℕ → ℤ
settled s above inside B = settled_along s above (λ I. if one_of inside I then best_response_value s I else B I)

-- the sets of a seat on the path to a node that are above it
abbrev pub sets_above : GameModel → ℕ → List ℕ → List ℕ
sets_above g seat node = filter (λ I. not (one_of (subgame_sets g seat node) I)) (path_sets g seat node)

-- the bounds of a table of the keeper, settled for the subgame of a node
abbrev pub settled_bounds : GameModel → (keeper : ℕ) → (node table : List ℕ) → List ℤ → List ℤ
settled_bounds g keeper node table bounds =
    map (settled (strategy_of g keeper table) (sets_above g (other keeper) node) (subgame_sets g (other keeper) node) (at bounds)) (range_with_len 0 (length (sets g (other keeper))))
