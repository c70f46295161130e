-- Laws of the ways of a game's tree.
use Rattle.std.specs.Prelude.{ℕ, ◌≡◌, ◌+◌, ◌<◌, List, [], ◌∷◌, ◌++◌, length, map, nat_lt, Option, Some, None, slice_index, slice_index_or}
use Rattle.lab_defs_text.specs.Games.{GameModel}
use Rattle.lab_defs_game.specs.Keys.{count}
use Rattle.lab_defs_game.specs.Nodes.{nodes, node_number}
use Rattle.lab_defs_game.specs.Sets.{sets}
use Rattle.lab_tree.specs.declared.info.NodeId.{NodeId}
use Rattle.lab_tree.specs.declared.info.SetInfo.{SetInfo}
use Rattle.lab_tree.specs.Trees.{set_in, seat_in}
use Rattle.lab_tree.specs.Ways.{AreWays, bases_of, all_paths}
use Rattle.lab_tree.specs.Places.{AreAtNodes, AreGrouped, items_of}

-- the sets of a seat of a game's tree
abbrev pub tree_sets : GameModel → ℕ → List SetInfo
tree_sets g seat = map (set_in g seat) (sets g seat)

-- for each node, and after the last one, how many sets are at nodes before it
pub record AreStarts (g : GameModel) (sets : List SetInfo) (starts : List ℕ) : Type 0 where
  pub long : length starts ≡ length (nodes g) + 1
  pub is : (n : ℕ) → n < length starts → slice_index starts n ≡ count (λ s. nat_lt s.node.0 n) sets

-- the node whose list is without the last token, none for the root
abbrev pub IsParentNode : GameModel → List ℕ → Option NodeId → Type 0
IsParentNode g node None = node ≡ []
IsParentNode g node (Some q) = (p : List ℕ) × (x : ℕ) × (node ≡ p ++ x ∷ []) × (q.0 ≡ node_number g p)

-- that of each node
pub record AreParents (g : GameModel) (parents : List (Option NodeId)) : Type 0 where
  pub long : length parents ≡ length (nodes g)
  pub is : (n : ℕ) → n < length parents → IsParentNode g (slice_index_or (nodes g) n []) (slice_index_or parents n None)

-- parents and starts of a game's tree are ways
abbrev pub WayLaw : Type 0
WayLaw = (g : GameModel) (seat : ℕ) (starts : List ℕ) (parents : List (Option NodeId)) → AreStarts g (tree_sets g seat) starts → AreParents g parents → AreWays (length (tree_sets g seat)) starts parents

-- the sets of a game's tree are after where those of their nodes begin, and follow earlier ones
abbrev pub AtNodesLaw : Type 0
AtNodesLaw = (g : GameModel) (seat : ℕ) (starts : List ℕ) (parents : List (Option NodeId)) → AreStarts g (tree_sets g seat) starts → AreParents g parents
    → AreAtNodes (tree_sets g seat) starts (bases_of starts parents)

-- those that follow the same step at the same node are side by side
abbrev pub GroupedLaw : Type 0
GroupedLaw = (g : GameModel) (seat : ℕ) → AreGrouped (tree_sets g seat)

-- the sets on the way to a node, as items, are the items of its path
abbrev pub PathsLaw : Type 0
PathsLaw = (g : GameModel) (seat : ℕ) (starts : List ℕ) (parents : List (Option NodeId)) → AreStarts g (tree_sets g seat) starts → AreParents g parents
    → all_paths (items_of (tree_sets g seat) starts (bases_of starts parents)) starts parents ≡ (seat_in g seat).paths
