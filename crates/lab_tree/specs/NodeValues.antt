-- The nodes of a game, as the program has them.
use Rattle.std.specs.Prelude.{ℕ, ◌≡◌, ◌+◌, ◌<◌, List, [], ◌∷◌, length, map, Option, Some, None}
use Rattle.std.specs.declared.cmp.Ordering.{Ordering}
use Rattle.std.specs.Ordering.{nat_cmp, ordering_then}
use Rattle.lab_defs_text.specs.Games.{GameModel}
use Rattle.lab_defs_game.specs.Keys.{count, number_of, list_cmp}
use Rattle.lab_defs_game.specs.Histories.{histories}
use Rattle.lab_defs_game.specs.Sets.{public_list}
use Rattle.lab_defs_game.specs.Nodes as nodes
use Rattle.lab_tree.specs.declared.info.NodeId.{NodeId}
use Rattle.lab_unfold.specs.Parents.{history_at}
use Rattle.lab_tree.specs.Trees.{node_id}

-- the nodes in order by their public lists, the node of each history, the parent of each node, and the number after that of the last node of its subgame
pub record NodesValue : Type 0 where
  pub nodes : List (List ℕ)
  pub node_of : List NodeId
  pub parents : List (Option NodeId)
  pub ends : List ℕ

-- a list without the last token
abbrev pub without_last : List ℕ → List ℕ
without_last [] = []
without_last (t ∷ []) = []
without_last (t ∷ u ∷ ts) = t ∷ without_last (u ∷ ts)

-- the node whose list is without the last token, none of the root
abbrev pub parent_node : GameModel → List ℕ → Option NodeId
parent_node g [] = None
parent_node g (t ∷ ts) = Some (node_id (nodes.node_number g (without_last (t ∷ ts))))

-- the number after that of the last of these keys that a key begins
abbrev pub end_among : List (List ℕ) → List ℕ → ℕ
end_among keys k = number_of list_cmp keys k + count (nodes.begins k) keys

-- the number after that of the last node of a subgame
abbrev pub node_end : GameModel → List ℕ → ℕ
node_end g node = end_among (nodes.nodes g) node

abbrev pub nodes_in : GameModel → NodesValue
nodes_in g = record {
  nodes = nodes.nodes g;
  node_of = map (λ h. node_id (nodes.node_of g h)) (histories g);
  parents = map (parent_node g) (nodes.nodes g);
  ends = map (node_end g) (nodes.nodes g);
}

-- keys without the numbers beside them
abbrev pub keys_in : {K : Type 0} → List (K × ℕ) → List K
keys_in order = map (λ p. p.0) order

-- a public list beside the number of a history that has it
abbrev pub HasList : GameModel → List ℕ × ℕ → Type 0
HasList g p = (p.1 < length (histories g)) × (public_list g (history_at g p.1) ≡ p.0)

-- by key, then by number
abbrev pub pair_cmp : {K : Type 0} → (K → K → Ordering) → K × ℕ → K × ℕ → Ordering
pair_cmp R x y = ordering_then (R x.0 y.0) (nat_cmp x.1 y.1)
