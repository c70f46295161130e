-- The parts of a tree.
use Rattle.std.specs.Prelude.{ℕ, ◌≡◌, ◌<◌, ◌≤◌, ◌^◌, List, [], length, map, Option, slice_index_or}
use Rattle.lab_defs_text.specs.Games.{GameModel}
use Rattle.lab_unfold.specs.Values.{Unfolded, unfolded}
use Rattle.lab_form.specs.declared.items.Span.{Span}
use Rattle.lab_tree.specs.declared.info.NodeId.{NodeId}
use Rattle.lab_tree.specs.declared.info.RowInfo.{RowInfo}
use Rattle.lab_tree.specs.NodeValues.{NodesValue, nodes_in, end_among}
use Rattle.lab_tree.specs.Paths.{PathsValue, ArePaths, paths_by}
use Rattle.lab_tree.specs.SetValues.{SetsValue, sets_in}
use Rattle.lab_tree.specs.TreeForms.{all_rows, AreFormParts}
use Rattle.lab_tree.specs.Trees.{SeatValue, TreeValue, tree_of}
use Rattle.lab_tree.specs.Ways.{all_paths}

-- the histories, the nodes, for each seat the sets and the items of paths, and for each node its terminal histories
pub record PartsValue : Type 0 where
  pub unfolded : Unfolded
  pub nodes : NodesValue
  pub one : SetsValue
  pub two : SetsValue
  pub paths1 : PathsValue
  pub paths2 : PathsValue
  pub node_rows : List (List RowInfo)

-- the items of the paths of a seat of a game
abbrev pub paths_in : GameModel → ℕ → PathsValue
paths_in g seat = paths_by (sets_in g seat).sets (sets_in g seat).starts (nodes_in g).parents

abbrev pub parts_in : GameModel → PartsValue
parts_in g = record {
  unfolded = unfolded g;
  nodes = nodes_in g;
  one = sets_in g 1;
  two = sets_in g 2;
  paths1 = paths_in g 1;
  paths2 = paths_in g 2;
  node_rows = (tree_of g).node_rows;
}

-- what is said of a seat by its parts
abbrev pub seat_with : SetsValue → PathsValue → List (Option NodeId) → SeatValue
seat_with s p parents = record { sets = s.sets; set_of = s.set_of; node_sets = s.node_sets; spans = s.spans; paths = all_paths p.items s.starts parents }

-- the tree of these parts
abbrev pub tree_with : PartsValue → TreeValue
tree_with v = record {
  unfolded = v.unfolded;
  nodes = v.nodes.nodes;
  node_of = v.nodes.node_of;
  one = seat_with v.one v.paths1 v.nodes.parents;
  two = seat_with v.two v.paths2 v.nodes.parents;
  node_rows = v.node_rows;
}

-- a span of so many sets
abbrev pub IsSpan : ℕ → Span → Type 0
IsSpan n s = (s.from ≤ s.to) × (s.to ≤ n)

-- there is an entry for each history and for each node
pub record AreSeatParts (histories nodes : ℕ) (s : SetsValue) : Type 0 where
  pub set_of : length s.set_of ≡ histories
  pub node_sets : length s.node_sets ≡ nodes
  pub spans : length s.spans ≡ nodes
  pub few : length s.sets < 2 ^ 32
  pub inside : (n : ℕ) → n < length s.spans → IsSpan (length s.sets) (slice_index_or s.spans n (record { from = 0; to = 0 }))

-- that of all parts, and they make a form and ways
pub record AreParts (v : PartsValue) : Type 0 where
  pub node_of : length v.nodes.node_of ≡ length v.unfolded.items
  pub parents : length v.nodes.parents ≡ length v.nodes.nodes
  pub ends : v.nodes.ends ≡ map (end_among v.nodes.nodes) v.nodes.nodes
  pub after : (n : ℕ) → n < length v.nodes.nodes → n ≤ end_among v.nodes.nodes (slice_index_or v.nodes.nodes n [])
  pub one : AreSeatParts (length v.unfolded.items) (length v.nodes.nodes) v.one
  pub two : AreSeatParts (length v.unfolded.items) (length v.nodes.nodes) v.two
  pub paths1 : ArePaths v.paths1 v.one.starts v.nodes.parents
  pub paths2 : ArePaths v.paths2 v.two.starts v.nodes.parents
  pub node_rows : length v.node_rows ≡ length v.nodes.nodes
  pub form : AreFormParts v.one.sets v.two.sets (all_rows (tree_with v))
  pub few : length (all_rows (tree_with v)) < 2 ^ 32

-- what the sets of a seat say of it
pub record IsSeatValue (v : SeatValue) (s : SetsValue) : Type 0 where
  pub set_of : s.set_of ≡ v.set_of
  pub node_sets : s.node_sets ≡ v.node_sets
  pub spans : s.spans ≡ v.spans
