-- The form of a subgame of a tree.
use Rattle.std.specs.Prelude.{ℕ, ◌≡◌, ◌<◌, ◌≤◌, List, [], length, map, flat_map, slice_index_or, slice_range}
use Rattle.lab_defs_text.specs.Games.{GameModel}
use Rattle.lab_defs_game.specs.Accepted.{IsAccepted}
use Rattle.lab_defs_game.specs.Nodes.{nodes}
use Rattle.lab_defs_game.specs.Seats.{IsSeat}
use Rattle.lab_defs_value.specs.Subgames.{subgame_form}
use Rattle.lab_form.specs.declared.items.Span.{Span}
use Rattle.lab_form.specs.Forms.{FormValue, form_model}
use Rattle.lab_tree.specs.declared.info.RowInfo.{RowInfo}
use Rattle.lab_tree.specs.NodeValues.{end_among}
use Rattle.lab_tree.specs.Subforms.{SubgameParts, inner_sets, inner_row}
use Rattle.lab_tree.specs.Trees.{SeatValue, TreeValue, tree_of}

-- the sets of a seat inside the subgame of a node
abbrev pub span_of : SeatValue → ℕ → Span
span_of v node = slice_index_or v.spans node (record { from = 0; to = 0 })

-- what the subgame of a node is made of, where a keeper has these weights
abbrev pub parts_at : TreeValue → (keeper node : ℕ) → List ℕ → SubgameParts
parts_at t keeper node weights = record {
  keeper = keeper;
  weights = weights;
  one = t.one.sets;
  two = t.two.sets;
  span1 = span_of t.one node;
  span2 = span_of t.two node;
  most1 = t.unfolded.scale.most1;
  most2 = t.unfolded.scale.most2;
}

-- the rows of the nodes inside the subgame of a node, node by node
abbrev pub rows_inside : TreeValue → ℕ → List RowInfo
rows_inside t node = flat_map (λ rows. rows) (slice_range t.node_rows node (end_among t.nodes (slice_index_or t.nodes node [])))

-- the form of the subgame of a node, where a keeper has these weights, with room
abbrev pub tree_subgame : TreeValue → (keeper node : ℕ) → List ℕ → (set_room row_room : ℕ) → FormValue
tree_subgame t keeper node weights set_room row_room = let p = parts_at t keeper node weights in record {
  sets1 = inner_sets p.one p.span1;
  sets2 = inner_sets p.two p.span2;
  rows = map (inner_row p) (rows_inside t node);
  set_room = set_room;
  row_room = row_room;
}

-- no more sets of a seat and no more rows than there is room for
pub record FitsRoom (f : FormValue) : Type 0 where
  pub sets1 : length f.sets1 ≤ f.set_room
  pub sets2 : length f.sets2 ≤ f.set_room
  pub rows : length f.rows ≤ f.row_room

-- in an accepted game it is the form of the game's subgame, whatever the room
abbrev pub SubgameFormLaw : Type 0
SubgameFormLaw = (g : GameModel) → IsAccepted g → (keeper : ℕ) → IsSeat keeper → (node : ℕ) → node < length (nodes g) → (weights : List ℕ) (set_room row_room : ℕ)
    → form_model (tree_subgame (tree_of g) keeper node weights set_room row_room) ≡ subgame_form g keeper (slice_index_or (nodes g) node []) weights
