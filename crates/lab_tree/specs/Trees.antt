-- The tree of a game, as the program has it.
use Rattle.std.specs.Prelude.{ℕ, ◌*ℤ◌, pos, List, [], ◌∷◌, map, if◌then◌else◌, ◌==◌, Option, Some, None}
use Rattle.std.specs.Option.{option_map}
use Rattle.std.specs.Ordering.{on, then_cmp}
use Rattle.std.specs.declared.cmp.Ordering.{Ordering}
use Rattle.lab_defs_text.specs.Games.{GameModel}
use Rattle.lab_defs_text.specs.Texts.{is_world}
use Rattle.lab_defs_game.specs.Keys.{number_of, list_cmp}
use Rattle.lab_defs_game.specs.Laws.{history_cmp}
use Rattle.lab_defs_game.specs.Histories.{History, histories, terminal_histories, place_of, payoff}
use Rattle.lab_defs_game.specs.Sets as model
use Rattle.lab_defs_game.specs.Forms.{game_actions}
use Rattle.lab_defs_game.specs.Paths.{SetAction, parent}
use Rattle.lab_defs_game.specs.Chance.{chance}
use Rattle.lab_defs_game.specs.Nodes as nodes
use Rattle.lab_defs_value.specs.Tables.{first_weight}
use Rattle.lab_form.specs.declared.items.SetId.{SetId}
use Rattle.lab_form.specs.declared.items.Span.{Span}
use Rattle.lab_unfold.specs.Values.{Unfolded, unfolded, history_number}
use Rattle.lab_tree.specs.declared.info.NodeId.{NodeId}
use Rattle.lab_tree.specs.declared.info.SetInfo.{SetInfo}
use Rattle.lab_tree.specs.declared.info.RowInfo.{RowInfo}
use Rattle.lab_tree.specs.declared.info.Follow.{Follow}
use Rattle.lab_tree.specs.declared.info.PathItem.{PathItem}

-- what the tree says of a seat: its sets in order, the set of each history that is not terminal, and for each node the sets at it, those inside its subgame, and those on the way to it
pub record SeatValue : Type 0 where
  pub sets : List SetInfo
  pub set_of : List (Option SetId)
  pub node_sets : List (List SetInfo)
  pub spans : List Span
  pub paths : List (List PathItem)

-- the histories, the nodes in order by their public lists, the node of each history, what it says of each seat, and for each node its terminal histories
pub record TreeValue : Type 0 where
  pub unfolded : Unfolded
  pub nodes : List (List ℕ)
  pub node_of : List NodeId
  pub one : SeatValue
  pub two : SeatValue
  pub node_rows : List (List RowInfo)

-- what it says of a seat, 1 or 2
abbrev pub seat_of : TreeValue → ℕ → SeatValue
seat_of t seat = if seat == 1 then t.one else t.two

-- ---- sets

abbrev pub set_id : ℕ → SetId
set_id n = record { 0 = n }

abbrev pub node_id : ℕ → NodeId
node_id n = record { 0 = n }

-- a set and the action there, as the program has them
abbrev pub taken_in : SetAction → SetId × ℕ
taken_in t = (set_id t.set, t.action)

abbrev pub set_in : GameModel → ℕ → List model.Item → SetInfo
set_in g seat s = record {
  id = set_id (model.set_number g seat s);
  node = node_id (nodes.node_number g (model.publics s));
  parent = option_map taken_in (parent g seat s);
  actions = model.set_actions g seat s;
  first_weight = first_weight (game_actions g seat) (model.set_number g seat s);
}

-- the set of a history, unless it is terminal
abbrev pub set_at : GameModel → ℕ → History → Option SetId
set_at g seat h = if is_world (place_of g h) then Some (set_id (model.set_number g seat (model.seen g seat h))) else None

abbrev pub span_in : GameModel → ℕ → List ℕ → Span
span_in g seat node = record { from = nodes.span_from g seat node; to = nodes.span_to g seat node }

-- ---- paths

abbrev pub follow_in : nodes.Follow → Follow
follow_in f = record { from = f.before; action = f.action; place = f.place; count = f.total }

abbrev pub path_item_in : nodes.PathItem → PathItem
path_item_in i = record { set = set_id i.set; follows = option_map follow_in i.follows }

-- ---- rows

-- terminal histories by their nodes, and then as histories are numbered
abbrev pub row_cmp : GameModel → History → History → Ordering
row_cmp g = then_cmp (on (model.public_list g) list_cmp) history_cmp

-- the last set of a seat on a terminal history, with the action there
abbrev pub last_in : GameModel → ℕ → History → SetId × ℕ
last_in g seat h = taken_in (elim (parent g seat (model.seen g seat h)) [ Some t ↦ t | None ↦ record { set = 0; action = 0 } ])

abbrev pub row_in : GameModel → History → RowInfo
row_in g h = record {
  id = record { 0 = number_of (row_cmp g) (terminal_histories g) h };
  history = record { 0 = history_number g h };
  worth = record { 0 = pos (chance g h) *ℤ payoff g h };
  last = last_in g 1 h ∷ last_in g 2 h ∷ [];
}

-- ---- the tree

abbrev pub seat_in : GameModel → ℕ → SeatValue
seat_in g seat = record {
  sets = map (set_in g seat) (model.sets g seat);
  set_of = map (set_at g seat) (histories g);
  node_sets = map (λ p. map (set_in g seat) (nodes.node_sets g seat p)) (nodes.nodes g);
  spans = map (span_in g seat) (nodes.nodes g);
  paths = map (λ p. map path_item_in (nodes.path_items g seat p)) (nodes.nodes g);
}

-- the tree of a game
abbrev pub tree_of : GameModel → TreeValue
tree_of g = record {
  unfolded = unfolded g;
  nodes = nodes.nodes g;
  node_of = map (λ h. node_id (nodes.node_of g h)) (histories g);
  one = seat_in g 1;
  two = seat_in g 2;
  node_rows = map (λ p. map (row_in g) (nodes.node_ends g p)) (nodes.nodes g);
}
