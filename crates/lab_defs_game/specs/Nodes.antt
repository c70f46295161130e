-- Nodes, subgames, the sets inside them and on the way to them.
use Rattle.std.specs.Prelude.{ℕ, ◌+◌, List, [], ◌∷◌, length, map, flat_map, filter, take, slice_index_or, Bool, true, false, ◌&&◌, ◌==◌, nat_lt, Option, Some, None}
use Rattle.std.specs.List.{range_with_len}
use Rattle.std.specs.Ordering.{is_lt, is_eq}
use Rattle.lab_defs_text.specs.Games.{GameModel}
use Rattle.lab_defs_game.specs.Keys.{count, in_order, number_of, list_cmp}
use Rattle.lab_defs_game.specs.Histories.{History, histories, terminal_histories}
use Rattle.lab_defs_game.specs.Sets.{Item, public_list, publics, sets, set_number}
use Rattle.lab_defs_game.specs.Paths.{SetAction, parent, followers}

-- ---- nodes

-- the nodes of a game in order, each by its public list
abbrev pub nodes : GameModel → List (List ℕ)
nodes g = in_order list_cmp (map (public_list g) (histories g))

-- the number of a node
abbrev pub node_number : GameModel → List ℕ → ℕ
node_number g node = number_of list_cmp (nodes g) node

-- the number of the node of a history
abbrev pub node_of : GameModel → History → ℕ
node_of g h = node_number g (public_list g h)

-- how many steps the histories of a node have
abbrev pub depth : List ℕ → ℕ
depth node = length node

-- the terminal histories of a node
abbrev pub node_ends : GameModel → List ℕ → List History
node_ends g node = filter (λ h. is_eq (list_cmp (public_list g h) node)) (terminal_histories g)

-- the terminal histories node by node, those of a node as histories are numbered: the order of the rows of a game
abbrev pub ends_by_nodes : GameModel → List History
ends_by_nodes g = flat_map (node_ends g) (nodes g)

-- the sets of a seat at a node, in set order
abbrev pub node_sets : GameModel → ℕ → List ℕ → List (List Item)
node_sets g seat node = filter (λ s. is_eq (list_cmp (publics s) node)) (sets g seat)

-- ---- subgames

-- whether the first list begins the second
abbrev pub begins : List ℕ → List ℕ → Bool
begins [] ys = true
begins (x ∷ xs) [] = false
begins (x ∷ xs) (y ∷ ys) = (x == y) && begins xs ys

-- the sets of a seat inside the subgame of a node, in set order
abbrev pub sets_inside : GameModel → ℕ → List ℕ → List (List Item)
sets_inside g seat node = filter (λ s. begins node (publics s)) (sets g seat)

-- the number of the first set of a seat inside a subgame
abbrev pub span_from : GameModel → ℕ → List ℕ → ℕ
span_from g seat node = count (λ s. is_lt (list_cmp (publics s) node)) (sets g seat)

-- the number after that of the last set inside
abbrev pub span_to : GameModel → ℕ → List ℕ → ℕ
span_to g seat node = span_from g seat node + count (λ s. begins node (publics s)) (sets g seat)

-- ---- paths

-- the sets of a seat at each node from the root to this one, in their order
abbrev pub path : GameModel → ℕ → List ℕ → List (List Item)
path g seat node = filter (λ s. begins (publics s) node) (sets g seat)

-- which item of a path a set follows, by which action, and as which of how many
pub record Follow : Type 0 where
  pub before : ℕ
  pub action : ℕ
  pub place : ℕ
  pub total : ℕ

-- what a path says of a set
pub record PathItem : Type 0 where
  pub set : ℕ
  pub follows : Option Follow

-- how many of some sets follow a step
abbrev pub following : GameModel → ℕ → SetAction → List (List Item) → ℕ
following g seat t ss = length (followers (parent g seat) ss t)

-- how many sets of a path have a number below this one: the place of the set with this number
abbrev pub path_place : GameModel → ℕ → List ℕ → ℕ → ℕ
path_place g seat node number = count (λ s. nat_lt (set_number g seat s) number) (path g seat node)

-- how the i-th set of a path follows
abbrev pub follow_at : GameModel → ℕ → List ℕ → ℕ → Option SetAction → Option Follow
follow_at g seat node i None = None
follow_at g seat node i (Some t) = Some (record {
  before = path_place g seat node t.set;
  action = t.action;
  place = following g seat t (take i (path g seat node));
  total = following g seat t (path g seat node);
})

-- the i-th item of a path
abbrev pub path_item : GameModel → ℕ → List ℕ → ℕ → PathItem
path_item g seat node i =
    let s = slice_index_or (path g seat node) i [] in
    record { set = set_number g seat s; follows = follow_at g seat node i (parent g seat s) }

-- the items of a path
abbrev pub path_items : GameModel → ℕ → List ℕ → List PathItem
path_items g seat node = map (path_item g seat node) (range_with_len 0 (length (path g seat node)))

-- ---- by number

-- the public list of the set with a number
abbrev pub public_of : GameModel → ℕ → ℕ → List ℕ
public_of g seat I = publics (slice_index_or (sets g seat) I [])

-- the numbers of a seat's sets on the path to a node
abbrev pub path_sets : GameModel → ℕ → List ℕ → List ℕ
path_sets g seat node = map (set_number g seat) (path g seat node)

-- the numbers of those at the node itself, the root sets of its subgame
abbrev pub root_sets : GameModel → ℕ → List ℕ → List ℕ
root_sets g seat node = map (set_number g seat) (node_sets g seat node)

-- the numbers of those inside its subgame
abbrev pub subgame_sets : GameModel → ℕ → List ℕ → List ℕ
subgame_sets g seat node = map (set_number g seat) (sets_inside g seat node)
