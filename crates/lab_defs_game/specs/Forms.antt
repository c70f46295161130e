-- Forms: the information sets of each seat and the rows, by which a game, a subgame, a gadget or another game can be given.
use Rattle.std.specs.Prelude.{ℕ, zero, suc, ◌-◌, ℤ, pos, ◌*ℤ◌, List, [], ◌∷◌, ◌++◌, length, map, Bool, ◌==◌, nat_le, if◌then◌else◌, slice_index, slice_index_or, Option, Some, None}
use Rattle.lab_defs_text.specs.Games.{GameModel}
use Rattle.lab_defs_game.specs.Keys.{count}
use Rattle.lab_defs_game.specs.Histories.{History, payoff}
use Rattle.lab_defs_game.specs.Sets.{Item, sets, set_actions, most_decisions}
use Rattle.lab_defs_game.specs.Chance.{chance}
use Rattle.lab_defs_game.specs.Paths.{SetAction, path_along, parent}
use Rattle.lab_defs_game.specs.Nodes.{ends_by_nodes}

-- ---- what a form has

-- an information set: its parent, which is the set and action that it follows directly, and how many actions its seat has there
pub record FormSet : Type 0 where
  pub parent : Option SetAction
  pub actions : ℕ

-- a row: what it is worth to seat 1, chance included; for each seat its sets and actions from the first on, and how many decisions the row lacks
pub record Row : Type 0 where
  pub worth : ℤ
  pub path1 : List SetAction
  pub path2 : List SetAction
  pub pad1 : ℕ
  pub pad2 : ℕ

-- the sets of each seat, a set being known by its place there, and the rows
pub record Form : Type 0 where
  pub sets1 : List FormSet
  pub sets2 : List FormSet
  pub rows : List Row

-- the sets of a seat
abbrev pub sets_of : Form → ℕ → List FormSet
sets_of f seat = if seat == 1 then f.sets1 else f.sets2

-- how many actions there are at each of some sets
abbrev pub actions_in : List FormSet → List ℕ
actions_in sets = map (λ s. s.actions) sets

-- how many actions a seat has at each of its sets
abbrev pub actions_of : Form → ℕ → List ℕ
actions_of f seat = actions_in (sets_of f seat)

-- the path of a seat on a row
abbrev pub path_of : Row → ℕ → List SetAction
path_of r seat = if seat == 1 then r.path1 else r.path2

-- the decisions that a row lacks of a seat
abbrev pub pad_of : Row → ℕ → ℕ
pad_of r seat = if seat == 1 then r.pad1 else r.pad2

-- a set decides where it has two or more actions; with one it is a pass
abbrev pub decides : List ℕ → ℕ → Bool
decides actions set = nat_le 2 (slice_index actions set)

-- how many deciding sets a path has
abbrev pub deciding : List ℕ → List SetAction → ℕ
deciding actions path = count (λ t. decides actions t.set) path

-- ---- parents

-- the parent of the set with a number
abbrev pub parent_at : List FormSet → ℕ → Option SetAction
parent_at sets I = slice_index_or (map (λ s. s.parent) sets) I None

-- the parent of the set I of a seat
abbrev pub parent_of : Form → ℕ → ℕ → Option SetAction
parent_of f seat I = parent_at (sets_of f seat) I

-- the last n steps, at most, of the chain of parents that ends with a step
abbrev pub chain_within : List FormSet → ℕ → Option SetAction → List SetAction
chain_within sets zero step = []
chain_within sets (suc n) None = []
chain_within sets (suc n) (Some t) = chain_within sets n (parent_at sets t.set) ++ t ∷ []

-- the chain of parents that ends with a step: the steps from the first on, each but the first leaving a set that follows the one before
abbrev pub chain : List FormSet → Option SetAction → List SetAction
chain sets step = chain_within sets (length sets) step

-- how many deciding sets lead up to the set I, itself counted
abbrev pub decisions_to : List FormSet → ℕ → ℕ
decisions_to sets I = deciding (actions_in sets) (chain sets (Some (record { set = I; action = 0 })))

-- ---- the form of a game

-- a set of a game as one of its form
abbrev pub game_set : GameModel → ℕ → List Item → FormSet
game_set g seat s = record { parent = parent g seat s; actions = set_actions g seat s }

-- the sets of a seat in set order
abbrev pub game_sets : GameModel → ℕ → List FormSet
game_sets g seat = map (game_set g seat) (sets g seat)

-- how many actions the seat has at each of them
abbrev pub game_actions : GameModel → ℕ → List ℕ
game_actions g seat = actions_in (game_sets g seat)

-- the row of a terminal history
abbrev pub row_along : GameModel → History → Row
row_along g h = record {
  worth = pos (chance g h) *ℤ payoff g h;
  path1 = path_along g 1 h;
  path2 = path_along g 2 h;
  pad1 = most_decisions g 1 - deciding (game_actions g 1) (path_along g 1 h);
  pad2 = most_decisions g 2 - deciding (game_actions g 2) (path_along g 2 h);
}

-- the form of a game: its sets, and a row for each terminal history, node by node
abbrev pub form_of : GameModel → Form
form_of g = record { sets1 = game_sets g 1; sets2 = game_sets g 2; rows = map (row_along g) (ends_by_nodes g) }
