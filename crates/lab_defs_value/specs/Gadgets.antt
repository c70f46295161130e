-- Gadgets: the form of a subgame where the opponent first chooses whether, or where, to enter it.
use Rattle.std.specs.Prelude.{ℕ, ◌+◌, ℤ, neg_ℤ, List, [], ◌∷◌, ◌++◌, length, map, replicate, Option, Some, None, ◌==◌, if◌then◌else◌, slice_index}
use Rattle.std.specs.List.{range_with_len}
use Rattle.lab_defs_text.specs.Games.{GameModel}
use Rattle.lab_defs_game.specs.Sets.{most_decisions}
use Rattle.lab_defs_game.specs.Forms.{FormSet, Row, Form, path_of}
use Rattle.lab_defs_game.specs.Paths.{SetAction}
use Rattle.lab_defs_value.specs.Replies.{strategy_of, worth_to}
use Rattle.lab_defs_game.specs.Seats.{other}
use Rattle.lab_defs_value.specs.Bounds.{at}
use Rattle.lab_defs_value.specs.Allowances.{Rule, cfrd, reach, margin, allowance}
use Rattle.lab_defs_game.specs.Nodes.{path_sets, root_sets}
use Rattle.lab_defs_value.specs.Passes.{limit}
use Rattle.lab_defs_value.specs.Subgames.{subgame_form}

-- the opponent's gadget sets: for each root set one that terminates or follows, or one that chooses among the root sets
abbrev pub gadget_sets : Rule → (roots : ℕ) → List FormSet
gadget_sets cfrd roots = replicate roots (record { parent = None; actions = 2 })
gadget_sets reach roots = replicate roots (record { parent = None; actions = 2 })
gadget_sets margin roots = record { parent = None; actions = roots } ∷ []

-- the step to a root set: to follow at its gadget set, or to choose it
abbrev pub follow_step : Rule → (root : ℕ) → SetAction
follow_step cfrd root = record { set = root; action = 1 }
follow_step reach root = record { set = root; action = 1 }
follow_step margin root = record { set = 0; action = root }

-- the step of the further row of a root set: to terminate before it, or to choose it
abbrev pub terminate_step : Rule → (root : ℕ) → SetAction
terminate_step cfrd root = record { set = root; action = 0 }
terminate_step reach root = record { set = root; action = 0 }
terminate_step margin root = record { set = 0; action = root }

-- what the opponent earns in the further row of a root set with a limit
abbrev pub terminate_worth : Rule → (limit : ℤ) → ℤ
terminate_worth cfrd limit = limit
terminate_worth reach limit = limit
terminate_worth margin limit = neg_ℤ limit

-- a step of the subgame where as many gadget sets come first
abbrev pub raised : (further : ℕ) → SetAction → SetAction
raised further t = record { set = further + t.set; action = t.action }

-- a path of the opponent in the subgame where gadget sets come first: it enters at its first set
abbrev pub entered_path : Rule → (further : ℕ) → List SetAction → List SetAction
entered_path rule further [] = []
entered_path rule further (t ∷ ts) = follow_step rule t.set ∷ map (raised further) (t ∷ ts)

-- the parent of the set I of the subgame where gadget sets come first: a root set, which had none, is entered
abbrev pub entered_parent : Rule → (further I : ℕ) → Option SetAction → Option SetAction
entered_parent rule further I None = Some (follow_step rule I)
entered_parent rule further I (Some t) = Some (raised further t)

-- the opponent's sets of the subgame, the first of them with the number I there, where gadget sets come first
abbrev pub entered_sets : Rule → (further I : ℕ) → List FormSet → List FormSet
entered_sets rule further I [] = []
entered_sets rule further I (x ∷ xs) = record { parent = entered_parent rule further I x.parent; actions = x.actions } ∷ entered_sets rule further (I + 1) xs

-- the opponent's sets in a gadget: the gadget sets, and then those of the subgame
abbrev pub sets_entered : Rule → (roots : ℕ) → List FormSet → List FormSet
sets_entered rule roots sets = gadget_sets rule roots ++ entered_sets rule (length (gadget_sets rule roots)) 0 sets

-- a row with another path of a seat
abbrev pub with_path : (seat : ℕ) → List SetAction → Row → Row
with_path seat path z = record {
  worth = z.worth;
  path1 = if seat == 1 then path else z.path1;
  path2 = if seat == 1 then z.path2 else path;
  pad1 = z.pad1;
  pad2 = z.pad2;
}

-- the further row of a root set: the opponent's one action, all its factors, and nothing of the keeper
abbrev pub terminate_row : Rule → (opponent factors root : ℕ) → (limit : ℤ) → Row
terminate_row rule opponent factors root limit = record {
  worth = worth_to opponent (terminate_worth rule limit);
  path1 = if opponent == 1 then terminate_step rule root ∷ [] else [];
  path2 = if opponent == 1 then [] else terminate_step rule root ∷ [];
  pad1 = if opponent == 1 then factors else 0;
  pad2 = if opponent == 1 then 0 else factors;
}

-- the gadget on the form of a subgame: its rows entered at the root sets, the opponent's first ones, and the further row of each
abbrev pub gadget : Rule → (opponent roots factors : ℕ) → (limits : ℕ → ℤ) → Form → Form
gadget rule opponent roots factors limits f =
    record {
      sets1 = if opponent == 1 then sets_entered rule roots f.sets1 else f.sets1;
      sets2 = if opponent == 1 then f.sets2 else sets_entered rule roots f.sets2;
      rows = map (λ z. with_path opponent (entered_path rule (length (gadget_sets rule roots)) (path_of z opponent)) z) f.rows
          ++ map (λ i. terminate_row rule opponent factors i (limits i)) (range_with_len 0 roots);
    }

-- the limits of the sets at a node, in set order, by a rule
abbrev pub node_limit : GameModel → Rule → (keeper : ℕ) → (node table : List ℕ) → List ℤ → ℕ → ℤ
node_limit g rule keeper node table bounds i =
    limit (at bounds) (allowance rule (strategy_of g keeper table) (at bounds) (path_sets g (other keeper) node)) (slice_index (root_sets g (other keeper) node) i)

-- the gadget of a rule for the subgame of a node, by a table of the keeper and its bounds
abbrev pub gadget_form : GameModel → Rule → (keeper : ℕ) → (node table : List ℕ) → List ℤ → Form
gadget_form g rule keeper node table bounds =
    gadget rule (other keeper) (length (root_sets g (other keeper) node)) (most_decisions g (other keeper)) (node_limit g rule keeper node table bounds) (subgame_form g keeper node table)
