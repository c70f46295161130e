-- The form of a subgame: its rows, where the keeper's weights before its node count into the worth.
use Rattle.std.specs.Prelude.{ℕ, ◌-◌, pos, ◌*ℤ◌, List, length, map, filter, Option, Some, None, Bool, not, ◌&&◌, ◌==◌, nat_lt, nat_le, if◌then◌else◌, slice_range}
use Rattle.lab_math.specs.Sums.{product_over}
use Rattle.lab_defs_text.specs.Games.{GameModel}
use Rattle.lab_defs_game.specs.Histories.{History}
use Rattle.lab_defs_game.specs.Sets.{public_list, most_decisions}
use Rattle.lab_defs_game.specs.Forms.{FormSet, Row, Form, row_along, game_sets, actions_in, path_of, pad_of, deciding}
use Rattle.lab_defs_game.specs.Paths.{SetAction}
use Rattle.lab_defs_game.specs.Nodes.{begins, ends_by_nodes, span_from, span_to}
use Rattle.lab_defs_value.specs.Tables.{first_weight, factor}
use Rattle.lab_defs_game.specs.Seats.{other}

-- the sets of a seat from `start` up to and without `end`, among all its sets
pub record Span : Type 0 where
  pub start : ℕ
  pub end : ℕ
  pub sets : List FormSet

-- the span of a seat's sets inside the subgame of a node
abbrev pub span_at : GameModel → (seat : ℕ) → (node : List ℕ) → Span
span_at g seat node = record { start = span_from g seat node; end = span_to g seat node; sets = game_sets g seat }

-- whether a step is at a set of a span
abbrev pub is_inside : Span → SetAction → Bool
is_inside s t = nat_le s.start t.set && nat_lt t.set s.end

-- the steps of a path inside a span
abbrev pub inside : Span → List SetAction → List SetAction
inside s path = filter (is_inside s) path

-- the steps of a path that are not inside: those before the node, where the path comes into its subgame
abbrev pub before : Span → List SetAction → List SetAction
before s path = filter (λ t. not (is_inside s t)) path

-- a step with the number of its set less that of the first one of a span
abbrev pub renumbered_step : Span → SetAction → SetAction
renumbered_step s t = record { set = t.set - s.start; action = t.action }

-- all steps of a path so
abbrev pub renumbered : Span → List SetAction → List SetAction
renumbered s path = map (renumbered_step s) path

-- the parent of a set inside a span, none where it is not inside
abbrev pub parent_inside : Span → Option SetAction → Option SetAction
parent_inside s None = None
parent_inside s (Some t) = if is_inside s t then Some (renumbered_step s t) else None

-- a set inside a span as one of the subgame
abbrev pub inner_set : Span → FormSet → FormSet
inner_set s x = record { parent = parent_inside s x.parent; actions = x.actions }

-- the sets of a span
abbrev pub span_sets : Span → List FormSet
span_sets s = map (inner_set s) (slice_range s.sets s.start s.end)

-- how many actions there are at each of them
abbrev pub span_actions : Span → List ℕ
span_actions s = actions_in (span_sets s)

-- what is needed to see a row as one of a subgame: the keeper and its table, the span of each seat, and how many factors its opponent brings
pub record Part : Type 0 where
  pub keeper : ℕ
  pub table : List ℕ
  pub span1 : Span
  pub span2 : Span
  pub factors : ℕ

-- the span of a seat
abbrev pub span_of : Part → ℕ → Span
span_of p seat = if seat == 1 then p.span1 else p.span2

-- the keeper's weights before the node
abbrev pub weight_before : Part → Row → ℕ
weight_before p z = let s = span_of p p.keeper in product_over (factor (actions_in s.sets) p.table) (before s (path_of z p.keeper))

-- how many factors a row lacks: of the keeper as many as the whole row, of the opponent all but its decisions inside
abbrev pub pad_inside : Part → ℕ → Row → ℕ
pad_inside p seat z = if seat == p.keeper then pad_of z seat else p.factors - deciding (actions_in (span_of p seat).sets) (inside (span_of p seat) (path_of z seat))

-- a row as one of the subgame
abbrev pub subgame_row : Part → Row → Row
subgame_row p z = record {
  worth = z.worth *ℤ pos (weight_before p z);
  path1 = renumbered p.span1 (inside p.span1 z.path1);
  path2 = renumbered p.span2 (inside p.span2 z.path2);
  pad1 = pad_inside p 1 z;
  pad2 = pad_inside p 2 z;
}

-- the part of a game that is the subgame of a node, where the keeper plays a table before
abbrev pub part_at : GameModel → (keeper : ℕ) → (node table : List ℕ) → Part
part_at g keeper node table = record {
  keeper = keeper;
  table = table;
  span1 = span_at g 1 node;
  span2 = span_at g 2 node;
  factors = most_decisions g (other keeper);
}

-- the terminal histories inside the subgame of a node, node by node
abbrev pub subgame_ends : GameModel → List ℕ → List History
subgame_ends g node = filter (λ h. begins node (public_list g h)) (ends_by_nodes g)

-- how many weights a seat has inside the subgame of a node: none where it decides nothing there
abbrev pub weights_inside : GameModel → (seat : ℕ) → (node : List ℕ) → ℕ
weights_inside g seat node = let actions = span_actions (span_at g seat node) in first_weight actions (length actions)

-- the form of the subgame of a node
abbrev pub subgame_form : GameModel → (keeper : ℕ) → (node table : List ℕ) → Form
subgame_form g keeper node table =
    let p = part_at g keeper node table in
    record {
      sets1 = span_sets p.span1;
      sets2 = span_sets p.span2;
      rows = map (λ h. subgame_row p (row_along g h)) (subgame_ends g node);
    }
