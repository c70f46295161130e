-- Splices: a table with a part of it replaced.
use Rattle.std.specs.Prelude.{◌≡◌, ℕ, ◌+◌, ◌≤◌, Bool, false, not, ◌&&◌, ◌||◌, nat_le, nat_lt, if◌then◌else◌, List, [], ◌∷◌, ◌++◌, length, take, drop}
use Rattle.std.specs.List.{list_all}
use Rattle.lab_defs_text.specs.Texts.{one_of}
use Rattle.lab_defs_text.specs.Games.{GameModel}
use Rattle.lab_defs_game.specs.Forms.{game_actions, path_of}
use Rattle.lab_defs_game.specs.Paths.{SetAction}
use Rattle.lab_defs_value.specs.Tables.{first_weight}
use Rattle.lab_defs_value.specs.Replies.{Strategy, opponent}
use Rattle.lab_defs_game.specs.Nodes.{span_from, span_to}

-- a proposal's weights at the sets from `start` up to `end`, and the table's elsewhere
abbrev pub spliced : (actions : List ℕ) (start end : ℕ) (table proposal : List ℕ) → List ℕ
spliced actions start end table proposal = take (first_weight actions start) table ++ proposal ++ drop (first_weight actions end) table

-- the table of a seat with a proposal's weights in the subgame at a node, whose sets are a span
abbrev pub replaced : GameModel → (seat : ℕ) → (node table proposal : List ℕ) → List ℕ
replaced g seat node table proposal = spliced (game_actions g seat) (span_from g seat node) (span_to g seat node) table proposal

-- the strategy that plays another table
abbrev pub with_table : Strategy → List ℕ → Strategy
with_table s table = record { form = s.form; keeper = s.keeper; grid = s.grid; table = table }

-- a proposal has as many weights as the sets of its span, and the table those of all sets
pub record FitsSpan (actions : List ℕ) (start end : ℕ) (table proposal : List ℕ) : Type 0 where
  pub ordered : start ≤ end
  pub within : end ≤ length actions
  pub whole : length table ≡ first_weight actions (length actions)
  pub part : first_weight actions start + length proposal ≡ first_weight actions end

-- whether a path stays outside the sets from `start` up to `end`
abbrev pub stays_outside : ℕ → ℕ → List SetAction → Bool
stays_outside start end path = list_all (λ t. nat_lt t.set start || nat_le end t.set) path

-- whether a path leaves the sets of a list for good
abbrev pub leaves : List ℕ → List SetAction → Bool
leaves sets path = list_all (λ t. not (one_of sets t.set)) path

-- whether a path runs along sets of the list `path` to one of `node`, and then leaves them for good
abbrev pub runs_to : (path node : List ℕ) → List SetAction → Bool
runs_to path node [] = false
runs_to path node (t ∷ ts) = if one_of node t.set then leaves path ts else one_of path t.set && runs_to path node ts

-- whether the opponent comes into the span from `start` up to `end` of the keeper only along the path to the node
abbrev pub encloses : (s : Strategy) (path node : List ℕ) (start end : ℕ) → Bool
encloses s path node start end =
    list_all (one_of path) node && list_all (λ z. stays_outside start end (path_of z s.keeper) || runs_to path node (path_of z (opponent s))) s.form.rows
