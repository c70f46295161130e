-- The promise of a session, over the states that its commands give.
use Rattle.std.specs.Prelude.{◌≡◌, ℕ, ◌<◌, ◌≤ℤ◌, List, [], ◌∷◌, length, slice_index, slice_index_or, Bool, true, false, ◌↔◌, Some, None, Ok}
use Rattle.std.specs.Str.{bytes_eq}
use lib.Chars.{codes}
use Rattle.lab_defs_text.specs.Words.{Bytes}
use Rattle.lab_defs_text.specs.Games.{GameModel}
use Rattle.lab_defs_text.specs.Texts.{one_of}
use Rattle.lab_defs_game.specs.Nodes.{nodes, subgame_sets}
use Rattle.lab_defs_game.specs.Forms.{game_actions}
use Rattle.lab_defs_game.specs.Accepted.{IsAccepted}
use Rattle.lab_defs_game.specs.Sets.{sets}
use Rattle.lab_defs_value.specs.Tables.{factor, weight_count}
use Rattle.lab_defs_value.specs.Replies.{IsTable, strategy_of}
use Rattle.lab_defs_game.specs.Seats.{IsSeat, grid_of, other}
use Rattle.lab_defs_value.specs.BestValues.{IsBest}
use Rattle.lab_defs_value.specs.Bounds.{at, Tight}
use Rattle.lab_defs_value.specs.Passes.{Passes}
use Rattle.lab_defs_report.specs.Commands.{Command, propose, resolve}
use Rattle.lab_defs_report.specs.States.{State, Profile, Proposal, step_of, table_of, bounds_of, played_by, proposed_table, allowances, roots_of, node_list, inside_count, candidate_of, with_weights}

-- a session on a game before its first command
abbrev pub start : GameModel → State
start g = record { game = g; profile = None }

-- commands lead from a state to another, none of them refused
abbrev pub Leads : State → List Command → State → Type 0
Leads s [] t = s ≡ t
Leads s (c ∷ cs) t = (u : State) × (reply : List Bytes) × (step_of s c ≡ Ok (u, reply)) × Leads u cs t

-- a table of a seat passes a proposal's node by its rule: the local inequalities, at the root sets of one subgame alone
abbrev pub PassesAt : GameModel → Profile → Proposal → List ℕ → Type 0
PassesAt g p q table = Passes (strategy_of g q.seat table) (at (bounds_of p q.seat)) (allowances g p q) (roots_of g q)

-- what a session keeps of a seat from the blueprint on: a table of the seat, and bounds that are tight for it
pub record IsKept (g : GameModel) (p : Profile) (seat : ℕ) : Type 0 where
  pub weights : length (table_of p seat) ≡ weight_count g seat
  pub sums : IsTable (game_actions g seat) (grid_of g seat) (table_of p seat)
  pub count : length (bounds_of p seat) ≡ length (sets g (other seat))
  pub tight : Tight (played_by g p seat) (at (bounds_of p seat))

-- what holds of a seat from the blueprint on
pub record IsGuarded (g : GameModel) (p : Profile) (seat : ℕ) : Type 0 where
  pub kept : IsKept g p seat
  -- no reply earns more than the bound, and a pure one earns it
  pub bounded : IsBest (played_by g p seat) 0 (at (bounds_of p seat) 0)
  -- by every rule, the strategy as it is passes at every node where the seat decides
  pub passes : (q : Proposal) → q.seat ≡ seat → q.node < length (nodes g) → 0 < inside_count g q → PassesAt g p q (table_of p seat)

-- the weight of an action at a set, 1 at a pass, which has none in the table
abbrev pub weight_at : GameModel → ℕ → List ℕ → ℕ → ℕ → ℕ
weight_at g seat table set action = factor (game_actions g seat) table (record { set = set; action = action })

-- the weights of a seat at the sets outside a node's subgame stay as they were
abbrev pub SameOutside : GameModel → Proposal → (before after : List ℕ) → Type 0
SameOutside g q before after = (set action : ℕ) → set < length (game_actions g q.seat) → action < slice_index (game_actions g q.seat) set
    → one_of (subgame_sets g q.seat (node_list g q)) set ≡ false → weight_at g q.seat after set action ≡ weight_at g q.seat before set action

-- whether a reply says that a proposal was accepted
abbrev pub tells_accepted : List Bytes → Bool
tells_accepted reply = bytes_eq (slice_index_or reply 0 []) (codes "accepted")

-- what a proposal does: it is accepted exactly where it passes; then only the seat's weights inside the subgame change, and else nothing does
pub record Judges (g : GameModel) (before after : Profile) (q : Proposal) (reply : List Bytes) : Type 0 where
  pub exactly : (tells_accepted reply ≡ true) ↔ PassesAt g before q (proposed_table g before q)
  pub inside : tells_accepted reply ≡ true → table_of after q.seat ≡ proposed_table g before q
  pub outside : SameOutside g q (table_of before q.seat) (table_of after q.seat)
  pub others : (table_of after (other q.seat) ≡ table_of before (other q.seat)) × (bounds_of after (other q.seat) ≡ bounds_of before (other q.seat))
  pub kept : tells_accepted reply ≡ false → after ≡ before

-- what a command does to the strategies: a proposal is judged, and so is what a re-solve finds; any other command changes nothing
abbrev pub Does : GameModel → (before after : Profile) → Command → List Bytes → Type 0
Does g before after (propose seat node rule weights) reply = Judges g before after (record { seat = seat; node = node; rule = rule; weights = weights }) reply
Does g before after (resolve seat node rule rounds) reply =
    let q : Proposal = record { seat = seat; node = node; rule = rule; weights = [] } in
    Judges g before after (with_weights q (candidate_of g before q rounds)) reply
Does g before after _ reply = after ≡ before

-- no bound rises
abbrev pub NeverRises : (before after : Profile) → Type 0
NeverRises before after = (seat : ℕ) → IsSeat seat → at (bounds_of after seat) 0 ≤ℤ at (bounds_of before seat) 0

-- for every game that a session takes and all commands that are answered: from the blueprint on both seats are guarded, and a command keeps the bounds from rising and changes only what it may
abbrev pub Headline : Type 0
Headline = (g : GameModel) → IsAccepted g → (cs : List Command) (s : State) (p : Profile) → Leads (start g) cs s → s.profile ≡ Some p
    → IsGuarded g p 1 × IsGuarded g p 2
    × ((c : Command) (t : State) (reply : List Bytes) → step_of s c ≡ Ok (t, reply) → (q : Profile) × (t.profile ≡ Some q) × NeverRises p q × Does g p q c reply)
