-- The state of a session, and what a command does to it.
use Rattle.std.specs.Prelude.{ℕ, ◌+◌, ℤ, List, [], ◌∷◌, length, map, sum, take, drop, slice_index_or, Bool, true, not, ◌&&◌, ◌||◌, ◌==◌, nat_le, nat_lt, if◌then◌else◌, Option, Some, None, Result, Ok, Err}
use lib.Chars.{codes}
use Rattle.lab_defs_text.specs.Words.{Bytes}
use Rattle.lab_defs_text.specs.Numbers.{numeral, signed_numeral}
use Rattle.lab_defs_text.specs.Fractions.{fraction_text}
use Rattle.lab_defs_text.specs.Games.{GameModel}
use Rattle.lab_defs_text.specs.Steps.{◌>>=◌}
use Rattle.lab_defs_text.specs.Texts.{name_of, place_at}
use Rattle.lab_defs_game.specs.Histories.{History, outcome_of, payoff, action_names}
use Rattle.lab_defs_game.specs.Nodes.{nodes, path_sets, root_sets, span_from}
use Rattle.lab_defs_game.specs.Forms.{form_of, game_actions}
use Rattle.lab_defs_value.specs.Tables.{weights_of, weight_count}
use Rattle.lab_defs_value.specs.Expectation.{expectation, expectation_units, expectation_of_uniform, uniform_of}
use Rattle.lab_defs_game.specs.Seats.{grid_of, other}
use Rattle.lab_defs_value.specs.Replies.{Strategy, strategy_of}
use Rattle.lab_defs_value.specs.Bounds.{at, bound_units, tight_bounds}
use Rattle.lab_defs_value.specs.Allowances.{Rule, allowance}
use Rattle.lab_defs_value.specs.Splices.{replaced}
use Rattle.lab_defs_value.specs.Subgames.{span_at, span_actions, weights_inside}
use Rattle.lab_defs_value.specs.Passes.{excess, least_margin, first_above}
use Rattle.lab_defs_value.specs.Candidates.{candidate, solved_tables}
use Rattle.lab_defs_report.specs.Commands.{Command, expect_uniform, expect, blueprint_uniform, blueprint_given, blueprint_solve, bound, show, propose, resolve, cert, deal, play, rule_word}
use Rattle.lab_defs_report.specs.Walks.{Words, walk, rounds_pay, pcg64_stream}
use Rattle.lab_defs_report.specs.CertificateTexts.{certificate_text}

-- the tables of both seats, and the bounds of each seat: numbers at the sets of its opponent
pub record Profile : Type 0 where
  pub table1 : List ℕ
  pub table2 : List ℕ
  pub bounds1 : List ℤ
  pub bounds2 : List ℤ

-- a game, and from the blueprint on the strategies
pub record State : Type 0 where
  pub game : GameModel
  pub profile : Option Profile

-- why a command is refused, in the order in which the reasons are looked for
pub data SessionFault : Type 0 where
  no_blueprint : SessionFault
  second_blueprint : SessionFault
  bad_seat : SessionFault
  no_node : (count : ℕ) → SessionFault
  no_decision : SessionFault
  bad_rounds : SessionFault
  wrong_count : (needed given : ℕ) → SessionFault
  wrong_sum : (seat set : ℕ) → SessionFault
  few_words : (needed : ℕ) → SessionFault
  extra_words : (used : ℕ) → SessionFault

-- ---- tables and bounds

-- the table of a seat
abbrev pub table_of : Profile → ℕ → List ℕ
table_of p seat = if seat == 1 then p.table1 else p.table2

-- the bounds of a seat: a number for each set of its opponent
abbrev pub bounds_of : Profile → ℕ → List ℤ
bounds_of p seat = if seat == 1 then p.bounds1 else p.bounds2

-- the strategy of a seat
abbrev pub played_by : GameModel → Profile → ℕ → Strategy
played_by g p seat = strategy_of g seat (table_of p seat)

-- both tables with their tight bounds
abbrev pub profile_of : GameModel → (table1 table2 : List ℕ) → Profile
profile_of g table1 table2 = record { table1 = table1; table2 = table2; bounds1 = tight_bounds g 1 table1; bounds2 = tight_bounds g 2 table2 }

-- the plays with another table of a seat, and its tight bounds
abbrev pub with_seat_table : GameModel → Profile → ℕ → List ℕ → Profile
with_seat_table g p seat table =
    if seat == 1 then record { table1 = table; table2 = p.table2; bounds1 = tight_bounds g 1 table; bounds2 = p.bounds2 }
    else record { table1 = p.table1; table2 = table; bounds1 = p.bounds1; bounds2 = tight_bounds g 2 table }

-- the first of some sets, from number `set` on, whose weights do not sum to the grid
abbrev pub first_wrong_sum : (grid set : ℕ) → (actions weights : List ℕ) → Option ℕ
first_wrong_sum grid set [] weights = None
first_wrong_sum grid set (n ∷ ns) weights =
    if nat_le 2 n && not (sum (take n weights) == grid) then Some set else first_wrong_sum grid (set + 1) ns (drop (weights_of n) weights)

-- a value, unless the weights of a set of a seat are wrong
abbrev pub unless_wrong : {A : Type 0} → ℕ → Option ℕ → A → Result A SessionFault
unless_wrong seat None x = Ok x
unless_wrong seat (Some set) x = Err (wrong_sum seat set)

-- a value, unless the number of weights or bounds is not the one needed
abbrev pub counted : {A : Type 0} → (needed given : ℕ) → A → Result A SessionFault
counted needed given x = if needed == given then Ok x else Err (wrong_count needed given)

-- the tables that a list of weights gives, seat 1's first
abbrev pub given_tables : GameModel → List ℕ → Result Profile SessionFault
given_tables g ws =
    let first = take (weight_count g 1) ws in
    let second = drop (weight_count g 1) ws in
    counted (weight_count g 1 + weight_count g 2) (length ws) true >>= λ x.
    unless_wrong 1 (first_wrong_sum (grid_of g 1) 0 (game_actions g 1) first) true >>= λ y.
    unless_wrong 2 (first_wrong_sum (grid_of g 2) 0 (game_actions g 2) second) true >>= λ z. Ok (profile_of g first second)

-- ---- replies, as the words of a line

-- the printed bound of a seat: the bound of the first set in its units, in lowest terms
abbrev pub seat_bound : GameModel → Profile → ℕ → Bytes
seat_bound g p seat = fraction_text (at (bounds_of p seat) 0) (bound_units g seat)

-- the reply to `blueprint`: the bounds of both seats
abbrev pub blueprint_reply : GameModel → Profile → List Bytes
blueprint_reply g p = codes "blueprint" ∷ seat_bound g p 1 ∷ seat_bound g p 2 ∷ []

-- the reply to `expect uniform`
abbrev pub uniform_reply : GameModel → List Bytes
uniform_reply g = codes "expect" ∷ fraction_text (expectation_of_uniform g) (expectation_units g) ∷ []

-- the reply to `expect`
abbrev pub expect_reply : GameModel → Profile → List Bytes
expect_reply g p = codes "expect" ∷ fraction_text (expectation (grid_of g 1) (grid_of g 2) (form_of g) p.table1 p.table2) (expectation_units g) ∷ []

-- the reply to `bound`
abbrev pub bound_reply : GameModel → Profile → ℕ → List Bytes
bound_reply g p seat = codes "bound" ∷ numeral seat ∷ seat_bound g p seat ∷ []

-- the certificate of a seat, as the one word of its reply
abbrev pub cert_reply : Profile → ℕ → List Bytes
cert_reply p seat = certificate_text (record { seat = seat; weights = table_of p seat; bounds = bounds_of p seat }) ∷ []

-- the reply to `show`
abbrev pub show_reply : Profile → ℕ → List Bytes
show_reply p seat = codes "show" ∷ numeral seat ∷ map numeral (table_of p seat)

-- ---- proposals

-- what was proposed: for which seat, at which node, by which rule
pub record Proposal : Type 0 where
  pub seat : ℕ
  pub node : ℕ
  pub rule : Rule
  pub weights : List ℕ

-- the public list of its node
abbrev pub node_list : GameModel → Proposal → List ℕ
node_list g q = slice_index_or (nodes g) q.node []

-- the table with the proposal in place
abbrev pub proposed_table : GameModel → Profile → Proposal → List ℕ
proposed_table g p q = replaced g q.seat (node_list g q) (table_of p q.seat) q.weights

-- the allowances at the sets of the path, by the bounds as they are
abbrev pub allowances : GameModel → Profile → Proposal → ℕ → ℕ
allowances g p q = allowance q.rule (played_by g p q.seat) (at (bounds_of p q.seat)) (path_sets g (other q.seat) (node_list g q))

-- the root sets: those of the opponent at the node
abbrev pub roots_of : GameModel → Proposal → List ℕ
roots_of g q = root_sets g (other q.seat) (node_list g q)

-- the words that a reply to a proposal begins with, after its first
abbrev pub judged : Proposal → List Bytes → List Bytes
judged q ws = numeral q.seat ∷ numeral q.node ∷ rule_word q.rule ∷ ws

-- the state and the reply where the first root set above its limit is given
abbrev pub verdict : GameModel → Profile → Proposal → Option ℕ → Profile × List Bytes
verdict g p q (Some set) = (
  p,
  codes "kept" ∷ judged q (numeral set
      ∷ fraction_text (excess (strategy_of g q.seat (proposed_table g p q)) (at (bounds_of p q.seat)) (allowances g p q) set) (bound_units g q.seat)
      ∷ seat_bound g p q.seat ∷ []),
)
verdict g p q None =
    let after = with_seat_table g p q.seat (proposed_table g p q) in (
      after,
      codes "accepted" ∷ judged q (fraction_text (least_margin (strategy_of g q.seat (proposed_table g p q)) (at (bounds_of p q.seat)) (allowances g p q) (roots_of g q)) (bound_units g q.seat)
          ∷ seat_bound g after q.seat ∷ []),
    )

-- a proposal is accepted where no root set is above its limit
abbrev pub propose_to : GameModel → Profile → Proposal → Profile × List Bytes
propose_to g p q = verdict g p q (first_above (strategy_of g q.seat (proposed_table g p q)) (at (bounds_of p q.seat)) (allowances g p q) (roots_of g q))

-- what some rounds of regret matching on the gadget propose
abbrev pub candidate_of : GameModel → Profile → Proposal → (rounds : ℕ) → List ℕ
candidate_of g p q rounds = candidate g q.rule q.seat (node_list g q) (table_of p q.seat) (bounds_of p q.seat) rounds

-- a proposal with these weights
abbrev pub with_weights : Proposal → List ℕ → Proposal
with_weights q weights = record { seat = q.seat; node = q.node; rule = q.rule; weights = weights }

-- ---- refusals of the session

-- the strategies of a state, where there is a blueprint
abbrev pub some_profile : State → Result Profile SessionFault
some_profile s = elim s.profile [ Some p ↦ Ok p | None ↦ Err no_blueprint ]

-- no strategies so far
abbrev pub no_profile : State → Result Bool SessionFault
no_profile s = elim s.profile [ Some p ↦ Err second_blueprint | None ↦ Ok true ]

-- a seat is 1 or 2
abbrev pub good_seat : ℕ → Result Bool SessionFault
good_seat seat = if (seat == 1) || (seat == 2) then Ok true else Err bad_seat

-- a node is below their number
abbrev pub good_node : GameModel → ℕ → Result Bool SessionFault
good_node g node = if nat_lt node (length (nodes g)) then Ok true else Err (no_node (length (nodes g)))

-- how many weights the seat has in the subgame
abbrev pub inside_count : GameModel → Proposal → ℕ
inside_count g q = weights_inside g q.seat (node_list g q)

-- a seat that decides in the subgame
abbrev pub decides_there : GameModel → Proposal → Result Bool SessionFault
decides_there g q = if inside_count g q == 0 then Err no_decision else Ok true

-- the weights of a proposal are as many as are needed, and sum to the grid
abbrev pub good_weights : GameModel → Proposal → Result Bool SessionFault
good_weights g q =
    counted (inside_count g q) (length q.weights) true >>= λ x.
    unless_wrong q.seat (first_wrong_sum (grid_of g q.seat) (span_from g q.seat (node_list g q)) (span_actions (span_at g q.seat (node_list g q))) q.weights) true

-- a number of rounds of regret matching
abbrev pub good_rounds : ℕ → Result Bool SessionFault
good_rounds rounds = if nat_le 1 rounds && nat_le rounds 4096 then Ok true else Err bad_rounds

-- ---- walks

-- the words of what happens along steps from the place n: each seat's action, and where it leads
abbrev pub step_words : GameModel → ℕ → History → List Bytes
step_words g n [] = []
step_words g n (s ∷ h) =
    let next = (outcome_of g n s).next in
    name_of (action_names 1 (place_at g n)) s.action1 ∷ name_of (action_names 2 (place_at g n)) s.action2 ∷ name_of g.names next ∷ step_words g next h

-- a walk that uses all its words
abbrev pub dealt : GameModel → Result (History × Words) ℕ → Result (List Bytes) SessionFault
dealt g (Err needed) = Err (few_words needed)
dealt g (Ok r) =
    if length r.1.left == 0 then Ok (codes "deal" ∷ signed_numeral (payoff g r.0) ∷ step_words g g.root r.0) else Err (extra_words r.1.used)

-- the reply to `play`: how many rounds, and what they pay seat 1 together
abbrev pub play_reply : GameModel → Profile → (rounds seed : ℕ) → List Bytes
play_reply g p rounds seed = codes "play" ∷ numeral rounds ∷ signed_numeral (rounds_pay rounds g p.table1 p.table2 (pcg64_stream seed)) ∷ []

-- ---- a step

-- a state that stays as it is, with a reply
abbrev pub kept : State → List Bytes → Result (State × List Bytes) SessionFault
kept s reply = Ok (s, reply)

-- a state with strategies, and a reply
abbrev pub playing : State → Profile → List Bytes → Result (State × List Bytes) SessionFault
playing s p reply = Ok (record { game = s.game; profile = Some p }, reply)

-- the state after a command, and its reply
abbrev pub step_of : State → Command → Result (State × List Bytes) SessionFault
step_of s expect_uniform = kept s (uniform_reply s.game)
step_of s expect = some_profile s >>= λ p. kept s (expect_reply s.game p)
step_of s blueprint_uniform = no_profile s >>= λ x. let p = profile_of s.game (uniform_of s.game 1) (uniform_of s.game 2) in playing s p (blueprint_reply s.game p)
step_of s (blueprint_given ws) = no_profile s >>= λ x. given_tables s.game ws >>= λ p. playing s p (blueprint_reply s.game p)
step_of s (blueprint_solve rounds) =
    no_profile s >>= λ x. good_rounds rounds >>= λ y. let ts = solved_tables s.game rounds in let p = profile_of s.game ts.0 ts.1 in playing s p (blueprint_reply s.game p)
step_of s (bound seat) = some_profile s >>= λ p. good_seat seat >>= λ x. kept s (bound_reply s.game p seat)
step_of s (show seat) = some_profile s >>= λ p. good_seat seat >>= λ x. kept s (show_reply p seat)
step_of s (propose seat node rule ws) =
    let q : Proposal = record { seat = seat; node = node; rule = rule; weights = ws } in
    some_profile s >>= λ p. good_seat seat >>= λ x. good_node s.game node >>= λ y. decides_there s.game q >>= λ z. good_weights s.game q >>= λ w.
    let r = propose_to s.game p q in playing s r.0 r.1
step_of s (resolve seat node rule rounds) =
    let q : Proposal = record { seat = seat; node = node; rule = rule; weights = [] } in
    some_profile s >>= λ p. good_seat seat >>= λ x. good_node s.game node >>= λ y. decides_there s.game q >>= λ z. good_rounds rounds >>= λ w.
    let r = propose_to s.game p (with_weights q (candidate_of s.game p q rounds)) in playing s r.0 r.1
step_of s (cert seat) = some_profile s >>= λ p. good_seat seat >>= λ x. kept s (cert_reply p seat)
step_of s (deal words) = some_profile s >>= λ p. dealt s.game (walk s.game p.table1 p.table2 words) >>= λ reply. kept s reply
step_of s (play rounds seed) = some_profile s >>= λ p. kept s (play_reply s.game p rounds seed)
