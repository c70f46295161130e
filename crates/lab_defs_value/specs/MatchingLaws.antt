-- Laws of rounding, regret matching, gadgets and candidates.
use Rattle.std.specs.Prelude.{◌≡◌, ◌⊎◌, ℕ, ◌+◌, ◌-◌, ◌<◌, ◌≤◌, ℤ, pos, ◌*ℤ◌, ◌-ℤ◌, List, [], ◌++◌, length, map, take, drop, replicate, true, false, All, None, slice_index}
use Rattle.lab_math.specs.Sums.{sum_over}
use Rattle.lab_math.specs.Below.{sum_below, total_below}
use Rattle.lab_defs_text.specs.Games.{GameModel}
use Rattle.lab_defs_text.specs.Texts.{game_ok}
use Rattle.lab_defs_game.specs.Recall.{recall_fault}
use Rattle.lab_defs_game.specs.Forms.{Row, Form, form_of, game_actions, sets_of, actions_in, parent_of, actions_of, path_of, pad_of, decides}
use Rattle.lab_defs_game.specs.Paths.{SetAction}
use Rattle.lab_defs_value.specs.Rounding.{share_size, part, may_gain, rounded}
use Rattle.lab_defs_value.specs.Tables.{first_weight, own_weight, uniform_table}
use Rattle.lab_defs_game.specs.Seats.{IsSeat, other, grid_of}
use Rattle.lab_defs_value.specs.Parents.{IsForm}
use Rattle.lab_defs_value.specs.Replies.{SumsToGrid, IsTable, reply_by, earned}
use Rattle.lab_defs_value.specs.Allowances.{Rule}
use Rattle.lab_defs_value.specs.Laws.{HasFactors}
use Rattle.lab_defs_value.specs.Splices.{FitsSpan, spliced}
use Rattle.lab_defs_value.specs.Subgames.{weights_inside, span_at, span_actions, Part, span_of, subgame_row, subgame_form}
use Rattle.lab_defs_value.specs.Gadgets.{gadget_sets, entered_path, sets_entered, gadget, gadget_form}
use Rattle.lab_defs_value.specs.Matching.{rounded_table, Pair, pair_grid, pair_table, pair_actions, pair_weight, action_value, set_value, zeros, Regrets, regrets_after, pair_of, averages}
use Rattle.lab_defs_value.specs.Candidates.{candidate, solved_tables}

-- the shares of at least one action are rounded to weights that sum to the grid, one for each, none above it
abbrev pub RoundedLaw : Type 0
RoundedLaw = (grid : ℕ) (shares : List ℤ)
    → (1 ≤ length shares → sum_over (λ w. w) (rounded grid shares) ≡ grid) × (length (rounded grid shares) ≡ length shares) × All (λ w. w ≤ grid) (rounded grid shares)

-- beside a positive share one that is not gets nothing; each other one gets its part or one unit more, the units going to the first that may get one
abbrev pub UnitsLaw : Type 0
UnitsLaw = (grid : ℕ) (shares : List ℤ) →
    let sizes = map share_size shares in
    let whole = sum_over (λ s. s) sizes in
    let size = slice_index sizes in
    let base = λ (i : ℕ). part grid (length shares) whole (size i) in
    let weight = slice_index (rounded grid shares) in
    ((i : ℕ) → i < length shares → may_gain whole (size i) ≡ false → weight i ≡ 0)
    × ((i : ℕ) → i < length shares → may_gain whole (size i) ≡ true → (weight i ≡ base i) ⊎ (weight i ≡ base i + 1))
    × ((i j : ℕ) → i < j → j < length shares → may_gain whole (size i) ≡ true → weight j ≡ base j + 1 → weight i ≡ base i + 1)

-- a table has a weight for each action of each deciding set, none above the grid, and at each deciding set they sum to it
abbrev pub IsWhole : ℕ → List ℕ → List ℕ → Type 0
IsWhole grid actions table = (length table ≡ first_weight actions (length actions)) × All (λ w. w ≤ grid) table × SumsToGrid grid actions table

-- as many shares as there are weights are rounded to a table, whatever they are
abbrev pub RoundedTableLaw : Type 0
RoundedTableLaw = (grid : ℕ) (actions : List ℕ) (shares : List ℤ) → length shares ≡ first_weight actions (length actions)
    → IsWhole grid actions (rounded_table grid actions shares) × (1 ≤ grid → IsTable actions grid (rounded_table grid actions shares))

-- where all shares are 0 it is the uniform table
abbrev pub ZeroSharesLaw : Type 0
ZeroSharesLaw = (grid : ℕ) (actions : List ℕ) → rounded_table grid actions (zeros actions) ≡ uniform_table grid actions

-- an accepted game is a form for both seats
abbrev pub GameFormLaw : Type 0
GameFormLaw = (g : GameModel) → game_ok g ≡ true → recall_fault g ≡ None → IsForm (form_of g) 1 × IsForm (form_of g) 2

-- each action on the paths of a seat is one of its set's
abbrev pub HasActions : Form → ℕ → Type 0
HasActions f seat = All (λ (z : Row). All (λ (t : SetAction). t.action < slice_index (actions_of f seat) t.set) (path_of z seat)) f.rows

-- in a form each action is one of its set's
abbrev pub ActionsLaw : Type 0
ActionsLaw = (f : Form) (seat : ℕ) → IsForm f seat → HasActions f seat

-- the value of a deciding set, times the grid, is the sum of its actions' values, each times its weight
abbrev pub ValueLaw : Type 0
ValueLaw = (p : Pair) (seat I : ℕ) → HasActions p.form seat → decides (pair_actions p seat) I ≡ true
    → pos (pair_grid p seat) *ℤ set_value p seat I ≡ total_below (slice_index (pair_actions p seat) I) (λ a. pos (pair_weight p seat I a) *ℤ action_value p seat I a)

-- what the actions of a set are worth more than the set, each times its weight, sums to zero
abbrev pub NoRegret : Pair → (seat I : ℕ) → Type 0
NoRegret p seat I = total_below (slice_index (pair_actions p seat) I) (λ a. pos (pair_weight p seat I a) *ℤ (action_value p seat I a -ℤ set_value p seat I)) ≡ pos 0

-- where the weights of a deciding set sum to the grid, its regrets sum to zero by them
abbrev pub RegretLaw : Type 0
RegretLaw = (p : Pair) (seat I : ℕ) → HasActions p.form seat → decides (pair_actions p seat) I ≡ true
    → sum_below (slice_index (pair_actions p seat) I) (pair_weight p seat I) ≡ pair_grid p seat → NoRegret p seat I

-- where a seat brings as many factors to each row, the value of a set is what its table earns there as a reply to the other seat's
abbrev pub EarningLaw : Type 0
EarningLaw = (p : Pair) (seat I : ℕ) → IsSeat seat → HasFactors p.form seat
    → set_value p seat I ≡ earned (record { form = p.form; keeper = other seat; grid = pair_grid p (other seat); table = pair_table p (other seat) }) (reply_by (pair_grid p seat) (pair_actions p seat) (pair_table p seat)) I

-- a tally has a regret and a sum for each weight
pub record IsRegrets (f : Form) (t : Regrets) : Type 0 where
  pub regrets1 : length t.regrets1 ≡ first_weight (actions_of f 1) (length (actions_of f 1))
  pub regrets2 : length t.regrets2 ≡ first_weight (actions_of f 2) (length (actions_of f 2))
  pub sums1 : length t.sums1 ≡ first_weight (actions_of f 1) (length (actions_of f 1))
  pub sums2 : length t.sums2 ≡ first_weight (actions_of f 2) (length (actions_of f 2))

-- after any number of rounds there is a regret and a sum for each weight
abbrev pub RegretListsLaw : Type 0
RegretListsLaw = (grid1 grid2 : ℕ) (f : Form) (rounds : ℕ) → IsRegrets f (regrets_after grid1 grid2 f rounds)

-- the tables of each round are tables, and at each deciding set the regrets that the round adds sum to zero by them
abbrev pub RoundLaw : Type 0
RoundLaw = (grid1 grid2 : ℕ) (f : Form) (t : Regrets) → IsRegrets f t
    → IsWhole grid1 (actions_of f 1) (pair_of grid1 grid2 f t).table1 × IsWhole grid2 (actions_of f 2) (pair_of grid1 grid2 f t).table2
    × ((I : ℕ) → HasActions f 1 → I < length (actions_of f 1) → decides (actions_of f 1) I ≡ true → NoRegret (pair_of grid1 grid2 f t) 1 I)
    × ((I : ℕ) → HasActions f 2 → I < length (actions_of f 2) → decides (actions_of f 2) I ≡ true → NoRegret (pair_of grid1 grid2 f t) 2 I)

-- a row of a subgame is worth by the keeper's weights inside what the whole row is worth by the keeper's table with these weights in it
abbrev pub SubgameLaw : Type 0
SubgameLaw = (p : Part) (grid : ℕ) (weights : List ℕ) (z : Row) → IsSeat p.keeper →
    let s = span_of p p.keeper in
    let actions = actions_in s.sets in
    let inner = subgame_row p z in
    FitsSpan actions s.start s.end p.table weights → All (λ (t : SetAction). t.action < slice_index actions t.set) (path_of z p.keeper)
    → inner.worth *ℤ pos (own_weight grid (span_actions s) weights (path_of inner p.keeper) (pad_of inner p.keeper))
    ≡ z.worth *ℤ pos (own_weight grid actions (spliced actions s.start s.end p.table weights) (path_of z p.keeper) (pad_of z p.keeper))

-- in an accepted game the subgame of a node is a form for both seats
abbrev pub SubgameFormLaw : Type 0
SubgameFormLaw = (g : GameModel) (keeper : ℕ) (node table : List ℕ) → game_ok g ≡ true → recall_fault g ≡ None
    → IsForm (subgame_form g keeper node table) 1 × IsForm (subgame_form g keeper node table) 2

-- a form h begins with the rows of f, where a seat has the sets, paths and pads that it has there, and after them come rows without the seat's actions
pub record KeepsSeat (f h : Form) (seat : ℕ) : Type 0 where
  pub sets : sets_of h seat ≡ sets_of f seat
  pub paths : map (λ z. path_of z seat) (take (length f.rows) h.rows) ≡ map (λ z. path_of z seat) f.rows
  pub pads : map (λ z. pad_of z seat) (take (length f.rows) h.rows) ≡ map (λ z. pad_of z seat) f.rows
  pub behind : map (λ z. path_of z seat) (drop (length f.rows) h.rows) ≡ replicate (length h.rows - length f.rows) []

-- a gadget keeps the keeper of the subgame; the opponent's further sets come first, it enters the subgame by them, and the rows are worth what they were, with a further one for each root set
abbrev pub GadgetLaw : Type 0
GadgetLaw = (rule : Rule) (keeper roots factors : ℕ) (limits : ℕ → ℤ) (f : Form) →
    let h = gadget rule (other keeper) roots factors limits f in
    KeepsSeat f h keeper
    × (sets_of h (other keeper) ≡ sets_entered rule roots (sets_of f (other keeper)))
    × (actions_of h (other keeper) ≡ actions_in (gadget_sets rule roots) ++ actions_of f (other keeper))
    × (map (λ z. path_of z (other keeper)) (take (length f.rows) h.rows) ≡ map (λ z. entered_path rule (length (gadget_sets rule roots)) (path_of z (other keeper))) f.rows)
    × (map (λ (z : Row). z.worth) (take (length f.rows) h.rows) ≡ map (λ (z : Row). z.worth) f.rows)
    × (length h.rows ≡ length f.rows + roots)

-- a set of a seat that follows none is one of its first ones, as many as there are roots
abbrev pub FollowsRoots : Form → (seat roots : ℕ) → Type 0
FollowsRoots f seat roots = (I : ℕ) → I < length (actions_of f seat) → parent_of f seat I ≡ None → I < roots

-- a gadget is a form, for both seats, where the subgame is one and the opponent enters it at root sets
abbrev pub GadgetFormLaw : Type 0
GadgetFormLaw = (rule : Rule) (keeper roots factors : ℕ) (limits : ℕ → ℤ) (f : Form) →
    let h = gadget rule (other keeper) roots factors limits f in
    (IsForm f keeper → IsForm h keeper)
    × (IsForm f (other keeper) → 1 ≤ roots → FollowsRoots f (other keeper) roots → IsForm h (other keeper))

-- in an accepted game the gadget for a node where the keeper decides inside is a form for both seats
abbrev pub GameGadgetLaw : Type 0
GameGadgetLaw = (g : GameModel) (rule : Rule) (keeper : ℕ) (node table : List ℕ) (bounds : List ℤ) → game_ok g ≡ true → recall_fault g ≡ None → IsSeat keeper
    → 0 < weights_inside g keeper node → IsForm (gadget_form g rule keeper node table bounds) 1 × IsForm (gadget_form g rule keeper node table bounds) 2

-- the averages over any number of rounds are tables
abbrev pub AveragesLaw : Type 0
AveragesLaw = (grid1 grid2 : ℕ) (f : Form) (rounds : ℕ)
    → IsWhole grid1 (actions_of f 1) (averages grid1 grid2 f rounds).0 × IsWhole grid2 (actions_of f 2) (averages grid1 grid2 f rounds).1

-- a candidate is a table of the keeper's sets inside the subgame
abbrev pub CandidateLaw : Type 0
CandidateLaw = (g : GameModel) (rule : Rule) (keeper : ℕ) (node table : List ℕ) (bounds : List ℤ) (rounds : ℕ) → IsSeat keeper
    → IsWhole (grid_of g keeper) (span_actions (span_at g keeper node)) (candidate g rule keeper node table bounds rounds)

-- what some rounds on a whole game find are tables of the game
abbrev pub SolvedLaw : Type 0
SolvedLaw = (g : GameModel) (rounds : ℕ)
    → IsWhole (grid_of g 1) (game_actions g 1) (solved_tables g rounds).0 × IsWhole (grid_of g 2) (game_actions g 2) (solved_tables g rounds).1
