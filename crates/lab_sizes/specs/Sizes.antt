-- How large the numbers of a session are.
use Rattle.std.specs.Prelude.{◌≡◌, All, ℕ, ◌*◌, ◌^◌, ◌<◌, ◌≤◌, unsigned_abs, true, slice_index, ℤ, pos, neg_ℤ, ◌*ℤ◌, ◌≤ℤ◌, List, length}
use Rattle.lab_math.specs.Sums.{sum_over}
use Rattle.lab_defs_text.specs.Games.{GameModel}
use Rattle.lab_defs_game.specs.Seats.{IsSeat, other, grid_of}
use Rattle.lab_defs_game.specs.Sets.{sets}
use Rattle.lab_defs_game.specs.Nodes.{path_sets}
use Rattle.lab_defs_game.specs.Forms.{Form, form_of, game_actions, actions_of, path_of, decides}
use Rattle.lab_defs_game.specs.Accepted.{IsAccepted}
use Rattle.lab_defs_value.specs.Rounding.{share_size}
use Rattle.lab_defs_value.specs.Tables.{own_weight, weight_count}
use Rattle.lab_defs_value.specs.Expectation.{expectation, expectation_units}
use Rattle.lab_defs_value.specs.Parents.{passes_through, path_from, IsForm}
use Rattle.lab_defs_value.specs.Replies.{IsTable, strategy_of}
use Rattle.lab_defs_value.specs.BestValues.{best_response_value}
use Rattle.lab_defs_value.specs.Bounds.{at, through, Tight, bound_units, value_limit, tight_bounds, HasBounds}
use Rattle.lab_defs_value.specs.Allowances.{Rule, allowance}
use Rattle.lab_defs_value.specs.Passes.{limit}
use Rattle.lab_defs_value.specs.Smallness.{HasRows, IsSmall}
use Rattle.lab_defs_value.specs.Subgames.{weights_inside, subgame_form}
use Rattle.lab_defs_value.specs.Gadgets.{gadget_form}
use Rattle.lab_defs_value.specs.Matching.{Pair, pair_grid, pair_table, pair_actions, pair_weight, weight_along, pair_worth, path_after, grid_before, action_value, set_value, reach_in, regrets_of, sums_of, regrets_after}
use Rattle.lab_defs_value.specs.Laws.{worth_sizes}

-- in an accepted game no best-response value against a table passes the limit of its bounds, up or down
abbrev pub RangeLaw : Type 0
RangeLaw = (g : GameModel) → IsAccepted g → (keeper : ℕ) → IsSeat keeper → (table : List ℕ) → IsTable (game_actions g keeper) (grid_of g keeper) table
    → (I : ℕ) → I < length (sets g (other keeper)) → unsigned_abs (best_response_value (strategy_of g keeper table) I) ≤ value_limit g keeper

-- the tight bounds of a table may be kept beside it
abbrev pub TightBoundsLaw : Type 0
TightBoundsLaw = (g : GameModel) → IsAccepted g → (keeper : ℕ) → IsSeat keeper → (table : List ℕ) → length table ≡ weight_count g keeper → IsTable (game_actions g keeper) (grid_of g keeper) table
    → HasBounds g keeper table (tight_bounds g keeper table) × Tight (strategy_of g keeper table) (at (tight_bounds g keeper table))

-- a number is at least the least best-response value that there may be, and at most twice the greatest
abbrev pub IsInRange : GameModel → (keeper : ℕ) → ℤ → Type 0
IsInRange g keeper z = (neg_ℤ (pos (value_limit g keeper)) ≤ℤ z) × (z ≤ℤ pos (2 * value_limit g keeper))

-- so is each bound that may be kept, and what each action backs up
abbrev pub BoundLaw : Type 0
BoundLaw = (g : GameModel) → IsAccepted g → (keeper : ℕ) → IsSeat keeper → (table : List ℕ) (bounds : List ℤ) → HasBounds g keeper table bounds
    → ((I : ℕ) → I < length (sets g (other keeper)) → IsInRange g keeper (at bounds I))
    × ((J a : ℕ) → J < length (sets g (other keeper)) → a < slice_index (game_actions g (other keeper)) J → IsInRange g keeper (through (strategy_of g keeper table) (at bounds) J a))

-- and each limit on the way to a node, whatever the rule; so no allowance passes three times the greatest value
abbrev pub LimitLaw : Type 0
LimitLaw = (g : GameModel) → IsAccepted g → (keeper : ℕ) → IsSeat keeper → (table : List ℕ) (bounds : List ℤ) → HasBounds g keeper table bounds
    → (rule : Rule) (node : List ℕ) (I : ℕ) → I < length (sets g (other keeper)) →
    let allow = allowance rule (strategy_of g keeper table) (at bounds) (path_sets g (other keeper) node) in
    IsInRange g keeper (limit (at bounds) allow I) × (allow I ≤ 3 * value_limit g keeper)

-- the units of bounds and of expectations, and the limit of bounds, are at most 2^64
abbrev pub UnitSizeLaw : Type 0
UnitSizeLaw = (g : GameModel) → IsAccepted g →
    (expectation_units g ≤ 2 ^ 64) × ((keeper : ℕ) → IsSeat keeper → (bound_units g keeper ≤ 2 ^ 64) × (value_limit g keeper ≤ 2 ^ 64))

-- in an accepted game no row of the game or of a subgame comes to more than 2^64, and none of a gadget by bounds that may be kept to more than 2^77
abbrev pub RowLaw : Type 0
RowLaw = (g : GameModel) → IsAccepted g →
    HasRows (grid_of g 1) (grid_of g 2) (form_of g) (2 ^ 64)
    × ((keeper : ℕ) → IsSeat keeper → (node table : List ℕ) → IsTable (game_actions g keeper) (grid_of g keeper) table
    → HasRows (grid_of g 1) (grid_of g 2) (subgame_form g keeper node table) (2 ^ 64))
    × ((keeper : ℕ) → IsSeat keeper → (node table : List ℕ) (bounds : List ℤ) → HasBounds g keeper table bounds
    → (rule : Rule) → HasRows (grid_of g 1) (grid_of g 2) (gadget_form g rule keeper node table bounds) (2 ^ 77))

-- in an accepted game the form of the game is small, and so is that of a subgame, and a gadget by bounds that may be kept
abbrev pub SmallLaw : Type 0
SmallLaw = (g : GameModel) → IsAccepted g →
    IsSmall (grid_of g 1) (grid_of g 2) (form_of g)
    × ((keeper : ℕ) → IsSeat keeper → (node table : List ℕ) → IsTable (game_actions g keeper) (grid_of g keeper) table
    → IsSmall (grid_of g 1) (grid_of g 2) (subgame_form g keeper node table))
    × ((keeper : ℕ) → IsSeat keeper → (node table : List ℕ) (bounds : List ℤ) → HasBounds g keeper table bounds
    → (rule : Rule) → IsSmall (grid_of g 1) (grid_of g 2) (gadget_form g rule keeper node table bounds))

-- a table of each seat on its grid, in a small form
pub record IsSmallPair (p : Pair) : Type 0 where
  pub form1 : IsForm p.form 1
  pub form2 : IsForm p.form 2
  pub small : IsSmall p.grid1 p.grid2 p.form
  pub is1 : IsTable (actions_of p.form 1) p.grid1 p.table1
  pub is2 : IsTable (actions_of p.form 2) p.grid2 p.table2

-- what the rows are worth to a seat, by the other's table, without their signs
abbrev pub worths_to : Pair → ℕ → ℕ
worths_to p seat = worth_sizes (record { form = p.form; keeper = other seat; grid = pair_grid p (other seat); table = pair_table p (other seat) })

-- of each row, as it counts for what seat 1 expects, for what the opponent earns, for the value of a set and for that of an action at a deciding set, no term passes 2^77
abbrev pub TermLaw : Type 0
TermLaw = (p : Pair) → IsSmallPair p →
    All (λ z. unsigned_abs (z.worth *ℤ pos (own_weight p.grid1 (actions_of p.form 1) p.table1 z.path1 z.pad1 * own_weight p.grid2 (actions_of p.form 2) p.table2 z.path2 z.pad2)) ≤ 2 ^ 77) p.form.rows
    × ((seat : ℕ) → IsSeat seat → All (λ z. unsigned_abs (pair_worth p seat z) ≤ 2 ^ 77) p.form.rows
    × ((I : ℕ) → All (λ z. unsigned_abs (pair_worth p seat z *ℤ pos (grid_before p seat I z * weight_along p seat (path_from I (path_of z seat)))) ≤ 2 ^ 77) p.form.rows
    × (decides (pair_actions p seat) I ≡ true
    → All (λ z. passes_through I (path_of z seat) ≡ true → unsigned_abs (pair_worth p seat z *ℤ pos (grid_before p seat I z * pair_grid p seat * weight_along p seat (path_after I (path_of z seat)))) ≤ 2 ^ 77) p.form.rows)))

-- so what seat 1 expects, what the rows are worth to a seat together, and the values of its sets and of the actions of its deciding ones are at most 2^94; the weights up to such a set, times that of an action there, at most 2^77
abbrev pub SumLaw : Type 0
SumLaw = (p : Pair) → IsSmallPair p →
    (unsigned_abs (expectation p.grid1 p.grid2 p.form p.table1 p.table2) ≤ 2 ^ 94)
    × ((seat : ℕ) → IsSeat seat → (worths_to p seat ≤ 2 ^ 94)
    × ((I : ℕ) → (unsigned_abs (set_value p seat I) ≤ 2 ^ 94)
    × (decides (pair_actions p seat) I ≡ true → ((a : ℕ) → unsigned_abs (action_value p seat I a) ≤ 2 ^ 94)
    × ((a : ℕ) → a < slice_index (pair_actions p seat) I → reach_in p seat I * pair_weight p seat I a ≤ 2 ^ 77))))

-- in a small form no regret passes 2^107 after at most 4096 rounds, and no sum of the weights reached 2^89
abbrev pub RegretSizeLaw : Type 0
RegretSizeLaw = (grid1 grid2 : ℕ) (f : Form) → IsForm f 1 → IsForm f 2 → IsSmall grid1 grid2 f → (rounds : ℕ) → rounds ≤ 4096 → (seat : ℕ) → IsSeat seat →
    let t = regrets_after grid1 grid2 f rounds in
    All (λ x. unsigned_abs x ≤ 2 ^ 107) (regrets_of t seat) × All (λ x. unsigned_abs x ≤ 2 ^ 89) (sums_of t seat)

-- so it is in an accepted game after at most 4096 rounds: on the whole game, and on a gadget by bounds that may be kept for a node where the keeper decides inside
abbrev pub RoundSizeLaw : Type 0
RoundSizeLaw = (g : GameModel) → IsAccepted g → (rounds : ℕ) → rounds ≤ 4096 → (seat : ℕ) → IsSeat seat →
    (let t = regrets_after (grid_of g 1) (grid_of g 2) (form_of g) rounds in
    All (λ x. unsigned_abs x ≤ 2 ^ 107) (regrets_of t seat) × All (λ x. unsigned_abs x ≤ 2 ^ 89) (sums_of t seat))
    × ((rule : Rule) (keeper : ℕ) → IsSeat keeper → (node table : List ℕ) (bounds : List ℤ) → HasBounds g keeper table bounds → 0 < weights_inside g keeper node →
    let t = regrets_after (grid_of g 1) (grid_of g 2) (gadget_form g rule keeper node table bounds) rounds in
    All (λ x. unsigned_abs x ≤ 2 ^ 107) (regrets_of t seat) × All (λ x. unsigned_abs x ≤ 2 ^ 89) (sums_of t seat))

-- what is rounded stays small: at most 2^16 shares, none above 2^107, sum to at most 2^123, and none passes 2^119 by a grid of at most 2^12
abbrev pub ShareSizeLaw : Type 0
ShareSizeLaw = (grid : ℕ) (shares : List ℤ) → grid ≤ 2 ^ 12 → length shares ≤ 2 ^ 16 → All (λ x. unsigned_abs x ≤ 2 ^ 107) shares
    → (sum_over share_size shares ≤ 2 ^ 123) × All (λ x. grid * share_size x ≤ 2 ^ 119) shares
