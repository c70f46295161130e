-- What holds of the form of an accepted game, of its subgames and of its tables.
use Rattle.std.specs.Prelude.{◌≡◌, ℕ, ◌+◌, ◌-◌, ◌^◌, ◌<◌, ℤ, pos, neg_ℤ, ◌*ℤ◌, ◌≤ℤ◌, List, length, true, false, slice_index}
use Rattle.lab_defs_text.specs.Games.{GameModel}
use Rattle.lab_defs_text.specs.Texts.{one_of}
use Rattle.lab_defs_game.specs.Seats.{IsSeat, other, grid_of}
use Rattle.lab_defs_game.specs.Sets.{sets, most_decisions}
use Rattle.lab_defs_game.specs.Nodes.{node_sets, subgame_sets}
use Rattle.lab_defs_game.specs.Paths.{SetAction}
use Rattle.lab_defs_game.specs.Forms.{form_of, game_actions, decides}
use Rattle.lab_defs_game.specs.Accepted.{IsAccepted}
use Rattle.lab_defs_value.specs.Tables.{first_weight, weight_count, factor, whole_table}
use Rattle.lab_defs_value.specs.Expectation.{expectation}
use Rattle.lab_defs_value.specs.Replies.{IsTable, strategy_of, reply_by, factors_in, earned}
use Rattle.lab_defs_value.specs.BestValues.{IsBest, IsChoice, best_response_value}
use Rattle.lab_defs_value.specs.Bounds.{at, through, Holds, Tight}
use Rattle.lab_defs_value.specs.Laws.{IsPadded}
use Rattle.lab_defs_value.specs.Matching.{Pair, pair_table, set_value}
use Rattle.lab_defs_value.specs.Splices.{replaced}
use Rattle.lab_defs_value.specs.Subgames.{weights_inside}
use Rattle.lab_defs_value.specs.Settling.{sets_above, settled_bounds}

-- each row of an accepted game begins at set 0 of either seat, and has as many factors of it as the seat's most decisions
abbrev pub GamePaddedLaw : Type 0
GamePaddedLaw = (g : GameModel) → IsAccepted g → (seat : ℕ) → IsSeat seat → IsPadded (form_of g) seat × (factors_in (form_of g) seat ≡ most_decisions g seat)

-- where a seat decides in a subgame, each seat has a set at its node
abbrev pub DecidesLaw : Type 0
DecidesLaw = (g : GameModel) (seat o : ℕ) (node : List ℕ) → 0 < weights_inside g seat node → 0 < length (node_sets g o node)

-- what a table earns as a reply is what its seat expects
abbrev pub GameExpectationLaw : Type 0
GameExpectationLaw = (g : GameModel) → IsAccepted g → (table1 table2 : List ℕ) →
    let expected = expectation (grid_of g 1) (grid_of g 2) (form_of g) table1 table2 in
    (earned (strategy_of g 1 table1) (reply_by (grid_of g 2) (game_actions g 2) table2) 0 ≡ neg_ℤ expected)
    × (earned (strategy_of g 2 table2) (reply_by (grid_of g 1) (game_actions g 1) table1) 0 ≡ expected)

-- bounds that hold limit at the first set what a seat loses on average to any table of the other
abbrev pub GameGuaranteeLaw : Type 0
GameGuaranteeLaw = (g : GameModel) → IsAccepted g → (table1 table2 : List ℕ) (B : ℕ → ℤ) →
    let expected = expectation (grid_of g 1) (grid_of g 2) (form_of g) table1 table2 in
    (Holds (strategy_of g 1 table1) B → IsTable (game_actions g 2) (grid_of g 2) table2 → neg_ℤ expected ≤ℤ (pos (grid_of g 2 ^ most_decisions g 2) *ℤ B 0))
    × (Holds (strategy_of g 2 table2) B → IsTable (game_actions g 1) (grid_of g 1) table1 → expected ≤ℤ (pos (grid_of g 1 ^ most_decisions g 1) *ℤ B 0))

-- some table with the whole grid on one action at each deciding set earns the best-response value against a table
abbrev pub GameBestTableLaw : Type 0
GameBestTableLaw = (g : GameModel) → IsAccepted g → (table1 table2 : List ℕ) →
    ((choice : List ℕ) × IsChoice (game_actions g 2) choice
    × (neg_ℤ (expectation (grid_of g 1) (grid_of g 2) (form_of g) table1 (whole_table (grid_of g 2) (game_actions g 2) choice))
    ≡ best_response_value (strategy_of g 1 table1) 0 *ℤ pos (grid_of g 2 ^ most_decisions g 2)))
    × ((choice : List ℕ) × IsChoice (game_actions g 1) choice
    × (expectation (grid_of g 1) (grid_of g 2) (form_of g) (whole_table (grid_of g 1) (game_actions g 1) choice) table2
    ≡ best_response_value (strategy_of g 2 table2) 0 *ℤ pos (grid_of g 1 ^ most_decisions g 1)))

-- the counterfactual value of a set is what its seat's table earns there as a reply to the other's
abbrev pub GameEarningLaw : Type 0
GameEarningLaw = (g : GameModel) → IsAccepted g → (table1 table2 : List ℕ) (seat I : ℕ) → IsSeat seat →
    let p : Pair = record { form = form_of g; grid1 = grid_of g 1; grid2 = grid_of g 2; table1 = table1; table2 = table2 } in
    set_value p seat I ≡ earned (strategy_of g (other seat) (pair_table p (other seat))) (reply_by (grid_of g seat) (game_actions g seat) (pair_table p seat)) I

-- a splice in the subgame of a node: as many weights as before, the proposal's in set order at the sets inside, and the table's at all others
abbrev pub GameSpliceLaw : Type 0
GameSpliceLaw = (g : GameModel) (seat : ℕ) (node table proposal : List ℕ) → length table ≡ weight_count g seat → length proposal ≡ weights_inside g seat node →
    let after = replaced g seat node table proposal in
    let actions = game_actions g seat in
    let first = slice_index (subgame_sets g seat node) 0 in
    (length after ≡ length table)
    × ((J a : ℕ) → one_of (subgame_sets g seat node) J ≡ true → decides actions J ≡ true → a < slice_index actions J
    → slice_index after (first_weight actions J + a) ≡ slice_index proposal (first_weight actions J - first_weight actions first + a))
    × ((t : SetAction) → t.set < length actions → t.action < slice_index actions t.set → one_of (subgame_sets g seat node) t.set ≡ false → factor actions after t ≡ factor actions table t)

-- what becomes of the bounds of a table that are settled for the subgame of a node: inside they are the best-response values, off its sets and the path they are as they were;
-- they hold where they held off these, and are tight where they were there
abbrev pub GameSettledLaw : Type 0
GameSettledLaw = (g : GameModel) → IsAccepted g → (keeper : ℕ) → IsSeat keeper → (node table : List ℕ) (bounds : List ℤ) →
    let s = strategy_of g keeper table in
    let inside = one_of (subgame_sets g (other keeper) node) in
    let above = one_of (sets_above g (other keeper) node) in
    let after = at (settled_bounds g keeper node table bounds) in
    let IsOff = λ (J : ℕ). (J < length (sets g (other keeper))) × (inside J ≡ false) × (above J ≡ false) in
    (length (settled_bounds g keeper node table bounds) ≡ length (sets g (other keeper)))
    × ((J : ℕ) → J < length (sets g (other keeper)) → inside J ≡ true → after J ≡ best_response_value s J)
    × ((J : ℕ) → IsOff J → after J ≡ at bounds J)
    × (((J a : ℕ) → IsOff J → a < slice_index (game_actions g (other keeper)) J → through s (at bounds) J a ≤ℤ at bounds J) → Holds s after)
    × (((J : ℕ) → IsOff J → IsBest s J (at bounds J)) → Tight s after)
