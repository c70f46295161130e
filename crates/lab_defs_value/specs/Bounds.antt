-- Tables of bounds: a number for each set of the opponent.
use Rattle.std.specs.Prelude.{◌≡◌, ℕ, ◌*◌, ◌^◌, ◌<◌, ℤ, pos, ◌+ℤ◌, ◌≤ℤ◌, List, length, map, max, get_or, if◌then◌else◌, slice_index, Bool, int_le}
use Rattle.std.specs.List.{list_all, range_with_len}
use Rattle.lab_math.specs.Sums.{total}
use Rattle.lab_math.specs.Below.{total_below}
use Rattle.lab_defs_text.specs.Games.{GameModel}
use Rattle.lab_defs_game.specs.Sets.{sets, most_decisions}
use Rattle.lab_defs_game.specs.Unfolding.{top_payoff}
use Rattle.lab_defs_game.specs.Chance.{scale}
use Rattle.lab_defs_game.specs.Forms.{path_of, parent_of, game_actions}
use Rattle.lab_defs_game.specs.Seats.{grid_of, other}
use Rattle.lab_defs_game.specs.Paths.{is_taken, last_step}
use Rattle.lab_defs_value.specs.Tables.{weight_count}
use Rattle.lab_defs_value.specs.Replies.{Strategy, strategy_of, opponent, reply_sets, worth_against, IsTable}
use Rattle.lab_defs_value.specs.BestValues.{IsBest, best_response_value}

-- the number of the set I in a list
abbrev pub at : List ℤ → ℕ → ℤ
at numbers I = get_or numbers I (pos 0)

-- the bounds of the sets that follow the action a at J directly
abbrev pub through_sets : Strategy → (ℕ → ℤ) → ℕ → ℕ → ℤ
through_sets s B J a = total_below (length (reply_sets s)) (λ I. if is_taken (record { set = J; action = a }) (parent_of s.form (opponent s) I) then B I else pos 0)

-- what the rows are worth whose last step is the action a at J
abbrev pub through_rows : Strategy → ℕ → ℕ → ℤ
through_rows s J a = total (λ z. if is_taken (record { set = J; action = a }) (last_step (path_of z (opponent s))) then worth_against s z else pos 0) s.form.rows

-- what an action backs up, the Q of the set and action: the bounds of the sets that follow it directly, and the rows that end with it
abbrev pub through : Strategy → (ℕ → ℤ) → ℕ → ℕ → ℤ
through s B J a = through_sets s B J a +ℤ through_rows s J a

-- a table holds where each bound is at least what each action of its set backs up
abbrev pub Holds : Strategy → (ℕ → ℤ) → Type 0
Holds s B = (J a : ℕ) → J < length (reply_sets s) → a < slice_index (reply_sets s) J → through s B J a ≤ℤ B J

-- whether a table holds: the test goes through the sets and their actions
abbrev pub holds : Strategy → (ℕ → ℤ) → Bool
holds s B = list_all (λ J. list_all (λ a. int_le (through s B J a) (B J)) (range_with_len 0 (slice_index (reply_sets s) J))) (range_with_len 0 (length (reply_sets s)))

-- it is backed up where it holds and each bound is what one of the actions backs up
pub record IsBackedUp (s : Strategy) (B : ℕ → ℤ) : Type 0 where
  pub bounds : Holds s B
  pub taken : (J : ℕ) → J < length (reply_sets s) → (a : ℕ) × (a < slice_index (reply_sets s) J) × (through s B J a ≡ B J)

-- at one set: its bound is the greatest of what its actions back up
pub record IsBackedAt (s : Strategy) (B : ℕ → ℤ) (J : ℕ) : Type 0 where
  pub bounds : (a : ℕ) → a < slice_index (reply_sets s) J → through s B J a ≤ℤ B J
  pub taken : (a : ℕ) × (a < slice_index (reply_sets s) J) × (through s B J a ≡ B J)

-- it is tight where each bound is the best-response value
abbrev pub Tight : Strategy → (ℕ → ℤ) → Type 0
Tight s B = (J : ℕ) → J < length (reply_sets s) → IsBest s J (B J)

-- the units of the bounds on a table of a seat: the printed bound is the first number over them
abbrev pub bound_units : GameModel → ℕ → ℕ
bound_units g keeper = scale g * grid_of g keeper ^ most_decisions g keeper

-- ---- bounds of a game

-- the most that a bound of a keeper may be at the first set: the greatest payoff, at least 1, in the units of the bounds
abbrev pub value_limit : GameModel → ℕ → ℕ
value_limit g keeper = max 1 (top_payoff g) * scale g * grid_of g keeper ^ most_decisions g keeper

-- the tight bounds of a table of a seat: the best-response value at each set of the opponent
abbrev pub tight_bounds : GameModel → ℕ → List ℕ → List ℤ
tight_bounds g seat table = map (best_response_value (strategy_of g seat table)) (range_with_len 0 (length (sets g (other seat))))

-- bounds that may be kept beside a table of a seat: it is a table, there is a bound for each set of the opponent, they hold, and the first is within the limit
pub record HasBounds (g : GameModel) (keeper : ℕ) (table : List ℕ) (bounds : List ℤ) : Type 0 where
  pub weights : length table ≡ weight_count g keeper
  pub sums : IsTable (game_actions g keeper) (grid_of g keeper) table
  pub count : length bounds ≡ length (sets g (other keeper))
  pub holding : Holds (strategy_of g keeper table) (at bounds)
  pub first : at bounds 0 ≤ℤ pos (value_limit g keeper)
