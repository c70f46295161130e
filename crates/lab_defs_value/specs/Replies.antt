-- Replies to a strategy, and what they earn.
use Rattle.std.specs.Prelude.{◌≡◌, ℕ, ◌+◌, ◌-◌, ◌*◌, ◌^◌, ◌<◌, ◌≤◌, ℤ, pos, neg_ℤ, ◌*ℤ◌, List, length, filter, true, ◌==◌, if◌then◌else◌, slice_index}
use Rattle.lab_math.specs.Sums.{total, product_over, greatest_over}
use Rattle.lab_math.specs.Below.{sum_below}
use Rattle.lab_defs_text.specs.Games.{GameModel}
use Rattle.lab_defs_game.specs.Forms.{Row, Form, form_of, actions_of, path_of, pad_of, decides, deciding}
use Rattle.lab_defs_game.specs.Paths.{SetAction}
use Rattle.lab_defs_value.specs.Tables.{first_weight, own_weight}
use Rattle.lab_defs_game.specs.Seats.{other, grid_of}
use Rattle.lab_defs_value.specs.Parents.{passes_through, path_from}

-- a strategy: in a form the keeper, a seat, plays a table on its grid
pub record Strategy : Type 0 where
  pub form : Form
  pub keeper : ℕ
  pub grid : ℕ
  pub table : List ℕ

-- a table of a seat of a game
abbrev pub strategy_of : GameModel → ℕ → List ℕ → Strategy
strategy_of g seat table = record { form = form_of g; keeper = seat; grid = grid_of g seat; table = table }

-- the seat that replies
abbrev pub opponent : Strategy → ℕ
opponent s = other s.keeper

-- the numbers of actions of the opponent's sets
abbrev pub reply_sets : Strategy → List ℕ
reply_sets s = actions_of s.form (opponent s)

-- what is worth w to seat 1 is worth to a seat
abbrev pub worth_to : ℕ → ℤ → ℤ
worth_to seat w = if seat == 1 then w else neg_ℤ w

-- what a row is worth to a seat, times a weight
abbrev pub weighed : (seat weight : ℕ) → Row → ℤ
weighed seat weight z = worth_to seat z.worth *ℤ pos weight

-- what a row is worth to the opponent, times the keeper's own weight
abbrev pub worth_against : Strategy → Row → ℤ
worth_against s z = weighed (opponent s) (own_weight s.grid (actions_of s.form s.keeper) s.table (path_of z s.keeper) (pad_of z s.keeper)) z

-- how many factors a seat brings to each row: its decisions and pad together, the most on any row; in a game the most decisions of the seat
abbrev pub factors_in : Form → ℕ → ℕ
factors_in f seat = greatest_over (λ z. deciding (actions_of f seat) (path_of z seat) + pad_of z seat) f.rows

-- how many a reply brings
abbrev pub reply_factors : Strategy → ℕ
reply_factors s = factors_in s.form (opponent s)

-- a reply: a number, and whole weights of the actions at each set
pub record Reply : Type 0 where
  pub all : ℕ
  pub weight : ℕ → ℕ → ℕ

-- at each deciding set the weights of a reply sum to its number
abbrev pub SumsUp : List ℕ → Reply → Type 0
SumsUp actions r = (J : ℕ) → J < length actions → decides actions J ≡ true → sum_below (slice_index actions J) (r.weight J) ≡ r.all

-- they do, and the number is at least 1; a reply is pure where the number is 1
abbrev pub IsReply : List ℕ → Reply → Type 0
IsReply actions r = (1 ≤ r.all) × SumsUp actions r

-- a table on a grid, as a reply
abbrev pub reply_by : ℕ → List ℕ → List ℕ → Reply
reply_by grid actions table = record { all = grid; weight = λ J a. slice_index table (first_weight actions J + a) }

-- the weights of a table sum to the grid at each deciding set
abbrev pub SumsToGrid : ℕ → List ℕ → List ℕ → Type 0
SumsToGrid grid actions table = SumsUp actions (reply_by grid actions table)

-- a table on a grid, which is at least 1
abbrev pub IsTable : List ℕ → ℕ → List ℕ → Type 0
IsTable actions grid table = IsReply actions (reply_by grid actions table)

-- the factor that an action at a set brings: its weight, or 1 at a pass
abbrev pub reply_factor : List ℕ → Reply → SetAction → ℕ
reply_factor actions r t = if decides actions t.set then r.weight t.set t.action else 1

-- the weights of a reply on a path from the set I on, made up to m factors by its number
abbrev pub tail : List ℕ → ℕ → Reply → ℕ → List SetAction → ℕ
tail actions m r I path = product_over (reply_factor actions r) (path_from I path) * r.all ^ (m - deciding actions (path_from I path))

-- what a reply earns on the rows through the set I: its counterfactual value there
abbrev pub earned : Strategy → Reply → ℕ → ℤ
earned s r I =
    let o = opponent s in
    let m = reply_factors s in
    total (λ z. worth_against s z *ℤ pos (tail (reply_sets s) m r I (path_of z o))) (filter (λ z. passes_through I (path_of z o)) s.form.rows)
