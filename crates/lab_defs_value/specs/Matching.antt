-- Regret matching: tables that are mended round by round, by what each action would have earned more.
use Rattle.std.specs.Prelude.{ℕ, zero, suc, ◌+◌, ◌*◌, ◌^◌, ℤ, pos, ◌+ℤ◌, ◌-ℤ◌, ◌*ℤ◌, List, [], ◌∷◌, ◌++◌, length, map, flat_map, filter, take, drop, replicate, Bool, false, ◌==◌, if◌then◌else◌, slice_index}
use Rattle.std.specs.List.{range_with_len}
use Rattle.lab_math.specs.Sums.{total, product_over}
use Rattle.lab_defs_game.specs.Forms.{Row, Form, sets_of, actions_of, path_of, pad_of, decides, deciding, parent_of, chain}
use Rattle.lab_defs_game.specs.Paths.{SetAction}
use Rattle.lab_defs_value.specs.Rounding.{rounded}
use Rattle.lab_defs_value.specs.Tables.{weights_of, first_weight, factor, own_weight}
use Rattle.lab_defs_value.specs.Parents.{passes_through, path_from}
use Rattle.lab_defs_value.specs.Replies.{weighed}
use Rattle.lab_defs_game.specs.Seats.{other}

-- the shares of each deciding set, in set order, rounded: a share for each weight
abbrev pub rounded_table : (grid : ℕ) (actions : List ℕ) → List ℤ → List ℕ
rounded_table grid [] shares = []
rounded_table grid (n ∷ ns) shares = rounded grid (take (weights_of n) shares) ++ rounded_table grid ns (drop (weights_of n) shares)

-- a table of each seat on its grid, in a form
pub record Pair : Type 0 where
  pub form : Form
  pub grid1 : ℕ
  pub grid2 : ℕ
  pub table1 : List ℕ
  pub table2 : List ℕ

-- the grid of a seat
abbrev pub pair_grid : Pair → ℕ → ℕ
pair_grid p seat = if seat == 1 then p.grid1 else p.grid2

-- the table of a seat
abbrev pub pair_table : Pair → ℕ → List ℕ
pair_table p seat = if seat == 1 then p.table1 else p.table2

-- how many actions a seat has at each of its sets
abbrev pub pair_actions : Pair → ℕ → List ℕ
pair_actions p seat = actions_of p.form seat

-- the weight of the action a at the deciding set I
abbrev pub pair_weight : Pair → (seat I a : ℕ) → ℕ
pair_weight p seat I a = slice_index (pair_table p seat) (first_weight (pair_actions p seat) I + a)

-- the weights of a seat's actions along steps
abbrev pub weight_along : Pair → ℕ → List SetAction → ℕ
weight_along p seat path = product_over (factor (pair_actions p seat) (pair_table p seat)) path

-- what a row is worth to a seat, times the other seat's own weight
abbrev pub pair_worth : Pair → ℕ → Row → ℤ
pair_worth p seat z =
    weighed seat (own_weight (pair_grid p (other seat)) (pair_actions p (other seat)) (pair_table p (other seat)) (path_of z (other seat)) (pad_of z (other seat))) z

-- the steps of a path before the set I
abbrev pub path_before : ℕ → List SetAction → List SetAction
path_before I [] = []
path_before I (t ∷ ts) = if t.set == I then [] else t ∷ path_before I ts

-- the steps of a path after the set I
abbrev pub path_after : ℕ → List SetAction → List SetAction
path_after I path = drop 1 (path_from I path)

-- whether a path takes the action a where it comes to the set I
abbrev pub takes : (I a : ℕ) → List SetAction → Bool
takes I a [] = false
takes I a (t ∷ ts) = if t.set == I then t.action == a else takes I a ts

-- the grid for each deciding set before I, and for each decision that the row lacks
abbrev pub grid_before : Pair → (seat I : ℕ) → Row → ℕ
grid_before p seat I z = pair_grid p seat ^ (deciding (pair_actions p seat) (path_before I (path_of z seat)) + pad_of z seat)

-- the counterfactual value of the action a at the set I: what the rows earn that take it, by the weights after I, and the grid in place of each up to I
abbrev pub action_value : Pair → (seat I a : ℕ) → ℤ
action_value p seat I a =
    total (λ z. pair_worth p seat z *ℤ pos (grid_before p seat I z * pair_grid p seat * weight_along p seat (path_after I (path_of z seat))))
    (filter (λ z. takes I a (path_of z seat)) p.form.rows)

-- the counterfactual value of the set I: what all rows through it earn, by the weights from I on, and the grid in place of each before
abbrev pub set_value : Pair → (seat I : ℕ) → ℤ
set_value p seat I =
    total (λ z. pair_worth p seat z *ℤ pos (grid_before p seat I z * weight_along p seat (path_from I (path_of z seat))))
    (filter (λ z. passes_through I (path_of z seat)) p.form.rows)

-- how much more than its set each action at the set I is worth
abbrev pub regrets_at : Pair → (seat I : ℕ) → List ℤ
regrets_at p seat I = let value = set_value p seat I in map (λ a. action_value p seat I a -ℤ value) (range_with_len 0 (slice_index (pair_actions p seat) I))

-- the reach of the set I by its own seat: the weights of the seat's actions on the way to it
abbrev pub reach_in : Pair → (seat I : ℕ) → ℕ
reach_in p seat I = weight_along p seat (chain (sets_of p.form seat) (parent_of p.form seat I))

-- the weights of the actions at the set I, times those before
abbrev pub reached_at : Pair → (seat I : ℕ) → List ℤ
reached_at p seat I =
    let before = reach_in p seat I in
    map (λ a. pos (before * pair_weight p seat I a)) (range_with_len 0 (slice_index (pair_actions p seat) I))

-- at each deciding set of a seat, in set order
abbrev pub at_deciding : Pair → ℕ → (ℕ → List ℤ) → List ℤ
at_deciding p seat f = flat_map (λ I. if decides (pair_actions p seat) I then f I else []) (range_with_len 0 (length (pair_actions p seat)))

-- numbers with others added, one by one
abbrev pub added : List ℤ → List ℤ → List ℤ
added [] ys = []
added (x ∷ xs) [] = x ∷ xs
added (x ∷ xs) (y ∷ ys) = (x +ℤ y) ∷ added xs ys

-- for each weight of both seats the regret so far, and the sum of the weights reached so far
pub record Regrets : Type 0 where
  pub regrets1 : List ℤ
  pub regrets2 : List ℤ
  pub sums1 : List ℤ
  pub sums2 : List ℤ

-- the regrets of a seat
abbrev pub regrets_of : Regrets → ℕ → List ℤ
regrets_of t seat = if seat == 1 then t.regrets1 else t.regrets2

-- the summed weights of a seat
abbrev pub sums_of : Regrets → ℕ → List ℤ
sums_of t seat = if seat == 1 then t.sums1 else t.sums2

-- a zero for each weight
abbrev pub zeros : List ℕ → List ℤ
zeros actions = replicate (first_weight actions (length actions)) (pos 0)

-- before the first round
abbrev pub regrets_start : Form → Regrets
regrets_start f = record { regrets1 = zeros (actions_of f 1); regrets2 = zeros (actions_of f 2); sums1 = zeros (actions_of f 1); sums2 = zeros (actions_of f 2) }

-- a tally with what both seats' tables add to it
abbrev pub with_pair : Pair → Regrets → Regrets
with_pair p t = record {
  regrets1 = added t.regrets1 (at_deciding p 1 (regrets_at p 1));
  regrets2 = added t.regrets2 (at_deciding p 2 (regrets_at p 2));
  sums1 = added t.sums1 (at_deciding p 1 (reached_at p 1));
  sums2 = added t.sums2 (at_deciding p 2 (reached_at p 2));
}

-- the tables of a round: the regrets so far, rounded
abbrev pub pair_of : (grid1 grid2 : ℕ) → Form → Regrets → Pair
pair_of grid1 grid2 f t = record {
  form = f;
  grid1 = grid1;
  grid2 = grid2;
  table1 = rounded_table grid1 (actions_of f 1) t.regrets1;
  table2 = rounded_table grid2 (actions_of f 2) t.regrets2;
}

-- one more round
abbrev pub regrets_next : (grid1 grid2 : ℕ) → Form → Regrets → Regrets
regrets_next grid1 grid2 f t = let p = pair_of grid1 grid2 f t in with_pair p t

-- after n rounds
abbrev pub regrets_after : (grid1 grid2 : ℕ) → Form → ℕ → Regrets
regrets_after grid1 grid2 f zero = regrets_start f
regrets_after grid1 grid2 f (suc n) = regrets_next grid1 grid2 f (regrets_after grid1 grid2 f n)

-- the averages of both seats over n rounds: the summed weights, rounded
abbrev pub averages : (grid1 grid2 : ℕ) → Form → ℕ → List ℕ × List ℕ
averages grid1 grid2 f n =
    let t = regrets_after grid1 grid2 f n in
    (rounded_table grid1 (actions_of f 1) t.sums1, rounded_table grid2 (actions_of f 2) t.sums2)
