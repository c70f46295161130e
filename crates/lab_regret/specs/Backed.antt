-- What rows count for the last decision before a set, while the sets from it on are done: values are backed up by it, set by set.
use Rattle.std.specs.Prelude.{ℕ, ◌+◌, ◌*◌, ◌^◌, ℤ, pos, ◌*ℤ◌, List, ◌==◌, nat_lt, nat_le, if◌then◌else◌, slice_index}
use Rattle.std.specs.List.{filter}
use Rattle.lab_math.specs.Sums.{total}
use Rattle.lab_math.specs.Below.{total_below}
use Rattle.lab_defs_game.specs.Paths.{SetAction}
use Rattle.lab_defs_game.specs.Forms.{Row, path_of, pad_of}
use Rattle.lab_defs_value.specs.Tables.{first_weight}
use Rattle.lab_defs_value.specs.Matching.{Pair, pair_grid, pair_actions, pair_weight, weight_along, pair_worth}
use Rattle.lab_form.specs.Decisions.{last_deciding, weight_number}

-- the steps of a path at sets before the set I
abbrev pub steps_below : ℕ → List SetAction → List SetAction
steps_below I path = filter (λ t. nat_lt t.set I) path

-- the other ones
abbrev pub steps_from : ℕ → List SetAction → List SetAction
steps_from I path = filter (λ t. nat_le I t.set) path

-- the number of the last decision of a path at a set before I, as weights are numbered, plus one; 0 where there is none
abbrev pub decision_below : List ℕ → ℕ → List SetAction → ℕ
decision_below actions I path = weight_number actions (last_deciding actions (steps_below I path))

-- the seat's weights on a row at the sets from I on, and its grid for each decision that the row lacks
abbrev pub weight_from : Pair → (seat I : ℕ) → Row → ℕ
weight_from p seat I z = pair_grid p seat ^ pad_of z seat * weight_along p seat (steps_from I (path_of z seat))

-- what is backed up to a decision before the set I, or to none, once the sets from I on are done: the rows of which it is the last decision before I
unfoldable pub backed : Pair → (seat I decision : ℕ) → ℤ
backed p seat I decision =
    total (λ z. pair_worth p seat z *ℤ pos (if decision_below (pair_actions p seat) I (path_of z seat) == decision then weight_from p seat I z else 0)) p.form.rows

-- what a set backs up: what is backed up to each of its actions, times the weight
abbrev pub backed_by : Pair → (seat I : ℕ) → ℤ
backed_by p seat I =
    total_below (slice_index (pair_actions p seat) I) (λ a. pos (pair_weight p seat I a) *ℤ backed p seat (I + 1) (first_weight (pair_actions p seat) I + a + 1))
