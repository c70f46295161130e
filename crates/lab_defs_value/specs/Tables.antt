-- Tables: the weights of a strategy at its deciding sets, on a grid.
use Rattle.std.specs.Prelude.{ℕ, ◌+◌, ◌*◌, ◌^◌, pos, ◌==◌, List, [], length, map, flat_map, nat_le, if◌then◌else◌, slice_index, take, replicate}
use Rattle.std.specs.List.{range_with_len}
use Rattle.lab_math.specs.Sums.{sum_over, product_over}
use Rattle.lab_defs_text.specs.Games.{GameModel}
use Rattle.lab_defs_game.specs.Forms.{game_actions, decides}
use Rattle.lab_defs_game.specs.Paths.{SetAction}
use Rattle.lab_defs_value.specs.Rounding.{rounded}

-- how many weights a set with n actions has: a pass has none
abbrev pub weights_of : ℕ → ℕ
weights_of n = if nat_le 2 n then n else 0

-- the place of a set's first weight: how many weights the sets before it have
abbrev pub first_weight : List ℕ → ℕ → ℕ
first_weight actions set = sum_over weights_of (take set actions)

-- how many weights a table of a seat of a game has
abbrev pub weight_count : GameModel → ℕ → ℕ
weight_count g seat = first_weight (game_actions g seat) (length (game_actions g seat))

-- the uniform table: at each deciding set the rounding of as many zeros as it has actions
abbrev pub uniform_table : ℕ → List ℕ → List ℕ
uniform_table grid actions = flat_map (λ n. if nat_le 2 n then rounded grid (replicate n (pos 0)) else []) actions

-- the weights of n actions: the whole grid on the chosen one, 0 on the others
abbrev pub whole_weights : (grid n chosen : ℕ) → List ℕ
whole_weights grid n chosen = map (λ a. if chosen == a then grid else 0) (range_with_len 0 n)

-- the table that puts the whole grid on one action at each deciding set
abbrev pub whole_table : (grid : ℕ) (actions choice : List ℕ) → List ℕ
whole_table grid actions choice =
    flat_map (λ J. if decides actions J then whole_weights grid (slice_index actions J) (slice_index choice J) else []) (range_with_len 0 (length actions))

-- the factor that an action at a set brings: its weight, or 1 at a pass
abbrev pub factor : List ℕ → List ℕ → SetAction → ℕ
factor actions table t = if decides actions t.set then slice_index table (first_weight actions t.set + t.action) else 1

-- the weights of the actions on a path, and the grid for each decision that the row lacks
abbrev pub own_weight : ℕ → List ℕ → List ℕ → List SetAction → ℕ → ℕ
own_weight grid actions table path pad = product_over (factor actions table) path * grid ^ pad
