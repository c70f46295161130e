-- Allowances: how far the bounds may rise at the sets of the path to a node.
use Rattle.std.specs.Prelude.{ℕ, zero, suc, ◌<◌, ◌≤◌, ℤ, pos, ◌+ℤ◌, ◌-ℤ◌, List, [], ◌∷◌, length, nat_lt, Option, Some, None}
use Rattle.lab_defs_game.specs.Keys.{count}
use Rattle.lab_defs_game.specs.Paths.{SetAction, followers}
use Rattle.lab_defs_game.specs.Forms.{parent_of}
use Rattle.lab_defs_value.specs.Rounding.{share_size, even_part}
use Rattle.lab_defs_value.specs.Replies.{Strategy, opponent, reply_sets}
use Rattle.lab_defs_value.specs.Bounds.{through}

-- the rules by which a part of a table may be replaced
pub data Rule : Type 0 where
  cfrd : Rule
  reach : Rule
  margin : Rule

-- of the opponent's sets on a path those that follow the action a at J directly
abbrev pub path_followers : Strategy → List ℕ → ℕ → ℕ → List ℕ
path_followers s path J a = followers (parent_of s.form (opponent s)) path (record { set = J; action = a })

-- what the followers of an action share: the allowance of its set, and what the bound there has over what the action backs up
abbrev pub pool : Strategy → (ℕ → ℤ) → (ℕ → ℕ) → ℕ → ℕ → ℕ
pool s B allow J a = share_size (pos (allow J) +ℤ (B J -ℤ through s B J a))

-- the part of the set I in the pool of the step that it follows: an even one, by its place among those that follow
abbrev pub shared : Strategy → (ℕ → ℤ) → List ℕ → (ℕ → ℕ) → ℕ → Option SetAction → ℕ
shared s B path allow I None = 0
shared s B path allow I (Some t) =
    let family = path_followers s path t.set t.action in
    even_part (pool s B allow t.set t.action) (length family) (count (λ K. nat_lt K I) family)

-- the allowance by reach of a set with at most n sets above it
abbrev pub reach_within : Strategy → (ℕ → ℤ) → List ℕ → ℕ → ℕ → ℕ
reach_within s B path zero I = 0
reach_within s B path (suc n) I = shared s B path (reach_within s B path n) I (parent_of s.form (opponent s) I)

-- the allowance of a set on the path
abbrev pub allowance : Rule → Strategy → (ℕ → ℤ) → List ℕ → ℕ → ℕ
allowance cfrd s B path I = 0
allowance margin s B path I = 0
allowance reach s B path I = reach_within s B path (length (reply_sets s)) I

-- numbers in order, from `low` on and below n
abbrev pub Ascends : ℕ → ℕ → List ℕ → Type 0
Ascends low n [] = Unit {0}
Ascends low n (x ∷ xs) = (low ≤ x) × (x < n) × Ascends (suc x) n xs
