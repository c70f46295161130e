-- Whether a strategy passes at a node: at the opponent's sets there no reply earns more than bound and allowance together.
use Rattle.std.specs.Prelude.{ℕ, ◌^◌, ℤ, pos, ◌+ℤ◌, ◌-ℤ◌, ◌*ℤ◌, ◌≤ℤ◌, List, [], ◌∷◌, map, All, Option, Some, None, int_le, if◌then◌else◌}
use Rattle.lab_math.specs.Greatest.{least_of}
use Rattle.lab_defs_value.specs.Replies.{Strategy, Reply, IsReply, reply_sets, reply_factors, earned}
use Rattle.lab_defs_value.specs.BestValues.{best_response_value}

-- the limit of a set: its bound, raised by its allowance
abbrev pub limit : (ℕ → ℤ) → (ℕ → ℕ) → ℕ → ℤ
limit B allow I = B I +ℤ pos (allow I)

-- no reply earns more than the limit at the sets of a node
abbrev pub Passes : Strategy → (ℕ → ℤ) → (ℕ → ℕ) → List ℕ → Type 0
Passes s B allow node =
    All (λ I. (r : Reply) → IsReply (reply_sets s) r → earned s r I ≤ℤ (pos (r.all ^ reply_factors s) *ℤ limit B allow I)) node

-- how far the best value at a set is above its limit
abbrev pub excess : Strategy → (ℕ → ℤ) → (ℕ → ℕ) → ℕ → ℤ
excess s B allow I = best_response_value s I -ℤ limit B allow I

-- how far the best values at the sets of a node stay below their limits: the least of the differences
abbrev pub least_margin : Strategy → (ℕ → ℤ) → (ℕ → ℕ) → List ℕ → ℤ
least_margin s B allow node = least_of (map (λ I. limit B allow I -ℤ best_response_value s I) node)

-- the first set of a node whose best value is above its limit
abbrev pub first_above : Strategy → (ℕ → ℤ) → (ℕ → ℕ) → List ℕ → Option ℕ
first_above s B allow [] = None
first_above s B allow (I ∷ node) = if int_le (best_response_value s I) (limit B allow I) then first_above s B allow node else Some I
