-- The best that replies earn against a strategy.
use Rattle.std.specs.Prelude.{◌≡◌, ℕ, ◌^◌, ◌<◌, ℤ, pos, ◌*ℤ◌, ◌≤ℤ◌, List, [], ◌∷◌, length, map, ◌==◌, if◌then◌else◌, slice_index}
use Rattle.std.specs.List.{range_with_len, flat_map}
use Rattle.lab_math.specs.Greatest.{greatest_of}
use Rattle.lab_defs_value.specs.Replies.{Strategy, Reply, IsReply, reply_sets, reply_factors, earned}

-- b is the best-response value at the set I: no reply earns more, by its number to the factors, and a pure one earns it
pub record IsBest (s : Strategy) (I : ℕ) (b : ℤ) : Type 0 where
  pub bounds : (r : Reply) → IsReply (reply_sets s) r → earned s r I ≤ℤ (pos (r.all ^ reply_factors s) *ℤ b)
  pub earns : (r : Reply) × IsReply (reply_sets s) r × (r.all ≡ 1) × (earned s r I ≡ b)

-- all choices of an action at each set
abbrev pub choices : List ℕ → List (List ℕ)
choices [] = [] ∷ []
choices (n ∷ ns) = flat_map (λ a. map (λ c. a ∷ c) (choices ns)) (range_with_len 0 n)

-- a choice has an action that is there at each set
abbrev pub IsChoice : List ℕ → List ℕ → Type 0
IsChoice actions choice = (J : ℕ) → J < length actions → slice_index choice J < slice_index actions J

-- the pure reply that takes the chosen action at each set
abbrev pub pure_reply : List ℕ → Reply
pure_reply choice = record { all = 1; weight = λ J a. if slice_index choice J == a then 1 else 0 }

-- the best-response value at the set I: the most that a pure reply earns there
abbrev pub best_response_value : Strategy → ℕ → ℤ
best_response_value s I = greatest_of (map (λ c. earned s (pure_reply c) I) (choices (reply_sets s)))
