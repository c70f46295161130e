-- Why a game is not unfolded.
use Rattle.std.specs.Prelude.{ℕ, zero, suc, ◌+◌, ◌*◌, ◌^◌, List, [], ◌∷◌, length, map, flat_map, max, true, false, nat_lt, nat_le, unsigned_abs, slice_index, if◌then◌else◌, Option, Some, None}
use Rattle.std.specs.List.{find, range_with_len}
use Rattle.lab_math.specs.Sums.{sum_over, greatest_over}
use Rattle.lab_defs_text.specs.Games.{GameModel}
use Rattle.lab_defs_text.specs.Texts.{place_at, is_world}
use Rattle.lab_defs_game.specs.Histories.{outcome_of, steps_of, terminal_histories, payoff}
use Rattle.lab_defs_game.specs.Seats.{grid_of}
use Rattle.lab_defs_game.specs.Sets.{most_decisions}
use Rattle.lab_defs_game.specs.Chance.{scale}

-- too many histories, from which depth on; a history that does not end within the horizon, at which place; numbers too great, by the greatest payoff, the scale unless it is greater still, and each seat's most decisions
pub data UnfoldFault : Type 0 where
  too_many_histories : ℕ → UnfoldFault
  horizon_passed : ℕ → UnfoldFault
  size_passed : ℕ → Option ℕ → ℕ → ℕ → UnfoldFault

-- the most histories that a game may have
abbrev pub history_limit : ℕ
history_limit = 65536

-- in how many ways one step more leads on from each place, where `ways` says it of fewer steps
abbrev pub further : GameModel → List ℕ → List ℕ
further g ways = map (λ n. sum_over (λ s. slice_index ways (outcome_of g n s).next) (steps_of (place_at g n))) (range_with_len 0 (length g.places))

-- in how many ways t + 1 steps lead on from each place
abbrev pub ways_on : GameModel → ℕ → List ℕ
ways_on g zero = map (λ p. length (steps_of p)) g.places
ways_on g (suc t) = further g (ways_on g t)

-- how many histories have at most t steps
abbrev pub history_count : GameModel → ℕ → ℕ
history_count g zero = 1
history_count g (suc t) = history_count g t + slice_index (ways_on g t) g.root

-- the first depth from t on, n depths being left, up to which there are too many histories
abbrev pub first_too_many : GameModel → ℕ → ℕ → Option ℕ
first_too_many g t zero = None
first_too_many g t (suc n) = elim (nat_lt history_limit (history_count g t)) [ true ↦ Some t | false ↦ first_too_many g (t + 1) n ]

-- the numbers of the places where the histories of t steps lead, in their order
abbrev pub standing : GameModel → ℕ → List ℕ
standing g zero = g.root ∷ []
standing g (suc t) = flat_map (λ n. map (λ s. (outcome_of g n s).next) (steps_of (place_at g n))) (standing g t)

-- the first of these places that is a world
abbrev pub first_world : GameModel → List ℕ → Option ℕ
first_world g ns = find (λ n. is_world (place_at g n)) ns

-- the greatest absolute payoff of an end that a history reaches
abbrev pub top_payoff : GameModel → ℕ
top_payoff g = greatest_over (λ h. unsigned_abs (payoff g h)) (terminal_histories g)

-- the size of a game: the greatest payoff, at least 1, in the units of an expectation, which are the scale and each seat's grid for each of its most decisions
abbrev pub size : GameModel → ℕ
size g = max 1 (top_payoff g) * scale g * (grid_of g 1 ^ most_decisions g 1 * grid_of g 2 ^ most_decisions g 2)

-- a scale, unless it passes 2^80
abbrev pub told_scale : ℕ → Option ℕ
told_scale k = if nat_le k (2 ^ 80) then Some k else None

-- whether the size is passed
abbrev pub size_fault : GameModel → Option UnfoldFault
size_fault g = if nat_lt (2 ^ 64) (size g)
    then Some (size_passed (top_payoff g) (told_scale (scale g)) (most_decisions g 1) (most_decisions g 2)) else None

-- whether the horizon is passed, or else the size
abbrev pub horizon_fault : GameModel → Option UnfoldFault
horizon_fault g = elim (first_world g (standing g g.horizon)) [ Some n ↦ Some (horizon_passed n) | None ↦ size_fault g ]

-- the first reason why a game is not unfolded: its histories, its horizon, its size
abbrev pub unfold_fault : GameModel → Option UnfoldFault
unfold_fault g = elim (first_too_many g 0 (g.horizon + 1)) [ Some t ↦ Some (too_many_histories t) | None ↦ horizon_fault g ]
