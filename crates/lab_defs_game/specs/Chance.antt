-- Chance in whole units.
use Rattle.std.specs.Prelude.{ℕ, zero, suc, ◌+◌, ◌-◌, ◌*◌, ◌/◌, List, [], ◌∷◌, length, map, flat_map, filter, ◌==◌}
use Rattle.lab_math.specs.Divisors.{lcm_of}
use Rattle.lab_math.specs.Sums.{sum_over}
use Rattle.lab_defs_text.specs.Games.{GameModel, Place, a_world, an_end, Outcome}
use Rattle.lab_defs_text.specs.Texts.{place_at}
use Rattle.lab_defs_game.specs.Histories.{History, row_of, outcome_of, place_of, inner_histories}

-- the weights of a row's outcomes together
abbrev pub row_total : List Outcome → ℕ
row_total os = sum_over (λ o. o.weight) os

-- the totals of a place's rows
abbrev pub totals_at : Place → List ℕ
totals_at (a_world w) = map row_total w.rows
totals_at (an_end z) = []

-- the unit of step t: the least common multiple of the totals of all rows of worlds where a non-terminal history of t steps leads
abbrev pub chance_unit : GameModel → ℕ → ℕ
chance_unit g t = lcm_of (flat_map (λ h. totals_at (place_of g h)) (filter (λ h. length h == t) (inner_histories g)))

-- the units of n steps from step t on, multiplied
abbrev pub units_from : GameModel → ℕ → ℕ → ℕ
units_from g t zero = 1
units_from g t (suc n) = chance_unit g t * units_from g (t + 1) n

-- the scale: each chance is a whole number over it
abbrev pub scale : GameModel → ℕ
scale g = units_from g 0 g.horizon

-- the chance of steps t, t + 1, .. from the place n, with the units of all later steps
abbrev pub chance_from : GameModel → ℕ → ℕ → History → ℕ
chance_from g t n [] = units_from g t (g.horizon - t)
chance_from g t n (s ∷ h) =
    ((outcome_of g n s).weight * (chance_unit g t / row_total (row_of (place_at g n) s.action1 s.action2))) * chance_from g (t + 1) (outcome_of g n s).next h

-- the chance of a terminal history, over the scale
abbrev pub chance : GameModel → History → ℕ
chance g h = chance_from g 0 g.root h
