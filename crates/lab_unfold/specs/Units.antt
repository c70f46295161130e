-- Chance units, as they are made from the last of some numbers on.
use Rattle.std.specs.Prelude.{ℕ, List, [], ◌∷◌, ◌==◌, if◌then◌else◌}
use Rattle.lab_math.specs.Divisors.{lcm}
use Rattle.lab_defs_text.specs.Games.{GameModel}
use Rattle.lab_defs_text.specs.Texts.{place_at}
use Rattle.lab_defs_game.specs.Chance.{totals_at}
use Rattle.lab_unfold.specs.declared.history.History.{History}

-- the least common multiple of numbers and another
abbrev pub lcm_with : List ℕ → ℕ → ℕ
lcm_with [] m = m
lcm_with (n ∷ ns) m = lcm n (lcm_with ns m)

-- a unit with the totals at the place of a history, where it has t steps
abbrev pub unit_with : GameModel → ℕ → History → ℕ → ℕ
unit_with g t h m = if h.depth == t then lcm_with (totals_at (place_at g h.world.0)) m else m

-- the unit of step t by these histories
abbrev pub unit_of : GameModel → ℕ → List History → ℕ
unit_of g t [] = 1
unit_of g t (h ∷ hs) = unit_with g t h (unit_of g t hs)
