-- The rounding rule: shares become whole weights that sum to the grid.
use Rattle.std.specs.Prelude.{ℕ, ◌+◌, ◌-◌, ◌*◌, ◌/◌, ◌%◌, ℤ, pos, negsuc, List, [], ◌∷◌, length, map, Bool, ◌&&◌, ◌||◌, ◌==◌, nat_lt, if◌then◌else◌}
use Rattle.lab_math.specs.Sums.{sum_over}

-- a negative share counts as 0
abbrev pub share_size : ℤ → ℕ
share_size (pos n) = n
share_size (negsuc n) = 0

-- one of m even whole parts of a number: the units that even parts leave go one each to the first of them
abbrev pub even_part : (number m place : ℕ) → ℕ
even_part number m place = number / m + (if nat_lt place (number % m) then 1 else 0)

-- what one of `many` shares gets before the units that are left go out: an even part where all shares are 0, else its part of the whole
abbrev pub part : (grid many whole share : ℕ) → ℕ
part grid many whole share = if whole == 0 then grid / many else grid * share / whole

-- whether a share may get one of the units that are left
abbrev pub may_gain : (whole share : ℕ) → Bool
may_gain whole share = whole == 0 || nat_lt 0 share

-- the parts, and the units that are left one each to the first that may get one
abbrev pub handed_out : (grid many whole left : ℕ) → List ℕ → List ℕ
handed_out grid many whole left [] = []
handed_out grid many whole left (s ∷ ss) =
    let gain = if may_gain whole s && nat_lt 0 left then 1 else 0 in
    (part grid many whole s + gain) ∷ handed_out grid many whole (left - gain) ss

-- sizes of shares, rounded
abbrev pub rounded_sizes : ℕ → List ℕ → List ℕ
rounded_sizes grid sizes =
    let whole = sum_over (λ s. s) sizes in
    handed_out grid (length sizes) whole (grid - sum_over (part grid (length sizes) whole) sizes) sizes

-- shares, rounded to weights that sum to the grid
abbrev pub rounded : ℕ → List ℤ → List ℕ
rounded grid shares = rounded_sizes grid (map share_size shares)
