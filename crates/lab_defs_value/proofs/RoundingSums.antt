-- Rounded shares sum to the grid.
use Rattle.std.proofs.Common.{◌≡◌, ℕ, zero, suc, ◌+◌, ◌-◌, ◌*◌, ◌/◌, ◌%◌, ◌<◌, ◌≤◌, List, [], ◌∷◌, map, length, Bool, true, false, cond, refl, sym, ap, ◌∙◌, subst, arith, mul_comm, eqb}
use Rattle.std.specs.Prelude.{ℤ, ◌&&◌, ◌||◌, nat_lt}
use Rattle.std.specs.List.{AllByRecursion}
use Rattle.std.proofs.lemmas.List.{length-map}
use Rattle.std.proofs.lemmas.List.Elements.{All-from_recursion}
use Rattle.std.proofs.lemmas.Nat.{div-add-mod'}
use Rattle.std.proofs.lemmas.Bool.{lt-ltb}
use Rattle.std.proofs.Math.Nat.{mod-lt, le_of_mul-le-mul_left}
use Rattle.lab_math.specs.Sums.{sum_over}
use Rattle.lab_math.proofs.BelowLemmas.{eqb_apart}
use Rattle.lab_defs_value.specs.Rounding.{rounded, handed_out, part, may_gain, share_size}
use Rattle.lab_defs_value.specs.MatchingLaws.{RoundedLaw}
use Rattle.lab_defs_value.proofs.UniformLemmas.{rounded_length}

-- how many of the shares may get a unit that is left
abbrev pub gainers : ℕ → List ℕ → ℕ
gainers whole ss = sum_over (λ s. cond (may_gain whole s) 1 0) ss

-- what one share gains is there, and what is left then is enough for the rest
gain_fits : (m : Bool) (left rest : ℕ) → left ≤ cond m 1 0 + rest → (cond (m && nat_lt 0 left) 1 0 ≤ left) × (left - cond (m && nat_lt 0 left) 1 0 ≤ rest)
gain_fits false left rest h = (omega arith, omega (arith, h))
gain_fits true zero rest h = (omega arith, omega arith)
gain_fits true (suc n) rest h = rw (lt-ltb 0 (suc n) (omega arith)) (omega arith, omega (arith, h))

-- where enough shares may gain, all units that are left go out
handed_sum : (grid many whole left : ℕ) (ss : List ℕ) → left ≤ gainers whole ss
    → sum_over (λ w. w) (handed_out grid many whole left ss) ≡ sum_over (part grid many whole) ss + left
handed_sum grid many whole left [] h = omega (arith, h)
handed_sum grid many whole left (s ∷ ss) h =
    let gain : ℕ = cond (may_gain whole s && nat_lt 0 left) 1 0 in
    let fits = gain_fits (may_gain whole s) left (gainers whole ss) h in
    let rest : sum_over (λ w. w) (handed_out grid many whole (left - gain) ss) ≡ sum_over (part grid many whole) ss + (left - gain) = handed_sum grid many whole (left - gain) ss fits.1 in
    omega (arith, rest, fits.0)

-- of no share at all, each of n gets an even part and may gain
even_parts : (grid many : ℕ) (ss : List ℕ) → (sum_over (part grid many 0) ss ≡ length ss * (grid / many)) × (gainers 0 ss ≡ length ss)
even_parts grid many [] = (omega arith, refl)
even_parts grid many (s ∷ ss) = let rest = even_parts grid many ss in (omega (arith, rest.0), omega (arith, rest.1))

-- where there is a share at all, a part is the exact one rounded down, and a share that is not 0 may gain
some_share : (whole : ℕ) → eqb (suc whole) 0 ≡ false
some_share whole = eqb_apart (suc whole) 0 (λ e. omega (arith, e))

pub part_is : (grid many whole s : ℕ) → part grid many (suc whole) s ≡ grid * s / suc whole
part_is grid many whole s = ap (λ b. cond b (grid / many) (grid * s / suc whole)) (some_share whole)

pub gain_is : (whole s : ℕ) → may_gain (suc whole) s ≡ nat_lt 0 s
gain_is whole s = ap (λ b. b || nat_lt 0 s) (some_share whole)

-- one unit more would be enough, and what has no share has no part
part_bounds : (grid many whole s : ℕ) → (suc whole * part grid many (suc whole) s ≤ grid * s)
    × (grid * s ≤ suc whole * (part grid many (suc whole) s + cond (may_gain (suc whole) s) 1 0))
part_bounds grid many whole zero =
    let p = ap (λ x. suc whole * x) (part_is grid many whole 0) in
    let d = div-add-mod' (grid * 0) (suc whole) in
    (omega (arith, d, p), omega arith)
part_bounds grid many whole (suc s) = rw (gain_is whole (suc s), lt-ltb 0 (suc s) (omega arith))
    (let p = ap (λ x. suc whole * x) (part_is grid many whole (suc s)) in
    let d = div-add-mod' (grid * suc s) (suc whole) in
    let m : grid * suc s % suc whole < suc whole = mod-lt (grid * suc s) (omega arith) in
    (omega (arith, d, p), omega (arith, d, m, p)))

-- so the parts together
parts_bounds : (grid many whole : ℕ) (ss : List ℕ) → (suc whole * sum_over (part grid many (suc whole)) ss ≤ grid * sum_over (λ s. s) ss)
    × (grid * sum_over (λ s. s) ss ≤ suc whole * (sum_over (part grid many (suc whole)) ss + gainers (suc whole) ss))
parts_bounds grid many whole [] = (omega arith, omega arith)
parts_bounds grid many whole (s ∷ ss) =
    let rest = parts_bounds grid many whole ss in
    let one = part_bounds grid many whole s in
    (omega (arith, rest.0, one.0), omega (arith, rest.1, one.1))

-- the parts are at most the grid, and what they lack is not more than there are shares that may gain
parts_fit : (grid whole : ℕ) (sizes : List ℕ) → whole ≡ sum_over (λ s. s) sizes → 1 ≤ length sizes
    → (sum_over (part grid (length sizes) whole) sizes ≤ grid) × (grid - sum_over (part grid (length sizes) whole) sizes ≤ gainers whole sizes)
parts_fit grid zero sizes e some =
    let each = even_parts grid (length sizes) sizes in
    let d = div-add-mod' grid (length sizes) in
    let m : grid % length sizes < length sizes = mod-lt grid some in
    (omega (arith, each.0, d), omega (arith, each.0, each.1, d, m))
parts_fit grid (suc whole) sizes e some =
    let both = parts_bounds grid (length sizes) whole sizes in
    let total : sum_over (λ s. s) sizes ≡ suc whole = sym e in
    let low : sum_over (part grid (length sizes) (suc whole)) sizes ≤ grid =
    le_of_mul-le-mul_left (subst (λ t. suc whole * sum_over (part grid (length sizes) (suc whole)) sizes ≤ t) (ap (λ t. grid * t) total ∙ mul_comm grid (suc whole)) both.0) (omega arith) in
    let high : grid ≤ sum_over (part grid (length sizes) (suc whole)) sizes + gainers (suc whole) sizes =
    le_of_mul-le-mul_left (subst (λ t. t ≤ suc whole * (sum_over (part grid (length sizes) (suc whole)) sizes + gainers (suc whole) sizes)) (ap (λ t. grid * t) total ∙ mul_comm grid (suc whole)) both.1) (omega arith) in
    (low, omega (arith, high))

-- rounded shares sum to the grid
pub rounded_sum : (grid : ℕ) (shares : List ℤ) → 1 ≤ length shares → sum_over (λ w. w) (rounded grid shares) ≡ grid
rounded_sum grid shares some =
    let sizes = map share_size shares in
    let whole = sum_over (λ s. s) sizes in
    let fit = parts_fit grid whole sizes refl (subst (λ n. 1 ≤ n) (sym (length-map shares share_size)) some) in
    let all : sum_over (λ w. w) (rounded grid shares) ≡ sum_over (part grid (length sizes) whole) sizes + (grid - sum_over (part grid (length sizes) whole) sizes) =
    handed_sum grid (length sizes) whole (grid - sum_over (part grid (length sizes) whole) sizes) sizes fit.1 in
    omega (arith, all, fit.0)

-- no number is above the sum
each_within : (n : ℕ) (ws : List ℕ) → sum_over (λ w. w) ws ≤ n → AllByRecursion (λ w. w ≤ n) ws
each_within n [] h = tt
each_within n (w ∷ ws) h = (omega (arith, h), each_within n ws (omega (arith, h)))

-- no weight is above the grid
pub rounded_within : (grid : ℕ) (shares : List ℤ) → AllByRecursion (λ w. w ≤ grid) (rounded grid shares)
rounded_within grid [] = tt
rounded_within grid (s ∷ ss) = each_within grid (rounded grid (s ∷ ss)) (let sum = rounded_sum grid (s ∷ ss) (omega arith) in omega (arith, sum))

-- the law of rounding
pub rounded_law : RoundedLaw
rounded_law grid shares = (rounded_sum grid shares, rounded_length grid shares, All-from_recursion (λ w. w ≤ grid) (rounded grid shares) (rounded_within grid shares))
