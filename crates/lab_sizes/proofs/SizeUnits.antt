-- How large the units of bounds and of expectations are.
use Rattle.std.proofs.Common.{◌≡◌, ℕ, ◌*◌, ◌^◌, ◌≤◌, max, sym, subst, arith, inl, inr, mul-le-mul, le_of_eq, refl}
use Rattle.lab_defs_text.specs.Games.{GameModel}
use Rattle.lab_defs_game.specs.Chance.{scale}
use Rattle.lab_defs_game.specs.Sets.{most_decisions}
use Rattle.lab_defs_game.specs.Seats.{IsSeat, grid_of}
use Rattle.lab_defs_game.specs.Accepted.{IsAccepted}
use Rattle.lab_defs_game.specs.Unfolding.{top_payoff}
use Rattle.lab_defs_value.specs.Bounds.{bound_units, value_limit}
use Rattle.lab_defs_game.proofs.ChanceSizes.{some_scale}
use Rattle.lab_defs_game.proofs.GridSizes.{some_grid}
use Rattle.lab_sizes.proofs.SizeRanges.{some_power}
use Rattle.lab_sizes.proofs.SizeRows.{whole_most}
use Rattle.lab_sizes.specs.Sizes.{UnitSizeLaw}

-- without the payoff a size is no greater
less_payoff : (m k x n : ℕ) → 1 ≤ m → m * k * x ≤ n → k * x ≤ n
less_payoff m k x n some le =
    let l : 1 * (k * x) ≤ m * (k * x) = mul-le-mul some (le_of_eq refl) in
    let e : m * (k * x) ≡ m * k * x = omega arith in
    omega (arith, l, e, le)

-- nor is it without the other seat's power
less_power : (k x y n : ℕ) → 1 ≤ y → k * (x * y) ≤ n → k * x ≤ n
less_power k x y n some le =
    let l : k * x * 1 ≤ k * x * y = mul-le-mul (le_of_eq refl) some in
    let e : k * x * y ≡ k * (x * y) = omega arith in
    omega (arith, l, e, le)

-- the law of units
pub unit_law : UnitSizeLaw
unit_law g ok = (less_payoff m (scale g) (p 1 * p 2) (2 ^ 64) top (whole_most g ok), by)
  where
    m : ℕ
    m = max 1 (top_payoff g)

    -- the powers of the grids
    p : ℕ → ℕ
    p seat = grid_of g seat ^ most_decisions g seat

    top : 1 ≤ m
    top = omega arith

    limit1 : value_limit g 1 ≤ 2 ^ 64
    limit1 = less_power (m * scale g) (p 1) (p 2) (2 ^ 64) (some_power (grid_of g 2) (most_decisions g 2) (some_grid g ok.good)) (whole_most g ok)

    limit2 : value_limit g 2 ≤ 2 ^ 64
    limit2 =
        let turn : (m * scale g) * (p 1 * p 2) ≡ (m * scale g) * (p 2 * p 1) = turned (m * scale g) (p 1) (p 2) in
        less_power (m * scale g) (p 2) (p 1) (2 ^ 64) (some_power (grid_of g 1) (most_decisions g 1) (some_grid g ok.good)) (subst (λ x. x ≤ 2 ^ 64) turn (whole_most g ok))
      where
        turned : (k x y : ℕ) → k * (x * y) ≡ k * (y * x)
        turned k x y = omega arith

    by : (keeper : ℕ) → IsSeat keeper → (bound_units g keeper ≤ 2 ^ 64) × (value_limit g keeper ≤ 2 ^ 64)
    by keeper (inl e) = subst (λ k. (bound_units g k ≤ 2 ^ 64) × (value_limit g k ≤ 2 ^ 64)) (sym e) (less_payoff m (scale g) (p 1) (2 ^ 64) top limit1, limit1)
    by keeper (inr e) = subst (λ k. (bound_units g k ≤ 2 ^ 64) × (value_limit g k ≤ 2 ^ 64)) (sym e) (less_payoff m (scale g) (p 2) (2 ^ 64) top limit2, limit2)

-- so the grid of a seat for each of its most decisions is at most 2^64
pub power_most : (g : GameModel) → IsAccepted g → (seat : ℕ) → IsSeat seat → grid_of g seat ^ most_decisions g seat ≤ 2 ^ 64
power_most g ok seat is =
    let units = ((unit_law g ok).1 seat is).0 in
    let l : 1 * (grid_of g seat ^ most_decisions g seat) ≤ scale g * (grid_of g seat ^ most_decisions g seat) = mul-le-mul (some_scale g ok.good) (le_of_eq refl) in
    omega (arith, units, l)
