-- The size of the numbers that a game makes.
use Rattle.std.proofs.Common.{◌≡◌, ℕ, ◌+◌, ◌*◌, ◌/◌, ◌^◌, ◌<◌, ◌≤◌, Option, Some, None, cond, sym, ap, ◌∙◌, subst, arith}
use Rattle.std.specs.Prelude.{max, nat_le, IfSome}
use Rattle.std.specs.Cmp.{both_ways}
use Rattle.std.proofs.Math.Nat.{le-div_iff_mul-le, one-le-pow}
use Rattle.std.proofs.lemmas.Bool.{leb-true, le-leb, lt-ltb, le-ltb}
use Rattle.std.proofs.lemmas.Nat.{mul-le, pow-add}
use Rattle.lab_defs_text.specs.Games.{GameModel}
use Rattle.lab_defs_game.specs.Chance.{scale}
use Rattle.lab_defs_game.specs.Sets.{most_decisions}
use Rattle.lab_defs_game.specs.Unfolding.{size_passed, top_payoff, told_scale, size, size_fault}
use Rattle.lab_unfold.proofs.UnitLemmas.{told_is, told_past}

-- a product is within a limit where its first factor is within the limit divided by the second
pub fits_is : (n p limit : ℕ) → 0 < p → nat_le n (limit / p) ≡ nat_le (n * p) limit
fits_is n p limit some =
    both_ways (nat_le n (limit / p)) (nat_le (n * p) limit)
    (λ e. le-leb (n * p) limit ((le-div_iff_mul-le some).0 (leb-true n (limit / p) e)))
    (λ e. le-leb n (limit / p) ((le-div_iff_mul-le some).1 (leb-true (n * p) limit e)))

-- what is told is at least 1
pub told_fine : (o : Option ℕ) (k : ℕ) → o ≡ told_scale k → 0 < k → IfSome o (λ n. (0 < n) × (n ≤ 2 ^ 80))
told_fine None k e some = tt
told_fine (Some n) k e some = let t = told_is k n (sym e) in (subst (λ m. 0 < m) (sym t.0) some, subst (λ m. m ≤ 2 ^ 80) (sym t.0) t.1)

-- the size in one power of the grid, which both seats have
pub size_is : (g : GameModel) → size g ≡ max 1 (top_payoff g) * scale g * g.grid ^ (most_decisions g 1 + most_decisions g 2)
size_is g = sym (ap (λ p. max 1 (top_payoff g) * scale g * p) (pow-add g.grid (most_decisions g 1) (most_decisions g 2)))

-- the size is at least the scale
pub scale_le : (g : GameModel) → 0 < g.grid → scale g ≤ size g
scale_le g some =
    let one : scale g ≤ max 1 (top_payoff g) * scale g = omega (arith, mul-le 1 (scale g) (max 1 (top_payoff g)) (scale g) (omega arith) (omega arith)) in
    let pow : 1 ≤ g.grid ^ (most_decisions g 1 + most_decisions g 2) = one-le-pow (most_decisions g 1 + most_decisions g 2) g.grid some in
    omega (arith, one, mul-le (max 1 (top_payoff g) * scale g) 1 (max 1 (top_payoff g) * scale g) (g.grid ^ (most_decisions g 1 + most_decisions g 2)) (omega arith) pow, size_is g)

-- the size from what it is found by
pub size_by : (g : GameModel) (top k most1 most2 : ℕ) → top ≡ top_payoff g → Some k ≡ told_scale (scale g) → most1 ≡ most_decisions g 1 → most2 ≡ most_decisions g 2
    → size g ≡ max 1 top * k * g.grid ^ (most1 + most2)
size_by g top k most1 most2 t e m n =
    size_is g
    ∙ ap (λ x. max 1 x * scale g * g.grid ^ (most_decisions g 1 + most_decisions g 2)) (sym t)
    ∙ ap (λ x. max 1 top * x * g.grid ^ (most_decisions g 1 + most_decisions g 2)) (sym (told_is (scale g) k (sym e)).0)
    ∙ ap (λ x. max 1 top * k * g.grid ^ (x + most_decisions g 2)) (sym m)
    ∙ ap (λ x. max 1 top * k * g.grid ^ (most1 + x)) (sym n)

-- where the size that is found is within its limit, there is no fault
pub size_within : (g : GameModel) (top k most1 most2 : ℕ) → top ≡ top_payoff g → Some k ≡ told_scale (scale g) → most1 ≡ most_decisions g 1 → most2 ≡ most_decisions g 2
    → max 1 top * k * g.grid ^ (most1 + most2) ≤ 2 ^ 64 → size_fault g ≡ None
size_within g top k most1 most2 t e m n within =
    ap (λ b. cond b (Some (size_passed (top_payoff g) (told_scale (scale g)) (most_decisions g 1) (most_decisions g 2))) None)
    (le-ltb (2 ^ 64) (size g) (subst (λ x. x ≤ 2 ^ 64) (sym (size_by g top k most1 most2 t e m n)) within))

-- where the size that is told, or the scale, is above its limit, so is the size
pub size_past : (g : GameModel) (top : ℕ) (told : Option ℕ) (most1 most2 : ℕ) → 0 < g.grid → top ≡ top_payoff g → told ≡ told_scale (scale g)
    → most1 ≡ most_decisions g 1 → most2 ≡ most_decisions g 2 → IfSome told (λ k. 2 ^ 64 < max 1 top * k * g.grid ^ (most1 + most2)) → size_fault g ≡ Some (size_passed top told most1 most2)
size_past g top told most1 most2 some t k m n past =
    ap (λ b. cond b (Some (size_passed (top_payoff g) (told_scale (scale g)) (most_decisions g 1) (most_decisions g 2))) None) (lt-ltb (2 ^ 64) (size g) (above told k past))
    ∙ ap (λ x. Some (size_passed x (told_scale (scale g)) (most_decisions g 1) (most_decisions g 2))) (sym t)
    ∙ ap (λ x. Some (size_passed top x (most_decisions g 1) (most_decisions g 2))) (sym k)
    ∙ ap (λ x. Some (size_passed top told x (most_decisions g 2))) (sym m)
    ∙ ap (λ x. Some (size_passed top told most1 x)) (sym n)
  where
    above : (o : Option ℕ) → o ≡ told_scale (scale g) → IfSome o (λ k. 2 ^ 64 < max 1 top * k * g.grid ^ (most1 + most2)) → 2 ^ 64 < size g
    above None e p = omega (arith, told_past (scale g) (sym e), scale_le g some)
    above (Some k) e p = subst (λ x. 2 ^ 64 < x) (sym (size_by g top k most1 most2 t e m n)) p
