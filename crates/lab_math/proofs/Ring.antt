-- Laws of products of integers.
use Rattle.std.proofs.Common.{◌≡◌, ◌*◌, ℤ, ◌*ℤ◌, ap, arith, neg_ℤ}
use Rattle.std.proofs.lemmas.Int.{ints}
use borrow.Author.Differences.{up, down, neg_is}

-- a sign goes out of a product
pub neg-*ℤ : (a b : ℤ) → neg_ℤ a *ℤ b ≡ neg_ℤ (a *ℤ b)
neg-*ℤ a b =
    let n = neg_is a in
    omega (arith, ints, ap (λ x. x * up b) n.0, ap (λ x. x * down b) n.0, ap (λ x. x * up b) n.1, ap (λ x. x * down b) n.1)
