-- How large worths and weights on a small row are.
use Rattle.std.proofs.Common.{◌≡◌, ℕ, ◌*◌, ◌^◌, ◌≤◌, ℤ, neg_ℤ, Bool, true, false, cond, eqb, max, unsigned_abs, refl, arith, mul-le-mul}
use Rattle.std.proofs.Math.Nat.{one-le-pow}
use Rattle.std.proofs.lemmas.Int.{ints}
use Rattle.lab_defs_value.specs.Replies.{worth_to}

-- what is worth so much to seat 1 is worth as much to each seat, but for the sign
pub to_seat_size : (seat : ℕ) (w : ℤ) → unsigned_abs (worth_to seat w) ≡ unsigned_abs w
to_seat_size seat w = at (eqb seat 1)
  where
    at : (b : Bool) → unsigned_abs (cond b w (neg_ℤ w)) ≡ unsigned_abs w
    at true = refl
    at false = omega (arith, ints)

module _ (a most : ℕ) (small : max 1 a * most ≤ 2 ^ 77) where
  -- the worth, at least 1, by less comes to less
  part_small : (b weight : ℕ) → b ≤ max 1 a → weight ≤ most → b * weight ≤ 2 ^ 77
  part_small b weight l m = let le : b * weight ≤ max 1 a * most = mul-le-mul l m in omega (arith, le, small)

  -- a weight is small
  pub weight_small : (weight : ℕ) → weight ≤ most → weight ≤ 2 ^ 77
  weight_small weight l = let le = part_small 1 weight (omega arith) l in omega (arith, le)

  -- so is the worth by it
  pub product_small : (weight : ℕ) → weight ≤ most → a * weight ≤ 2 ^ 77
  product_small weight l = part_small a weight (omega arith) l

  -- and the worth itself
  pub worth_small : 1 ≤ most → a ≤ 2 ^ 77
  worth_small l = let le = part_small a 1 (omega arith) l in omega (arith, le)

-- the grid for some factors is at least 1
pub grid_least : (grid n : ℕ) → 1 ≤ grid → 1 ≤ grid ^ n
grid_least grid n least = one-le-pow n grid least
