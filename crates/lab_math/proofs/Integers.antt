-- Integers as an ordered ring.
use Rattle.std.proofs.Common.{◌≡◌, ℕ, ◌+◌, ◌*◌, ◌<◌, ◌≤◌, ℤ, pos, ◌+ℤ◌, ◌*ℤ◌, ◌≤ℤ◌, sym, ap, ◌∙◌, arith, mul-le-mul_left}
use Rattle.std.proofs.lemmas.Int.{ints}
use borrow.Author.Differences.{up, down, sum_is_lem, product_is, at_most_in, le_out}

-- a factor on the left goes into a sum
pub mul_add_z : (a b c : ℤ) → a *ℤ (b +ℤ c) ≡ a *ℤ b +ℤ a *ℤ c
mul_add_z a b c = omega (arith, ints, ap (λ t. up a * t) (sum_is_lem b c), ap (λ t. down a * t) (sum_is_lem b c))

-- a factor on the right goes into a sum
pub add_mul_z : (a b c : ℤ) → (a +ℤ b) *ℤ c ≡ a *ℤ c +ℤ b *ℤ c
add_mul_z a b c = omega (arith, ints, ap (λ t. t * up c) (sum_is_lem a b), ap (λ t. t * down c) (sum_is_lem a b))

-- products may be taken in any order
pub mul_assoc_z : (a b c : ℤ) → (a *ℤ b) *ℤ c ≡ a *ℤ (b *ℤ c)
mul_assoc_z a b c =
    let ab = product_is a b in
    let bc = product_is b c in
    omega (
      arith,
      ints,
      ap (λ t. t * up c) ab.0,
      ap (λ t. t * down c) ab.1,
      ap (λ t. t * up c) ab.1,
      ap (λ t. t * down c) ab.0,
      ap (λ t. up a * t) bc.0,
      ap (λ t. down a * t) bc.1,
      ap (λ t. up a * t) bc.1,
      ap (λ t. down a * t) bc.0,
    )

-- the factors of a product may be exchanged
pub mul_comm_z : (a b : ℤ) → a *ℤ b ≡ b *ℤ a
mul_comm_z a b = omega (arith, ints)

-- so may the two outer ones of three
pub mul_left_comm_z : (a b c : ℤ) → a *ℤ (b *ℤ c) ≡ b *ℤ (a *ℤ c)
mul_left_comm_z a b c = sym (mul_assoc_z a b c) ∙ ap (λ t. t *ℤ c) (mul_comm_z a b) ∙ mul_assoc_z b a c

-- a product of natural numbers is their product as integers
pub pos-mul : (m n : ℕ) → pos (m * n) ≡ pos m *ℤ pos n
pos-mul m n = omega (arith, ints)

-- one is no factor
pub one_mul_z : (a : ℤ) → pos 1 *ℤ a ≡ a
one_mul_z a = omega (arith, ints)

-- what is equal is at most that
pub le_of_eq_z : (a b : ℤ) → a ≡ b → a ≤ℤ b
le_of_eq_z a b e = omega (arith, ints)

-- at most goes on
pub le_trans_z : (a b c : ℤ) → a ≤ℤ b → b ≤ℤ c → a ≤ℤ c
le_trans_z a b c p q = omega (arith, ints)

-- what is at most each other is equal
pub le_antisym_z : (a b : ℤ) → a ≤ℤ b → b ≤ℤ a → a ≡ b
le_antisym_z a b p q = omega (arith, ints)

-- inequalities may be added
pub add_le_z : (a b c d : ℤ) → a ≤ℤ b → c ≤ℤ d → (a +ℤ c) ≤ℤ (b +ℤ d)
add_le_z a b c d p q = omega (arith, ints)

-- an inequality may be multiplied by a natural number
pub mul_le_z : (n : ℕ) (a b : ℤ) → a ≤ℤ b → (pos n *ℤ a) ≤ℤ (pos n *ℤ b)
mul_le_z n a b h = omega (arith, ints, mul-le-mul_left n (le_out a b h))

-- a natural factor above 0 may be taken away
cancel : (n x y : ℕ) → 0 < n → n * x ≤ n * y → x ≤ y
cancel n x y p h = grind arith

-- likewise of integers
pub cancel_le_z : (n : ℕ) (a b : ℤ) → 0 < n → (pos n *ℤ a) ≤ℤ (pos n *ℤ b) → a ≤ℤ b
cancel_le_z n a b p h =
    let e : n * (up a + down b) ≤ n * (up b + down a) = omega (arith, ints) in
    let f = cancel n (up a + down b) (up b + down a) p e in
    at_most_in a b f
