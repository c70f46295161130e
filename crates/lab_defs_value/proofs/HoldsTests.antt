-- The test whether a table holds.
use Rattle.std.proofs.Common.{◌≡◌, ℕ, ℤ, ◌≤ℤ◌, Bool, true, length, arith}
use Rattle.std.specs.Prelude.{slice_index, int_le}
use Rattle.std.specs.List.{list_all, range_with_len}
use Rattle.std.proofs.lemmas.Int.{ints}
use Rattle.lab_math.proofs.Ranges.{range_all_at, range_all_from}
use Rattle.lab_defs_value.specs.Replies.{Strategy, reply_sets}
use Rattle.lab_defs_value.specs.Bounds.{through}
use Rattle.lab_defs_value.specs.Laws.{HoldsTestLaw}

-- the test of two integers is passed where the first is at most the second
pub le_from_test : (a b : ℤ) → int_le a b ≡ true → a ≤ℤ b
le_from_test a b e = grind (arith, ints)

-- and only there
pub test_from_le : (a b : ℤ) → a ≤ℤ b → int_le a b ≡ true
test_from_le a b h = grind (arith, ints)

-- what the test goes through at one set
abbrev actions_hold : Strategy → (ℕ → ℤ) → ℕ → Bool
actions_hold s B J = list_all (λ a. int_le (through s B J a) (B J)) (range_with_len 0 (slice_index (reply_sets s) J))

-- the law of the test
pub holds_test_law : HoldsTestLaw
holds_test_law s B = (
  λ e J a l k.
      let here = range_all_at (actions_hold s B) 0 (length (reply_sets s)) J e (omega arith) (omega (arith, l)) in
      le_from_test (through s B J a) (B J) (range_all_at (λ a. int_le (through s B J a) (B J)) 0 (slice_index (reply_sets s) J) a here (omega arith) (omega (arith, k))),
  λ h. range_all_from (actions_hold s B) 0 (length (reply_sets s))
      (λ J x l. range_all_from (λ a. int_le (through s B J a) (B J)) 0 (slice_index (reply_sets s) J) (λ a y k. test_from_le (through s B J a) (B J) (h J a (omega (arith, l)) (omega (arith, k))))),
)
