-- A draw takes the first item whose running sum passes its number.
use Rattle.std.proofs.Common.{ℕ, zero, suc, ◌-◌, ◌*◌, ◌/◌, ◌^◌, ◌<◌, ◌≤◌, List, [], ◌∷◌, arith, inl, inr, ◌⊎◌}
use Rattle.std.proofs.lemmas.Bool.{lt-ltb, le-ltb, cases_lt}
use Rattle.std.proofs.lemmas.Nat.{div_below}
use Rattle.std.proofs.Math.Nat.{mul-lt-mul_of_pos_left, mul_comm}
use Rattle.lab_math.specs.Sums.{sum_over}
use Rattle.lab_defs_report.specs.Laws.{running_sum, IsFirstPast}
use Rattle.lab_defs_report.specs.Walks.{item_at, drawn}

-- where the first item passes the number
first_passes : (w n : ℕ) (ws : List ℕ) → n < w → IsFirstPast (w ∷ ws) n 0
first_passes w n ws h = record {
  there = omega arith;
  past = omega (arith, h);
  first = λ j below. none j below;
}
  where
    none : (j : ℕ) → j ≤ 0 → running_sum (w ∷ ws) j ≤ n
    none zero below = omega arith
    none (suc j) below = absurd (omega (arith, below))

-- where a later one does
later_passes : (w n i : ℕ) (ws : List ℕ) → w ≤ n → IsFirstPast ws (n - w) i → IsFirstPast (w ∷ ws) n (suc i)
later_passes w n i ws h p = record {
  there = omega (arith, p.there);
  past = omega (arith, h, p.past);
  first = λ j below. so_far j below;
}
  where
    so_far : (j : ℕ) → j ≤ suc i → running_sum (w ∷ ws) j ≤ n
    so_far zero below = omega arith
    so_far (suc j) below = omega (arith, h, p.first j (omega (arith, below)))

-- which of the two it is
passes : (w n : ℕ) (ws : List ℕ) → (w ≤ n → IsFirstPast ws (n - w) (item_at ws (n - w))) → (n < w) ⊎ (w ≤ n) → IsFirstPast (w ∷ ws) n (item_at (w ∷ ws) n)
passes w n ws later (inl l) = rw (lt-ltb n w l) (first_passes w n ws l)
passes w n ws later (inr g) = rw (le-ltb n w g) (later_passes w n (item_at ws (n - w)) ws g (later g))

-- some item passes each number below the sum of all
pub item_is : (ws : List ℕ) (n : ℕ) → n < sum_over (λ w. w) ws → IsFirstPast ws n (item_at ws n)
item_is [] n h = absurd (omega (arith, h))
item_is (w ∷ ws) n h = passes w n ws (λ g. item_is ws (n - w) (omega (arith, g, h))) (cases_lt n w)

-- a word's part of a sum is below the sum
pub part_below : (word sum : ℕ) → word < 2 ^ 64 → 0 < sum → word * sum / 2 ^ 64 < sum
part_below word sum h s = div_below (word * sum) (2 ^ 64) sum (omega arith) (rw (mul_comm word sum) (mul-lt-mul_of_pos_left h s))

-- so it draws such an item
pub draw_is : (ws : List ℕ) (word : ℕ) → word < 2 ^ 64 → 0 < sum_over (λ w. w) ws → IsFirstPast ws (word * sum_over (λ w. w) ws / 2 ^ 64) (drawn ws word)
draw_is ws word h s = item_is ws (word * sum_over (λ w. w) ws / 2 ^ 64) (part_below word (sum_over (λ w. w) ws) h s)
