-- How large regrets and sums of weights are in a small form, round by round.
use Rattle.std.proofs.Common.{◌≡◌, ℕ, zero, suc, ◌+◌, ◌*◌, ◌^◌, ◌≤◌, ℤ, pos, ◌+ℤ◌, ◌-ℤ◌, List, [], ◌∷◌, Bool, true, false, cond, length, replicate, refl, sym, subst, arith, inl, inr}
use Rattle.std.specs.Prelude.{unsigned_abs, slice_index}
use Rattle.std.specs.List.{All, AllByRecursion}
use Rattle.std.proofs.lemmas.Int.{ints}
use Rattle.std.proofs.lemmas.List.Elements.{All-from_recursion}
use Rattle.lab_math.proofs.Elements.{all_flat, all_imp}
use Rattle.lab_defs_game.specs.Forms.{Form, decides, actions_of}
use Rattle.lab_defs_value.specs.Tables.{first_weight}
use Rattle.lab_defs_value.specs.Parents.{IsForm}
use Rattle.lab_defs_value.specs.Matching.{Pair, pair_actions, pair_weight, action_value, set_value, regrets_at, reach_in, reached_at, at_deciding, added, Regrets, regrets_of, sums_of, pair_of, regrets_after}
use Rattle.lab_defs_value.proofs.GadgetForms.{all_images}
use Rattle.lab_defs_value.proofs.RoundedTables.{rounded_table_law}
use Rattle.lab_defs_value.proofs.Rounds.{regret_lists_law}
use Rattle.lab_defs_game.specs.Seats.{IsSeat}
use Rattle.lab_sizes.proofs.SizeSums.{value_small, action_small, reach_small}
use Rattle.lab_sizes.specs.Sizes.{IsSmallPair, RegretSizeLaw}
use Rattle.lab_defs_value.specs.Smallness.{IsSmall}

-- no number of a list passes another, up or down
abbrev Within : ℕ → List ℤ → Type 0
Within n xs = AllByRecursion (λ x. unsigned_abs x ≤ n) xs

-- numbers with others added to them
added_within : (m n : ℕ) (xs ys : List ℤ) → Within m xs → Within n ys → Within (m + n) (added xs ys)
added_within m n [] ys h k = tt
added_within m n (x ∷ xs) [] h k = all_imp (λ y. unsigned_abs y ≤ m) (λ y. unsigned_abs y ≤ m + n) (x ∷ xs) (λ y l. omega (arith, l)) h
added_within m n (x ∷ xs) (y ∷ ys) h k = (sum x y m n h.0 k.0, added_within m n xs ys h.1 k.1)
  where
    sum : (x y : ℤ) (m n : ℕ) → unsigned_abs x ≤ m → unsigned_abs y ≤ n → unsigned_abs (x +ℤ y) ≤ m + n
    sum x y m n p q = omega (arith, ints, p, q)

-- zeros pass none
zeros_within : (n k : ℕ) → Within n (replicate k (pos 0))
zeros_within n zero = tt
zeros_within n (suc k) = (omega arith, zeros_within n k)

-- ---- a round

module _ (p : Pair) (ok : IsSmallPair p) (seat : ℕ) (is : IsSeat seat) where
  -- what is so at each deciding set is so at all
  deciding_within : (n : ℕ) (f : ℕ → List ℤ) → ((I : ℕ) → decides (pair_actions p seat) I ≡ true → Within n (f I)) → Within n (at_deciding p seat f)
  deciding_within n f each =
      all_flat (λ x. unsigned_abs x ≤ n) (λ I. cond (decides (pair_actions p seat) I) (f I) []) 0 (length (pair_actions p seat)) (λ I ge l. at (decides (pair_actions p seat) I) (f I) (each I))
    where
      at : (b : Bool) (xs : List ℤ) → (b ≡ true → Within n xs) → Within n (cond b xs [])
      at true xs h = h refl
      at false xs h = tt

  -- the regrets of a round
  regrets_within : Within (2 ^ 95) (at_deciding p seat (regrets_at p seat))
  regrets_within = deciding_within (2 ^ 95) (regrets_at p seat) (λ I d.
      all_images (λ x. unsigned_abs x ≤ 2 ^ 95) (λ a. action_value p seat I a -ℤ set_value p seat I) 0 (slice_index (pair_actions p seat) I) (λ a ge l.
      less (action_value p seat I a) (set_value p seat I) (action_small p ok seat is I d a) (value_small p ok seat is I)))
    where
      less : (x y : ℤ) → unsigned_abs x ≤ 2 ^ 94 → unsigned_abs y ≤ 2 ^ 94 → unsigned_abs (x -ℤ y) ≤ 2 ^ 95
      less x y p q = omega (arith, ints, p, q)

  -- the weights that are reached
  reached_within : Within (2 ^ 77) (at_deciding p seat (reached_at p seat))
  reached_within = deciding_within (2 ^ 77) (reached_at p seat) (λ I d.
      all_images (λ x. unsigned_abs x ≤ 2 ^ 77) (λ a. pos (reach_in p seat I * pair_weight p seat I a)) 0 (slice_index (pair_actions p seat) I) (λ a ge l.
      reach_small p ok seat is I d a (omega (arith, l))))

-- ---- all rounds

module _ (grid1 grid2 : ℕ) (f : Form) (ok1 : IsForm f 1) (ok2 : IsForm f 2) (small : IsSmall grid1 grid2 f) where
  -- the tables of a round
  pair_small : (n : ℕ) → IsSmallPair (pair_of grid1 grid2 f (regrets_after grid1 grid2 f n))
  pair_small n =
      let t = regrets_after grid1 grid2 f n in
      let long = regret_lists_law grid1 grid2 f n in
      record {
        form1 = ok1;
        form2 = ok2;
        small = small;
        is1 = (rounded_table_law grid1 (actions_of f 1) t.regrets1 long.regrets1).1 small.grids.0;
        is2 = (rounded_table_law grid2 (actions_of f 2) t.regrets2 long.regrets2).1 small.grids.2;
      }

  -- after n rounds all are within n times what a round may add
  after_within : (n : ℕ) →
      let t = regrets_after grid1 grid2 f n in
      Within (n * 2 ^ 95) t.regrets1 × Within (n * 2 ^ 95) t.regrets2 × Within (n * 2 ^ 77) t.sums1 × Within (n * 2 ^ 77) t.sums2
  after_within zero = (
    zeros_within (0 * 2 ^ 95) (first_weight (actions_of f 1) (length (actions_of f 1))),
    zeros_within (0 * 2 ^ 95) (first_weight (actions_of f 2) (length (actions_of f 2))),
    zeros_within (0 * 2 ^ 77) (first_weight (actions_of f 1) (length (actions_of f 1))),
    zeros_within (0 * 2 ^ 77) (first_weight (actions_of f 2) (length (actions_of f 2))),
  )
  after_within (suc n) =
      let h = after_within n in
      let t = regrets_after grid1 grid2 f n in
      let p = pair_of grid1 grid2 f t in
      let ok = pair_small n in (
        more (2 ^ 95) t.regrets1 (at_deciding p 1 (regrets_at p 1)) h.0 (regrets_within p ok 1 (inl refl)),
        more (2 ^ 95) t.regrets2 (at_deciding p 2 (regrets_at p 2)) h.1 (regrets_within p ok 2 (inr refl)),
        more (2 ^ 77) t.sums1 (at_deciding p 1 (reached_at p 1)) h.2 (reached_within p ok 1 (inl refl)),
        more (2 ^ 77) t.sums2 (at_deciding p 2 (reached_at p 2)) h.3 (reached_within p ok 2 (inr refl)),
      )
    where
      more : (c : ℕ) (xs ys : List ℤ) → Within (n * c) xs → Within c ys → Within (suc n * c) (added xs ys)
      more c xs ys h k =
          let e : n * c + c ≡ suc n * c = omega arith in
          subst (λ m. Within m (added xs ys)) e (added_within (n * c) c xs ys h k)

-- the law of regrets
pub regret_size_law : RegretSizeLaw
regret_size_law grid1 grid2 f ok1 ok2 small n le seat is = by is
  where
    t : Regrets
    t = regrets_after grid1 grid2 f n

    widen : (m k : ℕ) → m ≤ k → (xs : List ℤ) → Within m xs → All (λ x. unsigned_abs x ≤ k) xs
    widen m k l xs h = All-from_recursion (λ x. unsigned_abs x ≤ k) xs (all_imp (λ x. unsigned_abs x ≤ m) (λ x. unsigned_abs x ≤ k) xs (λ x b. omega (arith, b, l)) h)

    by : IsSeat seat → All (λ x. unsigned_abs x ≤ 2 ^ 107) (regrets_of t seat) × All (λ x. unsigned_abs x ≤ 2 ^ 89) (sums_of t seat)
    by (inl e) =
        let h = after_within grid1 grid2 f ok1 ok2 small n in
        subst (λ k. All (λ x. unsigned_abs x ≤ 2 ^ 107) (regrets_of t k) × All (λ x. unsigned_abs x ≤ 2 ^ 89) (sums_of t k)) (sym e)
        (widen (n * 2 ^ 95) (2 ^ 107) (omega (arith, le)) t.regrets1 h.0, widen (n * 2 ^ 77) (2 ^ 89) (omega (arith, le)) t.sums1 h.2)
    by (inr e) =
        let h = after_within grid1 grid2 f ok1 ok2 small n in
        subst (λ k. All (λ x. unsigned_abs x ≤ 2 ^ 107) (regrets_of t k) × All (λ x. unsigned_abs x ≤ 2 ^ 89) (sums_of t k)) (sym e)
        (widen (n * 2 ^ 95) (2 ^ 107) (omega (arith, le)) t.regrets2 h.1, widen (n * 2 ^ 77) (2 ^ 89) (omega (arith, le)) t.sums2 h.3)
