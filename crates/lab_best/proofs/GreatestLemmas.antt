-- The greatest of numbers, and the first place that has it.
use Rattle.std.proofs.Common.{◌≡◌, ℕ, ◌+◌, ◌-◌, ◌<◌, ◌≤◌, ◌⊎◌, inl, inr, ℤ, ◌≤ℤ◌, ◌<ℤ◌, refl, sym, ap, ◌∙◌, arith}
use Rattle.std.proofs.lemmas.Bool.{cases_lt}
use Rattle.std.proofs.lemmas.Int.{ints}
use Rattle.lab_best.specs.Parts.{IsFirstGreatest}

-- of one number it is the greatest
pub greatest_one : (h : ℕ → ℤ) → IsFirstGreatest 1 h (h 0) 0
greatest_one h = record {
  there = omega arith;
  value = refl;
  bounds = λ k l. let e : k ≡ 0 = omega (arith, l) in omega (arith, ints, ap h e);
  first = λ k l. absurd (omega (arith, l));
}

-- one number more is the greatest where it is above that of the others
pub greatest_takes : (n : ℕ) (h : ℕ → ℤ) (g : ℤ) (p : ℕ) → IsFirstGreatest n h g p → g <ℤ h n → IsFirstGreatest (n + 1) h (h n) n
greatest_takes n h g p ok above = record {
  there = omega arith;
  value = refl;
  bounds = λ k l. at k l (cases_lt k n);
  first = λ k l. let b = ok.bounds k l in omega (arith, ints, above, b);
}
  where
    at : (k : ℕ) → k < n + 1 → (k < n) ⊎ (n ≤ k) → h k ≤ℤ h n
    at k l (inl low) = let b = ok.bounds k low in omega (arith, ints, above, b)
    at k l (inr high) = let e : k ≡ n = omega (arith, l, high) in omega (arith, ints, ap h e)

-- and else that of the others is
pub greatest_keeps : (n : ℕ) (h : ℕ → ℤ) (g : ℤ) (p : ℕ) → IsFirstGreatest n h g p → h n ≤ℤ g → IsFirstGreatest (n + 1) h g p
greatest_keeps n h g p ok below = record {
  there = omega (arith, ok.there);
  value = ok.value;
  bounds = λ k l. at k l (cases_lt k n);
  first = ok.first;
}
  where
    at : (k : ℕ) → k < n + 1 → (k < n) ⊎ (n ≤ k) → h k ≤ℤ g
    at k l (inl low) = ok.bounds k low
    at k l (inr high) = let e : k ≡ n = omega (arith, l, high) in omega (arith, ints, ap h e, below)

module _ (first n : ℕ) (h v : ℕ → ℤ) (w : ℤ) (m : ℕ) (part : IsFirstGreatest n v w m) (same : (k : ℕ) → k < n → v k ≡ h (first + k)) where
  -- no number from the first one on is above the greatest of these
  late : (k : ℕ) → first ≤ k → k < first + n → h k ≤ℤ w
  late k from l =
      let i : k - first < n = omega (arith, from, l) in
      let e : first + (k - first) ≡ k = omega (arith, from) in
      let b = part.bounds (k - first) i in
      omega (arith, ints, same (k - first) i, ap h e, b)

  -- the greatest of these is that of all where it is above that of those before
  pub greatest_later : ((k : ℕ) → k < first → h k <ℤ w) → IsFirstGreatest (first + n) h w (first + m)
  greatest_later above = record {
    there = omega (arith, part.there);
    value = sym (same m part.there) ∙ part.value;
    bounds = λ k l. at k l (cases_lt k first);
    first = λ k l. before k l (cases_lt k first);
  }
    where
      at : (k : ℕ) → k < first + n → (k < first) ⊎ (first ≤ k) → h k ≤ℤ w
      at k l (inl low) = let b = above k low in omega (arith, ints, b)
      at k l (inr high) = late k high l

      before : (k : ℕ) → k < first + m → (k < first) ⊎ (first ≤ k) → h k <ℤ w
      before k l (inl low) = above k low
      before k l (inr high) =
          let i : k - first < m = omega (arith, high, l) in
          let e : first + (k - first) ≡ k = omega (arith, high) in
          let b = part.first (k - first) i in
          omega (arith, ints, same (k - first) (omega (arith, i, part.there)), ap h e, b)

  -- and else that of those before is
  pub greatest_earlier : (g : ℤ) (p : ℕ) → IsFirstGreatest first h g p → w ≤ℤ g → IsFirstGreatest (first + n) h g p
  greatest_earlier g p ok below = record {
    there = omega (arith, ok.there);
    value = ok.value;
    bounds = λ k l. at k l (cases_lt k first);
    first = ok.first;
  }
    where
      at : (k : ℕ) → k < first + n → (k < first) ⊎ (first ≤ k) → h k ≤ℤ g
      at k l (inl low) = ok.bounds k low
      at k l (inr high) = let b = late k high l in omega (arith, ints, b, below)

-- the greatest of numbers before, where there are some, and of these
pub greatest_joined : (first n : ℕ) (h v : ℕ → ℤ) (g w : ℤ) (p m : ℕ) → (first ≡ 0) ⊎ IsFirstGreatest first h g p → IsFirstGreatest n v w m → ((k : ℕ) → k < n → v k ≡ h (first + k))
    → (first ≡ 0) ⊎ (g <ℤ w) → IsFirstGreatest (first + n) h w (first + m)
greatest_joined first n h v g w p m (inl none) part same above = greatest_later first n h v w m part same (λ k l. absurd (omega (arith, none, l)))
greatest_joined first n h v g w p m (inr ok) part same (inl none) = absurd (omega (arith, ok.there, none))
greatest_joined first n h v g w p m (inr ok) part same (inr above) = greatest_later first n h v w m part same (λ k l. let b = ok.bounds k l in omega (arith, ints, b, above))

-- the greatest of numbers before stays
pub greatest_stays : (first n : ℕ) (h v : ℕ → ℤ) (g w : ℤ) (p m : ℕ) → (first ≡ 0) ⊎ IsFirstGreatest first h g p → IsFirstGreatest n v w m → ((k : ℕ) → k < n → v k ≡ h (first + k))
    → 0 < first → w ≤ℤ g → IsFirstGreatest (first + n) h g p
greatest_stays first n h v g w p m (inl none) part same some below = absurd (omega (arith, none, some))
greatest_stays first n h v g w p m (inr ok) part same some below = greatest_earlier first n h v w m part same g p ok below
