-- Lists that a key groups: what a stable sort by the key makes of a list.
use Rattle.std.proofs.Common.{◌≡◌, ℕ, zero, suc, ◌+◌, ◌<◌, ◌≤◌, List, [], ◌∷◌, ◌++◌, Bool, true, false, cond, map, filter, flat_map, length, get_or, drop, Option, Some, None, refl, sym, ap, ◌∙◌, subst, arith, inl, inr, ◌⊎◌}
use Rattle.std.specs.Prelude.{◌==◌, not, ◌&&◌}
use Rattle.std.specs.List.{range_with_len, AllByRecursion}
use Rattle.std.specs.List.Sorted.{IsNonDecreasingBy, IsStableByKey, ties}
use Rattle.std.specs.Ordering.{is_lt, nat_cmp}
use Rattle.std.specs.Cmp.{both_ways}
use Rattle.std.specs.declared.cmp.Ordering.TheVariants.{Less}
use Rattle.std.proofs.lemmas.List.{drop_more, append_assoc}
use Rattle.std.proofs.lemmas.Bool.{ne_eqb, eqb-true, eqb-false, eq-eqb, and_parts, cases_lt}
use Rattle.std.proofs.lemmas.Cmp.{nat_cmp_total, tied_itself}
use Rattle.lab_math.proofs.Members.{In, all_in, all_from_in, in_filter, in_from_filter}
use Rattle.lab_math.proofs.Ranges.{flat_map_range_same}
use Rattle.lab_defs_game.proofs.HistoryOrder.{nat_cmp-less}
use Rattle.lab_defs_game.proofs.NumberLemmas.{is_true_or, place_of_in}

-- ---- what passes a test, one by one

-- a list with what one more element gives, if anything
abbrev pub with_one : {Y : Type 0} → List Y → Option Y → List Y
with_one ys None = ys
with_one ys (Some y) = ys ++ y ∷ []

-- what is found and what is left to find stay all there is to find, once the next element is looked at
pub kept_step : {X Y : Type 0} (p : X → Bool) (f : X → Y) (xs : List X) (i : ℕ) (d : X) (o : Option Y) (found all : List Y) → i < length xs
    → o ≡ cond (p (get_or xs i d)) (Some (f (get_or xs i d))) None → found ++ map f (filter p (drop i xs)) ≡ all → with_one found o ++ map f (filter p (drop (i + 1) xs)) ≡ all
kept_step {X} {Y} p f xs i d o found all l e h =
    ap (λ o. with_one found o ++ map f (filter p (drop (i + 1) xs))) e ∙ at (p (get_or xs i d)) ∙ ap (λ ys. found ++ map f (filter p ys)) (sym (drop_more xs i d l)) ∙ h
  where
    x : X
    x = get_or xs i d

    left : List X
    left = drop (i + 1) xs

    at : (b : Bool) → with_one found (cond b (Some (f x)) None) ++ map f (filter p left) ≡ found ++ map f (cond b (x ∷ filter p left) (filter p left))
    at true = append_assoc found (f x ∷ []) (map f (filter p left))
    at false = refl

-- ---- rising keys

module _ {X : Type 0} (key : X → ℕ) where
  -- no key is below an earlier one
  abbrev pub Rising : List X → Type 0
  Rising [] = Unit {0}
  Rising (x ∷ xs) = AllByRecursion (λ y. key x ≤ key y) xs × Rising xs

  -- a sort makes them rise
  pub rising_from : (xs : List X) → IsNonDecreasingBy key xs → Rising xs
  rising_from [] h = tt
  rising_from (x ∷ xs) h = (
    all_from_in (λ y. key x ≤ key y) xs (λ y i. let r = place_of_in (λ a b. Less) xs y x i in subst (λ z. key x ≤ key z) r.2 (h 0 (suc r.0) x (omega arith) (omega (arith, r.1)))),
    rising_from xs (λ i j d le l. h (suc i) (suc j) d (omega (arith, le)) (omega (arith, l))),
  )

  -- what passes a test rises
  rising_filter : (p : X → Bool) (xs : List X) → Rising xs → Rising (filter p xs)
  rising_filter p [] r = tt
  rising_filter p (x ∷ xs) r = at (p x) (rising_filter p xs r.1)
    where
      at : (b : Bool) → Rising (filter p xs) → Rising (cond b (x ∷ filter p xs) (filter p xs))
      at true h = (all_from_in (λ y. key x ≤ key y) (filter p xs) (λ y i. all_in (λ y. key x ≤ key y) xs y r.0 (in_from_filter p xs y i).0), h)
      at false h = h

  -- the elements with a key
  abbrev pub with_key : ℕ → List X → List X
  with_key k xs = filter (λ x. key x == k) xs

  -- those with another
  abbrev without_key : ℕ → List X → List X
  without_key k xs = filter (λ x. not (key x == k)) xs

  -- where no key is this one, none is found
  none_with : (k : ℕ) (xs : List X) → ((x : X) → In x xs → k < key x) → with_key k xs ≡ []
  none_with k [] h = refl
  none_with k (x ∷ xs) h =
      ap (λ b. cond b (x ∷ with_key k xs) (with_key k xs)) (ne_eqb (key x) k (λ e. let l = h x (inl refl) in absurd (omega (arith, e, l)))) ∙ none_with k xs (λ y i. h y (inr i))

  -- and all are left
  all_without : (k : ℕ) (xs : List X) → ((x : X) → In x xs → k < key x) → without_key k xs ≡ xs
  all_without k [] h = refl
  all_without k (x ∷ xs) h =
      ap (λ b. cond (not b) (x ∷ without_key k xs) (without_key k xs)) (ne_eqb (key x) k (λ e. let l = h x (inl refl) in absurd (omega (arith, e, l))))
      ∙ ap (λ t. x ∷ t) (all_without k xs (λ y i. h y (inr i)))

  -- the elements with the least key stand first
  least_first : (s : ℕ) (xs : List X) → Rising xs → ((x : X) → In x xs → s ≤ key x) → with_key s xs ++ without_key s xs ≡ xs
  least_first s [] r h = refl
  least_first s (x ∷ xs) r h = at (is_true_or (key x == s)) (least_first s xs r.1 (λ y i. h y (inr i)))
    where
      at : (key x == s ≡ true) ⊎ (key x == s ≡ false) → with_key s xs ++ without_key s xs ≡ xs → with_key s (x ∷ xs) ++ without_key s (x ∷ xs) ≡ x ∷ xs
      at (inl e) rest =
          ap (λ b. cond b (x ∷ with_key s xs) (with_key s xs) ++ cond (not b) (x ∷ without_key s xs) (without_key s xs)) e ∙ ap (λ t. x ∷ t) rest
      at (inr e) rest =
          let more : s < key x = above (key x) (h x (inl refl)) (eqb-false (key x) s e) in
          let later : (y : X) → In y xs → s < key y = (λ y i. let m = all_in (λ y. key x ≤ key y) xs y r.0 i in omega (arith, more, m)) in
          ap (λ b. cond b (x ∷ with_key s xs) (with_key s xs) ++ cond (not b) (x ∷ without_key s xs) (without_key s xs)) e
          ∙ ap (λ t. t ++ x ∷ without_key s xs) (none_with s xs later)
          ∙ ap (λ t. x ∷ t) (all_without s xs later)
        where
          above : (k : ℕ) → s ≤ k → (k ≡ s → ⊥) → s < k
          above k l n = omega (arith, l, n)

  -- the elements with another key are found among those that are left
  with_without : (s k : ℕ) (xs : List X) → s < k → with_key k (without_key s xs) ≡ with_key k xs
  with_without s k [] l = refl
  with_without s k (x ∷ xs) l = at (is_true_or (key x == s)) (with_without s k xs l)
    where
      at : (key x == s ≡ true) ⊎ (key x == s ≡ false) → with_key k (without_key s xs) ≡ with_key k xs → with_key k (without_key s (x ∷ xs)) ≡ with_key k (x ∷ xs)
      at (inl e) rest =
          let n = eqb-true (key x) s e in
          ap (λ b. with_key k (cond (not b) (x ∷ without_key s xs) (without_key s xs))) e ∙ rest
          ∙ sym (ap (λ b. cond b (x ∷ with_key k xs) (with_key k xs)) (ne_eqb (key x) k (λ q. absurd (omega (arith, n, q, l)))))
      at (inr e) rest =
          ap (λ b. with_key k (cond (not b) (x ∷ without_key s xs) (without_key s xs))) e ∙ ap (λ t. cond (key x == k) (x ∷ t) t) rest

  -- elements whose keys rise are those with the first key, those with the next, and so on
  pub grouped : (n s : ℕ) (xs : List X) → Rising xs → ((x : X) → In x xs → (s ≤ key x) × (key x < s + n)) → flat_map (λ k. with_key k xs) (range_with_len s n) ≡ xs
  grouped zero s [] r h = refl
  grouped zero s (x ∷ xs) r h = let b = h x (inl refl) in absurd (omega (arith, b.0, b.1))
  grouped (suc n) s xs r h =
      ap (λ t. with_key s xs ++ t)
      (flat_map_range_same (λ k. with_key k xs) (λ k. with_key k (without_key s xs)) (s + 1) n (λ k a b. sym (with_without s k xs (omega (arith, a))))
      ∙ grouped n (s + 1) (without_key s xs) (rising_filter (λ x. not (key x == s)) xs r) later)
      ∙ least_first s xs r (λ x i. (h x i).0)
    where
      later : (x : X) → In x (without_key s xs) → (s + 1 ≤ key x) × (key x < s + 1 + n)
      later x i =
          let m = in_from_filter (λ x. not (key x == s)) xs x i in
          let b = h x m.0 in
          let d : key x ≡ s → ⊥ = (λ e. not_true (key x == s) m.1 (eq-eqb (key x) s e)) in
          (above (key x) b.0 d, omega (arith, b.1))
        where
          never : false ≡ true → ⊥
          never e = cc

          not_true : (b : Bool) → not b ≡ true → b ≡ true → ⊥
          not_true true e q = never e
          not_true false e q = never q

          above : (k : ℕ) → s ≤ k → (k ≡ s → ⊥) → s + 1 ≤ k
          above k l n = omega (arith, l, n)

  -- neither is below the other just where the keys are equal
  ties_is : (a b : ℕ) → not (is_lt (nat_cmp a b)) && not (is_lt (nat_cmp b a)) ≡ (b == a)
  ties_is a b = both_ways (not (is_lt (nat_cmp a b)) && not (is_lt (nat_cmp b a))) (b == a) there back
    where
      never : false ≡ true → ⊥
      never e = cc

      low : (m n : ℕ) → not (is_lt (nat_cmp m n)) ≡ true → n ≤ m
      low m n e = at (cases_lt m n)
        where
          at : (m < n) ⊎ (n ≤ m) → n ≤ m
          at (inl l) = absurd (never (sym (ap (λ o. not (is_lt o)) (nat_cmp-less m n l)) ∙ e))
          at (inr l) = l

      there : not (is_lt (nat_cmp a b)) && not (is_lt (nat_cmp b a)) ≡ true → (b == a) ≡ true
      there e =
          let p = and_parts (not (is_lt (nat_cmp a b))) (not (is_lt (nat_cmp b a))) e in
          let l = low a b p.0 in
          let m = low b a p.1 in
          eq-eqb b a (omega (arith, l, m))

      back : (b == a) ≡ true → not (is_lt (nat_cmp a b)) && not (is_lt (nat_cmp b a)) ≡ true
      back e =
          let q = eqb-true b a e in
          ap (λ n. not (is_lt (nat_cmp a n)) && not (is_lt (nat_cmp n a))) q ∙ ap (λ o. not (is_lt o) && not (is_lt o)) (tied_itself nat_cmp_total a)

  -- a stable sort leaves the elements with a key in their order
  pub stable_with : (of : ℕ → X) → ((k : ℕ) → key (of k) ≡ k) → (xs ys : List X) → IsStableByKey key nat_cmp xs ys → (k : ℕ) → with_key k ys ≡ with_key k xs
  stable_with of e xs ys stable k = sym (ties_are ys) ∙ stable (of k) ∙ ties_are xs
    where
      ties_are : (zs : List X) → filter (ties (λ x y. is_lt (nat_cmp (key x) (key y))) (of k)) zs ≡ with_key k zs
      ties_are [] = refl
      ties_are (z ∷ zs) =
          ap (λ b. cond b (z ∷ filter (ties (λ x y. is_lt (nat_cmp (key x) (key y))) (of k)) zs) (filter (ties (λ x y. is_lt (nat_cmp (key x) (key y))) (of k)) zs)) (ties_is (key (of k)) (key z) ∙ ap (λ n. key z == n) (e k))
          ∙ ap (λ t. cond (key z == k) (z ∷ t) t) (ties_are zs)

  -- so a stable sort makes of a list the elements with the first key, those with the next, and so on
  pub sorted_is : (of : ℕ → X) → ((k : ℕ) → key (of k) ≡ k) → (xs ys : List X) (n : ℕ) → IsNonDecreasingBy key ys → IsStableByKey key nat_cmp xs ys → ((x : X) → In x xs → key x < n)
      → ys ≡ flat_map (λ k. with_key k xs) (range_with_len 0 n)
  sorted_is of e xs ys n up stable below =
      sym (grouped n 0 ys (rising_from ys up) there) ∙ flat_map_range_same (λ k. with_key k ys) (λ k. with_key k xs) 0 n (λ k a b. stable_with of e xs ys stable k)
    where
      there : (y : X) → In y ys → (0 ≤ key y) × (key y < 0 + n)
      there y i =
          let kept = in_filter (λ x. key x == key y) ys y i (eq-eqb (key y) (key y) refl) in
          let l = below y (in_from_filter (λ x. key x == key y) xs y (subst (In y) (stable_with of e xs ys stable (key y)) kept)).0 in
          (omega arith, omega (arith, l))
