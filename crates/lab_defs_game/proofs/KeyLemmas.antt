-- Distinct keys in order: what is there, where it stands, and tests that hold up to a place.
use Rattle.std.proofs.Common.{◌≡◌, suc, ◌+◌, ◌≤◌, List, [], ◌∷◌, Bool, true, false, cond, length, filter, refl, sym, ap, ◌∙◌, subst, arith, inl, inr, ◌⊎◌}
use Rattle.std.specs.Ordering.{ordering_reverse, match_ordering}
use Rattle.std.specs.declared.cmp.Ordering.{Ordering}
use Rattle.std.specs.declared.cmp.Ordering.TheVariants.{Less, Equal, Greater}
use Rattle.std.specs.Cmp.{IsTotalOrder}
use Rattle.std.specs.List.{AllByRecursion}
use Rattle.std.specs.List.Sorted.{IsStrictlySortedBy}
use Rattle.std.specs.BTreeSet.{insert_key}
use Rattle.std.proofs.lemmas.Cmp.{tied_itself}
use Rattle.std.proofs.lemmas.Map.Lookups.{CmpEqualImpliesEq}
use Rattle.lab_math.proofs.Members.{In, all_in, all_from_in, in_from_filter}
use Rattle.lab_defs_game.specs.Keys.{merged, in_order}

-- each before all later ones
abbrev pub Ascending : {K : Type 0} → (K → K → Ordering) → List K → Type 0
Ascending R [] = Unit {0}
Ascending R (x ∷ xs) = AllByRecursion (λ y. R x y ≡ Less) xs × Ascending R xs

-- what ascends is sorted
pub sorted_from_ascending : {K : Type 0} (R : K → K → Ordering) (xs : List K) → Ascending R xs → IsStrictlySortedBy R xs
unfolding IsStrictlySortedBy
sorted_from_ascending R [] a = tt
sorted_from_ascending R (x ∷ xs) a = (a.0, sorted_from_ascending R xs a.1)

-- and back
pub ascending_from_sorted : {K : Type 0} (R : K → K → Ordering) (xs : List K) → IsStrictlySortedBy R xs → Ascending R xs
unfolding IsStrictlySortedBy
ascending_from_sorted R [] a = tt
ascending_from_sorted R (x ∷ xs) a = (a.0, ascending_from_sorted R xs a.1)

module _ {K : Type 0} (R : K → K → Ordering) where
  -- what is there after a key was put in
  pub in_from_insert : (xs : List K) (k y : K) → In y (insert_key R xs k) → (k ≡ y) ⊎ In y xs
  in_from_insert [] k y (inl e) = inl e
  in_from_insert [] k y (inr h) = absurd h
  in_from_insert (x ∷ xs) k y h = at (R k x) h (λ i. in_from_insert xs k y i)
    where
      at : (o : Ordering) → In y (match_ordering o (k ∷ x ∷ xs) (x ∷ xs) (x ∷ insert_key R xs k)) → (In y (insert_key R xs k) → (k ≡ y) ⊎ In y xs) → (k ≡ y) ⊎ In y (x ∷ xs)
      at Less (inl e) rest = inl e
      at Less (inr i) rest = inr i
      at Equal i rest = inr i
      at Greater (inl e) rest = inr (inl e)
      at Greater (inr i) rest = wider (rest i)
        where
          wider : (k ≡ y) ⊎ In y xs → (k ≡ y) ⊎ In y (x ∷ xs)
          wider (inl e) = inl e
          wider (inr j) = inr (inr j)

  -- what was there stays
  pub in_insert_old : (xs : List K) (k y : K) → In y xs → In y (insert_key R xs k)
  in_insert_old [] k y h = absurd h
  in_insert_old (x ∷ xs) k y h = at (R k x) h (λ i. in_insert_old xs k y i)
    where
      at : (o : Ordering) → In y (x ∷ xs) → (In y xs → In y (insert_key R xs k)) → In y (match_ordering o (k ∷ x ∷ xs) (x ∷ xs) (x ∷ insert_key R xs k))
      at Less i rest = inr i
      at Equal i rest = i
      at Greater (inl e) rest = inl e
      at Greater (inr i) rest = inr (rest i)

  -- the key that was put in is there
  pub in_insert_new : CmpEqualImpliesEq R → (xs : List K) (k : K) → In k (insert_key R xs k)
  in_insert_new exact [] k = inl refl
  in_insert_new exact (x ∷ xs) k = at (R k x) refl (in_insert_new exact xs k)
    where
      at : (o : Ordering) → R k x ≡ o → In k (insert_key R xs k) → In k (match_ordering o (k ∷ x ∷ xs) (x ∷ xs) (x ∷ insert_key R xs k))
      at Less e rest = inl refl
      at Equal e rest = inl (sym (exact k x e))
      at Greater e rest = inr rest

  -- what compares as greater stands behind
  pub flipped : IsTotalOrder R → (x y : K) → R x y ≡ Greater → R y x ≡ Less
  flipped o x y e = o.antisymm y x ∙ ap ordering_reverse e

  -- a list in order stays so
  pub insert_ascending : IsTotalOrder R → (xs : List K) (k : K) → Ascending R xs → Ascending R (insert_key R xs k)
  insert_ascending o [] k a = (tt, tt)
  insert_ascending o (x ∷ xs) k a = at (R k x) refl (insert_ascending o xs k a.1)
    where
      at : (c : Ordering) → R k x ≡ c → Ascending R (insert_key R xs k) → Ascending R (match_ordering c (k ∷ x ∷ xs) (x ∷ xs) (x ∷ insert_key R xs k))
      at Less e rest = ((e, all_from_in (λ y. R k y ≡ Less) xs (λ y i. o.trans k x y e (all_in (λ y. R x y ≡ Less) xs y a.0 i))), a)
      at Equal e rest = a
      at Greater e rest = (all_from_in (λ y. R x y ≡ Less) (insert_key R xs k) (λ y i. new y (in_from_insert xs k y i)), rest)
        where
          new : (y : K) → (k ≡ y) ⊎ In y xs → R x y ≡ Less
          new y (inl p) = subst (λ z. R x z ≡ Less) p (flipped o k x e)
          new y (inr i) = all_in (λ y. R x y ≡ Less) xs y a.0 i

  -- and so with many keys
  pub merged_ascending : IsTotalOrder R → (ks done : List K) → Ascending R done → Ascending R (merged R done ks)
  merged_ascending o [] done a = a
  merged_ascending o (k ∷ ks) done a = merged_ascending o ks (insert_key R done k) (insert_ascending o done k a)

  -- what is there after many keys were put in
  pub in_from_merged : (ks done : List K) (y : K) → In y (merged R done ks) → In y done ⊎ In y ks
  in_from_merged [] done y h = inl h
  in_from_merged (k ∷ ks) done y h = at (in_from_merged ks (insert_key R done k) y h)
    where
      old : (k ≡ y) ⊎ In y done → In y done ⊎ In y (k ∷ ks)
      old (inl e) = inr (inl e)
      old (inr i) = inl i

      at : In y (insert_key R done k) ⊎ In y ks → In y done ⊎ In y (k ∷ ks)
      at (inl i) = old (in_from_insert done k y i)
      at (inr i) = inr (inr i)

  -- what was there stays
  pub in_merged_done : (ks done : List K) (y : K) → In y done → In y (merged R done ks)
  in_merged_done [] done y h = h
  in_merged_done (k ∷ ks) done y h = in_merged_done ks (insert_key R done k) y (in_insert_old done k y h)

  -- the keys that were put in are there
  pub in_merged : CmpEqualImpliesEq R → (ks done : List K) (y : K) → In y ks → In y (merged R done ks)
  in_merged exact [] done y h = absurd h
  in_merged exact (k ∷ ks) done y (inl e) = in_merged_done ks (insert_key R done k) y (subst (λ z. In z (insert_key R done k)) e (in_insert_new exact done k))
  in_merged exact (k ∷ ks) done y (inr h) = in_merged exact ks (insert_key R done k) y h

  -- the distinct keys in order: each key is there, nothing else is, and they ascend
  pub in_order_ascending : IsTotalOrder R → (ks : List K) → Ascending R (in_order R ks)
  in_order_ascending o ks = merged_ascending o ks [] tt

  -- each key is there
  pub in_order_has : CmpEqualImpliesEq R → (ks : List K) (y : K) → In y ks → In y (in_order R ks)
  in_order_has exact ks y h = in_merged exact ks [] y h

  -- and nothing else is
  pub in_order_from : (ks : List K) (y : K) → In y (in_order R ks) → In y ks
  in_order_from ks y h = at (in_from_merged ks [] y h)
    where
      at : ⊥ ⊎ In y ks → In y ks
      at (inl i) = absurd i
      at (inr i) = i

  -- a key adds one at most
  pub length_insert : (xs : List K) (k : K) → length (insert_key R xs k) ≤ suc (length xs)
  length_insert [] k = omega arith
  length_insert (x ∷ xs) k = let rest = length_insert xs k in at (R k x) rest
    where
      at : (o : Ordering) → length (insert_key R xs k) ≤ suc (length xs) → length (match_ordering o (k ∷ x ∷ xs) (x ∷ xs) (x ∷ insert_key R xs k)) ≤ suc (suc (length xs))
      at Less r = omega arith
      at Equal r = omega arith
      at Greater r = omega arith

  -- and many as many at most
  pub length_merged : (ks done : List K) → length (merged R done ks) ≤ length done + length ks
  length_merged [] done = omega arith
  length_merged (k ∷ ks) done = let rest = length_merged ks (insert_key R done k) in let one = length_insert done k in omega arith

  -- two ascending lists with the same members are one list
  pub ascending_same : IsTotalOrder R → (xs ys : List K) → Ascending R xs → Ascending R ys → ((y : K) → In y xs → In y ys) → ((y : K) → In y ys → In y xs) → xs ≡ ys
  ascending_same o [] [] a b to from = refl
  ascending_same o [] (y ∷ ys) a b to from = absurd (from y (inl refl))
  ascending_same o (x ∷ xs) [] a b to from = absurd (to x (inl refl))
  ascending_same o (x ∷ xs) (y ∷ ys) a b to from =
      let e = heads (to x (inl refl)) (from y (inl refl)) in
      ap (λ z. z ∷ xs) e ∙ ap (λ zs. y ∷ zs) (ascending_same o xs ys a.1 b.1
      (λ z i. later x y ys z (all_in (λ z. R x z ≡ Less) xs z a.0 i) (sym e) (to z (inr i)))
      (λ z i. later y x xs z (all_in (λ z. R y z ≡ Less) ys z b.0 i) e (from z (inr i))))
    where
      never : Less ≡ Equal → ⊥
      never e = cc

      not_itself : (z : K) → R z z ≡ Less → ⊥
      not_itself z l = never (sym l ∙ tied_itself o z)

      later : (u v : K) (vs : List K) (z : K) → R u z ≡ Less → v ≡ u → In z (v ∷ vs) → In z vs
      later u v vs z l e (inl p) = absurd (not_itself z (subst (λ w. R w z ≡ Less) (sym e ∙ p) l))
      later u v vs z l e (inr i) = i

      heads : In x (y ∷ ys) → In y (x ∷ xs) → x ≡ y
      heads (inl p) j = sym p
      heads (inr i) (inl q) = q
      heads (inr i) (inr j) = absurd (not_itself x (o.trans x y x (all_in (λ z. R x z ≡ Less) xs y a.0 j) (all_in (λ z. R y z ≡ Less) ys x b.0 i)))

module _ {K : Type 0} where
  -- what passes a test stays in order
  pub filter_ascending : (R : K → K → Ordering) (p : K → Bool) (xs : List K) → Ascending R xs → Ascending R (filter p xs)
  filter_ascending R p [] a = tt
  filter_ascending R p (y ∷ xs) a = at (p y) (filter_ascending R p xs a.1)
    where
      at : (b : Bool) → Ascending R (filter p xs) → Ascending R (cond b (y ∷ filter p xs) (filter p xs))
      at true r = (all_from_in (λ z. R y z ≡ Less) (filter p xs) (λ z i. all_in (λ z. R y z ≡ Less) xs z a.0 (in_from_filter p xs z i).0), r)
      at false r = r
