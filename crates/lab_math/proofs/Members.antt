-- What is in a list that was put together, mapped or filtered.
use Rattle.std.proofs.Common.{◌≡◌, ℕ, zero, suc, ◌+◌, ◌<◌, ◌≤◌, List, [], ◌∷◌, ◌++◌, Bool, true, false, cond, map, filter, flat_map, length, get_or, refl, sym, ap, ◌∙◌, subst, arith, inl, inr, ◌⊎◌}
use Rattle.std.proofs.lemmas.Bool.{cases_lt}
use Rattle.std.specs.List.{AllByRecursion, Contains, range_with_len}

-- x is one of the list
abbrev pub In : {K : Type 0} → K → List K → Type 0
In x [] = ⊥
In x (y ∷ ys) = (y ≡ x) ⊎ In x ys

-- what holds of all holds of each
pub all_in : {K : Type 0} (P : K → Type 0) (xs : List K) (x : K) → AllByRecursion P xs → In x xs → P x
all_in P [] x a h = absurd h
all_in P (y ∷ ys) x a (inl e) = subst P e a.0
all_in P (y ∷ ys) x a (inr h) = all_in P ys x a.1 h

-- and back
pub all_from_in : {K : Type 0} (P : K → Type 0) (xs : List K) → ((x : K) → In x xs → P x) → AllByRecursion P xs
all_from_in P [] h = tt
all_from_in P (y ∷ ys) h = (h y (inl refl), all_from_in P ys (λ x i. h x (inr i)))

-- what stands at a place is there
pub in_get_or : {K : Type 0} (xs : List K) (i : ℕ) (d : K) → i < length xs → In (get_or xs i d) xs
in_get_or [] i d l = absurd (omega arith)
in_get_or (x ∷ xs) zero d l = inl refl
in_get_or (x ∷ xs) (suc i) d l = inr (in_get_or xs i d (omega arith))

module _ {K : Type 0} where
  -- what is in the first list
  pub in_append_left : (xs ys : List K) (x : K) → In x xs → In x (xs ++ ys)
  in_append_left [] ys x h = absurd h
  in_append_left (y ∷ xs) ys x (inl e) = inl e
  in_append_left (y ∷ xs) ys x (inr h) = inr (in_append_left xs ys x h)

  -- what is in the second list
  pub in_append_right : (xs ys : List K) (x : K) → In x ys → In x (xs ++ ys)
  in_append_right [] ys x h = h
  in_append_right (y ∷ xs) ys x h = inr (in_append_right xs ys x h)

  -- of two lists each member is in one
  pub in_append_cases : (xs ys : List K) (x : K) → In x (xs ++ ys) → In x xs ⊎ In x ys
  in_append_cases [] ys x h = inr h
  in_append_cases (y ∷ xs) ys x (inl e) = inl (inl e)
  in_append_cases (y ∷ xs) ys x (inr h) = at (in_append_cases xs ys x h)
    where
      at : In x xs ⊎ In x ys → In x (y ∷ xs) ⊎ In x ys
      at (inl i) = inl (inr i)
      at (inr j) = inr j

  -- what passes is kept
  pub in_filter : (p : K → Bool) (xs : List K) (x : K) → In x xs → p x ≡ true → In x (filter p xs)
  in_filter p [] x h t = absurd h
  in_filter p (y ∷ xs) x h t = at (p y) refl h (λ i. in_filter p xs x i t)
    where
      never : false ≡ true → ⊥
      never e = cc

      at : (b : Bool) → p y ≡ b → In x (y ∷ xs) → (In x xs → In x (filter p xs)) → In x (cond b (y ∷ filter p xs) (filter p xs))
      at true e (inl q) rest = inl q
      at true e (inr i) rest = inr (rest i)
      at false e (inl q) rest = absurd (never (sym e ∙ ap p q ∙ t))
      at false e (inr i) rest = rest i

  -- what is kept was there, and passes
  pub in_from_filter : (p : K → Bool) (xs : List K) (x : K) → In x (filter p xs) → In x xs × (p x ≡ true)
  in_from_filter p [] x h = absurd h
  in_from_filter p (y ∷ xs) x h = at (p y) refl h (λ i. in_from_filter p xs x i)
    where
      at : (b : Bool) → p y ≡ b → In x (cond b (y ∷ filter p xs) (filter p xs)) → (In x (filter p xs) → In x xs × (p x ≡ true)) → In x (y ∷ xs) × (p x ≡ true)
      at true e (inl q) rest = (inl q, ap p (sym q) ∙ e)
      at true e (inr i) rest = (inr (rest i).0, (rest i).1)
      at false e i rest = (inr (rest i).0, (rest i).1)

module _ {J K : Type 0} (f : J → K) where
  -- the image of a member
  pub in_map : (xs : List J) (x : J) → In x xs → In (f x) (map f xs)
  in_map [] x h = absurd h
  in_map (y ∷ xs) x (inl e) = inl (ap f e)
  in_map (y ∷ xs) x (inr h) = inr (in_map xs x h)

  -- each image has a member
  pub in_from_map : (xs : List J) (y : K) → In y (map f xs) → (x : J) × In x xs × (f x ≡ y)
  in_from_map [] y h = absurd h
  in_from_map (x ∷ xs) y (inl e) = (x, inl refl, e)
  in_from_map (x ∷ xs) y (inr h) = let r = in_from_map xs y h in (r.0, inr r.1, r.2)

module _ {J K : Type 0} (f : J → List K) where
  -- what is in the list of a member
  pub in_flat_map : (xs : List J) (x : J) (y : K) → In x xs → In y (f x) → In y (flat_map f xs)
  in_flat_map [] x y h i = absurd h
  in_flat_map (z ∷ xs) x y (inl e) i = in_append_left (f z) (flat_map f xs) y (subst (λ w. In y (f w)) (sym e) i)
  in_flat_map (z ∷ xs) x y (inr h) i = in_append_right (f z) (flat_map f xs) y (in_flat_map xs x y h i)

  -- each such has a member
  pub in_from_flat_map : (xs : List J) (y : K) → In y (flat_map f xs) → (x : J) × In x xs × In y (f x)
  in_from_flat_map [] y h = absurd h
  in_from_flat_map (z ∷ xs) y h = at (in_append_cases (f z) (flat_map f xs) y h) (λ i. in_from_flat_map xs y i)
    where
      at : In y (f z) ⊎ In y (flat_map f xs) → (In y (flat_map f xs) → (x : J) × In x xs × In y (f x)) → (x : J) × In x (z ∷ xs) × In y (f x)
      at (inl i) rest = (z, inl refl, i)
      at (inr i) rest = let r = rest i in (r.0, inr r.1, r.2)

-- the numbers of a range
pub in_from_range : (x s n : ℕ) → In x (range_with_len s n) → (s ≤ x) × (x < s + n)
in_from_range x s zero h = absurd h
in_from_range x s (suc n) (inl e) = (omega arith, omega arith)
in_from_range x s (suc n) (inr h) = let r = in_from_range x (s + 1) n h in (omega (arith, r.0), omega (arith, r.1))

-- and each of them is there
pub in_range : (x s n : ℕ) → s ≤ x → x < s + n → In x (range_with_len s n)
in_range x s zero lo hi = absurd (omega (arith, lo, hi))
in_range x s (suc n) lo hi = at (cases_lt s x) (λ l. in_range x (s + 1) n (omega (arith, l)) (omega (arith, hi)))
  where
    at : (s < x) ⊎ (x ≤ s) → (s < x → In x (range_with_len (s + 1) n)) → In x (range_with_len s (suc n))
    at (inl l) rest = inr (rest l)
    at (inr l) rest = inl (omega (arith, lo, l))

-- a member by its place, and back
pub contains_from_in : {K : Type 0} (xs : List K) (x : K) → In x xs → Contains xs x
contains_from_in [] x h = absurd h
contains_from_in (y ∷ xs) x (inl e) = (0, omega arith, e)
contains_from_in (y ∷ xs) x (inr h) = let r = contains_from_in xs x h in (suc r.0, omega (arith, r.1), r.2)

-- and back
pub in_from_contains : {K : Type 0} (xs : List K) (x : K) → Contains xs x → In x xs
in_from_contains xs x c = subst (λ y. In y xs) c.2 (in_get_or xs c.0 x c.1)
