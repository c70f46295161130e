-- What some element of a list has, what each has, and the greatest element.
use Rattle.std.proofs.Common.{◌≡◌, ℕ, zero, suc, ◌+◌, ◌<◌, ◌≤◌, ℤ, ◌≤ℤ◌, List, [], ◌∷◌, ◌++◌, refl, ap, sym, subst, arith, inl, inr, ◌⊎◌, map, length}
use Rattle.std.specs.List.{AllByRecursion, range_with_len, flat_map, fold}
use Rattle.std.specs.Int.{int_max, int_min}
use Rattle.std.proofs.lemmas.Int.{ints, clamps, by_lt_z}
use Rattle.std.proofs.lemmas.Bool.{cases_eq}
use Rattle.lab_math.specs.Greatest.{greatest_of, least_of}
use Rattle.lab_math.proofs.Integers.{le_of_eq_z}
use Rattle.lab_math.proofs.Members.{all_from_in, in_from_range}

-- ---- some element

-- some element of the list has the property
abbrev pub Among : {X : Type 0} → (X → Type 0) → List X → Type 0
Among P [] = ⊥
Among P (x ∷ xs) = P x ⊎ Among P xs

-- one of the first of two lists is one of both
among_left : {X : Type 0} (P : X → Type 0) (xs ys : List X) → Among P xs → Among P (xs ++ ys)
among_left P [] ys h = absurd h
among_left P (x ∷ xs) ys (inl p) = inl p
among_left P (x ∷ xs) ys (inr h) = inr (among_left P xs ys h)

-- one of the second of two lists is one of both
among_right : {X : Type 0} (P : X → Type 0) (xs ys : List X) → Among P ys → Among P (xs ++ ys)
among_right P [] ys h = h
among_right P (x ∷ xs) ys h = inr (among_right P xs ys h)

-- the image of one is one of the images
pub among_map : {X Y : Type 0} (P : X → Type 0) (Q : Y → Type 0) (f : X → Y) (xs : List X) → ((x : X) → P x → Q (f x)) → Among P xs → Among Q (map f xs)
among_map P Q f [] imp h = absurd h
among_map P Q f (x ∷ xs) imp (inl p) = inl (imp x p)
among_map P Q f (x ∷ xs) imp (inr h) = inr (among_map P Q f xs imp h)

-- one of one of the lists that are put together is one of all
pub among_flat : {X : Type 0} (P : X → Type 0) (f : ℕ → List X) (b n a : ℕ) → b ≤ a → a < b + n → Among P (f a) → Among P (flat_map f (range_with_len b n))
among_flat P f b zero a le lt h = absurd (omega arith)
among_flat P f b (suc n) a le lt h = elim (cases_eq a b) [
  | inl e ↦ among_left P (f b) (flat_map f (range_with_len (b + 1) n)) (subst (λ k. Among P (f k)) e h)
  | inr ne ↦ among_right P (f b) (flat_map f (range_with_len (b + 1) n)) (among_flat P f (b + 1) n a (omega arith) (omega arith) h)
]

-- one property may be weakened to another
pub among_imp : {X : Type 0} (P Q : X → Type 0) (xs : List X) → ((x : X) → P x → Q x) → Among P xs → Among Q xs
among_imp P Q [] imp h = absurd h
among_imp P Q (x ∷ xs) imp (inl p) = inl (imp x p)
among_imp P Q (x ∷ xs) imp (inr h) = inr (among_imp P Q xs imp h)

-- ---- each element

-- two lists together
all_append : {X : Type 0} (P : X → Type 0) (xs ys : List X) → AllByRecursion P xs → AllByRecursion P ys → AllByRecursion P (xs ++ ys)
all_append P [] ys p q = q
all_append P (x ∷ xs) ys p q = (p.0, all_append P xs ys p.1 q)

-- images
pub all_map : {X Y : Type 0} (P : X → Type 0) (Q : Y → Type 0) (f : X → Y) (xs : List X) → ((x : X) → P x → Q (f x)) → AllByRecursion P xs → AllByRecursion Q (map f xs)
all_map P Q f [] imp h = tt
all_map P Q f (x ∷ xs) imp h = (imp x h.0, all_map P Q f xs imp h.1)

-- lists that are put together
pub all_flat : {X : Type 0} (P : X → Type 0) (f : ℕ → List X) (b n : ℕ) → ((a : ℕ) → b ≤ a → a < b + n → AllByRecursion P (f a)) → AllByRecursion P (flat_map f (range_with_len b n))
all_flat P f b zero h = tt
all_flat P f b (suc n) h = all_append P (f b) (flat_map f (range_with_len (b + 1) n)) (h b (omega arith) (omega arith)) (all_flat P f (b + 1) n (λ a le lt. h a (omega arith) (omega arith)))

-- one property may be weakened to another
pub all_imp : {X : Type 0} (P Q : X → Type 0) (xs : List X) → ((x : X) → P x → Q x) → AllByRecursion P xs → AllByRecursion Q xs
all_imp P Q [] imp h = tt
all_imp P Q (x ∷ xs) imp h = (imp x h.0, all_imp P Q xs imp h.1)

-- ---- the greatest

-- the greater of two numbers is at most what both are at most
max_le : (a x b : ℤ) → a ≤ℤ b → x ≤ℤ b → int_max a x ≤ℤ b
max_le a x b p q = omega (arith, ints, clamps)

-- it is the first where the second is at most that
max_left : (a x b : ℤ) → a ≡ b → x ≤ℤ b → int_max a x ≡ b
max_left a x b p q = omega (arith, ints, clamps)

-- it is the second where the first is at most that
max_right : (a x b : ℤ) → a ≤ℤ b → x ≡ b → int_max a x ≡ b
max_right a x b p q = omega (arith, ints, clamps)

-- the greatest of numbers, begun with a
fold_max : {X : Type 0} (F : X → ℤ) (b a : ℤ) (xs : List X) → a ≤ℤ b → AllByRecursion (λ x. F x ≤ℤ b) xs → (a ≡ b) ⊎ Among (λ x. F x ≡ b) xs → fold int_max a (map F xs) ≡ b
fold_max F b a [] le h (inl e) = e
fold_max F b a [] le h (inr e) = absurd e
fold_max F b a (x ∷ xs) le h (inl e) = fold_max F b (int_max a (F x)) xs (max_le a (F x) b le h.0) h.1 (inl (max_left a (F x) b e h.0))
fold_max F b a (x ∷ xs) le h (inr (inl e)) = fold_max F b (int_max a (F x)) xs (max_le a (F x) b le h.0) h.1 (inl (max_right a (F x) b le e))
fold_max F b a (x ∷ xs) le h (inr (inr some)) = fold_max F b (int_max a (F x)) xs (max_le a (F x) b le h.0) h.1 (inr some)

-- a number that none is above and that one reaches is the greatest
pub greatest_is : {X : Type 0} (F : X → ℤ) (b : ℤ) (xs : List X) → AllByRecursion (λ x. F x ≤ℤ b) xs → Among (λ x. F x ≡ b) xs → greatest_of (map F xs) ≡ b
greatest_is F b [] all some = absurd some
greatest_is F b (x ∷ xs) all (inl e) = fold_max F b (F x) xs all.0 all.1 (inl e)
greatest_is F b (x ∷ xs) all (inr some) = fold_max F b (F x) xs all.0 all.1 (inr some)

-- of at least one number, one is the greatest
pub greatest_below : (n : ℕ) (h : ℕ → ℤ) → (a : ℕ) × (a < suc n) × ((k : ℕ) → k < suc n → h k ≤ℤ h a)
greatest_below zero h = (0, omega arith, λ k l. le_of_eq_z (h k) (h 0) (ap h (omega arith)))
greatest_below (suc n) h =
    let g = greatest_below n h in
    by_lt_z (h g.0) (h (suc n))
    (λ lt. (
      suc n,
      omega arith,
      λ k l. elim (cases_eq k (suc n)) [
        | inl e ↦ le_of_eq_z (h k) (h (suc n)) (ap h e)
        | inr ne ↦ let le = g.2 k (omega arith) in omega (arith, ints)
      ],
    ))
    (λ ge. (
      g.0,
      omega (arith, g.1),
      λ k l. elim (cases_eq k (suc n)) [
        | inl e ↦ subst (λ j. h j ≤ℤ h g.0) (sym e) ge
        | inr ne ↦ g.2 k (omega arith)
      ],
    ))

-- what a number of a range has, some number of it has
among_range : (P : ℕ → Type 0) (j s n : ℕ) → s ≤ j → j < s + n → P j → Among P (range_with_len s n)
among_range P j s zero le l p = absurd (omega (arith, le, l))
among_range P j s (suc n) le l p = elim (cases_eq s j) [
  | inl q ↦ inl (subst P (sym q) p)
  | inr ne ↦ inr (among_range P j (s + 1) n (omega (arith, le, ne)) (omega (arith, l)) p)
]

-- the greatest of a function's values below a number is one of them, and none is above it
pub greatest_range : (n : ℕ) (h : ℕ → ℤ) → 1 ≤ n → ((a : ℕ) → a < n → h a ≤ℤ greatest_of (map h (range_with_len 0 n))) × ((a : ℕ) × (a < n) × (h a ≡ greatest_of (map h (range_with_len 0 n))))
greatest_range zero h some = absurd (omega (arith, some))
greatest_range (suc n) h some =
    let g = greatest_below n h in
    let is : greatest_of (map h (range_with_len 0 (suc n))) ≡ h g.0 =
    greatest_is h (h g.0) (range_with_len 0 (suc n)) (all_from_in (λ a. h a ≤ℤ h g.0) (range_with_len 0 (suc n)) (λ a i. g.2 a (omega (arith, (in_from_range a 0 (suc n) i).1))))
    (among_range (λ a. h a ≡ h g.0) g.0 0 (suc n) (omega arith) (omega (arith, g.1)) refl) in (
      λ a l. subst (λ x. h a ≤ℤ x) (sym is) (g.2 a l),
      (g.0, g.1, sym is),
    )

-- ---- the least

-- a number is at most the lesser of two where it is at most both
min_from : (c a x : ℤ) → c ≤ℤ a → c ≤ℤ x → c ≤ℤ int_min a x
min_from c a x p q = omega (arith, ints, clamps)

-- and only there: the first
min_first : (c a x : ℤ) → c ≤ℤ int_min a x → c ≤ℤ a
min_first c a x p = omega (arith, ints, clamps)

-- the second
min_second : (c a x : ℤ) → c ≤ℤ int_min a x → c ≤ℤ x
min_second c a x p = omega (arith, ints, clamps)

-- a number that is at most each of some is at most the least of them, begun with a
fold_min_from : {X : Type 0} (F : X → ℤ) (c a : ℤ) (xs : List X) → c ≤ℤ a → AllByRecursion (λ x. c ≤ℤ F x) xs → c ≤ℤ fold int_min a (map F xs)
fold_min_from F c a [] le h = le
fold_min_from F c a (x ∷ xs) le h = fold_min_from F c (int_min a (F x)) xs (min_from c a (F x) le h.0) h.1

-- and only then
fold_min_to : {X : Type 0} (F : X → ℤ) (c a : ℤ) (xs : List X) → c ≤ℤ fold int_min a (map F xs) → (c ≤ℤ a) × AllByRecursion (λ x. c ≤ℤ F x) xs
fold_min_to F c a [] le = (le, tt)
fold_min_to F c a (x ∷ xs) le =
    let h = fold_min_to F c (int_min a (F x)) xs le in
    (min_first c a (F x) h.0, (min_second c a (F x) h.0, h.1))

-- a number is at most the least of some exactly where it is at most each
pub least_from : {X : Type 0} (F : X → ℤ) (c : ℤ) (xs : List X) → 0 < length xs → AllByRecursion (λ x. c ≤ℤ F x) xs → c ≤ℤ least_of (map F xs)
least_from F c [] some h = absurd (omega (arith, some))
least_from F c (x ∷ xs) some h = fold_min_from F c (F x) xs h.0 h.1

-- the other direction
pub least_to : {X : Type 0} (F : X → ℤ) (c : ℤ) (xs : List X) → c ≤ℤ least_of (map F xs) → AllByRecursion (λ x. c ≤ℤ F x) xs
least_to F c [] le = tt
least_to F c (x ∷ xs) le = fold_min_to F c (F x) xs le
