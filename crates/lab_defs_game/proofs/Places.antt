-- Of the elements that pass a test, in order, each has as its place how many passed before it: 0, 1, ..
use Rattle.std.proofs.Common.{◌≡◌, ℕ, zero, suc, ◌+◌, List, [], ◌∷◌, Bool, true, false, cond, map, filter, take, length, get_or, refl, sym, ap, ◌∙◌, arith, inl, inr}
use Rattle.std.specs.List.{range_with_len}
use Rattle.std.specs.Ordering.{is_lt}
use Rattle.std.specs.declared.cmp.Ordering.{Ordering}
use Rattle.std.specs.declared.cmp.Ordering.TheVariants.{Less}
use Rattle.std.specs.Cmp.{IsTotalOrder}
use Rattle.std.proofs.lemmas.Simd.{map-map}
use Rattle.lab_math.proofs.Members.{In, all_in, in_from_filter}
use Rattle.lab_defs_game.specs.Keys.{count, number_of}
use Rattle.lab_defs_game.proofs.KeyLemmas.{Ascending}
use Rattle.lab_defs_game.proofs.NumberLemmas.{count_at_true, count_at_false, number_at}

-- a range one further on
range_later : (a n : ℕ) → range_with_len (suc a) n ≡ map suc (range_with_len a n)
range_later a zero = refl
range_later a (suc n) = ap (λ t. suc a ∷ t) (ap (λ b. range_with_len b n) (one_more a) ∙ range_later (a + 1) n)
  where
    one_more : (a : ℕ) → suc a + 1 ≡ suc (a + 1)
    one_more a = omega arith

-- a test after a map
pub filter_map : {J K : Type 0} (p : K → Bool) (f : J → K) (xs : List J) → filter p (map f xs) ≡ map f (filter (λ x. p (f x)) xs)
filter_map p f [] = refl
filter_map p f (x ∷ xs) = let rest = filter_map p f xs in at (p (f x)) rest
  where
    at : (b : Bool) → filter p (map f xs) ≡ map f (filter (λ x. p (f x)) xs)
        → cond b (f x ∷ filter p (map f xs)) (filter p (map f xs)) ≡ map f (cond b (x ∷ filter (λ x. p (f x)) xs) (filter (λ x. p (f x)) xs))
    at true r = ap (λ t. f x ∷ t) r
    at false r = r

-- the numbers of the elements that pass, in order
abbrev pub passing : {K : Type 0} → (K → Bool) → K → List K → List ℕ
passing p d xs = filter (λ i. p (get_or xs i d)) (range_with_len 0 (length xs))

-- what passes after a first element has places one further on
pub passing_after : {K : Type 0} (p : K → Bool) (d x : K) (xs : List K) → filter (λ i. p (get_or (x ∷ xs) i d)) (range_with_len 1 (length xs)) ≡ map suc (passing p d xs)
passing_after p d x xs = ap (filter (λ i. p (get_or (x ∷ xs) i d))) (range_later 0 (length xs)) ∙ filter_map (λ i. p (get_or (x ∷ xs) i d)) suc (range_with_len 0 (length xs))

-- what passes has the places 0, 1, ..
pub places_are : {K : Type 0} (p : K → Bool) (d : K) (xs : List K) → map (λ i. count p (take i xs)) (passing p d xs) ≡ range_with_len 0 (count p xs)
places_are p d [] = refl
places_are {K = K} p d (x ∷ xs) = at (p x) refl (places_are p d xs)
  where
    tail_is : filter (λ i. p (get_or (x ∷ xs) i d)) (range_with_len 1 (length xs)) ≡ map suc (passing p d xs)
    tail_is = passing_after p d x xs

    at : (b : Bool) → p x ≡ b → map (λ i. count p (take i xs)) (passing p d xs) ≡ range_with_len 0 (count p xs)
        → map (λ i. count p (take i (x ∷ xs))) (cond (p x) (0 ∷ filter (λ i. p (get_or (x ∷ xs) i d)) (range_with_len 1 (length xs))) (filter (λ i. p (get_or (x ∷ xs) i d)) (range_with_len 1 (length xs))))
        ≡ range_with_len 0 (count p (x ∷ xs))
    at true e r =
        ap (λ b. map (λ i. count p (take i (x ∷ xs))) (cond b (0 ∷ filter (λ i. p (get_or (x ∷ xs) i d)) (range_with_len 1 (length xs))) (filter (λ i. p (get_or (x ∷ xs) i d)) (range_with_len 1 (length xs))))) e
        ∙ ap (λ t. 0 ∷ map (λ i. count p (take i (x ∷ xs))) t) tail_is
        ∙ ap (λ t. 0 ∷ t) (map-map (λ i. count p (take i (x ∷ xs))) suc (passing p d xs) ∙ shifted (passing p d xs) ∙ ap (map suc) r ∙ sym (range_later 0 (count p xs)))
        ∙ ap (range_with_len 0) (sym (count_at_true p x xs e))
      where
        shifted : (is : List ℕ) → map (λ i. count p (take (suc i) (x ∷ xs))) is ≡ map suc (map (λ i. count p (take i xs)) is)
        shifted [] = refl
        shifted (i ∷ is) = ap (λ n. n ∷ map (λ i. count p (take (suc i) (x ∷ xs))) is) (count_at_true p x (take i xs) e) ∙ ap (λ t. suc (count p (take i xs)) ∷ t) (shifted is)
    at false e r =
        ap (λ b. map (λ i. count p (take i (x ∷ xs))) (cond b (0 ∷ filter (λ i. p (get_or (x ∷ xs) i d)) (range_with_len 1 (length xs))) (filter (λ i. p (get_or (x ∷ xs) i d)) (range_with_len 1 (length xs))))) e
        ∙ ap (map (λ i. count p (take i (x ∷ xs)))) tail_is
        ∙ map-map (λ i. count p (take i (x ∷ xs))) suc (passing p d xs) ∙ same (passing p d xs) ∙ r
        ∙ ap (range_with_len 0) (sym (count_at_false p x xs e))
      where
        same : (is : List ℕ) → map (λ i. count p (take (suc i) (x ∷ xs))) is ≡ map (λ i. count p (take i xs)) is
        same [] = refl
        same (i ∷ is) = ap (λ n. n ∷ map (λ i. count p (take (suc i) (x ∷ xs))) is) (count_at_false p x (take i xs) e) ∙ ap (λ t. count p (take i xs) ∷ t) (same is)

module _ {K : Type 0} (R : K → K → Ordering) where
  -- after a first key all numbers are one higher
  numbers_after : (x : K) (xs ys : List K) → ((y : K) → In y ys → R x y ≡ Less) → map (number_of R (x ∷ xs)) ys ≡ map suc (map (number_of R xs) ys)
  numbers_after x xs [] l = refl
  numbers_after x xs (y ∷ ys) l =
      ap (λ n. n ∷ map (number_of R (x ∷ xs)) ys) (count_at_true (λ z. is_lt (R z y)) x xs (ap is_lt (l y (inl refl))))
      ∙ ap (λ ns. suc (number_of R xs y) ∷ ns) (numbers_after x xs ys (λ z i. l z (inr i)))

  -- in an ascending list the numbers of what passes are the places of what passes
  pub numbers_are : IsTotalOrder R → (p : K → Bool) (d : K) (xs : List K) → Ascending R xs → map (number_of R xs) (filter p xs) ≡ passing p d xs
  numbers_are o p d [] a = refl
  numbers_are o p d (x ∷ xs) a = at (p x) (later (numbers_are o p d xs a.1))
    where
      rest : List ℕ
      rest = filter (λ i. p (get_or (x ∷ xs) i d)) (range_with_len 1 (length xs))

      later : map (number_of R xs) (filter p xs) ≡ passing p d xs → map (number_of R (x ∷ xs)) (filter p xs) ≡ rest
      later e = numbers_after x xs (filter p xs) (λ y i. all_in (λ y. R x y ≡ Less) xs y a.0 (in_from_filter p xs y i).0) ∙ ap (map suc) e ∙ sym (passing_after p d x xs)

      at : (b : Bool) → map (number_of R (x ∷ xs)) (filter p xs) ≡ rest → map (number_of R (x ∷ xs)) (cond b (x ∷ filter p xs) (filter p xs)) ≡ cond b (0 ∷ rest) rest
      at true e = ap (λ n. n ∷ map (number_of R (x ∷ xs)) (filter p xs)) (number_at R o (x ∷ xs) 0 d a (omega arith)) ∙ ap (λ ns. 0 ∷ ns) e
      at false e = e
