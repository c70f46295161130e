-- The number of a key, and keys that pass a test which holds up to a place.
use Rattle.std.proofs.Common.{◌≡◌, ℕ, zero, suc, ◌+◌, ◌<◌, ◌≤◌, List, [], ◌∷◌, Bool, true, false, cond, ltb, ◌||◌, length, get_or, map, filter, refl, sym, ap, ◌∙◌, subst, arith, inl, inr, ◌⊎◌, ◌↔◌}
use Rattle.std.specs.Ordering.{is_lt, ordering_reverse}
use Rattle.std.specs.declared.cmp.Ordering.{Ordering}
use Rattle.std.specs.declared.cmp.Ordering.TheVariants.{Less, Equal, Greater}
use Rattle.std.specs.Cmp.{IsTotalOrder}
use Rattle.std.proofs.lemmas.Cmp.{tied_itself}
use Rattle.std.proofs.lemmas.Bool.{lt-ltb, le-ltb, ltb-true, ltb-false, false_from_ne_true, or_right, or_cases}
use Rattle.lab_defs_game.specs.Keys.{count, number_of}
use Rattle.lab_math.proofs.Members.{In, all_in, in_get_or}
use Rattle.lab_defs_game.proofs.KeyLemmas.{Ascending}

-- less is not equal
pub no_less : {c : Ordering} → c ≡ Less → c ≡ Equal → ⊥
no_less l e = never (sym l ∙ e)
  where
    never : Less ≡ Equal → ⊥
    never e = cc

-- what is found to be less is less
pub lt_is : {c : Ordering} → is_lt c ≡ true → c ≡ Less
lt_is {c = Less} e = refl
lt_is {c = Equal} e = absurd (never e)
  where
    never : false ≡ true → ⊥
    never e = cc
lt_is {c = Greater} e = absurd (never e)
  where
    never : false ≡ true → ⊥
    never e = cc

-- a test passes or fails
pub is_true_or : (b : Bool) → (b ≡ true) ⊎ (b ≡ false)
is_true_or true = inl refl
is_true_or false = inr refl

-- what passes is counted
pub count_at_true : {K : Type 0} (p : K → Bool) (x : K) (xs : List K) → p x ≡ true → count p (x ∷ xs) ≡ suc (count p xs)
count_at_true p x xs e = at (count p xs) (ap (λ b. cond b (suc zero) zero + count p xs) e)
  where
    at : (n : ℕ) → count p (x ∷ xs) ≡ suc zero + n → count p (x ∷ xs) ≡ suc n
    at n h = omega arith

-- what fails is not
pub count_at_false : {K : Type 0} (p : K → Bool) (x : K) (xs : List K) → p x ≡ false → count p (x ∷ xs) ≡ count p xs
count_at_false p x xs e = at (count p xs) (ap (λ b. cond b (suc zero) zero + count p xs) e)
  where
    at : (n : ℕ) → count p (x ∷ xs) ≡ zero + n → count p (x ∷ xs) ≡ n
    at n h = omega arith

-- nothing is counted where nothing passes
pub count_none : {K : Type 0} (p : K → Bool) (xs : List K) → ((x : K) → In x xs → p x ≡ false) → count p xs ≡ zero
count_none p [] h = refl
count_none p (x ∷ xs) h = count_at_false p x xs (h x (inl refl)) ∙ count_none p xs (λ y i. h y (inr i))

-- no more are counted than there are
pub count_le_length : {K : Type 0} (p : K → Bool) (xs : List K) → count p xs ≤ length xs
count_le_length p [] = omega arith
count_le_length p (x ∷ xs) = let rest = count_le_length p xs in at (is_true_or (p x)) rest
  where
    at : (p x ≡ true) ⊎ (p x ≡ false) → count p xs ≤ length xs → count p (x ∷ xs) ≤ suc (length xs)
    at (inl e) r = let c = count_at_true p x xs e in omega arith
    at (inr e) r = let c = count_at_false p x xs e in omega arith

-- two tests that no element passes both
pub count_or : {K : Type 0} (p q : K → Bool) (xs : List K) → ((x : K) → p x ≡ true → q x ≡ false) → count (λ x. p x || q x) xs ≡ count p xs + count q xs
count_or p q [] apart = refl
count_or p q (x ∷ xs) apart = let rest = count_or p q xs apart in at (p x) (q x) (apart x) rest
  where
    at : (b c : Bool) → (b ≡ true → c ≡ false) → count (λ x. p x || q x) xs ≡ count p xs + count q xs
        → cond (b || c) 1 0 + count (λ x. p x || q x) xs ≡ (cond b 1 0 + count p xs) + (cond c 1 0 + count q xs)
    at true true a r = absurd (never (a refl))
      where
        never : true ≡ false → ⊥
        never e = cc
    at true false a r = omega arith
    at false true a r = omega arith
    at false false a r = omega arith

-- tests that agree count alike
pub count_cong : {K : Type 0} (p q : K → Bool) (xs : List K) → ((x : K) → In x xs → p x ≡ q x) → count p xs ≡ count q xs
count_cong p q [] h = refl
count_cong p q (x ∷ xs) h = ap (λ b. cond b 1 0 + count p xs) (h x (inl refl)) ∙ ap (λ n. cond (q x) 1 0 + n) (count_cong p q xs (λ y i. h y (inr i)))

-- a test that passes whatever stands before what passes
abbrev pub HoldsUpTo : {K : Type 0} → (K → K → Ordering) → (K → Bool) → Type 0
HoldsUpTo {K} R p = (x y : K) → R x y ≡ Less → p y ≡ true → p x ≡ true

module _ {K : Type 0} (R : K → K → Ordering) where
  -- in an ascending list such a test passes at just the first places
  pub passes_at : (p : K → Bool) → HoldsUpTo R p → (xs : List K) (i : ℕ) (d : K) → Ascending R xs → i < length xs → p (get_or xs i d) ≡ ltb i (count p xs)
  passes_at p h [] i d a l = absurd (omega arith)
  passes_at p h (x ∷ xs) zero d a l = at (is_true_or (p x))
    where
      at : (p x ≡ true) ⊎ (p x ≡ false) → p x ≡ ltb zero (count p (x ∷ xs))
      at (inl e) = e ∙ sym (lt-ltb zero (count p (x ∷ xs)) (let c = count_at_true p x xs e in omega arith))
      at (inr e) =
          let none = count_none p xs (λ y i. false_from_ne_true (p y) (λ t. both (e) (h x y (all_in (λ y. R x y ≡ Less) xs y a.0 i) t))) in
          e ∙ sym (le-ltb zero (count p (x ∷ xs)) (let c = count_at_false p x xs e in omega arith))
        where
          both : {b : Bool} → b ≡ false → b ≡ true → ⊥
          both f t = never (sym f ∙ t)
            where
              never : false ≡ true → ⊥
              never e = cc
  passes_at p h (x ∷ xs) (suc i) d a l = at (is_true_or (p x)) (passes_at p h xs i d a.1 (omega arith))
    where
      both : {b : Bool} → b ≡ false → b ≡ true → ⊥
      both f t = never (sym f ∙ t)
        where
          never : false ≡ true → ⊥
          never e = cc

      at : (p x ≡ true) ⊎ (p x ≡ false) → p (get_or xs i d) ≡ ltb i (count p xs) → p (get_or xs i d) ≡ ltb (suc i) (count p (x ∷ xs))
      at (inl e) r = r ∙ shift i (count p xs) (count p (x ∷ xs)) (count_at_true p x xs e)
        where
          shift : (i m n : ℕ) → n ≡ suc m → ltb i m ≡ ltb (suc i) n
          shift i m n e = split (is_true_or (ltb i m))
            where
              split : (ltb i m ≡ true) ⊎ (ltb i m ≡ false) → ltb i m ≡ ltb (suc i) n
              split (inl t) = let b = ltb-true i m t in t ∙ sym (lt-ltb (suc i) n (omega arith))
              split (inr f) = let b = ltb-false i m f in f ∙ sym (le-ltb (suc i) n (omega arith))
      at (inr e) r =
          let none : count p xs ≡ zero = count_none p xs (λ y j. false_from_ne_true (p y) (λ t. both e (h x y (all_in (λ y. R x y ≡ Less) xs y a.0 j) t))) in
          let c : count p (x ∷ xs) ≡ count p xs = count_at_false p x xs e in
          r ∙ le-ltb i (count p xs) (omega arith) ∙ sym (le-ltb (suc i) (count p (x ∷ xs)) (omega arith))

  -- the keys of which `before` and then `within` hold: those within are the ones from the number of the first up to both
  pub within_at : (before within : K → Bool) → HoldsUpTo R before → HoldsUpTo R (λ x. before x || within x) → ((x : K) → before x ≡ true → within x ≡ false)
      → (xs : List K) (i : ℕ) (d : K) → Ascending R xs → i < length xs
      → (within (get_or xs i d) ≡ true) ↔ ((count before xs ≤ i) × (i < count before xs + count within xs))
  within_at before within hb hw apart xs i d a l = (there, back)
    where
      never : false ≡ true → ⊥
      never e = cc

      there : within (get_or xs i d) ≡ true → (count before xs ≤ i) × (i < count before xs + count within xs)
      there w =
          let pb = passes_at before hb xs i d a l in
          let pw = passes_at (λ x. before x || within x) hw xs i d a l in
          let c = count_or before within xs apart in (
            ltb-false i (count before xs) (sym pb ∙ false_from_ne_true (before (get_or xs i d)) (λ t. never (sym (apart (get_or xs i d) t) ∙ w))),
            subst (λ n. i < n) c (ltb-true i (count (λ x. before x || within x) xs) (sym pw ∙ or_right (before (get_or xs i d)) (within (get_or xs i d)) w)),
          )

      back : (count before xs ≤ i) × (i < count before xs + count within xs) → within (get_or xs i d) ≡ true
      back (lo, hi) =
          let pb = passes_at before hb xs i d a l in
          let pw = passes_at (λ x. before x || within x) hw xs i d a l in
          let c = count_or before within xs apart in
          pick (or_cases (before (get_or xs i d)) (within (get_or xs i d)) (pw ∙ lt-ltb i (count (λ x. before x || within x) xs) (subst (λ n. i < n) (sym c) hi)))
          (pb ∙ le-ltb i (count before xs) lo)
        where
          pick : (before (get_or xs i d) ≡ true) ⊎ (within (get_or xs i d) ≡ true) → before (get_or xs i d) ≡ false → within (get_or xs i d) ≡ true
          pick (inl t) f = absurd (never (sym f ∙ t))
          pick (inr w) f = w

  -- of a total order: what stands before k is a test of this kind
  pub before_holds : IsTotalOrder R → (k : K) → HoldsUpTo R (λ x. is_lt (R x k))
  before_holds o k x y l t = ap is_lt (o.trans x y k l (lt_is t))

  -- the key at a place has its place as number
  pub number_at : IsTotalOrder R → (xs : List K) (i : ℕ) (d : K) → Ascending R xs → i < length xs → number_of R xs (get_or xs i d) ≡ i
  number_at o [] i d a l = absurd (omega arith)
  number_at o (x ∷ xs) zero d a l =
      count_at_false (λ y. is_lt (R y x)) x xs (ap is_lt (tied_itself o x))
      ∙ count_none (λ y. is_lt (R y x)) xs (λ y i. ap is_lt (o.antisymm y x ∙ ap ordering_reverse (all_in (λ y. R x y ≡ Less) xs y a.0 i)))
  number_at o (x ∷ xs) (suc i) d a l =
      count_at_true (λ y. is_lt (R y (get_or xs i d))) x xs (ap is_lt (all_in (λ y. R x y ≡ Less) xs (get_or xs i d) a.0 (in_get_or xs i d (omega arith))))
      ∙ ap suc (number_at o xs i d a.1 (omega arith))

  -- where a key stands
  pub place_of_in : (xs : List K) (k d : K) → In k xs → (i : ℕ) × (i < length xs) × (get_or xs i d ≡ k)
  place_of_in [] k d h = absurd h
  place_of_in (x ∷ xs) k d (inl e) = (0, omega arith, e)
  place_of_in (x ∷ xs) k d (inr h) = let r = place_of_in xs k d h in (suc r.0, omega (arith, r.1), r.2)

  -- the number of a key is below how many there are
  pub number_below : IsTotalOrder R → (xs : List K) (k : K) → Ascending R xs → In k xs → number_of R xs k < length xs
  number_below o xs k a h =
      let r = place_of_in xs k k h in
      let n : number_of R xs k ≡ r.0 = sym (ap (number_of R xs) r.2) ∙ number_at o xs r.0 k a r.1 in
      omega (arith, r.1, n)

  -- at the number of a key stands the key
  pub at_number : IsTotalOrder R → (xs : List K) (k d : K) → Ascending R xs → In k xs → get_or xs (number_of R xs k) d ≡ k
  at_number o xs k d a h =
      let r = place_of_in xs k d h in
      ap (λ n. get_or xs n d) (sym (ap (number_of R xs) r.2) ∙ number_at o xs r.0 d a r.1) ∙ r.2

  -- numbers go as the order goes
  pub number_lt : IsTotalOrder R → (xs : List K) (j k : K) → Ascending R xs → In j xs → R j k ≡ Less → number_of R xs j < number_of R xs k
  number_lt o xs j k a h l =
      let there = at_number o xs j j a h in
      let p = passes_at (λ x. is_lt (R x k)) (before_holds o k) xs (number_of R xs j) j a (number_below o xs j a h) in
      ltb-true (number_of R xs j) (number_of R xs k) (sym p ∙ ap (λ x. is_lt (R x k)) there ∙ ap is_lt l)

  -- one number, one key
  pub number_same : IsTotalOrder R → (xs : List K) (j k : K) → Ascending R xs → In j xs → In k xs → number_of R xs j ≡ number_of R xs k → j ≡ k
  number_same o xs j k a hj hk e = sym (at_number o xs j j a hj) ∙ ap (λ n. get_or xs n j) e ∙ at_number o xs k j a hk

-- how many are kept
pub length-filter : {K : Type 0} (p : K → Bool) (xs : List K) → length (filter p xs) ≡ count p xs
length-filter p [] = refl
length-filter p (x ∷ xs) = at (is_true_or (p x)) (length-filter p xs)
  where
    at : (p x ≡ true) ⊎ (p x ≡ false) → length (filter p xs) ≡ count p xs → length (filter p (x ∷ xs)) ≡ count p (x ∷ xs)
    at (inl e) r = ap (λ b. length (cond b (x ∷ filter p xs) (filter p xs))) e ∙ ap suc r ∙ sym (count_at_true p x xs e)
    at (inr e) r = ap (λ b. length (cond b (x ∷ filter p xs) (filter p xs))) e ∙ r ∙ sym (count_at_false p x xs e)

-- the same values make the same list
pub map_same : {X Y : Type 0} (f h : X → Y) → ((x : X) → f x ≡ h x) → (xs : List X) → map f xs ≡ map h xs
map_same f h e [] = refl
map_same f h e (x ∷ xs) = ap (λ y. y ∷ map f xs) (e x) ∙ ap (λ ys. h x ∷ ys) (map_same f h e xs)
