-- Numbers from the last to the first: which they are, and sums over them.
use Rattle.std.proofs.Common.{◌≡◌, ℕ, zero, suc, ◌+◌, ◌<◌, ◌≤◌, ◌⊎◌, inl, inr, ℤ, pos, ◌+ℤ◌, Bool, true, false, cond, List, [], ◌∷◌, ◌++◌, take, length, get_or, refl, sym, ap, ◌∙◌, subst, arith, append-nil, append_assoc}
use Rattle.std.proofs.lemmas.Bool.{cases_lt}
use Rattle.std.proofs.lemmas.Int.{ints}
use Rattle.std.proofs.lemmas.List.{take_more, take_all, length-take-le}
use Rattle.lab_math.specs.Sums.{total}
use Rattle.lab_math.specs.Below.{total_below}
use Rattle.lab_math.proofs.IntegerSums.{total-append}
use Rattle.lab_math.proofs.Members.{In, in_append_left, in_append_right, in_append_cases}
use Rattle.lab_form.specs.Chains.{last_to_first_from, last_to_first}

-- with one more item, its number comes first where it passes
pub last_more : {A : Type 0} (p : A → Bool) (xs : List A) (y : A) → last_to_first p (xs ++ y ∷ []) ≡ cond (p y) (length xs ∷ []) [] ++ last_to_first p xs
last_more p xs y =
    let e : 0 + length xs ≡ length xs = omega arith in
    from 0 xs ∙ ap (λ m. cond (p y) (m ∷ []) [] ++ last_to_first p xs) e
  where
    from : (n : ℕ) (zs : List _) → last_to_first_from p n (zs ++ y ∷ []) ≡ cond (p y) ((n + length zs) ∷ []) [] ++ last_to_first_from p n zs
    from n [] =
        let e : n ≡ n + 0 = omega arith in
        ap (λ m. cond (p y) (m ∷ []) []) e ∙ sym (append-nil (cond (p y) ((n + 0) ∷ []) []))
    from n (z ∷ zs) =
        let own : List ℕ = cond (p z) (n ∷ []) [] in
        ap (λ ns. ns ++ own) (from (suc n) zs)
        ∙ append_assoc (cond (p y) ((suc n + length zs) ∷ []) []) (last_to_first_from p (suc n) zs) own
        ∙ ap (λ m. cond (p y) (m ∷ []) [] ++ (last_to_first_from p (suc n) zs ++ own)) (omega arith)

module _ {A : Type 0} (p : A → Bool) (xs : List A) where
  -- of the first items, with one more
  next_number : (k : ℕ) (d : A) → k < length xs → last_to_first p (take (suc k) xs) ≡ cond (p (get_or xs k d)) (k ∷ []) [] ++ last_to_first p (take k xs)
  next_number k d l =
      let e : suc k ≡ k + 1 = omega arith in
      ap (λ j. last_to_first p (take j xs)) e ∙ ap (last_to_first p) (take_more xs k d l) ∙ last_more p (take k xs) (get_or xs k d)
      ∙ ap (λ n. cond (p (get_or xs k d)) (n ∷ []) [] ++ last_to_first p (take k xs)) (length-take-le k xs (omega (arith, l)))

  -- each of the numbers is that of an item that passes
  pub numbers_pass : (n : ℕ) (d : A) → In n (last_to_first p xs) → (n < length xs) × (p (get_or xs n d) ≡ true)
  numbers_pass n d i = among (length xs) (omega arith) (subst (λ ys. In n (last_to_first p ys)) (sym (take_all (length xs) xs (omega arith))) i)
    where
      own : (k : ℕ) → k < length xs → (b : Bool) → p (get_or xs k d) ≡ b → In n (cond b (k ∷ []) []) → (n < length xs) × (p (get_or xs n d) ≡ true)
      own k l true e (inl same) = subst (λ m. (m < length xs) × (p (get_or xs m d) ≡ true)) same (l, e)
      own k l true e (inr never) = absurd never
      own k l false e never = absurd never

      among : (k : ℕ) → k ≤ length xs → In n (last_to_first p (take k xs)) → (n < length xs) × (p (get_or xs n d) ≡ true)
      among zero l i = absurd i
      among (suc k) l i = at (in_append_cases (cond (p (get_or xs k d)) (k ∷ []) []) (last_to_first p (take k xs)) n (subst (In n) (next_number k d (omega (arith, l))) i)) (λ j. among k (omega (arith, l)) j)
        where
          at : In n (cond (p (get_or xs k d)) (k ∷ []) []) ⊎ In n (last_to_first p (take k xs)) → (In n (last_to_first p (take k xs)) → (n < length xs) × (p (get_or xs n d) ≡ true)) → (n < length xs) × (p (get_or xs n d) ≡ true)
          at (inl j) rest = own k (omega (arith, l)) (p (get_or xs k d)) refl j
          at (inr j) rest = rest j

  -- the number of each item that passes is one of them
  pub numbers_all : (n : ℕ) (d : A) → n < length xs → p (get_or xs n d) ≡ true → In n (last_to_first p xs)
  numbers_all n d l t = subst (λ ys. In n (last_to_first p ys)) (take_all (length xs) xs (omega arith)) (among (length xs) (omega arith) l)
    where
      among : (k : ℕ) → k ≤ length xs → n < k → In n (last_to_first p (take k xs))
      among zero w m = absurd (omega (arith, m))
      among (suc k) w m = subst (In n) (sym (next_number k d (omega (arith, w)))) (at (cases_lt n k) (λ s. among k (omega (arith, w)) s))
        where
          at : (n < k) ⊎ (k ≤ n) → (n < k → In n (last_to_first p (take k xs))) → In n (cond (p (get_or xs k d)) (k ∷ []) [] ++ last_to_first p (take k xs))
          at (inl s) rest = in_append_right (cond (p (get_or xs k d)) (k ∷ []) []) (last_to_first p (take k xs)) n (rest s)
          at (inr s) rest =
              let same : n ≡ k = omega (arith, s, m) in
              in_append_left (cond (p (get_or xs k d)) (k ∷ []) []) (last_to_first p (take k xs)) n
              (subst (λ b. In n (cond b (k ∷ []) [])) (sym (subst (λ j. p (get_or xs j d) ≡ true) same t)) (inl (sym same)))

  -- where no item passes there is no number
  pub last_none : ((i : ℕ) (d : A) → i < length xs → p (get_or xs i d) ≡ false) → last_to_first p xs ≡ []
  last_none fails = from 0 xs fails
    where
      from : (n : ℕ) (zs : List A) → ((i : ℕ) (d : A) → i < length zs → p (get_or zs i d) ≡ false) → last_to_first_from p n zs ≡ []
      from n [] fails = refl
      from n (z ∷ zs) fails =
          ap (λ b. last_to_first_from p (suc n) zs ++ cond b (n ∷ []) []) (fails 0 z (omega arith))
          ∙ ap (λ ns. ns ++ []) (from (suc n) zs (λ i d l. fails (suc i) d (omega (arith, l))))

  -- a sum over the numbers is one over all numbers of items, with 0 for those that fail
  pub total_numbers : (f : ℕ → ℤ) (d : A) → total f (last_to_first p xs) ≡ total_below (length xs) (λ n. cond (p (get_or xs n d)) (f n) (pos 0))
  total_numbers f d = ap (λ ys. total f (last_to_first p ys)) (sym (take_all (length xs) xs (omega arith))) ∙ among (length xs) (omega arith)
    where
      own : (b : Bool) (k : ℕ) (ns : List ℕ) → total f (cond b (k ∷ []) [] ++ ns) ≡ total f ns +ℤ cond b (f k) (pos 0)
      own true k ns = omega (arith, ints)
      own false k ns = omega (arith, ints)

      among : (k : ℕ) → k ≤ length xs → total f (last_to_first p (take k xs)) ≡ total_below k (λ n. cond (p (get_or xs n d)) (f n) (pos 0))
      among zero l = refl
      among (suc k) l =
          ap (total f) (next_number k d (omega (arith, l))) ∙ own (p (get_or xs k d)) k (last_to_first p (take k xs))
          ∙ ap (λ z. z +ℤ cond (p (get_or xs k d)) (f k) (pos 0)) (among k (omega (arith, l)))

  -- so is a sum of the items' values one over all items
  pub total_items : (h : A → ℤ) (d : A) → total (λ n. h (get_or xs n d)) (last_to_first p xs) ≡ total (λ x. cond (p x) (h x) (pos 0)) xs
  total_items h d = total_numbers (λ n. h (get_or xs n d)) d ∙ among (length xs) (omega arith) ∙ ap (total (λ x. cond (p x) (h x) (pos 0))) (take_all (length xs) xs (omega arith))
    where
      g : A → ℤ
      g x = cond (p x) (h x) (pos 0)

      among : (k : ℕ) → k ≤ length xs → total_below k (λ n. g (get_or xs n d)) ≡ total g (take k xs)
      among zero l = refl
      among (suc k) l =
          let e : k + 1 ≡ suc k = omega arith in
          ap (λ z. z +ℤ g (get_or xs k d)) (among k (omega (arith, l)))
          ∙ (omega (arith, ints, total-append g (take k xs) (get_or xs k d ∷ [])))
          ∙ ap (total g) (sym (take_more xs k d (omega (arith, l)))) ∙ ap (λ j. total g (take j xs)) e
