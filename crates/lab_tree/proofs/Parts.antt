-- The parts of a list: where they begin, and what they are.
use Rattle.std.proofs.Common.{◌≡◌, ℕ, zero, suc, ◌+◌, ◌-◌, ◌<◌, ◌≤◌, List, [], ◌∷◌, ◌++◌, Bool, true, false, map, flat_map, length, get_or, take, drop, refl, sym, ap, ◌∙◌, subst, arith, inl, inr}
use Rattle.std.specs.Prelude.{slice_range}
use Rattle.std.specs.List.{range_with_len}
use Rattle.std.proofs.lemmas.List.{map-append, length-append, append_assoc, take-append-drop}
use Rattle.std.proofs.Math.Seq.{drop-append_seam, take-append_seam}
use Rattle.std.proofs.Math.ListN.{drop_of_length-le}
use Rattle.lab_math.proofs.Members.{In}
use Rattle.lab_math.proofs.Ranges.{map_range_same, range_split}
use Rattle.lab_defs_game.specs.Keys.{count}
use Rattle.lab_defs_game.proofs.NumberLemmas.{count_at_true, count_at_false}
use Rattle.lab_tree.specs.Ends.{parts_of, CutsFrom, AreCuts}

-- ---- counts

-- where what passes stands first, as many pass as stand there
pub parted_count : {X : Type 0} (p : X → Bool) (xs : List X) (i : ℕ) → i ≤ length xs → ((k : ℕ) (d : X) → 0 ≤ k → k < i → p (get_or xs k d) ≡ true)
    → ((k : ℕ) (d : X) → i ≤ k → k < length xs → p (get_or xs k d) ≡ false) → i ≡ count p xs
parted_count p [] i l passes fails = omega (arith, l)
parted_count p (x ∷ xs) zero l passes fails =
    let first : p x ≡ false = fails 0 x (omega arith) (omega arith) in
    parted_count p xs zero (omega arith) (λ k d a b. absurd (omega (arith, b))) (λ k d a b. fails (suc k) d (omega arith) (omega (arith, b)))
    ∙ sym (count_at_false p x xs first)
parted_count p (x ∷ xs) (suc i) l passes fails =
    ap suc (parted_count p xs i (omega (arith, l)) (λ k d a b. passes (suc k) d (omega arith) (omega (arith, b))) (λ k d a b. fails (suc k) d (omega (arith, a)) (omega (arith, b))))
    ∙ sym (count_at_true p x xs (passes 0 x (omega arith) (omega arith)))

-- a count over two lists
pub count-append : {X : Type 0} (p : X → Bool) (xs ys : List X) → count p (xs ++ ys) ≡ count p xs + count p ys
count-append p [] ys = omega arith
count-append p (x ∷ xs) ys = omega (arith, count-append p xs ys)

-- all are counted where all pass
pub count_whole : {X : Type 0} (p : X → Bool) (xs : List X) → ((x : X) → In x xs → p x ≡ true) → count p xs ≡ length xs
count_whole p [] h = refl
count_whole p (x ∷ xs) h = count_at_true p x xs (h x (inl refl)) ∙ ap suc (count_whole p xs (λ y i. h y (inr i)))

-- what is told of the numbers below n, and then of n
pub told_next : {X : Type 0} (f : ℕ → X) (n : ℕ) (told new : List X) (x : X) → told ≡ map f (range_with_len 0 n) → x ≡ f n → new ≡ told ++ x ∷ [] → new ≡ map f (range_with_len 0 (n + 1))
told_next f n told new x e v p =
    let here : 0 + n ≡ n = omega arith in
    p ∙ ap (λ xs. xs ++ x ∷ []) e ∙ ap (λ y. map f (range_with_len 0 n) ++ y ∷ []) (v ∙ ap f (sym here))
    ∙ sym (ap (map f) (range_split 0 n 1) ∙ map-append f (range_with_len 0 n) (range_with_len (0 + n) 1))

-- ---- where parts begin

module _ {X Y : Type 0} (F : X → List Y) where
  -- where the part with a number begins, behind a
  abbrev pub part_start : ℕ → List X → ℕ → ℕ
  part_start a xs n = a + length (flat_map F (take n xs))

  -- the places where parts end, the first one beginning at a
  abbrev pub part_ends : ℕ → List X → List ℕ
  part_ends a [] = []
  part_ends a (x ∷ xs) = (a + length (F x)) ∷ part_ends (a + length (F x)) xs

  -- for each number where its part begins
  pub starts_are : (a : ℕ) (xs : List X) → map (part_start a xs) (range_with_len 0 (length xs + 1)) ≡ a ∷ part_ends a xs
  starts_are a [] = let none : a + 0 ≡ a = omega arith in ap (λ n. n ∷ []) none
  starts_are a (x ∷ xs) =
      let none : a + 0 ≡ a = omega arith in
      let more : suc (length xs) + 1 ≡ suc (length xs + 1) = omega arith in
      ap (λ n. map (part_start a (x ∷ xs)) (range_with_len 0 n)) more
      ∙ ap (λ n. n ∷ map (part_start a (x ∷ xs)) (range_with_len 1 (length xs + 1))) none
      ∙ ap (λ t. a ∷ t) (map_range_same (part_start a (x ∷ xs)) (part_start (a + length (F x)) xs) 1 0 (length xs + 1) next ∙ starts_are (a + length (F x)) xs)
    where
      next : (k : ℕ) → k < length xs + 1 → part_start a (x ∷ xs) (1 + k) ≡ part_start (a + length (F x)) xs (0 + k)
      next k l =
          let one : 1 + k ≡ suc k = omega arith in
          let none : 0 + k ≡ k = omega arith in
          ap (part_start a (x ∷ xs)) one ∙ ap (λ n. a + n) (length-append (F x) (flat_map F (take k xs))) ∙ turned a (length (F x)) (length (flat_map F (take k xs)))
          ∙ sym (ap (part_start (a + length (F x)) xs) none)
        where
          turned : (m n k : ℕ) → m + (n + k) ≡ m + n + k
          turned m n k = omega arith

  -- they do not fall, and the last part ends where the list does
  pub ends_rise : (a : ℕ) (xs : List X) → CutsFrom a (part_ends a xs) (a + length (flat_map F xs))
  ends_rise a [] = omega arith
  ends_rise a (x ∷ xs) = (omega arith, subst (CutsFrom (a + length (F x)) (part_ends (a + length (F x)) xs)) whole (ends_rise (a + length (F x)) xs))
    where
      whole : a + length (F x) + length (flat_map F xs) ≡ a + length (F x ++ flat_map F xs)
      whole = omega (arith, length-append (F x) (flat_map F xs))

  -- the parts from there on
  pub parts_are : (a : ℕ) (done : List Y) (xs : List X) → length done ≡ a → parts_of (a ∷ part_ends a xs) (done ++ flat_map F xs) ≡ map F xs
  parts_are a done [] e = refl
  parts_are a done (x ∷ xs) e =
      ap (λ p. p ∷ parts_of ((a + length (F x)) ∷ part_ends (a + length (F x)) xs) (done ++ (F x ++ rest))) first
      ∙ ap (λ t. F x ∷ t) (ap (parts_of ((a + length (F x)) ∷ part_ends (a + length (F x)) xs)) (sym (append_assoc done (F x) rest)) ∙ parts_are (a + length (F x)) (done ++ F x) xs (length-append done (F x) ∙ ap (λ n. n + length (F x)) e))
    where
      rest : List Y
      rest = flat_map F xs

      first : slice_range (done ++ (F x ++ rest)) a (a + length (F x)) ≡ F x
      first =
          let long : a + length (F x) - a ≡ length (F x) = omega arith in
          ap (λ n. take n (drop a (done ++ (F x ++ rest)))) long ∙ ap (λ n. take (length (F x)) (drop n (done ++ (F x ++ rest)))) (sym e)
          ∙ ap (take (length (F x))) (drop-append_seam done (F x ++ rest)) ∙ take-append_seam (F x) rest

-- ---- reading parts

-- what is left of what is left
pub drop_twice : {X : Type 0} (n m : ℕ) (xs : List X) → drop n (drop m xs) ≡ drop (m + n) xs
drop_twice n zero xs = let none : 0 + n ≡ n = omega arith in sym (ap (λ k. drop k xs) none)
drop_twice {X} n (suc m) [] = drop_of_length-le {A = X} [] (omega arith) ∙ sym (drop_of_length-le {A = X} [] (omega arith))
drop_twice n (suc m) (x ∷ xs) = let on : suc m + n ≡ suc (m + n) = omega arith in drop_twice n m xs ∙ sym (ap (λ k. drop k (x ∷ xs)) on)

-- no part ends behind the list
cuts_most : (a : ℕ) (bs : List ℕ) (n : ℕ) → CutsFrom a bs n → a ≤ n
cuts_most a [] n e = omega (arith, e)
cuts_most a (b ∷ bs) n h = omega (arith, h.0, cuts_most b bs n h.1)

-- where the part with a number stands
pub record PartAt {X : Type 0} (starts : List ℕ) (xs : List X) (k : ℕ) : Type 0 where
  pub there : k + 1 < length starts
  pub order : get_or starts k 0 ≤ get_or starts (k + 1) 0
  pub end : get_or starts (k + 1) 0 ≤ length xs
  pub is : get_or (parts_of starts xs) k [] ≡ slice_range xs (get_or starts k 0) (get_or starts (k + 1) 0)

-- it stands there
pub part_at : {X : Type 0} (starts : List ℕ) (xs : List X) (k : ℕ) → AreCuts starts (length xs) → k < length (parts_of starts xs) → PartAt starts xs k
part_at [] xs k c l = absurd c
part_at (a ∷ bs) xs k c l = from a bs k c.1 l
  where
    from : (a : ℕ) (bs : List ℕ) (k : ℕ) → CutsFrom a bs (length xs) → k < length (parts_of (a ∷ bs) xs) → PartAt (a ∷ bs) xs k
    from a [] k c l = absurd (omega (arith, l))
    from a (b ∷ bs) zero c l = record { there = omega arith; order = c.0; end = cuts_most b bs (length xs) c.1; is = refl }
    from a (b ∷ bs) (suc k) c l =
        let r = from b bs k c.1 (omega (arith, l)) in
        let on : suc k + 1 ≡ suc (k + 1) = omega arith in
        let same : get_or (a ∷ b ∷ bs) (suc k + 1) 0 ≡ get_or (b ∷ bs) (k + 1) 0 = ap (λ n. get_or (a ∷ b ∷ bs) n 0) on in
        record {
          there = omega (arith, r.there);
          order = subst (λ n. get_or (b ∷ bs) k 0 ≤ n) (sym same) r.order;
          end = subst (λ n. n ≤ length xs) (sym same) r.end;
          is = r.is ∙ ap (slice_range xs (get_or (b ∷ bs) k 0)) (sym same);
        }

-- the parts together are the list
pub parts_whole : {X : Type 0} (starts : List ℕ) (xs : List X) → AreCuts starts (length xs) → flat_map (λ p. p) (parts_of starts xs) ≡ xs
parts_whole [] xs c = absurd c
parts_whole {X} (a ∷ bs) xs c = from a bs c.1 ∙ ap (λ n. drop n xs) c.0
  where
    from : (a : ℕ) (bs : List ℕ) → CutsFrom a bs (length xs) → flat_map (λ p. p) (parts_of (a ∷ bs) xs) ≡ drop a xs
    from a [] e = sym (drop_of_length-le xs (omega (arith, e)))
    from a (b ∷ bs) h =
        let on : a + (b - a) ≡ b = omega (arith, h.0) in
        ap (λ t. take (b - a) (drop a xs) ++ t) (from b bs h.1 ∙ ap (λ n. drop n xs) (sym on) ∙ sym (drop_twice (b - a) a xs)) ∙ take-append-drop (b - a) (drop a xs)
