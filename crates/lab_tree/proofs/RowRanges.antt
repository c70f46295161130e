-- Parts of a list that follow each other.
use Rattle.std.proofs.Common.{◌≡◌, ℕ, zero, suc, ◌+◌, ◌-◌, ◌<◌, ◌≤◌, List, [], ◌∷◌, ◌++◌, flat_map, length, get_or, take, drop, refl, sym, ap, ◌∙◌, subst, arith}
use Rattle.std.specs.Prelude.{slice_range}
use Rattle.std.proofs.Math.Seq.{take-add}
use Rattle.std.proofs.lemmas.Grind.{flat_map-append}
use Rattle.std.proofs.lemmas.List.{take-append-drop}
use Rattle.lab_math.proofs.Members.{In, in_append_left, in_append_right}
use Rattle.lab_tree.specs.Ends.{parts_of, CutsFrom, AreCuts}
use Rattle.lab_tree.proofs.Parts.{drop_twice}

-- later places come after
cuts_rise : (a : ℕ) (bs : List ℕ) (k n : ℕ) → CutsFrom a bs n → k ≤ length bs → a ≤ get_or (a ∷ bs) k 0
cuts_rise a bs zero n c l = omega arith
cuts_rise a [] (suc k) n c l = absurd (omega (arith, l))
cuts_rise a (b ∷ bs) (suc k) n c l = omega (arith, c.0, cuts_rise b bs k n c.1 (omega (arith, l)))

-- two parts of a list that follow each other are one
range_join : {X : Type 0} (xs : List X) (a b c : ℕ) → a ≤ b → b ≤ c → slice_range xs a b ++ slice_range xs b c ≡ slice_range xs a c
range_join xs a b c l m =
    let on : a + (b - a) ≡ b = omega (arith, l) in
    let all : (b - a) + (c - b) ≡ c - a = omega (arith, l, m) in
    ap (λ ys. take (b - a) (drop a xs) ++ take (c - b) ys) (ap (λ k. drop k xs) (sym on) ∙ sym (drop_twice (b - a) a xs))
    ∙ sym (take-add (b - a) (c - b) (drop a xs)) ∙ ap (λ k. take k (drop a xs)) all

-- the first parts together
first_parts : {X : Type 0} (xs : List X) (a : ℕ) (bs : List ℕ) (m n : ℕ) → CutsFrom a bs n → m ≤ length bs → flat_map (λ p. p) (take m (parts_of (a ∷ bs) xs)) ≡ slice_range xs a (get_or (a ∷ bs) m 0)
first_parts xs a bs zero n c l = let none : 0 ≡ a - a = omega arith in ap (λ k. take k (drop a xs)) none
first_parts xs a [] (suc m) n c l = absurd (omega (arith, l))
first_parts xs a (b ∷ bs) (suc m) n c l =
    ap (λ t. slice_range xs a b ++ t) (first_parts xs b bs m n c.1 (omega (arith, l)))
    ∙ range_join xs a b (get_or (b ∷ bs) m 0) c.0 (cuts_rise b bs m n c.1 (omega (arith, l)))

-- the parts from one up to another together
parts_from : {X : Type 0} (xs : List X) (a : ℕ) (bs : List ℕ) (i j n : ℕ) → CutsFrom a bs n → i ≤ j → j ≤ length bs
    → flat_map (λ p. p) (slice_range (parts_of (a ∷ bs) xs) i j) ≡ slice_range xs (get_or (a ∷ bs) i 0) (get_or (a ∷ bs) j 0)
parts_from xs a bs zero j n c l m =
    let whole : j - 0 ≡ j = omega arith in
    ap (λ k. flat_map (λ p. p) (take k (parts_of (a ∷ bs) xs))) whole ∙ first_parts xs a bs j n c m
parts_from xs a bs (suc i) zero n c l m = absurd (omega (arith, l))
parts_from xs a [] (suc i) (suc j) n c l m = absurd (omega (arith, m))
parts_from xs a (b ∷ bs) (suc i) (suc j) n c l m =
    let same : suc j - suc i ≡ j - i = omega arith in
    ap (λ k. flat_map (λ p. p) (take k (drop i (parts_of (b ∷ bs) xs)))) same ∙ parts_from xs b bs i j n c.1 (omega (arith, l)) (omega (arith, m))

-- as many parts as places but one
parts_long : {X : Type 0} (xs : List X) (a : ℕ) (bs : List ℕ) → length (parts_of (a ∷ bs) xs) ≡ length bs
parts_long xs a [] = refl
parts_long xs a (b ∷ bs) = ap suc (parts_long xs b bs)

-- what is known of the places of parts from one up to another, and what these are together
pub record RangeAt {X : Type 0} (starts : List ℕ) (xs : List X) (i j : ℕ) : Type 0 where
  pub from : i < length starts
  pub to : j < length starts
  pub order : get_or starts i 0 ≤ get_or starts j 0
  pub end : get_or starts j 0 ≤ length xs
  pub is : flat_map (λ p. p) (slice_range (parts_of starts xs) i j) ≡ slice_range xs (get_or starts i 0) (get_or starts j 0)

-- they are there
pub range_at : {X : Type 0} (starts : List ℕ) (xs : List X) (i j : ℕ) → AreCuts starts (length xs) → i ≤ j → j ≤ length (parts_of starts xs) → RangeAt starts xs i j
range_at [] xs i j c l m = absurd c
range_at (a ∷ bs) xs i j c l m =
    let long = parts_long xs a bs in
    record {
      from = omega (arith, l, m, long);
      to = omega (arith, m, long);
      order = rise a bs i j c.1 l (omega (arith, m, long));
      end = most a bs j c.1 (omega (arith, m, long));
      is = parts_from xs a bs i j (length xs) c.1 l (omega (arith, m, long));
    }
  where
    rise : (a : ℕ) (bs : List ℕ) (i j : ℕ) → CutsFrom a bs (length xs) → i ≤ j → j ≤ length bs → get_or (a ∷ bs) i 0 ≤ get_or (a ∷ bs) j 0
    rise a bs zero j c l m = cuts_rise a bs j (length xs) c m
    rise a bs (suc i) zero c l m = absurd (omega (arith, l))
    rise a [] (suc i) (suc j) c l m = absurd (omega (arith, m))
    rise a (b ∷ bs) (suc i) (suc j) c l m = rise b bs i j c.1 (omega (arith, l)) (omega (arith, m))

    most : (a : ℕ) (bs : List ℕ) (j : ℕ) → CutsFrom a bs (length xs) → j ≤ length bs → get_or (a ∷ bs) j 0 ≤ length xs
    most a [] zero c l = omega (arith, c)
    most a [] (suc j) c l = absurd (omega (arith, l))
    most a (b ∷ bs) zero c l = omega (arith, c.0, most b bs zero c.1 (omega arith))
    most a (b ∷ bs) (suc j) c l = most b bs j c.1 (omega (arith, l))

-- what is in some of the parts is in all of them
pub part_in : {X : Type 0} (parts : List (List X)) (i j : ℕ) (x : X) → In x (flat_map (λ p. p) (slice_range parts i j)) → In x (flat_map (λ p. p) parts)
part_in parts i j x h =
    let flat : List (List _) → List _ = flat_map (λ p. p) in
    let rest = drop i parts in
    let later : In x (flat rest) =
    subst (In x) (sym (flat_map-append (λ p. p) (take (j - i) rest) (drop (j - i) rest)) ∙ ap flat (take-append-drop (j - i) rest)) (in_append_left (flat (take (j - i) rest)) (flat (drop (j - i) rest)) x h) in
    subst (In x) (sym (flat_map-append (λ p. p) (take i parts) rest) ∙ ap flat (take-append-drop i parts)) (in_append_right (flat (take i parts)) (flat rest) x later)
