-- The steps along a path: each has one item that follows it first, and as many items as follow it, each at its own place.
use Rattle.std.proofs.Common.{◌≡◌, ℕ, zero, suc, ◌+◌, ◌<◌, ◌≤◌, List, [], ◌∷◌, Bool, true, false, cond, eqb, ◌&&◌, Option, Some, None, map, filter, take, length, get_or, refl, sym, ap, ◌∙◌, arith, inl, inr, eq-eqb, lt-ltb, le-ltb}
use Rattle.std.specs.Prelude.{nat_lt}
use Rattle.std.specs.List.{range_with_len}
use Rattle.std.proofs.lemmas.Bool.{and_from, cases_eq}
use Rattle.lab_math.proofs.BelowLemmas.{eqb_self, eqb_apart}
use Rattle.lab_math.proofs.Members.{In, in_get_or, in_from_filter, in_from_range}
use Rattle.lab_math.proofs.Ranges.{map_range_same}
use Rattle.lab_defs_game.specs.Keys.{count}
use Rattle.lab_defs_game.specs.Nodes.{Follow, PathItem}
use Rattle.lab_defs_game.proofs.NumberLemmas.{count_at_true, count_none}
use Rattle.lab_defs_value.specs.Allowances.{Ascends}
use Rattle.lab_defs_value.specs.Views.{same_step, step_number}

-- ---- counting

-- how many pass two tests
pub count_both : {X : Type 0} (p q : X → Bool) (xs : List X) → count (λ x. p x && q x) xs ≡ count q (filter p xs)
count_both p q [] = refl
count_both p q (x ∷ xs) = at (p x) (count_both p q xs)
  where
    at : (b : Bool) → count (λ x. p x && q x) xs ≡ count q (filter p xs) → cond (b && q x) 1 0 + count (λ x. p x && q x) xs ≡ count q (cond b (x ∷ filter p xs) (filter p xs))
    at true e = ap (λ n. cond (q x) 1 0 + n) e
    at false e = omega (arith, e)

-- how many images pass a test
pub count_map : {X Y : Type 0} (p : Y → Bool) (f : X → Y) (xs : List X) → count p (map f xs) ≡ count (λ x. p (f x)) xs
count_map p f [] = refl
count_map p f (x ∷ xs) = ap (λ n. cond (p (f x)) 1 0 + n) (count_map p f xs)

-- a number of a range is there once
pub count_once : (j s n : ℕ) → s ≤ j → j < s + n → count (λ i. eqb i j) (range_with_len s n) ≡ 1
count_once j s zero le l = absurd (omega (arith, le, l))
count_once j s (suc n) le l = elim (cases_eq s j) [
  | inl e ↦
      let none = count_none (λ i. eqb i j) (range_with_len (s + 1) n) (λ i k. eqb_apart i j (λ q. omega (arith, q, e, (in_from_range i (s + 1) n k).0))) in
      ap (λ b. cond b 1 0 + count (λ i. eqb i j) (range_with_len (s + 1) n)) (eq-eqb s j e) ∙ omega (arith, none)
  | inr ne ↦
      let rest = count_once j (s + 1) n (omega (arith, le, ne)) (omega (arith, l)) in
      ap (λ b. cond b 1 0 + count (λ i. eqb i j) (range_with_len (s + 1) n)) (eqb_apart s j ne) ∙ omega (arith, rest)
]

-- what passes at a place is counted after it
pub count_after : {X : Type 0} (p : X → Bool) (xs : List X) (i j : ℕ) (d : X) → i < j → i < length xs → p (get_or xs i d) ≡ true → 0 < count p (take j xs)
count_after p [] i j d l m e = absurd (omega (arith, m))
count_after p (x ∷ xs) i zero d l m e = absurd (omega (arith, l))
count_after p (x ∷ xs) zero (suc j) d l m e = let c = count_at_true p x (take j xs) e in omega (arith, c)
count_after p (x ∷ xs) (suc i) (suc j) d l m e = let rest = count_after p xs i j d (omega (arith, l)) (omega (arith, m)) e in omega (arith, rest)

-- ---- numbers in order

-- all of them are at least where they begin
ascends_low : (low n I : ℕ) (xs : List ℕ) → Ascends low n xs → In I xs → low ≤ I
ascends_low low n I [] h i = absurd i
ascends_low low n I (x ∷ xs) h (inl e) = omega (arith, e, h.0)
ascends_low low n I (x ∷ xs) h (inr i) = let le = ascends_low (suc x) n I xs h.2 i in omega (arith, le, h.0)

-- of those that pass a test, as many are below one of the numbers as pass before its place
pub passed_below : (p : ℕ → Bool) (low n : ℕ) (xs : List ℕ) → Ascends low n xs → (i : ℕ) → i < length xs → count (λ I. nat_lt I (get_or xs i 0)) (filter p xs) ≡ count p (take i xs)
passed_below p low n [] h i l = absurd (omega (arith, l))
passed_below p low n (x ∷ xs) h zero l =
    count_none (λ I. nat_lt I x) (filter p (x ∷ xs)) (λ I i. le-ltb I x (ascends_low x n I (x ∷ xs) (omega arith, h.1, h.2) (in_from_filter p (x ∷ xs) I i).0))
passed_below p low n (x ∷ xs) h (suc i) l = at (p x) (passed_below p (suc x) n xs h.2 i (omega (arith, l)))
  where
    less : nat_lt x (get_or xs i 0) ≡ true
    less = lt-ltb x (get_or xs i 0) (let le = ascends_low (suc x) n (get_or xs i 0) xs h.2 (in_get_or xs i 0 (omega (arith, l))) in omega (arith, le))

    at : (b : Bool) → count (λ I. nat_lt I (get_or xs i 0)) (filter p xs) ≡ count p (take i xs) → count (λ I. nat_lt I (get_or xs i 0)) (cond b (x ∷ filter p xs) (filter p xs)) ≡ cond b 1 0 + count p (take i xs)
    at true rest = ap (λ b. cond b 1 0 + count (λ I. nat_lt I (get_or xs i 0)) (filter p xs)) less ∙ ap (λ n. 1 + n) rest
    at false rest = omega (arith, rest)

-- what passes before a place, where two tests agree
pub count_taken : {X : Type 0} (p q : X → Bool) (xs : List X) (i : ℕ) → ((x : X) → In x xs → p x ≡ q x) → count p (take i xs) ≡ count q (take i xs)
count_taken p q [] zero e = refl
count_taken p q [] (suc i) e = refl
count_taken p q (x ∷ xs) zero e = refl
count_taken p q (x ∷ xs) (suc i) e = ap (λ b. cond b 1 0 + count p (take i xs)) (e x (inl refl)) ∙ ap (λ n. cond (q x) 1 0 + n) (count_taken p q xs i (λ y j. e y (inr j)))

-- what is seen of a list by its places
pub map_places : {X Y : Type 0} (f : X → Y) (d : X) (xs : List X) → map (λ i. f (get_or xs i d)) (range_with_len 0 (length xs)) ≡ map f xs
map_places f d [] = refl
map_places f d (x ∷ xs) =
    ap (λ ys. f x ∷ ys)
    (map_range_same (λ i. f (get_or (x ∷ xs) i d)) (λ i. f (get_or xs i d)) 1 0 (length xs)
    (λ k l. let later : 1 + k ≡ suc (0 + k) = omega arith in ap (λ i. f (get_or (x ∷ xs) i d)) later) ∙ map_places f d xs)

-- ---- the number of a step

-- where an item follows the step, the number is that of one that does
pub number_there : (items : List PathItem) (f : Follow) (item d : PathItem) → In item items → same_step f item ≡ true
    → (step_number items f < length items) × (same_step f (get_or items (step_number items f) d) ≡ true)
number_there [] f item d i e = absurd i
number_there (x ∷ items) f item d i e = at (same_step f x) refl i (λ j. number_there items f item d j e)
  where
    never : false ≡ true → ⊥
    never e = cc

    IsThere : ℕ → Type 0
    IsThere n = (n < length (x ∷ items)) × (same_step f (get_or (x ∷ items) n d) ≡ true)

    at : (b : Bool) → same_step f x ≡ b → In item (x ∷ items) → (In item items → (step_number items f < length items) × (same_step f (get_or items (step_number items f) d) ≡ true))
        → IsThere (cond b 0 (suc (step_number items f)))
    at true q i rest = (omega arith, q)
    at false q (inl same) rest = absurd (never (sym q ∙ ap (same_step f) same ∙ e))
    at false q (inr j) rest = let r = rest j in (omega (arith, r.0), r.1)

-- it looks at set and action of the step alone
pub number_same : (items : List PathItem) (e f : Follow) → e.before ≡ f.before → e.action ≡ f.action → step_number items e ≡ step_number items f
number_same [] e f p q = refl
number_same (x ∷ items) e f p q = ap (λ b. cond b 0 (suc (step_number items e))) (one x.set x.follows) ∙ ap (λ n. cond (same_step f x) 0 (suc n)) (number_same items e f p q)
  where
    one : (s : ℕ) (o : Option Follow) → same_step e (record { set = s; follows = o }) ≡ same_step f (record { set = s; follows = o })
    one s None = refl
    one s (Some u) = ap (λ n. eqb u.before n && eqb u.action e.action) p ∙ ap (λ n. eqb u.before f.before && eqb u.action n) q

-- of items in order that follow different steps, the step of each has its number
pub number_of_step : (item : ℕ → PathItem) (low n : ℕ) (js : List ℕ) → Ascends low n js → ((a b : ℕ) (f : Follow) → In a js → In b js → (item b).follows ≡ Some f → same_step f (item a) ≡ true → a ≡ b)
    → (k : ℕ) → k < length js → (f : Follow) → (item (get_or js k 0)).follows ≡ Some f → step_number (map item js) f ≡ k
number_of_step item low n [] asc apart k l f e = absurd (omega (arith, l))
number_of_step item low n (j ∷ js) asc apart zero l f e = ap (λ b. cond b 0 (suc (step_number (map item js) f))) (own (item j).set (item j).follows e)
  where
    own : (s : ℕ) (o : Option Follow) → o ≡ Some f → same_step f (record { set = s; follows = o }) ≡ true
    own s o q = ap (λ o. same_step f (record { set = s; follows = o })) q ∙ and_from (eqb f.before f.before) (eqb f.action f.action) (eqb_self f.before) (eqb_self f.action)
number_of_step item low n (j ∷ js) asc apart (suc k) l f e =
    at (same_step f (item j)) refl (number_of_step item (suc j) n js asc.2 (λ a b f i m. apart a b f (inr i) (inr m)) k (omega (arith, l)) f e)
  where
    on : In (get_or js k 0) js
    on = in_get_or js k 0 (omega (arith, l))

    at : (b : Bool) → same_step f (item j) ≡ b → step_number (map item js) f ≡ k → cond b 0 (suc (step_number (map item js) f)) ≡ suc k
    at true q rest = let same = apart j (get_or js k 0) f (inl refl) (inr on) e q in let le = ascends_low (suc j) n (get_or js k 0) js asc.2 on in absurd (omega (arith, same, le))
    at false q rest = ap suc rest
