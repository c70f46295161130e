-- Lists made from the numbers of a range.
use Rattle.std.proofs.Common.{◌≡◌, ℕ, zero, suc, ◌+◌, ◌*◌, ◌/◌, ◌%◌, ◌<◌, ◌≤◌, List, [], ◌∷◌, ◌++◌, Bool, true, false, cond, map, filter, flat_map, length, get_or, refl, sym, ap, ◌∙◌, arith, ◌&&◌, inl, inr}
use Rattle.std.specs.List.{range_with_len, list_all}
use Rattle.std.proofs.lemmas.List.{same_lists, map-append}
use Rattle.std.proofs.lemmas.List.FromFn.{length-map-range_with_len, get_or-map-range_with_len}
use Rattle.std.proofs.lemmas.List.Folds.{list_all_at}
use Rattle.std.proofs.lemmas.Bool.{true_from_ne_false, both_ways, and_parts, cases_eq}
use Rattle.std.proofs.lemmas.Nat.{div-mul-add, mod-mul-add}

-- two functions that agree number by number make one list
pub map_range_same : {X : Type 0} (f h : ℕ → X) (s t n : ℕ) → ((k : ℕ) → k < n → f (s + k) ≡ h (t + k)) → map f (range_with_len s n) ≡ map h (range_with_len t n)
map_range_same f h s t n e =
    let long = length-map-range_with_len f s n in
    same_lists (map f (range_with_len s n)) (map h (range_with_len t n)) (long ∙ sym (length-map-range_with_len h t n)) (λ k d l.
    let m : k < n = omega (arith, long, l) in
    get_or-map-range_with_len f s n k (s + k) d m refl ∙ e k m ∙ sym (get_or-map-range_with_len h t n k (t + k) d m refl))

-- likewise of functions that make lists
pub flat_map_range_same : {X : Type 0} (f h : ℕ → List X) (s n : ℕ) → ((k : ℕ) → s ≤ k → k < s + n → f k ≡ h k) → flat_map f (range_with_len s n) ≡ flat_map h (range_with_len s n)
flat_map_range_same f h s zero e = refl
flat_map_range_same f h s (suc n) e =
    ap (λ t. t ++ flat_map f (range_with_len (s + 1) n)) (e s (omega arith) (omega arith))
    ∙ ap (λ t. h s ++ t) (flat_map_range_same f h (s + 1) n (λ k a b. e k (omega (arith, a)) (omega (arith, b))))

-- single elements, put together
pub flat_map_single : {X Y : Type 0} (f : X → Y) (xs : List X) → flat_map (λ x. f x ∷ []) xs ≡ map f xs
flat_map_single f [] = refl
flat_map_single f (x ∷ xs) = ap (λ t. f x ∷ t) (flat_map_single f xs)

-- a range in two parts
pub range_split : (s m n : ℕ) → range_with_len s (m + n) ≡ range_with_len s m ++ range_with_len (s + m) n
range_split s zero n =
    let none : 0 + n ≡ n = omega arith in
    let here : s ≡ s + 0 = omega arith in
    ap (range_with_len s) none ∙ ap (λ t. range_with_len t n) here
range_split s (suc m) n =
    let long : suc m + n ≡ suc (m + n) = omega arith in
    let on : s + 1 + m ≡ s + suc m = omega arith in
    ap (range_with_len s) long ∙ ap (λ t. s ∷ t) (range_split (s + 1) m n ∙ ap (λ t. range_with_len (s + 1) m ++ range_with_len t n) on)

-- pairs of numbers, row by row, are the quotients and remainders of the numbers of the places
pub grid_is : {X : Type 0} (f : ℕ → ℕ → X) (m s n : ℕ)
    → flat_map (λ a. map (f a) (range_with_len 0 m)) (range_with_len s n) ≡ map (λ k. f (k / m) (k % m)) (range_with_len (s * m) (n * m))
grid_is f m s zero =
    let none : 0 ≡ 0 * m = omega arith in
    ap (λ t. map (λ k. f (k / m) (k % m)) (range_with_len (s * m) t)) none
grid_is {X = X} f m s (suc n) =
    let long : m + n * m ≡ suc n * m = omega arith in
    let on : (s + 1) * m ≡ s * m + m = omega arith in
    ap (λ t. t ++ flat_map (λ a. map (f a) (range_with_len 0 m)) (range_with_len (s + 1) n)) first
    ∙ ap (λ t. map at (range_with_len (s * m) m) ++ t) (grid_is f m (s + 1) n ∙ ap (λ t. map at (range_with_len t (n * m))) on)
    ∙ sym (map-append at (range_with_len (s * m) m) (range_with_len (s * m + m) (n * m)))
    ∙ ap (map at) (sym (range_split (s * m) m (n * m)))
    ∙ ap (λ t. map at (range_with_len (s * m) t)) long
  where
    at : ℕ → X
    at k = f (k / m) (k % m)

    same : (k : ℕ) → k < m → f s (0 + k) ≡ at (s * m + k)
    same k l =
        let none : 0 + k ≡ k = omega arith in
        ap (f s) (none ∙ sym (mod-mul-add s m k l)) ∙ ap (λ a. f a ((s * m + k) % m)) (sym (div-mul-add s m k l))

    first : map (f s) (range_with_len 0 m) ≡ map at (range_with_len (s * m) m)
    first = map_range_same (f s) at 0 (s * m) m same

-- where all pass a test, all are kept
pub filter_range_all : {X : Type 0} (p : X → Bool) (f : ℕ → X) (s n : ℕ) → ((k : ℕ) → s ≤ k → k < s + n → p (f k) ≡ true) → filter p (map f (range_with_len s n)) ≡ map f (range_with_len s n)
filter_range_all p f s zero e = refl
filter_range_all p f s (suc n) e =
    let rest = filter p (map f (range_with_len (s + 1) n)) in
    ap (λ b. cond b (f s ∷ rest) rest) (e s (omega arith) (omega arith))
    ∙ ap (λ t. f s ∷ t) (filter_range_all p f (s + 1) n (λ k a b. e k (omega (arith, a)) (omega (arith, b))))

-- where none passes a test, none is kept
pub filter_range_none : {X : Type 0} (p : X → Bool) (f : ℕ → X) (s n : ℕ) → ((k : ℕ) → s ≤ k → k < s + n → p (f k) ≡ false) → filter p (map f (range_with_len s n)) ≡ []
filter_range_none p f s zero e = refl
filter_range_none p f s (suc n) e =
    let rest = filter p (map f (range_with_len (s + 1) n)) in
    ap (λ b. cond b (f s ∷ rest) rest) (e s (omega arith) (omega arith))
    ∙ filter_range_none p f (s + 1) n (λ k a b. e k (omega (arith, a)) (omega (arith, b)))

-- a test that all pass is passed at each place
pub list_all_get : {X : Type 0} (p : X → Bool) (xs : List X) (i : ℕ) (d : X) → i < length xs → list_all p xs ≡ true → p (get_or xs i d) ≡ true
list_all_get p xs i d l h = true_from_ne_false (p (get_or xs i d)) (λ e. both_ways (list_all p xs) (list_all_at p xs i d l e) h)

-- a test that all numbers of a range pass is passed by each
pub range_all_at : (p : ℕ → Bool) (s n k : ℕ) → list_all p (range_with_len s n) ≡ true → s ≤ k → k < s + n → p k ≡ true
range_all_at p s zero k h a b = absurd (omega (arith, a, b))
range_all_at p s (suc n) k h a b =
    let parts = and_parts (p s) (list_all p (range_with_len (s + 1) n)) h in
    elim (cases_eq k s) [
      | inl e ↦ ap p e ∙ parts.0
      | inr ne ↦ range_all_at p (s + 1) n k parts.1 (omega (arith, a, ne)) (omega (arith, b))
    ]

-- what each number of a range passes, all do
pub range_all_from : (p : ℕ → Bool) (s n : ℕ) → ((k : ℕ) → s ≤ k → k < s + n → p k ≡ true) → list_all p (range_with_len s n) ≡ true
range_all_from p s zero h = refl
range_all_from p s (suc n) h =
    ap (λ b. b && list_all p (range_with_len (s + 1) n)) (h s (omega arith) (omega arith))
    ∙ range_all_from p (s + 1) n (λ k a b. h k (omega (arith, a)) (omega (arith, b)))
