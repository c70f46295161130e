-- Numbers along links, and lists of numbers from the last to the first.
use Rattle.std.proofs.Common.{◌≡◌, ℕ, zero, suc, ◌+◌, ◌<◌, ◌≤◌, ◌⊎◌, inl, inr, Bool, cond, eqb, List, [], ◌∷◌, ◌++◌, map, length, get_or, set, Option, Some, None, refl, sym, ap, ◌∙◌, subst, arith}
use Rattle.std.proofs.lemmas.Bool.{cases_lt, cases_eq, eq-eqb, ne_eqb}
use Rattle.std.proofs.Math.Dec.{eqb-suc-zero, eqb-zero-suc, eqb-suc-suc}
use Rattle.std.proofs.lemmas.List.{get_or-map, get_or-set_same, get_or-set_other, length-set, get_or_append_left, get_or_push, get_or_default, length-append, length_push, map-set}
use Rattle.lab_form.specs.declared.items.SetId.{SetId}
use Rattle.lab_form.specs.declared.items.FormSet.{FormSet}
use Rattle.lab_form.specs.Forms.{IsStepBelow}
use Rattle.lab_form.specs.Chains.{last_to_first_from, last_to_first, is_at, IsSetThere}
use Rattle.lab_form.specs.Columns.{chained_within, chained, AreLinks, AreHeads, ChainsValue, with_number, with_place, place_of, place_of_step, AreChains}
use Rattle.lab_form.proofs.NumberLemmas.{last_more, last_none}

-- numbers along links are the same however many there may be, where they are enough
chained_enough : (links : List ℕ) → AreLinks links → (m n next : ℕ) → next ≤ length links → next ≤ m → next ≤ n → chained_within m links next ≡ chained_within n links next
chained_enough links ok zero zero next w a b = refl
chained_enough links ok zero (suc n) zero w a b = refl
chained_enough links ok zero (suc n) (suc x) w a b = absurd (omega (arith, a))
chained_enough links ok (suc m) zero zero w a b = refl
chained_enough links ok (suc m) zero (suc x) w a b = absurd (omega (arith, b))
chained_enough links ok (suc m) (suc n) zero w a b = refl
chained_enough links ok (suc m) (suc n) (suc x) w a b =
    let l : get_or links x 0 ≤ x = ok x (omega (arith, w)) in
    ap (λ ns. x ∷ ns) (chained_enough links ok m n (get_or links x 0) (omega (arith, l, w)) (omega (arith, l, a)) (omega (arith, l, b)))

-- a number is followed by those that its link leads to
pub chained_step : (links : List ℕ) (n : ℕ) → AreLinks links → n < length links → chained links (suc n) ≡ n ∷ chained links (get_or links n 0)
chained_step links n ok w =
    let l : get_or links n 0 ≤ n = ok n w in
    ap (λ ns. n ∷ ns) (chained_enough links ok n (get_or links n 0) (get_or links n 0) (omega (arith, l, w)) l (omega arith))

-- values that agree at each place make one list
pub map_same_at : {X Y : Type 0} (f h : X → Y) (xs : List X) → ((i : ℕ) (d : X) → i < length xs → f (get_or xs i d) ≡ h (get_or xs i d)) → map f xs ≡ map h xs
map_same_at f h [] e = refl
map_same_at f h (x ∷ xs) e = ap (λ y. y ∷ map f xs) (e 0 x (omega arith)) ∙ ap (λ ys. h x ∷ ys) (map_same_at f h xs (λ i d l. e (suc i) d (omega (arith, l))))

-- more links change no numbers along those before them
chained_more : (links more : List ℕ) → AreLinks links → (next : ℕ) → next ≤ length links → chained (links ++ more) next ≡ chained links next
chained_more links more ok next w = within next next w
  where
    within : (k next : ℕ) → next ≤ length links → chained_within k (links ++ more) next ≡ chained_within k links next
    within zero next w = refl
    within (suc k) zero w = refl
    within (suc k) (suc n) w =
        let l : get_or links n 0 ≤ n = ok n (omega (arith, w)) in
        ap (λ ns. n ∷ ns) (ap (chained_within k (links ++ more)) (get_or_append_left links more 0 n (omega (arith, w))) ∙ within k (get_or links n 0) (omega (arith, l, w)))

-- one more link to a number before it
links_more : (links : List ℕ) (h : ℕ) → AreLinks links → h ≤ length links → AreLinks (links ++ h ∷ [])
links_more links h ok w i l = at (cases_lt i (length links))
  where
    at : (i < length links) ⊎ (length links ≤ i) → get_or (links ++ h ∷ []) i 0 ≤ i
    at (inl s) = subst (λ n. n ≤ i) (sym (get_or_append_left links (h ∷ []) 0 i s)) (ok i s)
    at (inr s) = subst (λ n. n ≤ i) (sym (get_or_push links h 0 i (omega (arith, s, l, length-append links (h ∷ []))))) (omega (arith, w, s))

-- the next number, linked to what began at a place and begun there, comes first of the numbers at that place
pub number_added : (heads links : List ℕ) (place : ℕ) → AreHeads heads links → place < length heads
    → map (chained (links ++ get_or heads place 0 ∷ [])) (set heads place (suc (length links)))
    ≡ set (map (chained links) heads) place (length links ∷ get_or (map (chained links) heads) place [])
number_added heads links place ok w =
    let h : ℕ = get_or heads place 0 in
    let more : List ℕ = links ++ h ∷ [] in
    map-set (chained more) heads place (suc (length links))
    ∙ ap (λ ls. set ls place (chained more (suc (length links))))
    (map_same_at (chained more) (chained links) heads (λ i d l. chained_more links (h ∷ []) ok.order (get_or heads i d) (subst (λ n. n ≤ length links) (get_or_default heads i 0 d l) (ok.within i l))))
    ∙ ap (λ ns. set (map (chained links) heads) place ns)
    (chained_step more (length links) (links_more links h ok.order (ok.within place w)) (omega (arith, length-append links (h ∷ [])))
    ∙ ap (λ n. length links ∷ chained more n) (get_or_push links h 0 (length links) refl)
    ∙ ap (λ ns. length links ∷ ns) (chained_more links (h ∷ []) ok.order h (ok.within place w) ∙ sym (get_or-map (chained links) heads place 0 [] w)))

-- so are the values of the chains with it
pub added_value : (heads links more : List ℕ) (place x n sets items : ℕ) → AreHeads heads links → place < length heads → x ≡ get_or heads place x → n ≡ length links → more ≡ links ++ x ∷ []
    → ◌≡◌ {A = ChainsValue} (record { lists = map (chained more) (set heads place (n + 1)); count = length more; set_room = sets; item_room = items })
    (with_number (record { lists = map (chained links) heads; count = length links; set_room = sets; item_room = items }) place)
added_value heads links more place x n sets items ok w read long next =
    let same : more ≡ links ++ get_or heads place 0 ∷ [] = next ∙ ap (λ h. links ++ h ∷ []) (read ∙ get_or_default heads place x 0 w) in
    let one : n + 1 ≡ suc (length links) = omega (arith, long) in
    let lists : map (chained more) (set heads place (n + 1)) ≡ set (map (chained links) heads) place (length links ∷ get_or (map (chained links) heads) place []) =
    ap (λ ls. map (chained ls) (set heads place (n + 1))) same ∙ ap (λ m. map (chained (links ++ get_or heads place 0 ∷ [])) (set heads place m)) one
    ∙ number_added heads links place ok w in
    let count : length more ≡ suc (length links) = ap length next ∙ length_push links x ∙ omega arith in
    ap (λ (ls : List (List ℕ)). record { lists = ls; count = length more; set_room = sets; item_room = items }) lists
    ∙ ap (λ (k : ℕ). record { lists = set (map (chained links) heads) place (length links ∷ get_or (map (chained links) heads) place []); count = k; set_room = sets; item_room = items }) count

-- ---- items at their places

-- tests that agree let the same numbers pass
pub last_same : {A : Type 0} (p q : A → Bool) (xs : List A) → ((x : A) → p x ≡ q x) → last_to_first p xs ≡ last_to_first q xs
last_same p q xs same = from 0 xs
  where
    from : (n : ℕ) (ys : List _) → last_to_first_from p n ys ≡ last_to_first_from q n ys
    from n [] = refl
    from n (y ∷ ys) = ap (λ ns. ns ++ cond (p y) (n ∷ []) []) (from (suc n) ys) ∙ ap (λ b. last_to_first_from q (suc n) ys ++ cond b (n ∷ []) []) (same y)

-- a step is at a set where their places are one
pub at_place : (set : Option SetId) (step : Option (SetId × ℕ)) → eqb (place_of_step step) (place_of set) ≡ is_at set step
at_place None None = refl
at_place None (Some t) = eqb-suc-zero t.0.0
at_place (Some s) None = eqb-zero-suc s.0
at_place (Some s) (Some t) = eqb-suc-suc t.0.0 s.0

-- a step at a set that is there has a place
pub step_placed : (sets : List FormSet) (step : Option (SetId × ℕ)) → IsStepBelow sets step → place_of_step step ≤ length sets
step_placed sets None b = omega arith
step_placed sets (Some t) b = omega (arith, b.0)

-- so has a set that is there
pub set_placed : (n : ℕ) (set : Option SetId) → IsSetThere n set → place_of set ≤ n
set_placed n None b = omega arith
set_placed n (Some s) b = omega (arith, b)

-- what is chained at the place of a set are the items whose steps are at it
pub chain_at : {A : Type 0} (n : ℕ) (step : A → Option (SetId × ℕ)) (items : List A) (c : ChainsValue) (set : Option SetId) → AreChains n step items c → IsSetThere n set
    → get_or c.lists (place_of set) [] ≡ last_to_first (λ x. is_at set (step x)) items
chain_at n step items c set ok there =
    ok.each (place_of set) (set_placed n set there)
    ∙ last_same (λ x. eqb (place_of_step (step x)) (place_of set)) (λ x. is_at set (step x)) items (λ x. at_place set (step x))

-- chains with the next item
pub chains_item : {A : Type 0} (n : ℕ) (step : A → Option (SetId × ℕ)) (items : List A) (c : ChainsValue) (x : A) → AreChains n step items c → place_of_step (step x) ≤ n
    → AreChains n step (items ++ x ∷ []) (with_number c (place_of_step (step x)))
chains_item {A = A} n step items c x ok w = record {
  places = length-set c.lists (place_of_step (step x)) (c.count ∷ get_or c.lists (place_of_step (step x)) []) ∙ ok.places;
  count = ap suc ok.count ∙ omega (arith, length-append items (x ∷ []));
  each = λ k l. at k l (cases_eq (place_of_step (step x)) k);
}
  where
    place : ℕ
    place = place_of_step (step x)

    there : place < length c.lists
    there = omega (arith, w, ok.places)

    is : ℕ → A → Bool
    is k y = eqb (place_of_step (step y)) k

    at : (k : ℕ) → k ≤ n → (place ≡ k) ⊎ (place ≡ k → ⊥) → get_or (set c.lists place (c.count ∷ get_or c.lists place [])) k [] ≡ last_to_first (is k) (items ++ x ∷ [])
    at k l (inl e) =
        subst (λ j. get_or (set c.lists place (c.count ∷ get_or c.lists place [])) j [] ≡ last_to_first (is j) (items ++ x ∷ [])) e
        (get_or-set_same c.lists place (c.count ∷ get_or c.lists place []) [] there
        ∙ ap (λ m. m ∷ get_or c.lists place []) ok.count ∙ ap (λ ns. length items ∷ ns) (ok.each place w)
        ∙ sym (last_more (is place) items x ∙ ap (λ b. cond b (length items ∷ []) [] ++ last_to_first (is place) items) (eq-eqb place place refl)))
    at k l (inr e) =
        get_or-set_other c.lists place k (c.count ∷ get_or c.lists place []) [] (λ q. e (sym q))
        ∙ ok.each k l
        ∙ sym (last_more (is k) items x ∙ ap (λ b. cond b (length items ∷ []) [] ++ last_to_first (is k) items) (ne_eqb place k e))

-- chains with one more place, where no item's is
pub chains_place : {A : Type 0} (n : ℕ) (step : A → Option (SetId × ℕ)) (items : List A) (c : ChainsValue) → AreChains n step items c
    → ((i : ℕ) (d : A) → i < length items → place_of_step (step (get_or items i d)) ≤ n) → AreChains (suc n) step items (with_place c)
chains_place {A = A} n step items c ok low = record {
  places = length-append c.lists ([] ∷ []) ∙ omega (arith, ok.places);
  count = ok.count;
  each = λ k l. at k l (cases_lt k (suc n));
}
  where
    is : ℕ → A → Bool
    is k y = eqb (place_of_step (step y)) k

    at : (k : ℕ) → k ≤ suc n → (k < suc n) ⊎ (suc n ≤ k) → get_or (c.lists ++ [] ∷ []) k [] ≡ last_to_first (is k) items
    at k l (inl w) = get_or_append_left c.lists ([] ∷ []) [] k (omega (arith, w, ok.places)) ∙ ok.each k (omega (arith, w))
    at k l (inr w) =
        get_or_push c.lists [] [] k (omega (arith, w, l, ok.places))
        ∙ sym (last_none (is k) items (λ i d j. ne_eqb (place_of_step (step (get_or items i d))) k (λ e. absurd (omega (arith, low i d j, e, w)))))
