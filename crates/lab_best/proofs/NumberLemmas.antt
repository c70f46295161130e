-- Worths as whole numbers, place by place, and what is added at a place.
use Rattle.std.proofs.Common.{◌≡◌, ℕ, zero, suc, ◌+◌, ◌-◌, ◌<◌, ◌≤◌, ◌⊎◌, inl, inr, ℤ, pos, ◌+ℤ◌, Bool, true, false, cond, eqb, List, [], ◌∷◌, take, length, map, replicate, get_or, set, Option, Some, None, refl, sym, ap, ◌∙◌, arith, get_or-set_same, get_or-set_other, unsigned_abs}
use Rattle.std.proofs.lemmas.Bool.{cases_eq, eq-eqb, ne_eqb, leb-true, ltb-true}
use Rattle.std.proofs.lemmas.Int.{ints}
use Rattle.std.proofs.lemmas.List.{length-map, ext_get_or, take_more}
use Rattle.std.proofs.lemmas.List.FromFn.{get_or-map-range_with_len, length-range_with_len}
use Rattle.std.specs.List.{range_with_len}
use Rattle.std.specs.Prelude.{nat_le, nat_lt, ◌&&◌}
use Rattle.lab_math.specs.Sums.{total, sum_over}
use Rattle.lab_math.proofs.IntegerSums.{total-append}
use Rattle.lab_units.specs.declared.worth.Worth.{Worth}
use Rattle.lab_defs_value.specs.Bounds.{at}
use Rattle.lab_form.specs.declared.items.SetId.{SetId}
use Rattle.lab_best.specs.Values.{numbers}
use Rattle.lab_best.specs.Parts.{is_among, part_at}

-- what is read past the end
abbrev pub nothing : Worth
nothing = record { 0 = pos 0 }

-- the number at a place is that of the worth there
pub number_at : (xs : List Worth) (i : ℕ) → at (numbers xs) i ≡ (get_or xs i nothing).0
number_at [] i = refl
number_at (x ∷ xs) zero = refl
number_at (x ∷ xs) (suc i) = number_at xs i

-- the number at a place where a worth was written
pub number_written : (xs : List Worth) (i : ℕ) (w : Worth) → i < length xs → at (numbers (set xs i w)) i ≡ w.0
number_written xs i w l = number_at (set xs i w) i ∙ ap (λ (x : Worth). x.0) (get_or-set_same xs i w nothing l)

-- the number at another place
pub number_kept : (xs : List Worth) (i k : ℕ) (w : Worth) → (k ≡ i → ⊥) → at (numbers (set xs i w)) k ≡ at (numbers xs) k
number_kept xs i k w other = number_at (set xs i w) k ∙ ap (λ (x : Worth). x.0) (get_or-set_other xs i k w nothing other) ∙ sym (number_at xs k)

-- zeros are zero
pub number_zero : (n i : ℕ) → at (numbers (replicate n nothing)) i ≡ pos 0
number_zero n i = number_at (replicate n nothing) i ∙ ap (λ (x : Worth). x.0) (none n i)
  where
    none : (n i : ℕ) → get_or (replicate n nothing) i nothing ≡ nothing
    none zero i = refl
    none (suc n) zero = refl
    none (suc n) (suc i) = none n i

-- as many numbers as worths
pub numbers_length : (xs : List Worth) → length (numbers xs) ≡ length xs
numbers_length xs = length-map xs (λ (x : Worth). x.0)

-- numbers that are a function's values from the first one on are what it makes of a range
pub numbers_range : (xs : List Worth) (h : ℕ → ℤ) (first n : ℕ) → length xs ≡ n → ((i : ℕ) → i < n → at (numbers xs) i ≡ h (first + i)) → numbers xs ≡ map h (range_with_len first n)
numbers_range xs h first n long same =
    let made : length (map h (range_with_len first n)) ≡ n = length-map (range_with_len first n) h ∙ length-range_with_len first n in
    ext_get_or (pos 0) (numbers xs) (map h (range_with_len first n)) (numbers_length xs ∙ long ∙ sym made)
    (λ i l.
    let w : i < n = omega (arith, l, long, numbers_length xs) in
    same i w ∙ sym (get_or-map-range_with_len h first n i (first + i) (pos 0) w refl))

-- numbers made of a range, by how long it is
pub range_of : (xs : List Worth) (h : ℕ → ℤ) (first n m : ℕ) → numbers xs ≡ map h (range_with_len first m) → m ≡ n → numbers xs ≡ map h (range_with_len first n)
range_of xs h first n m e same = e ∙ ap (λ k. map h (range_with_len first k)) same

-- numbers made of a range are as many
pub range_length : (xs : List Worth) (h : ℕ → ℤ) (first n : ℕ) → numbers xs ≡ map h (range_with_len first n) → length xs ≡ n
range_length xs h first n e = sym (numbers_length xs) ∙ ap length e ∙ length-map (range_with_len first n) h ∙ length-range_with_len first n

-- and each is the function's value
pub number_in_range : (xs : List Worth) (h : ℕ → ℤ) (first n : ℕ) → numbers xs ≡ map h (range_with_len first n) → (i : ℕ) → i < n → at (numbers xs) i ≡ h (first + i)
number_in_range xs h first n e i l = ap (λ zs. at zs i) e ∙ get_or-map-range_with_len h first n i (first + i) (pos 0) l refl

-- nothing is added at a place that is not that of the step's action
part_none : (first i : ℕ) (t : SetId × ℕ) (value : ℤ) → (t.1 ≡ first + i → ⊥) → part_at first (Some t) value i ≡ pos 0
part_none first i t value apart = ap (λ b. cond b value (pos 0)) (ne_eqb t.1 (first + i) apart)

-- of a step among some the action is
pub among_there : (first n : ℕ) (t : SetId × ℕ) → is_among first n (Some t) ≡ true → (first ≤ t.1) × (t.1 < first + n)
among_there first n t e = at_tests (nat_le first t.1) refl e
  where
    at_tests : (b : Bool) → nat_le first t.1 ≡ b → (b && nat_lt t.1 (first + n)) ≡ true → (first ≤ t.1) × (t.1 < first + n)
    at_tests true low high = (leb-true first t.1 low, ltb-true t.1 (first + n) high)
    at_tests false low high = absurd (cc)

-- a value added at the place of a step's action is what the step adds
pub part_added : (xs : List Worth) (first : ℕ) (t : SetId × ℕ) (value : ℤ) (w : Worth) → first ≤ t.1 → t.1 - first < length xs → w.0 ≡ (get_or xs (t.1 - first) nothing).0 +ℤ value
    → (i : ℕ) → i < length xs → at (numbers (set xs (t.1 - first) w)) i ≡ at (numbers xs) i +ℤ part_at first (Some t) value i
part_added xs first t value w from there sum i l = at_place (cases_eq i (t.1 - first))
  where
    at_place : (i ≡ t.1 - first) ⊎ (i ≡ t.1 - first → ⊥) → at (numbers (set xs (t.1 - first) w)) i ≡ at (numbers xs) i +ℤ part_at first (Some t) value i
    at_place (inl e) =
        let here : part_at first (Some t) value i ≡ value = ap (λ b. cond b value (pos 0)) (eq-eqb t.1 (first + i) (omega (arith, e, from))) in
        let old : at (numbers xs) i ≡ (get_or xs (t.1 - first) nothing).0 = number_at xs i ∙ ap (λ k. (get_or xs k nothing).0) e in
        let new : at (numbers (set xs (t.1 - first) w)) i ≡ w.0 = ap (at (numbers (set xs (t.1 - first) w))) e ∙ number_written xs (t.1 - first) w there in
        new ∙ sum ∙ (omega (arith, ints, here, old))
    at_place (inr apart) =
        let here : part_at first (Some t) value i ≡ pos 0 = part_none first i t value (λ e. apart (omega (arith, e, from))) in
        number_kept xs (t.1 - first) i w apart ∙ (omega (arith, ints, here))

-- what a step adds is no larger than the value
pub part_size : (first i : ℕ) (o : Option (SetId × ℕ)) (value : ℤ) → unsigned_abs (part_at first o value i) ≤ unsigned_abs value
part_size first i None value = omega arith
part_size first i (Some t) value = at_test (eqb t.1 (first + i))
  where
    at_test : (b : Bool) → unsigned_abs (cond b value (pos 0)) ≤ unsigned_abs value
    at_test true = omega arith
    at_test false = omega arith

-- ---- a walk over numbers that adds a part for each

-- what was added and what is left to add come to the whole
pub walk_total : (f : ℕ → ℤ) (old new z whole : ℤ) (n : ℕ) (left rest : List ℕ) → left ≡ n ∷ rest → old +ℤ total f left ≡ whole → new ≡ old +ℤ z → z ≡ f n → new +ℤ total f rest ≡ whole
walk_total f old new z whole n left rest steps before sum part =
    let split : total f left ≡ f n +ℤ total f rest = ap (total f) steps in
    omega (arith, ints, split, before, sum, part)

-- and stay as small
pub walk_size : (f : ℕ → ℕ) (old new z : ℤ) (most n : ℕ) (left rest : List ℕ) → left ≡ n ∷ rest → unsigned_abs old + sum_over f left ≤ most → new ≡ old +ℤ z → unsigned_abs z ≤ f n → unsigned_abs new + sum_over f rest ≤ most
walk_size f old new z most n left rest steps before sum part =
    let split : sum_over f left ≡ f n + sum_over f rest = ap (sum_over f) steps in
    let both : unsigned_abs new ≤ unsigned_abs old + unsigned_abs z = omega (arith, ints, sum) in
    omega (arith, split, before, both, part)

-- a sum over the first items, with one more
pub total_next : {X : Type 0} (f : X → ℤ) (xs : List X) (i : ℕ) (d : X) → i < length xs → total f (take (i + 1) xs) ≡ total f (take i xs) +ℤ f (get_or xs i d)
total_next f xs i d l = ap (total f) (take_more xs i d l) ∙ omega (arith, ints, total-append f (take i xs) (get_or xs i d ∷ []))
