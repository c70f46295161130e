-- Where the weights of sets stand.
use Rattle.std.proofs.Common.{◌≡◌, ℕ, zero, suc, ◌+◌, ◌-◌, ◌<◌, ◌≤◌, Bool, List, [], ◌∷◌, length, get_or, cond, None, ◌⊎◌, inl, inr, refl, sym, ap, ◌∙◌, subst, arith, slice_range}
use Rattle.std.specs.Prelude.{not, ◌||◌, ◌==◌, nat_le, sum}
use Rattle.std.proofs.Math.Seq.{take-length}
use Rattle.std.proofs.lemmas.Bool.{cases_lt, le-leb, lt-leb, ne_eqb}
use Rattle.std.proofs.lemmas.List.{drop_more, get_or-map, take-map, length-map}
use Rattle.std.specs.List.{All}
use Rattle.lab_math.specs.Sums.{sum_over}
use Rattle.lab_defs_value.specs.Tables.{weights_of, first_weight}
use Rattle.lab_defs_value.proofs.SubgameRows.{first_weight_from}
use Rattle.lab_form.specs.declared.items.FormSet.{FormSet}
use Rattle.lab_form.specs.Forms.{actions_in, weight_count, AreSets}
use Rattle.lab_table.specs.Tables.{TableValue, all_weights, sums_to}
use Rattle.lab_table.specs.Places.{places_from, actions_for, actions_after, actions_between, table_at, FitsPlaces}

-- ---- first weights

-- what reads as a set past the last one
abbrev pub no_set : FormSet
no_set = record { parent = None; actions = 0; first_weight = 0 }

-- the weights of all sets are those before their end
pub all_is : (sets : List FormSet) → all_weights (actions_in sets) ≡ weight_count sets
all_is sets = ap (sum_over weights_of) (take-length (actions_in sets))

-- later sets have later weights
pub first_le : (ns : List ℕ) (i j : ℕ) → i ≤ j → first_weight ns i ≤ first_weight ns j
first_le ns i j l =
    let same : i + (j - i) ≡ j = omega (arith, l) in
    omega (arith, first_weight_from ns i (j - i), ap (first_weight ns) same)

-- the next set's weights come after those of a set
pub next_is : (ns : List ℕ) (i : ℕ) → i < length ns → first_weight ns (i + 1) ≡ first_weight ns i + weights_of (get_or ns i 0)
next_is ns i l = first_weight_from ns i 1 ∙ ap (λ xs. first_weight ns i + first_weight xs 1) (drop_more ns i 0 l) ∙ omega arith

-- there are as many numbers of actions as sets
pub actions_length : (sets : List FormSet) → length (actions_in sets) ≡ length sets
actions_length sets = length-map sets (λ (s : FormSet). s.actions)

-- the number of actions of a set is what it says
pub actions_is : (sets : List FormSet) (i : ℕ) (d : FormSet) → i < length sets → get_or (actions_in sets) i 0 ≡ (get_or sets i d).actions
actions_is sets i d l = get_or-map (λ (s : FormSet). s.actions) sets i d 0 l

-- its first weight has the place that it says
pub first_is : (sets : List FormSet) (i : ℕ) (d : FormSet) → AreSets sets → i < length sets → first_weight (actions_in sets) i ≡ (get_or sets i d).first_weight
first_is sets i d ok l = ap (sum_over weights_of) (take-map (λ (s : FormSet). s.actions) i sets) ∙ sym (ok i d l).first

-- and so is where its weights end
pub end_is : (sets : List FormSet) (i : ℕ) (d : FormSet) → AreSets sets → i < length sets
    → first_weight (actions_in sets) (i + 1) ≡ (get_or sets i d).first_weight + weights_of (get_or sets i d).actions
end_is sets i d ok l =
    next_is (actions_in sets) i (subst (λ n. i < n) (sym (actions_length sets)) l)
    ∙ ap (λ n. first_weight (actions_in sets) i + weights_of n) (actions_is sets i d l)
    ∙ ap (λ n. n + weights_of (get_or sets i d).actions) (first_is sets i d ok l)

-- a deciding set has a weight for each action
pub deciding_weights : (n : ℕ) → 2 ≤ n → weights_of n ≡ n
deciding_weights n two = ap (λ b. cond b n 0) (le-leb 2 n two)

-- the weights of a set are among all
pub end_within : (sets : List FormSet) (i : ℕ) (d : FormSet) → AreSets sets → i < length sets → (get_or sets i d).first_weight + weights_of (get_or sets i d).actions ≤ weight_count sets
end_within sets i d ok l =
    let within : i + 1 ≤ length (actions_in sets) = omega (arith, l, actions_length sets) in
    omega (arith, first_le (actions_in sets) (i + 1) (length (actions_in sets)) within, all_is sets, end_is sets i d ok l)

-- where the weights of the last set end, all do
pub last_end : (sets : List FormSet) (s : FormSet) → AreSets sets → 0 < length sets → s ≡ get_or sets (length sets - 1) s → s.first_weight + weights_of s.actions ≡ weight_count sets
last_end sets s ok some h =
    let last : length sets - 1 < length sets = omega (arith, some) in
    let end : length sets - 1 + 1 ≡ length (actions_in sets) = omega (arith, some, actions_length sets) in
    ap (λ (x : FormSet). x.first_weight + weights_of x.actions) h
    ∙ sym (end_is sets (length sets - 1) s ok last) ∙ ap (first_weight (actions_in sets)) end ∙ all_is sets

-- what the weights of a deciding set sum to
pub sums_is : (grid : ℕ) (sets : List FormSet) (weights : List ℕ) (i : ℕ) (d : FormSet) → AreSets sets → i < length sets → 2 ≤ (get_or sets i d).actions
    → sum (slice_range weights (get_or sets i d).first_weight ((get_or sets i d).first_weight + (get_or sets i d).actions)) == grid ≡ sums_to grid (actions_in sets) weights i
sums_is grid sets weights i d ok l two =
    let s = get_or sets i d in
    let ns = actions_in sets in
    let summed : ℕ → ℕ → Bool = λ p q. sum (slice_range weights p q) == grid in
    sym (ap (λ n. not (nat_le 2 n) || summed (first_weight ns i) (first_weight ns (i + 1))) (actions_is sets i d l)
    ∙ ap (λ b. not b || summed (first_weight ns i) (first_weight ns (i + 1))) (le-leb 2 s.actions two)
    ∙ ap (λ p. summed p (first_weight ns (i + 1))) (first_is sets i d ok l)
    ∙ ap (summed s.first_weight) (end_is sets i d ok l ∙ ap (λ n. s.first_weight + n) (deciding_weights s.actions two)))

-- ---- places

-- there is a place for each set, and one for the end
places_length : (n : ℕ) (ns : List ℕ) → length (places_from n ns) ≡ suc (length ns)
places_length n [] = refl
places_length n (m ∷ ms) = ap suc (places_length (n + weights_of m) ms)

-- each is that of a first weight
place_at : (n : ℕ) (ns : List ℕ) (k : ℕ) → k ≤ length ns → get_or (places_from n ns) k 0 ≡ n + first_weight ns k
place_at n [] zero l = omega arith
place_at n [] (suc k) l = absurd (omega (arith, l))
place_at n (m ∷ ms) zero l = omega arith
place_at n (m ∷ ms) (suc k) l = place_at (n + weights_of m) ms k (omega (arith, l)) ∙ omega arith

-- the number of actions of a set, by where its weights begin and end
actions_gap : (n m : ℕ) → 0 < m → actions_for (n + weights_of m - n) ≡ m
actions_gap n m some = at (cases_lt m 2)
  where
    at : (m < 2) ⊎ (2 ≤ m) → actions_for (n + weights_of m - n) ≡ m
    at (inl few) =
        let none : weights_of m ≡ 0 = ap (λ b. cond b m 0) (lt-leb 2 m few) in
        let gap : n + weights_of m - n ≡ 0 = omega (arith, none) in
        let one : 1 ≡ m = omega (arith, few, some) in
        ap actions_for gap ∙ one
    at (inr two) =
        let gap : n + weights_of m - n ≡ m = omega (arith, deciding_weights m two) in
        ap actions_for gap ∙ ap (λ b. cond b 1 m) (ne_eqb m 0 (λ e. omega (arith, e, two)))

-- the places after one begin with the next
actions_next : (place n : ℕ) (ns : List ℕ) → actions_after place (places_from n ns) ≡ actions_for (n - place) ∷ actions_between (places_from n ns)
actions_next place n [] = refl
actions_next place n (m ∷ ms) = refl

-- so the places give the numbers of actions
actions_back : (n : ℕ) (ns : List ℕ) → All (λ m. 0 < m) ns → actions_between (places_from n ns) ≡ ns
actions_back n [] all = refl
actions_back n (m ∷ ms) all =
    actions_next n (n + weights_of m) ms
    ∙ ap (λ k. k ∷ actions_between (places_from (n + weights_of m) ms)) (actions_gap n m (all 0 0 (omega arith)))
    ∙ ap (λ ks. m ∷ ks) (actions_back (n + weights_of m) ms (λ k e l. all (suc k) e (omega (arith, l))))

-- each set has an action
some_actions : (sets : List FormSet) → AreSets sets → All (λ m. 0 < m) (actions_in sets)
some_actions sets ok k e l =
    let there : k < length sets = omega (arith, l, actions_length sets) in
    subst (λ m. 0 < m) (sym (get_or-map (λ (s : FormSet). s.actions) sets k no_set e there)) (ok k no_set there).some

-- weights with the places of some sets are a table of these sets
pub table_is : (sets : List FormSet) (weights places : List ℕ) → AreSets sets → places ≡ places_from 0 (actions_in sets)
    → table_at weights places ≡ record { actions = actions_in sets; weights = weights }
table_is sets weights places ok e =
    ap (λ ns. record { actions = ns; weights = weights }) (ap actions_between e ∙ actions_back 0 (actions_in sets) (some_actions sets ok))

-- and the places fit it where the weights are as many as the sets have
pub table_fits : (sets : List FormSet) (weights places : List ℕ) → AreSets sets → places ≡ places_from 0 (actions_in sets) → length weights ≡ weight_count sets
    → FitsPlaces (table_at weights places) places
table_fits sets weights places ok e whole =
    subst (λ t. FitsPlaces t places) (sym (table_is sets weights places ok e)) record {
      count = ap length e ∙ places_length 0 (actions_in sets);
      first = λ set l. ap (λ ps. get_or ps set 0) e ∙ place_at 0 (actions_in sets) set l ∙ omega arith;
      whole = whole ∙ sym (all_is sets);
    }

-- later places have later weights
pub place_le : (t : TableValue) (places : List ℕ) → FitsPlaces t places → (from to : ℕ) → from ≤ to → to ≤ length t.actions → get_or places from 0 ≤ get_or places to 0
place_le t places fits from to l within =
    omega (arith, fits.first from (omega (arith, l, within)), fits.first to within, first_le t.actions from to l)

-- each is within the weights
pub place_within : (t : TableValue) (places : List ℕ) → FitsPlaces t places → (to : ℕ) → to ≤ length t.actions → get_or places to 0 ≤ length t.weights
place_within t places fits to within = omega (arith, fits.first to within, first_le t.actions to (length t.actions) within, fits.whole)
