-- The set of the last decision along a path, step by step, and the sets that decide.
use Rattle.std.proofs.Common.{◌≡◌, ℕ, zero, suc, ◌+◌, ◌%◌, ◌<◌, ◌≤◌, ◌⊎◌, inl, inr, Bool, true, false, cond, List, [], ◌∷◌, ◌++◌, map, take, length, get_or, Option, Some, None, refl, sym, ap, ◌∙◌, subst, arith}
use Rattle.std.specs.Prelude.{nat_le}
use Rattle.std.specs.List.{filter, range_with_len}
use Rattle.std.proofs.lemmas.Bool.{cases_lt, le-leb, lt-leb}
use Rattle.std.proofs.lemmas.List.{get_or-map, get_or_append_left, get_or_push, get_or-take, length-append, length-take-le, take-take, length-map, map-append}
use Rattle.std.proofs.lemmas.List.Elements.{filter-append}
use Rattle.std.proofs.lemmas.List.FromFn.{length-range_with_len}
use Rattle.std.proofs.lemmas.List.Sums.{length-filter, count_by-le-length}
use Rattle.lab_math.proofs.Ranges.{range_split}
use Rattle.lab_defs_game.specs.Forms.{decides, chain_within}
use Rattle.lab_defs_value.specs.Tables.{weights_of}
use Rattle.lab_form.specs.declared.items.SetId.{SetId}
use Rattle.lab_form.specs.declared.items.FormSet.{FormSet}
use Rattle.lab_form.specs.Forms.{actions_in, taken_model, sets_model, whole_path, IsStepBelow, IsNextSet, AreSets, AreShort, weight_count}
use Rattle.lab_form.specs.Decisions.{last_deciding, set_number, last_decision, short_decision, decisions_above, last_set, sets_above, deciding_sets}
use Rattle.lab_form.specs.Columns.{place_of_step}
use Rattle.lab_form.proofs.ChainLemmas.{map_same_at, step_placed}
use Rattle.lab_form.proofs.DecisionLemmas.{step_more, by_parents, sets_more, deciding_step, weight_room, no_decision, decision_step, passes_at, decides_at}

-- ---- one step

-- no step, no set
pub no_set : (sets : List FormSet) → last_set sets None ≡ 0
no_set sets = at (length (sets_model sets))
  where
    at : (n : ℕ) → set_number (last_deciding (actions_in sets) (chain_within (sets_model sets) n None)) ≡ 0
    at zero = refl
    at (suc n) = refl

-- the set of a step's last decision: its own where that decides, else the last one above it
pub set_step : (sets : List FormSet) (t : SetId × ℕ) (d : FormSet) → AreSets sets → t.0.0 < length sets
    → last_set sets (Some t) ≡ cond (nat_le 2 (get_or sets t.0.0 d).actions) (t.0.0 + 1) (last_set sets (get_or sets t.0.0 d).parent)
set_step sets t d ok l = ap set_number (deciding_step sets t d ok l) ∙ inside (nat_le 2 (get_or sets t.0.0 d).actions)
  where
    inside : (b : Bool) → set_number (cond b (Some (taken_model t)) (last_deciding (actions_in sets) (whole_path sets (get_or sets t.0.0 d).parent))) ≡ cond b (t.0.0 + 1) (last_set sets (get_or sets t.0.0 d).parent)
    inside true = refl
    inside false = refl

-- what the code gives for a step at a set that decides, and at a pass
pub set_decided : (sets : List FormSet) (t : SetId × ℕ) (d : FormSet) → AreSets sets → t.0.0 < length sets → 2 ≤ (get_or sets t.0.0 d).actions → last_set sets (Some t) ≡ t.0.0 + 1
set_decided sets t d ok l two =
    set_step sets t d ok l ∙ ap (λ b. cond b (t.0.0 + 1) (last_set sets (get_or sets t.0.0 d).parent)) (le-leb 2 (get_or sets t.0.0 d).actions two)

pub set_passed : (sets : List FormSet) (t : SetId × ℕ) (d : FormSet) → AreSets sets → t.0.0 < length sets → (get_or sets t.0.0 d).actions < 2 → last_set sets (Some t) ≡ get_or (sets_above sets) t.0.0 0
set_passed sets t d ok l two =
    set_step sets t d ok l
    ∙ ap (λ b. cond b (t.0.0 + 1) (last_set sets (get_or sets t.0.0 d).parent)) (lt-leb 2 (get_or sets t.0.0 d).actions two)
    ∙ sym (get_or-map (λ (s : FormSet). last_set sets s.parent) sets t.0.0 d 0 l)

-- ---- decisions above sets, in 32 bits

-- the first sets have no more weights than more of them
count_grows : (sets : List FormSet) (i k : ℕ) (d : FormSet) → i < k → k ≤ length sets → weight_count (take i sets) + weights_of (get_or sets i d).actions ≤ weight_count (take k sets)
count_grows sets i k d l w =
    let long : length (take k sets) ≡ k = length-take-le k sets w in
    let own : get_or (take k sets) i d ≡ get_or sets i d = get_or-take k sets i d l in
    let first : take i (take k sets) ≡ take i sets = take-take i k sets (omega (arith, l)) in
    subst (λ (s : FormSet). weight_count (take i sets) + weights_of s.actions ≤ weight_count (take k sets)) own
    (subst (λ (ss : List FormSet). weight_count ss + weights_of (get_or (take k sets) i d).actions ≤ weight_count (take k sets)) first (weight_room (take k sets) i d (omega (arith, long, l))))

-- the number of a decision is at most that of the weights of the sets up to its step's
decision_low : (sets : List FormSet) → AreSets sets → (step : Option (SetId × ℕ)) → IsStepBelow sets step → (k : ℕ) → place_of_step step ≤ k → k ≤ length sets → last_decision sets step ≤ weight_count (take k sets)
decision_low sets ok = by_parents sets d ok (λ o. (k : ℕ) → place_of_step o ≤ k → k ≤ length sets → last_decision sets o ≤ weight_count (take k sets))
    (λ k l w. subst (λ m. m ≤ weight_count (take k sets)) (sym (no_decision sets)) (omega arith)) at
  where
    d : FormSet
    d = record { parent = None; actions = 0; first_weight = 0 }

    at : (t : SetId × ℕ) → IsStepBelow sets (Some t) → ((k : ℕ) → place_of_step (get_or sets t.0.0 d).parent ≤ k → k ≤ length sets → last_decision sets (get_or sets t.0.0 d).parent ≤ weight_count (take k sets))
        → (k : ℕ) → suc t.0.0 ≤ k → k ≤ length sets → last_decision sets (Some t) ≤ weight_count (take k sets)
    at t b r k l w = by (cases_lt (get_or sets t.0.0 d).actions 2)
      where
        by : ((get_or sets t.0.0 d).actions < 2) ⊎ (2 ≤ (get_or sets t.0.0 d).actions) → last_decision sets (Some t) ≤ weight_count (take k sets)
        by (inl few) =
            let placed = step_placed (take t.0.0 sets) (get_or sets t.0.0 d).parent (ok t.0.0 d b.0).parent in
            let low : place_of_step (get_or sets t.0.0 d).parent ≤ k = omega (arith, placed, length-take-le t.0.0 sets (omega (arith, b.0)), l) in
            subst (λ m. m ≤ weight_count (take k sets)) (sym (decision_step sets t d ok b.0 ∙ passes_at sets (get_or sets t.0.0 d) t.1 few)) (r k low w)
        by (inr two) =
            let s = get_or sets t.0.0 d in
            let own : weights_of s.actions ≡ s.actions = ap (λ b. cond b s.actions 0) (le-leb 2 s.actions two) in
            let action : t.1 < s.actions = subst (λ n. t.1 < n) (get_or-map (λ (s : FormSet). s.actions) sets t.0.0 d 0 b.0) b.1 in
            subst (λ m. m ≤ weight_count (take k sets)) (sym (decision_step sets t d ok b.0 ∙ decides_at sets s t.1 two))
            (omega (arith, count_grows sets t.0.0 k d l w, own, action, (ok t.0.0 d b.0).first))

-- the decisions above sets are exact
pub above_short : (sets : List FormSet) → AreSets sets → AreShort sets → decisions_above sets ≡ map (λ s. last_decision sets s.parent) sets
above_short sets ok short =
    map_same_at (λ (s : FormSet). short_decision sets s.parent) (λ (s : FormSet). last_decision sets s.parent) sets
    (λ i d l.
    let p = (ok i d l).parent in
    let placed = step_placed (take i sets) (get_or sets i d).parent p in
    let low = decision_low sets ok (get_or sets i d).parent (step_more i sets (get_or sets i d).parent (omega (arith, l)) p) i (omega (arith, placed, length-take-le i sets (omega (arith, l)))) (omega (arith, l)) in
    let fits : last_decision sets (get_or sets i d).parent < 4294967296 = omega (arith, low, (ok i d l).first, short i d l) in
    let e : last_decision sets (get_or sets i d).parent % 4294967296 ≡ last_decision sets (get_or sets i d).parent = omega (arith, fits) in
    e)

-- ---- more sets

-- more sets change no set of a last decision
set_more : (sets : List FormSet) (s : FormSet) → AreSets sets → IsNextSet sets s → (step : Option (SetId × ℕ)) → IsStepBelow sets step → last_set (sets ++ s ∷ []) step ≡ last_set sets step
set_more sets s ok next = by_parents sets s ok (λ o. last_set more o ≡ last_set sets o) (no_set more ∙ sym (no_set sets)) at
  where
    more : List FormSet
    more = sets ++ s ∷ []

    at : (t : SetId × ℕ) → IsStepBelow sets (Some t) → last_set more (get_or sets t.0.0 s).parent ≡ last_set sets (get_or sets t.0.0 s).parent → last_set more (Some t) ≡ last_set sets (Some t)
    at t b same =
        set_step more t s (sets_more sets s ok next) (omega (arith, b.0, length-append sets (s ∷ [])))
        ∙ ap (λ (x : FormSet). cond (nat_le 2 x.actions) (t.0.0 + 1) (last_set more x.parent)) (get_or_append_left sets (s ∷ []) s t.0.0 b.0)
        ∙ ap (λ n. cond (nat_le 2 (get_or sets t.0.0 s).actions) (t.0.0 + 1) n) same
        ∙ sym (set_step sets t s ok b.0)

-- the sets above are those before, and that above the new set
pub over_more : (sets : List FormSet) (s : FormSet) → AreSets sets → IsNextSet sets s → sets_above (sets ++ s ∷ []) ≡ sets_above sets ++ last_set sets s.parent ∷ []
over_more sets s ok next =
    map-append (λ (x : FormSet). last_set (sets ++ s ∷ []) x.parent) sets (s ∷ [])
    ∙ ap (λ ns. ns ++ last_set (sets ++ s ∷ []) s.parent ∷ [])
    (map_same_at (λ (x : FormSet). last_set (sets ++ s ∷ []) x.parent) (λ (x : FormSet). last_set sets x.parent) sets
    (λ i d l. set_more sets s ok next (get_or sets i d).parent (step_more i sets (get_or sets i d).parent (omega (arith, l)) (ok i d l).parent)))
    ∙ ap (λ n. sets_above sets ++ n ∷ []) (set_more sets s ok next s.parent next.parent)

-- ---- the sets that decide

-- tests that agree at each number keep the same of them
kept_same : (p q : ℕ → Bool) (a n : ℕ) → ((k : ℕ) → k < a + n → p k ≡ q k) → filter p (range_with_len a n) ≡ filter q (range_with_len a n)
kept_same p q a zero same = refl
kept_same p q a (suc n) same =
    ap (λ b. cond b (a ∷ filter p (range_with_len (a + 1) n)) (filter p (range_with_len (a + 1) n))) (same a (omega arith))
    ∙ ap (λ ns. cond (q a) (a ∷ ns) ns) (kept_same p q (a + 1) n (λ k l. same k (omega (arith, l))))

-- those that decide are those before, and the new set where it decides
pub deciding_more : (sets : List FormSet) (s : FormSet) → deciding_sets (sets ++ s ∷ []) ≡ deciding_sets sets ++ cond (nat_le 2 s.actions) (length sets ∷ []) []
deciding_more sets s =
    let more : List ℕ = actions_in (sets ++ s ∷ []) in
    let longer : length (sets ++ s ∷ []) ≡ length sets + 1 = length-append sets (s ∷ []) in
    let acts : more ≡ actions_in sets ++ s.actions ∷ [] = map-append (λ (x : FormSet). x.actions) sets (s ∷ []) in
    let long : length (actions_in sets) ≡ length sets = length-map sets (λ (x : FormSet). x.actions) in
    let zero_first : 0 + length sets ≡ length sets = omega arith in
    let last : nat_le 2 (get_or more (length sets) 0) ≡ nat_le 2 s.actions = ap (λ ns. nat_le 2 (get_or ns (length sets) 0)) acts ∙ ap (nat_le 2) (get_or_push (actions_in sets) s.actions 0 (length sets) long) in
    ap (λ n. filter (decides more) (range_with_len 0 n)) longer
    ∙ ap (filter (decides more)) (range_split 0 (length sets) 1)
    ∙ filter-append (decides more) (range_with_len 0 (length sets)) (range_with_len (0 + length sets) 1)
    ∙ ap (λ ns. ns ++ filter (decides more) (range_with_len (0 + length sets) 1))
    (kept_same (decides more) (decides (actions_in sets)) 0 (length sets)
    (λ k l. ap (λ ns. nat_le 2 (get_or ns k 0)) acts ∙ ap (nat_le 2) (get_or_append_left (actions_in sets) (s.actions ∷ []) 0 k (omega (arith, l, long)))))
    ∙ ap (λ n. deciding_sets sets ++ cond (decides more n) (n ∷ []) []) zero_first
    ∙ ap (λ b. deciding_sets sets ++ cond b (length sets ∷ []) []) last

-- there are no more of them than sets
pub deciding_few : (sets : List FormSet) → length (deciding_sets sets) ≤ length sets
deciding_few sets =
    omega (arith, length-filter (decides (actions_in sets)) (range_with_len 0 (length sets)), count_by-le-length (decides (actions_in sets)) (range_with_len 0 (length sets)), length-range_with_len 0 (length sets))
