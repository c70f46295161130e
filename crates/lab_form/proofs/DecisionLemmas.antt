-- The last decision along a path, step by step.
use Rattle.std.proofs.Common.{◌≡◌, ℕ, zero, suc, ◌+◌, ◌%◌, ◌^◌, ◌<◌, ◌≤◌, ◌⊎◌, inl, inr, Bool, true, false, cond, List, [], ◌∷◌, ◌++◌, map, take, drop, length, get_or, Option, Some, None, refl, sym, ap, ◌∙◌, subst, arith}
use Rattle.std.specs.Prelude.{nat_le}
use Rattle.std.specs.List.{filter}
use Rattle.std.proofs.lemmas.Bool.{cases_lt, le-leb, lt-leb}
use Rattle.std.proofs.lemmas.List.{get_or-map, get_or_append_left, get_or_push, get_or-take, length-append, length-take-le, map-append, take-map, take-append-drop, take-append-le, take_at, drop_more, append-nil}
use Rattle.std.proofs.lemmas.List.Elements.{filter-append}
use Rattle.lab_math.proofs.NaturalSums.{sum_over-append}
use Rattle.lab_math.specs.Sums.{sum_over}
use Rattle.lab_defs_game.specs.Paths.{SetAction, last_step}
use Rattle.lab_defs_game.specs.Forms as model
use Rattle.lab_defs_game.proofs.GameLemmas.{last_after_push}
use Rattle.lab_defs_value.specs.Tables.{weights_of, first_weight}
use Rattle.lab_form.specs.declared.items.SetId.{SetId}
use Rattle.lab_form.specs.declared.items.FormSet.{FormSet}
use Rattle.lab_form.specs.declared.items.FormRow.{FormRow}
use Rattle.lab_form.specs.Forms.{actions_in, weight_count, taken_model, sets_model, whole_path, last_of, IsStepBelow, IsNextSet, AreSets, AreRows}
use Rattle.lab_form.specs.Decisions.{last_deciding, weight_number, last_decision, short_decision, decisions_above, row_decisions}
use Rattle.lab_form.proofs.PathLemmas.{chain_step, model_length, model_parent, parents_below}
use Rattle.lab_form.proofs.ChainLemmas.{map_same_at}

-- ---- sets, and steps at them

-- a step at the first sets is one at all
pub step_more : (i : ℕ) (sets : List FormSet) (step : Option (SetId × ℕ)) → i ≤ length sets → IsStepBelow (take i sets) step → IsStepBelow sets step
step_more i sets None l b = tt
step_more i sets (Some t) l b =
    let w : t.0.0 < i = subst (λ n. t.0.0 < n) (length-take-le i sets l) b.0 in
    (omega (arith, w, l), subst (λ n. t.1 < n) (ap (λ ns. get_or ns t.0.0 0) (sym (take-map (λ (s : FormSet). s.actions) i sets)) ∙ get_or-take i (actions_in sets) t.0.0 0 w) b.1)

-- what is so of no step, and of a step where it is of the parent of its set, is so of each step
pub by_parents : (sets : List FormSet) (d : FormSet) → AreSets sets → (P : Option (SetId × ℕ) → Type 0) → P None
    → ((t : SetId × ℕ) → IsStepBelow sets (Some t) → P (get_or sets t.0.0 d).parent → P (Some t)) → (step : Option (SetId × ℕ)) → IsStepBelow sets step → P step
by_parents sets d ok P none more step b = below (length sets) step b (reach step b)
  where
    At : ℕ → Option (SetId × ℕ) → Type 0
    At n None = Unit {0}
    At n (Some t) = t.0.0 < n

    reach : (o : Option (SetId × ℕ)) → IsStepBelow sets o → At (length sets) o
    reach None b = tt
    reach (Some t) b = b.0

    before : (i n : ℕ) → i < suc n → i < length sets → (o : Option (SetId × ℕ)) → IsStepBelow (take i sets) o → At n o
    before i n l w None b = tt
    before i n l w (Some t) b = let e = length-take-le i sets (omega (arith, w)) in omega (arith, b.0, e, l)

    below : (n : ℕ) (o : Option (SetId × ℕ)) → IsStepBelow sets o → At n o → P o
    below n None b a = none
    below zero (Some t) b a = absurd (omega (arith, a))
    below (suc n) (Some t) b a =
        let o = (get_or sets t.0.0 d).parent in
        let p = (ok t.0.0 d b.0).parent in
        more t b (below n o (step_more t.0.0 sets o (omega (arith, b.0)) p) (before t.0.0 n a b.0 o p))

-- sets with one more that may come next
pub sets_more : (sets : List FormSet) (s : FormSet) → AreSets sets → IsNextSet sets s → AreSets (sets ++ s ∷ [])
sets_more sets s ok next i d l = at (cases_lt i (length sets))
  where
    at : (i < length sets) ⊎ (length sets ≤ i) → IsNextSet (take i (sets ++ s ∷ [])) (get_or (sets ++ s ∷ []) i d)
    at (inl w) =
        subst (λ ss. IsNextSet ss (get_or (sets ++ s ∷ []) i d)) (sym (take-append-le i sets (s ∷ []) (omega (arith, w))))
        (subst (λ x. IsNextSet (take i sets) x) (sym (get_or_append_left sets (s ∷ []) d i w)) (ok i d w))
    at (inr w) =
        let e : length sets ≡ i = omega (arith, w, l, length-append sets (s ∷ [])) in
        subst (λ ss. IsNextSet ss (get_or (sets ++ s ∷ []) i d)) (sym (take_at sets (s ∷ []) i e))
        (subst (λ x. IsNextSet sets x) (sym (get_or_push sets s d i e)) next)

-- the weights of the sets before one and its own are among all
pub weight_room : (sets : List FormSet) (i : ℕ) (d : FormSet) → i < length sets → weight_count (take i sets) + weights_of (get_or sets i d).actions ≤ weight_count sets
weight_room sets i d l =
    let whole : weight_count (take i sets ++ drop i sets) ≡ weight_count sets = ap weight_count (take-append-drop i sets) in
    let parts : weight_count (take i sets ++ drop i sets) ≡ weight_count (take i sets) + weight_count (drop i sets) =
    ap (sum_over weights_of) (map-append (λ (s : FormSet). s.actions) (take i sets) (drop i sets)) ∙ sum_over-append weights_of (actions_in (take i sets)) (actions_in (drop i sets)) in
    let rest : weight_count (drop i sets) ≡ weights_of (get_or sets i d).actions + weight_count (drop (i + 1) sets) = ap weight_count (drop_more sets i d l) in
    omega (arith, whole, parts, rest)

-- ---- one step

-- the last decision of a path with one more step is that step where its set decides, else that of the path
deciding_push : (ns : List ℕ) (path : List SetAction) (t : SetAction) → last_deciding ns (path ++ t ∷ []) ≡ cond (model.decides ns t.set) (Some t) (last_deciding ns path)
deciding_push ns path t = ap last_step (filter-append p path (t ∷ [])) ∙ at (p t)
  where
    p : SetAction → Bool
    p u = model.decides ns u.set

    at : (b : Bool) → last_step (filter p path ++ cond b (t ∷ []) []) ≡ cond b (Some t) (last_step (filter p path))
    at true = last_after_push None (filter p path) t
    at false = ap last_step (append-nil (filter p path))

-- the last decision of the path to a step is the step where its set decides, else that of the path to the set
pub deciding_step : (sets : List FormSet) (t : SetId × ℕ) (d : FormSet) → AreSets sets → t.0.0 < length sets
    → last_deciding (actions_in sets) (whole_path sets (Some t)) ≡ cond (nat_le 2 (get_or sets t.0.0 d).actions) (Some (taken_model t)) (last_deciding (actions_in sets) (whole_path sets (get_or sets t.0.0 d).parent))
deciding_step sets t d ok l =
    let ns = actions_in sets in
    let ms = sets_model sets in
    let i : ℕ = t.0.0 in
    let s = get_or sets i d in
    let path : whole_path sets (Some t) ≡ whole_path sets s.parent ++ taken_model t ∷ [] =
    chain_step ms (taken_model t) (parents_below sets ok) (subst (λ n. i < n) (sym (model_length sets)) l)
    ∙ ap (λ o. model.chain ms o ++ taken_model t ∷ []) (model_parent sets i d l) in
    ap (last_deciding ns) path
    ∙ deciding_push ns (whole_path sets s.parent) (taken_model t)
    ∙ ap (λ b. cond b (Some (taken_model t)) (last_deciding ns (whole_path sets s.parent))) (ap (nat_le 2) (get_or-map (λ (s : FormSet). s.actions) sets i d 0 l))

-- no step, no decision
pub no_decision : (sets : List FormSet) → last_decision sets None ≡ 0
no_decision sets = at (length (sets_model sets))
  where
    at : (n : ℕ) → weight_number (actions_in sets) (last_deciding (actions_in sets) (model.chain_within (sets_model sets) n None)) ≡ 0
    at zero = refl
    at (suc n) = refl

-- the last decision of a step, by its set: the step itself where the set decides, else the last one above the set
abbrev pub decision_at : List FormSet → FormSet → ℕ → ℕ
decision_at sets s a = cond (nat_le 2 s.actions) (s.first_weight + a + 1) (last_decision sets s.parent)

pub decision_step : (sets : List FormSet) (t : SetId × ℕ) (d : FormSet) → AreSets sets → t.0.0 < length sets → last_decision sets (Some t) ≡ decision_at sets (get_or sets t.0.0 d) t.1
decision_step sets t d ok l =
    let ns = actions_in sets in
    let i : ℕ = t.0.0 in
    let s = get_or sets i d in
    let first : first_weight ns i ≡ s.first_weight = ap (sum_over weights_of) (take-map (λ (s : FormSet). s.actions) i sets) ∙ sym (ok i d l).first in
    ap (weight_number ns) (deciding_step sets t d ok l)
    ∙ inside (nat_le 2 s.actions) (whole_path sets s.parent)
    ∙ ap (λ n. cond (nat_le 2 s.actions) (n + t.1 + 1) (last_decision sets s.parent)) first
  where
    inside : (b : Bool) (p : List SetAction) → weight_number (actions_in sets) (cond b (Some (taken_model t)) (last_deciding (actions_in sets) p))
        ≡ cond b (first_weight (actions_in sets) t.0.0 + t.1 + 1) (weight_number (actions_in sets) (last_deciding (actions_in sets) p))
    inside true p = refl
    inside false p = refl

-- a set that decides shows so
pub decides_at : (sets : List FormSet) (s : FormSet) (a : ℕ) → 2 ≤ s.actions → decision_at sets s a ≡ s.first_weight + a + 1
decides_at sets s a l = ap (λ b. cond b (s.first_weight + a + 1) (last_decision sets s.parent)) (le-leb 2 s.actions l)

-- and so does a pass
pub passes_at : (sets : List FormSet) (s : FormSet) (a : ℕ) → s.actions < 2 → decision_at sets s a ≡ last_decision sets s.parent
passes_at sets s a l = ap (λ b. cond b (s.first_weight + a + 1) (last_decision sets s.parent)) (lt-leb 2 s.actions l)

-- what the code gives for a step at a set that decides, and at a pass
pub decided : (sets : List FormSet) (t : SetId × ℕ) (d : FormSet) → AreSets sets → t.0.0 < length sets → 2 ≤ (get_or sets t.0.0 d).actions
    → short_decision sets (Some t) ≡ ((get_or sets t.0.0 d).first_weight + t.1 + 1) % 2 ^ 32
decided sets t d ok l two = ap (λ n. n % 2 ^ 32) (decision_step sets t d ok l ∙ decides_at sets (get_or sets t.0.0 d) t.1 two)

pub passed : (sets : List FormSet) (t : SetId × ℕ) (d : FormSet) → AreSets sets → t.0.0 < length sets → (get_or sets t.0.0 d).actions < 2
    → short_decision sets (Some t) ≡ get_or (decisions_above sets) t.0.0 0
passed sets t d ok l two =
    ap (λ n. n % 2 ^ 32) (decision_step sets t d ok l ∙ passes_at sets (get_or sets t.0.0 d) t.1 two)
    ∙ sym (get_or-map (λ (s : FormSet). short_decision sets s.parent) sets t.0.0 d 0 l)

-- ---- more sets

-- more sets change no last decision
decision_more : (sets : List FormSet) (s : FormSet) → AreSets sets → IsNextSet sets s → (step : Option (SetId × ℕ)) → IsStepBelow sets step → last_decision (sets ++ s ∷ []) step ≡ last_decision sets step
decision_more sets s ok next = by_parents sets s ok (λ o. last_decision more o ≡ last_decision sets o) (no_decision more ∙ sym (no_decision sets)) at
  where
    more : List FormSet
    more = sets ++ s ∷ []

    at : (t : SetId × ℕ) → IsStepBelow sets (Some t) → last_decision more (get_or sets t.0.0 s).parent ≡ last_decision sets (get_or sets t.0.0 s).parent → last_decision more (Some t) ≡ last_decision sets (Some t)
    at t b same =
        decision_step more t s (sets_more sets s ok next) (omega (arith, b.0, length-append sets (s ∷ [])))
        ∙ ap (λ x. decision_at more x t.1) (get_or_append_left sets (s ∷ []) s t.0.0 b.0)
        ∙ ap (λ n. cond (nat_le 2 (get_or sets t.0.0 s).actions) ((get_or sets t.0.0 s).first_weight + t.1 + 1) n) same
        ∙ sym (decision_step sets t s ok b.0)

-- a set's decisions above are those before it, and its own
pub above_more : (sets : List FormSet) (s : FormSet) → AreSets sets → IsNextSet sets s → decisions_above (sets ++ s ∷ []) ≡ decisions_above sets ++ short_decision sets s.parent ∷ []
above_more sets s ok next =
    map-append (λ (x : FormSet). short_decision (sets ++ s ∷ []) x.parent) sets (s ∷ [])
    ∙ ap (λ ns. ns ++ short_decision (sets ++ s ∷ []) s.parent ∷ [])
    (map_same_at (λ (x : FormSet). short_decision (sets ++ s ∷ []) x.parent) (λ (x : FormSet). short_decision sets x.parent) sets
    (λ i d l. ap (λ n. n % 2 ^ 32) (decision_more sets s ok next (get_or sets i d).parent (step_more i sets (get_or sets i d).parent (omega (arith, l)) (ok i d l).parent))))
    ∙ ap (λ n. decisions_above sets ++ (n % 2 ^ 32) ∷ []) (decision_more sets s ok next s.parent next.parent)

-- more sets of a seat change no row's decisions
pub rows_same1 : (sets1 sets2 : List FormSet) (s : FormSet) (rows : List FormRow) → AreSets sets1 → IsNextSet sets1 s → AreRows sets1 sets2 rows → row_decisions (sets1 ++ s ∷ []) sets2 rows ≡ row_decisions sets1 sets2 rows
rows_same1 sets1 sets2 s rows ok next there =
    map_same_at _ _ rows (λ i d l. ap (λ n. (n % 2 ^ 32) ∷ short_decision sets2 (last_of (get_or rows i d) 2) ∷ []) (decision_more sets1 s ok next (last_of (get_or rows i d) 1) (there i d l).one))

pub rows_same2 : (sets1 sets2 : List FormSet) (s : FormSet) (rows : List FormRow) → AreSets sets2 → IsNextSet sets2 s → AreRows sets1 sets2 rows → row_decisions sets1 (sets2 ++ s ∷ []) rows ≡ row_decisions sets1 sets2 rows
rows_same2 sets1 sets2 s rows ok next there =
    map_same_at _ _ rows (λ i d l. ap (λ n. short_decision sets1 (last_of (get_or rows i d) 1) ∷ (n % 2 ^ 32) ∷ []) (decision_more sets2 s ok next (last_of (get_or rows i d) 2) (there i d l).two))

-- ---- how great they are

-- the number of a decision is at most that of the weights
pub decision_fits : (sets : List FormSet) → AreSets sets → (step : Option (SetId × ℕ)) → IsStepBelow sets step → last_decision sets step ≤ weight_count sets
decision_fits sets ok = by_parents sets d ok (λ o. last_decision sets o ≤ weight_count sets) (subst (λ m. m ≤ weight_count sets) (sym (no_decision sets)) (omega arith)) at
  where
    d : FormSet
    d = record { parent = None; actions = 0; first_weight = 0 }

    at : (t : SetId × ℕ) → IsStepBelow sets (Some t) → last_decision sets (get_or sets t.0.0 d).parent ≤ weight_count sets → last_decision sets (Some t) ≤ weight_count sets
    at t b r = by (cases_lt (get_or sets t.0.0 d).actions 2)
      where
        by : ((get_or sets t.0.0 d).actions < 2) ⊎ (2 ≤ (get_or sets t.0.0 d).actions) → last_decision sets (Some t) ≤ weight_count sets
        by (inl few) = subst (λ m. m ≤ weight_count sets) (sym (decision_step sets t d ok b.0 ∙ passes_at sets (get_or sets t.0.0 d) t.1 few)) r
        by (inr two) =
            let s = get_or sets t.0.0 d in
            let own : weights_of s.actions ≡ s.actions = ap (λ b. cond b s.actions 0) (le-leb 2 s.actions two) in
            let action : t.1 < s.actions = subst (λ n. t.1 < n) (get_or-map (λ (s : FormSet). s.actions) sets t.0.0 d 0 b.0) b.1 in
            subst (λ m. m ≤ weight_count sets) (sym (decision_step sets t d ok b.0 ∙ decides_at sets s t.1 two))
            (omega (arith, weight_room sets t.0.0 d b.0, own, action, (ok t.0.0 d b.0).first))

-- in 32 bits it is exact where the seat has fewer weights than 32 bits count
pub short_exact : (sets : List FormSet) → AreSets sets → weight_count sets < 2 ^ 32 → (step : Option (SetId × ℕ)) → IsStepBelow sets step → short_decision sets step ≡ last_decision sets step
short_exact sets ok few step b =
    let l : last_decision sets step < 4294967296 = omega (arith, decision_fits sets ok step b, few) in
    let e : last_decision sets step % 4294967296 ≡ last_decision sets step = omega (arith, l) in
    e

-- so are the decisions above sets
pub above_exact : (sets : List FormSet) → AreSets sets → weight_count sets < 2 ^ 32 → decisions_above sets ≡ map (λ s. last_decision sets s.parent) sets
above_exact sets ok few =
    map_same_at (λ (s : FormSet). short_decision sets s.parent) (λ (s : FormSet). last_decision sets s.parent) sets
    (λ i d l. short_exact sets ok few (get_or sets i d).parent (step_more i sets (get_or sets i d).parent (omega (arith, l)) (ok i d l).parent))

-- and those of rows
pub rows_exact : (sets1 sets2 : List FormSet) (rows : List FormRow) → AreSets sets1 → AreSets sets2 → AreRows sets1 sets2 rows → weight_count sets1 < 2 ^ 32 → weight_count sets2 < 2 ^ 32
    → row_decisions sets1 sets2 rows ≡ map (λ r. last_decision sets1 (last_of r 1) ∷ last_decision sets2 (last_of r 2) ∷ []) rows
rows_exact sets1 sets2 rows ok1 ok2 there few1 few2 =
    map_same_at (λ (r : FormRow). short_decision sets1 (last_of r 1) ∷ short_decision sets2 (last_of r 2) ∷ []) (λ (r : FormRow). last_decision sets1 (last_of r 1) ∷ last_decision sets2 (last_of r 2) ∷ []) rows
    (λ i d l. ap (λ n. n ∷ short_decision sets2 (last_of (get_or rows i d) 2) ∷ []) (short_exact sets1 ok1 few1 (last_of (get_or rows i d) 1) (there i d l).one)
    ∙ ap (λ n. last_decision sets1 (last_of (get_or rows i d) 1) ∷ n ∷ []) (short_exact sets2 ok2 few2 (last_of (get_or rows i d) 2) (there i d l).two))
