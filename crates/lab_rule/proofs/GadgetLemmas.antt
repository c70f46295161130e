-- The opponent's sets in a gadget, as the program writes them.
use Rattle.std.proofs.Common.{◌≡◌, ℕ, zero, suc, ◌+◌, ◌*◌, ◌<◌, ◌≤◌, List, [], ◌∷◌, ◌++◌, map, take, length, get_or, replicate, Option, Some, None, refl, sym, ap, ◌∙◌, subst, arith}
use Rattle.std.specs.List.{range_with_len}
use Rattle.std.specs.Option.{option_map}
use Rattle.std.proofs.lemmas.List.{append_assoc, get_or_append_left, get_or-append-add, length-append, length-map, length-replicate, map-append}
use Rattle.std.proofs.lemmas.List.FromFn.{length-map-range_with_len}
use Rattle.lab_math.specs.Sums.{sum_over}
use Rattle.lab_math.proofs.NaturalSums.{sum_over-append}
use Rattle.lab_defs_game.specs.Forms as model
use Rattle.lab_defs_game.specs.Paths.{SetAction}
use Rattle.lab_defs_value.specs.Tables.{weights_of}
use Rattle.lab_defs_value.specs.Allowances.{Rule, cfrd, reach, margin}
use Rattle.lab_defs_value.specs.Gadgets.{gadget_sets, follow_step, terminate_step, entered_parent, entered_sets, sets_entered}
use Rattle.lab_defs_value.proofs.Entries.{IsFurther, entry_there, ending_there}
use Rattle.lab_form.specs.declared.items.SetId.{SetId}
use Rattle.lab_form.specs.declared.items.FormSet.{FormSet}
use Rattle.lab_form.specs.Forms.{actions_in, weight_count, IsStepBelow, IsNextSet, AreSets, taken_model, set_model, sets_model}
use Rattle.lab_form.proofs.CallerLemmas.{model_actions}
use Rattle.lab_rule.specs.Gadgets.{gadget_count, gadget_actions, gadget_weights, gadget_set, first_sets, step_id, raised_step, entered_set, entered_from, opponent_sets, RootsFirst}
use Rattle.lab_rule.proofs.StepLemmas.{no_set}

-- ---- gadget sets

-- how many weights gadget sets have
weights_first : (rule : Rule) (roots s n : ℕ) → weight_count (map (gadget_set rule roots) (range_with_len s n)) ≡ n * weights_of (gadget_actions rule roots)
weights_first rule roots s zero = omega arith
weights_first rule roots s (suc n) = let rest = weights_first rule roots (s + 1) n in omega (arith, rest)

-- each has an action
some_action : (rule : Rule) (roots : ℕ) → 1 ≤ roots → 0 < gadget_actions rule roots
some_action cfrd roots l = omega arith
some_action reach roots l = omega arith
some_action margin roots l = l

-- so the next one may be added after the first ones
pub gadget_next : (rule : Rule) (roots n : ℕ) → 1 ≤ roots → IsNextSet (first_sets rule roots n) (gadget_set rule roots n)
gadget_next rule roots n l = record { some = some_action rule roots l; parent = tt; first = sym (weights_first rule roots 0 n) }

-- as many as the definitions have
pub count_is : (rule : Rule) (roots : ℕ) → gadget_count rule roots ≡ length (gadget_sets rule roots)
count_is cfrd roots = sym (length-replicate roots (record { parent = None; actions = 2 }))
count_is reach roots = sym (length-replicate roots (record { parent = None; actions = 2 }))
count_is margin roots = refl

-- sets alike are one repeated
alike : (rule : Rule) (roots s n : ℕ) → sets_model (map (gadget_set rule roots) (range_with_len s n)) ≡ replicate n (record { parent = None; actions = gadget_actions rule roots })
alike rule roots s zero = refl
alike rule roots s (suc n) = ap (λ (xs : List model.FormSet). record { parent = None; actions = gadget_actions rule roots } ∷ xs) (alike rule roots (s + 1) n)

-- they are those of the definitions
first_model : (rule : Rule) (roots : ℕ) → sets_model (first_sets rule roots (gadget_count rule roots)) ≡ gadget_sets rule roots
first_model cfrd roots = alike cfrd roots 0 roots
first_model reach roots = alike reach roots 0 roots
first_model margin roots = refl

-- ---- the sets of the subgame after them

-- a set of the subgame after the gadget sets
entered_one : (rule : Rule) (roots I : ℕ) (s : FormSet) → set_model (entered_set rule roots I s) ≡ record { parent = entered_parent rule (gadget_count rule roots) I (option_map taken_model s.parent); actions = s.actions }
entered_one rule roots I s = ap (λ (o : Option SetAction). record { parent = o; actions = s.actions }) (at (entered_parent rule (gadget_count rule roots) I (option_map taken_model s.parent)))
  where
    at : (o : Option SetAction) → option_map taken_model (option_map step_id o) ≡ o
    at None = refl
    at (Some t) = refl

-- all of them
entered_model : (rule : Rule) (roots I : ℕ) (sets : List FormSet) → sets_model (entered_from rule roots I sets) ≡ entered_sets rule (gadget_count rule roots) I (sets_model sets)
entered_model rule roots I [] = refl
entered_model rule roots I (s ∷ sets) =
    ap (λ (x : model.FormSet). x ∷ sets_model (entered_from rule roots (I + 1) sets)) (entered_one rule roots I s)
    ∙ ap (λ (xs : List model.FormSet). record { parent = entered_parent rule (gadget_count rule roots) I (option_map taken_model s.parent); actions = s.actions } ∷ xs) (entered_model rule roots (I + 1) sets)

-- so the opponent's sets are those of the definitions
pub opponent_model : (rule : Rule) (roots : ℕ) (sets : List FormSet) → sets_model (opponent_sets rule roots sets) ≡ sets_entered rule roots (sets_model sets)
opponent_model rule roots sets =
    map-append set_model (first_sets rule roots (gadget_count rule roots)) (entered_from rule roots 0 sets)
    ∙ ap (λ (xs : List model.FormSet). xs ++ sets_model (entered_from rule roots 0 sets)) (first_model rule roots)
    ∙ ap (λ (xs : List model.FormSet). gadget_sets rule roots ++ xs) (entered_model rule roots 0 sets ∙ ap (λ n. entered_sets rule n 0 (sets_model sets)) (count_is rule roots))

-- they have as many actions as in the subgame
entered_actions : (rule : Rule) (roots I : ℕ) (sets : List FormSet) → actions_in (entered_from rule roots I sets) ≡ actions_in sets
entered_actions rule roots I [] = refl
entered_actions rule roots I (s ∷ sets) = ap (λ ns. s.actions ∷ ns) (entered_actions rule roots (I + 1) sets)

-- the numbers of actions of all
opponent_actions : (rule : Rule) (roots : ℕ) (sets : List FormSet) → actions_in (opponent_sets rule roots sets) ≡ actions_in (first_sets rule roots (gadget_count rule roots)) ++ actions_in sets
opponent_actions rule roots sets =
    map-append (λ (s : FormSet). s.actions) (first_sets rule roots (gadget_count rule roots)) (entered_from rule roots 0 sets)
    ∙ ap (λ ns. actions_in (first_sets rule roots (gadget_count rule roots)) ++ ns) (entered_actions rule roots 0 sets)

-- how many gadget sets and sets there are
first_many : (rule : Rule) (roots n : ℕ) → length (first_sets rule roots n) ≡ n
first_many rule roots n = length-map-range_with_len (gadget_set rule roots) 0 n

entered_many : (rule : Rule) (roots I : ℕ) (sets : List FormSet) → length (entered_from rule roots I sets) ≡ length sets
entered_many rule roots I [] = refl
entered_many rule roots I (s ∷ sets) = ap suc (entered_many rule roots (I + 1) sets)

pub opponent_many : (rule : Rule) (roots : ℕ) (sets : List FormSet) → length (opponent_sets rule roots sets) ≡ gadget_count rule roots + length sets
opponent_many rule roots sets =
    let first = first_many rule roots (gadget_count rule roots) in
    let rest = entered_many rule roots 0 sets in
    let both = length-append (first_sets rule roots (gadget_count rule roots)) (entered_from rule roots 0 sets) in
    omega (arith, first, rest, both)

-- how many weights
opponent_weights : (rule : Rule) (roots : ℕ) (sets : List FormSet) → weight_count (opponent_sets rule roots sets) ≡ gadget_weights rule roots (gadget_count rule roots) + weight_count sets
opponent_weights rule roots sets =
    ap (sum_over weights_of) (opponent_actions rule roots sets)
    ∙ sum_over-append weights_of (actions_in (first_sets rule roots (gadget_count rule roots))) (actions_in sets)
    ∙ ap (λ n. n + weight_count sets) (weights_first rule roots 0 (gadget_count rule roots))

-- ---- steps

-- a step at a gadget set is there
further_there : (rule : Rule) (roots : ℕ) (sets : List FormSet) (t : SetAction) → IsFurther rule roots t → IsStepBelow (opponent_sets rule roots sets) (Some (step_id t))
further_there rule roots sets t h =
    let front = first_sets rule roots (gadget_count rule roots) in
    let many = opponent_many rule roots sets in
    let count = count_is rule roots in
    let low : t.set < length (actions_in front) = omega (arith, h.0, count, length-map front (λ (s : FormSet). s.actions), first_many rule roots (gadget_count rule roots)) in
    let same : model.actions_in (gadget_sets rule roots) ≡ actions_in front = ap model.actions_in (sym (first_model rule roots)) ∙ model_actions front in (
      omega (arith, h.0, count, many),
      subst (λ ns. t.action < get_or ns t.set 0) (sym (opponent_actions rule roots sets))
          (subst (λ n. t.action < n) (sym (get_or_append_left (actions_in front) (actions_in sets) 0 t.set low)) (subst (λ ns. t.action < get_or ns t.set 0) same h.1)),
    )

-- so are the step to a root set and that of its further row
pub follow_there : (rule : Rule) (roots root : ℕ) (sets : List FormSet) → root < roots → IsStepBelow (opponent_sets rule roots sets) (Some (step_id (follow_step rule root)))
follow_there rule roots root sets l = further_there rule roots sets (follow_step rule root) (entry_there rule roots root l)

pub terminate_there : (rule : Rule) (roots root : ℕ) (sets : List FormSet) → root < roots → IsStepBelow (opponent_sets rule roots sets) (Some (step_id (terminate_step rule root)))
terminate_there rule roots root sets l = further_there rule roots sets (terminate_step rule root) (ending_there rule roots root l)

-- and a step of the subgame, after the gadget sets
pub raised_there : (rule : Rule) (roots : ℕ) (sets : List FormSet) (o : Option (SetId × ℕ)) → IsStepBelow sets o → IsStepBelow (opponent_sets rule roots sets) (option_map (raised_step rule roots) o)
raised_there rule roots sets None h = tt
raised_there rule roots sets (Some t) h =
    let front = actions_in (first_sets rule roots (gadget_count rule roots)) in
    let many = opponent_many rule roots sets in
    let long : length front ≡ gadget_count rule roots = length-map (first_sets rule roots (gadget_count rule roots)) (λ (s : FormSet). s.actions) ∙ first_many rule roots (gadget_count rule roots) in (
      omega (arith, h.0, many),
      subst (λ ns. t.1 < get_or ns (gadget_count rule roots + t.0.0) 0) (sym (opponent_actions rule roots sets))
          (subst (λ k. t.1 < get_or (front ++ actions_in sets) (k + t.0.0) 0) long
          (subst (λ n. t.1 < n) (sym (get_or-append-add front (actions_in sets) t.0.0 0)) h.1)),
    )

-- ---- one more set of the subgame

-- the set of the subgame with a number may be added after those before it
pub entered_next : (rule : Rule) (roots i : ℕ) (sets : List FormSet) → AreSets sets → RootsFirst roots sets → i < length sets → IsNextSet (opponent_sets rule roots (take i sets)) (entered_set rule roots i (get_or sets i no_set))
entered_next rule roots i sets ok first l =
    let s = get_or sets i no_set in
    let next = ok i no_set l in
    record {
      some = next.some;
      parent = at s.parent refl next.parent;
      first = ap (λ n. gadget_weights rule roots (gadget_count rule roots) + n) next.first ∙ sym (opponent_weights rule roots (take i sets));
    }
  where
    at : (o : Option (SetId × ℕ)) → (get_or sets i no_set).parent ≡ o → IsStepBelow (take i sets) o
        → IsStepBelow (opponent_sets rule roots (take i sets)) (option_map step_id (entered_parent rule (gadget_count rule roots) i (option_map taken_model o)))
    at None e h = follow_there rule roots i (take i sets) (first i l e)
    at (Some t) e h = raised_there rule roots (take i sets) (Some t) h

-- the sets of the subgame and one more
entered_push : (rule : Rule) (roots I i : ℕ) (sets : List FormSet) → i < length sets
    → entered_from rule roots I (take (suc i) sets) ≡ entered_from rule roots I (take i sets) ++ entered_set rule roots (I + i) (get_or sets i no_set) ∷ []
entered_push rule roots I i [] l = absurd (omega (arith, l))
entered_push rule roots I zero (s ∷ sets) l = ap (λ n. entered_set rule roots n s ∷ []) (omega arith)
entered_push rule roots I (suc i) (s ∷ sets) l =
    ap (λ (xs : List FormSet). entered_set rule roots I s ∷ xs) (entered_push rule roots (I + 1) i sets (omega (arith, l)) ∙ ap (λ n. entered_from rule roots (I + 1) (take i sets) ++ entered_set rule roots n (get_or sets i no_set) ∷ []) (omega arith))

pub opponent_push : (rule : Rule) (roots i : ℕ) (sets : List FormSet) → i < length sets
    → opponent_sets rule roots (take i sets) ++ entered_set rule roots i (get_or sets i no_set) ∷ [] ≡ opponent_sets rule roots (take (i + 1) sets)
opponent_push rule roots i sets l =
    let front = first_sets rule roots (gadget_count rule roots) in
    let next : suc i ≡ i + 1 = omega arith in
    append_assoc front (entered_from rule roots 0 (take i sets)) (entered_set rule roots i (get_or sets i no_set) ∷ [])
    ∙ ap (λ (xs : List FormSet). front ++ xs) (ap (λ n. entered_from rule roots 0 (take i sets) ++ entered_set rule roots n (get_or sets i no_set) ∷ []) (omega arith) ∙ sym (entered_push rule roots 0 i sets l))
    ∙ ap (λ n. opponent_sets rule roots (take n sets)) next
