-- Chains of parents, step by step.
use Rattle.std.proofs.Common.{◌≡◌, ℕ, zero, suc, ◌<◌, ◌≤◌, List, [], ◌∷◌, ◌++◌, take, length, get_or, Option, Some, None, refl, sym, ap, ◌∙◌, subst, arith}
use Rattle.std.specs.Option.{option_map}
use Rattle.std.proofs.lemmas.List.{get_or-map, length-append, length-map, length-take-le}
use Rattle.std.proofs.lemmas.Simd.{map-map}
use Rattle.lab_defs_game.specs.Paths.{SetAction}
use Rattle.lab_defs_game.specs.Forms as model
use Rattle.lab_form.specs.declared.items.SetId.{SetId}
use Rattle.lab_form.specs.declared.items.FormSet.{FormSet}
use Rattle.lab_form.specs.Forms.{IsStepBelow, AreSets, actions_in, taken_model, set_model, sets_model}

-- ---- sets of the definitions

-- a step, where there is one, at a set below n
abbrev pub Below : ℕ → Option SetAction → Type 0
Below n None = Unit {0}
Below n (Some t) = t.set < n

-- each parent is at an earlier set
abbrev pub ParentsBelow : List model.FormSet → Type 0
ParentsBelow sets = (i : ℕ) → i < length sets → Below i (model.parent_at sets i)

-- what is below is below more
below_more : (m n : ℕ) (o : Option SetAction) → m ≤ n → Below m o → Below n o
below_more m n None l b = tt
below_more m n (Some t) l b = omega (arith, l, b)

-- no chain takes more steps than its last set's number says
enough : (sets : List model.FormSet) → ParentsBelow sets → (m n : ℕ) (o : Option SetAction) → Below (length sets) o → Below m o → Below n o → model.chain_within sets m o ≡ model.chain_within sets n o
enough sets ok zero zero o w b c = refl
enough sets ok zero (suc n) None w b c = refl
enough sets ok zero (suc n) (Some t) w b c = absurd (omega (arith, b))
enough sets ok (suc m) zero None w b c = refl
enough sets ok (suc m) zero (Some t) w b c = absurd (omega (arith, c))
enough sets ok (suc m) (suc n) None w b c = refl
enough sets ok (suc m) (suc n) (Some t) w b c =
    let o = model.parent_at sets t.set in
    let p = ok t.set w in
    ap (λ path. path ++ t ∷ [])
    (enough sets ok m n o (below_more t.set (length sets) o (omega (arith, w)) p) (below_more t.set m o (omega (arith, b)) p) (below_more t.set n o (omega (arith, c)) p))

-- the chain that ends with a step is that which ends with the parent of its set, with the step
pub chain_step : (sets : List model.FormSet) (t : SetAction) → ParentsBelow sets → t.set < length sets → model.chain sets (Some t) ≡ model.chain sets (model.parent_at sets t.set) ++ t ∷ []
chain_step sets t ok l = at (length sets) refl
  where
    at : (n : ℕ) → n ≡ length sets → model.chain_within sets n (Some t) ≡ model.chain sets (model.parent_at sets t.set) ++ t ∷ []
    at zero e = absurd (omega (arith, e, l))
    at (suc n) e =
        let o = model.parent_at sets t.set in
        let p = ok t.set l in
        let w = below_more t.set (length sets) o (omega (arith, l)) p in
        ap (λ path. path ++ t ∷ []) (enough sets ok n (length sets) o w (below_more t.set n o (omega (arith, e, l)) p) w)

-- a chain has no more steps than there are sets
pub chain_short : (sets : List model.FormSet) (o : Option SetAction) → length (model.chain sets o) ≤ length sets
chain_short sets o = within (length sets) o
  where
    within : (n : ℕ) (o : Option SetAction) → length (model.chain_within sets n o) ≤ n
    within zero o = omega arith
    within (suc n) None = omega arith
    within (suc n) (Some t) = omega (arith, length-append (model.chain_within sets n (model.parent_at sets t.set)) (t ∷ []), within n (model.parent_at sets t.set))

-- ---- sets of the program

-- as many sets
pub model_length : (sets : List FormSet) → length (sets_model sets) ≡ length sets
model_length sets = length-map sets set_model

-- with as many actions
pub model_actions : (sets : List FormSet) → model.actions_in (sets_model sets) ≡ actions_in sets
model_actions sets = map-map (λ (s : model.FormSet). s.actions) set_model sets

-- and the same parents
pub model_parent : (sets : List FormSet) (i : ℕ) (d : FormSet) → i < length sets → model.parent_at (sets_model sets) i ≡ option_map taken_model (get_or sets i d).parent
model_parent sets i d l =
    ap (λ (os : List (Option SetAction)). get_or os i None) (map-map (λ (s : model.FormSet). s.parent) set_model sets)
    ∙ get_or-map (λ (s : FormSet). option_map taken_model s.parent) sets i d None l

-- parents are at earlier sets
pub parents_below : (sets : List FormSet) → AreSets sets → ParentsBelow (sets_model sets)
parents_below sets ok i l =
    let none : FormSet = record { parent = None; actions = 0; first_weight = 0 } in
    let there : i < length sets = subst (λ n. i < n) (model_length sets) l in
    subst (Below i) (sym (model_parent sets i none there)) (at there (get_or sets i none).parent (ok i none there).parent)
  where
    at : i < length sets → (o : Option (SetId × ℕ)) → IsStepBelow (take i sets) o → Below i (option_map taken_model o)
    at there None b = tt
    at there (Some t) b = omega (arith, b.0, length-take-le i sets (omega (arith, there)))
