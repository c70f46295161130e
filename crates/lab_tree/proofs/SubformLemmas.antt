-- Paths into a subgame, step by step.
use Rattle.std.proofs.Common.{◌≡◌, ℕ, zero, suc, ◌+◌, ◌-◌, ◌*◌, ◌<◌, ◌≤◌, List, [], ◌∷◌, ◌++◌, Bool, true, false, cond, ◌&&◌, take, length, get_or, min, Option, Some, None, refl, sym, ap, ◌∙◌, subst, arith, inl, inr}
use Rattle.std.specs.Prelude.{nat_le, not}
use Rattle.std.proofs.lemmas.Bool.{cases_lt}
use Rattle.std.proofs.lemmas.Bool.Decides.{nat_tests}
use Rattle.std.proofs.lemmas.List.{get_or-map, length-map, length-take-le, drop_more, append-nil, get_or-take}
use Rattle.std.proofs.lemmas.List.Elements.{filter-append}
use Rattle.lab_math.specs.Sums.{sum_over, product_over}
use Rattle.lab_defs_game.specs.Paths.{SetAction}
use Rattle.lab_defs_game.specs.Forms as forms
use Rattle.lab_defs_game.proofs.FormLemmas.{count_push}
use Rattle.lab_defs_value.specs.Tables.{weights_of, first_weight, factor}
use Rattle.lab_defs_value.specs.Subgames as value
use Rattle.lab_defs_value.proofs.SubgameRows.{first_weight_from}
use Rattle.lab_defs_value.proofs.WholeLaw.{product_push}
use Rattle.lab_form.specs.declared.items.SetId.{SetId}
use Rattle.lab_form.specs.declared.items.Span.{Span}
use Rattle.lab_form.specs.declared.items.FormSet.{FormSet}
use Rattle.lab_form.specs.Forms.{actions_in, sets_model, taken_model, whole_path, IsStepBelow, AreSets}
use Rattle.lab_form.specs.Columns.{place_of_step}
use Rattle.lab_form.proofs.CallerLemmas as form
use Rattle.lab_table.specs.Tables.{all_weights}
use Rattle.lab_tree.specs.declared.info.SetInfo.{SetInfo}
use Rattle.lab_tree.specs.TreeForms.{form_set, form_sets}
use Rattle.lab_tree.proofs.TreeFormLemmas.{set_next}
use Rattle.lab_tree.specs.Subforms.{is_within, span_model, model_actions, weight_before, decisions_inside}

-- ---- steps

-- a set of a form, as it stands among those of the tree
form_read : (ss : List SetInfo) (i : ℕ) (d : SetInfo) → i < length ss → get_or (form_sets ss) i (form_set d) ≡ form_set (get_or ss i d)
form_read ss i d l = get_or-map form_set ss i d (form_set d) l

-- as many sets
forms_long : (ss : List SetInfo) → length (form_sets ss) ≡ length ss
forms_long ss = length-map ss form_set

-- the set of a step is there
pub step_there : (ss : List SetInfo) (t : SetId × ℕ) → IsStepBelow (form_sets ss) (Some t) → t.0.0 < length ss
step_there ss t b = subst (λ n. t.0.0 < n) (forms_long ss) b.0

-- a step among the first sets is one among all, and its set comes before
pub step_below_all : (sets : List FormSet) (i : ℕ) (o : Option (SetId × ℕ)) → i ≤ length sets → IsStepBelow (take i sets) o → IsStepBelow sets o × (place_of_step o ≤ i)
step_below_all sets i None le b = (tt, omega arith)
step_below_all sets i (Some t) le b =
    let low : t.0.0 < i = omega (arith, b.0, length-take-le i sets le) in
    ((omega (arith, low, le), subst (λ n. t.1 < n) (at t.0.0 low) b.1), omega (arith, low))
  where
    none : FormSet
    none = record { parent = None; actions = 0; first_weight = 0 }

    at : (k : ℕ) → k < i → get_or (actions_in (take i sets)) k 0 ≡ get_or (actions_in sets) k 0
    at k l =
        let short : k < length (take i sets) = omega (arith, l, length-take-le i sets le) in
        get_or-map (λ (s : FormSet). s.actions) (take i sets) k none 0 short
        ∙ ap (λ (s : FormSet). s.actions) (get_or-take i sets k none l)
        ∙ sym (get_or-map (λ (s : FormSet). s.actions) sets k none 0 (omega (arith, l, le)))

-- the parent of a set is a step that is there, at an earlier set
pub parent_below : (ss : List SetInfo) (i : ℕ) (d : SetInfo) → AreSets (form_sets ss) → i < length ss → IsStepBelow (form_sets ss) (get_or ss i d).parent × (place_of_step (get_or ss i d).parent ≤ i)
parent_below ss i d ok l = step_below_all (form_sets ss) i (get_or ss i d).parent (omega (arith, l, forms_long ss)) (set_next ss i d ok l).parent

-- the path that ends with a step is that which ends with the parent of its set, with the step
pub path_push : (ss : List SetInfo) (t : SetId × ℕ) (d : SetInfo) → AreSets (form_sets ss) → t.0.0 < length ss
    → whole_path (form_sets ss) (Some t) ≡ whole_path (form_sets ss) (get_or ss t.0.0 d).parent ++ taken_model t ∷ []
path_push ss t d ok l =
    let sets = form_sets ss in
    let there : t.0.0 < length sets = omega (arith, l, forms_long ss) in
    form.chain_step (sets_model sets) (taken_model t) (form.parents_below sets ok) (omega (arith, there, form.model_length sets))
    ∙ ap (λ o. forms.chain (sets_model sets) o ++ taken_model t ∷ []) (form.model_parent sets t.0.0 (form_set d) there)
    ∙ ap (λ (s : FormSet). whole_path sets s.parent ++ taken_model t ∷ []) (form_read ss t.0.0 d l)

-- ---- sets

-- the number of actions of a set, as the definitions have it
pub actions_at : (ss : List SetInfo) (i : ℕ) (d : SetInfo) → i < length ss → get_or (model_actions ss) i 0 ≡ (get_or ss i d).actions
actions_at ss i d l =
    ap (λ ns. get_or ns i 0) (form.model_actions (form_sets ss))
    ∙ get_or-map (λ (s : FormSet). s.actions) (form_sets ss) i (form_set d) 0 (omega (arith, l, forms_long ss))
    ∙ ap (λ (s : FormSet). s.actions) (form_read ss i d l)

-- the place of its first weight
first_at : (ss : List SetInfo) (i : ℕ) (d : SetInfo) → AreSets (form_sets ss) → i < length ss → first_weight (model_actions ss) i ≡ (get_or ss i d).first_weight
first_at ss i d ok l =
    ap (λ ns. first_weight ns i) (form.model_actions (form_sets ss))
    ∙ ap (sum_over weights_of) (take-map-sym (form_sets ss))
    ∙ sym (set_next ss i d ok l).first
  where
    take-map-sym : (sets : List FormSet) → take i (actions_in sets) ≡ actions_in (take i sets)
    take-map-sym sets = take_of i sets
      where
        take_of : (i : ℕ) (sets : List FormSet) → take i (actions_in sets) ≡ actions_in (take i sets)
        take_of zero sets = refl
        take_of (suc i) [] = refl
        take_of (suc i) (s ∷ sets) = ap (λ ns. s.actions ∷ ns) (take_of i sets)

-- the weights of the next set come after those of a set
next_first : (ns : List ℕ) (i : ℕ) → i < length ns → first_weight ns (i + 1) ≡ first_weight ns i + weights_of (get_or ns i 0)
next_first ns i l = first_weight_from ns i 1 ∙ ap (λ xs. first_weight ns i + first_weight xs 1) (drop_more ns i 0 l) ∙ omega arith

-- the weights of the first sets are among all
first_le : (ns : List ℕ) (i j : ℕ) → i ≤ j → first_weight ns i ≤ first_weight ns j
first_le ns i j l =
    let same : i + (j - i) ≡ j = omega (arith, l) in
    omega (arith, first_weight_from ns i (j - i), ap (first_weight ns) same)

-- the weight of an action at a deciding set is one of all
pub weight_there : (ss : List SetInfo) (t : SetId × ℕ) (d : SetInfo) → AreSets (form_sets ss) → IsStepBelow (form_sets ss) (Some t) → 2 ≤ (get_or ss t.0.0 d).actions
    → (get_or ss t.0.0 d).first_weight + t.1 < all_weights (actions_in (form_sets ss))
weight_there ss t d ok b two =
    let ns = model_actions ss in
    let i = t.0.0 in
    let l = step_there ss t b in
    let same = form.model_actions (form_sets ss) in
    let there : i < length ns = omega (arith, l, ap length same, length-map (form_sets ss) (λ (s : FormSet). s.actions), forms_long ss) in
    let many = actions_at ss i d l in
    let own : weights_of (get_or ns i 0) ≡ get_or ns i 0 = deciding_weights (get_or ns i 0) (omega (arith, two, many)) in
    let taken : t.1 < get_or ns i 0 = subst (λ ms. t.1 < get_or ms i 0) (sym same) b.1 in
    omega (arith, first_at ss i d ok l, next_first ns i there, own, taken, first_le ns (i + 1) (length ns) (omega (arith, there)), ap all_weights same)
  where
    deciding_weights : (n : ℕ) → 2 ≤ n → weights_of n ≡ n
    deciding_weights n two = grind (arith, nat_tests)

-- the factor of an action, by what its set tells
pub factor_is : (ss : List SetInfo) (t : SetId × ℕ) (d : SetInfo) (weights : List ℕ) → AreSets (form_sets ss) → t.0.0 < length ss
    → factor (model_actions ss) weights (taken_model t) ≡ cond (nat_le 2 (get_or ss t.0.0 d).actions) (get_or weights ((get_or ss t.0.0 d).first_weight + t.1) 0) 1
factor_is ss t d weights ok l =
    ap (λ n. cond (nat_le 2 n) (get_or weights (first_weight (model_actions ss) t.0.0 + t.1) 0) 1) (actions_at ss t.0.0 d l)
    ∙ ap (λ n. cond (nat_le 2 (get_or ss t.0.0 d).actions) (get_or weights (n + t.1) 0) 1) (first_at ss t.0.0 d ok l)

-- ---- what a path brings

-- a product that is cut at a number, one factor further
pub cut_more : (a b c m : ℕ) → min (min (a * b) m * c) m ≡ min (a * (c * b)) m
cut_more a b c m = elim (cases_lt m (a * b)) [
  | inl past ↦ by c past
  | inr within ↦
      let same : min (a * b) m ≡ a * b = omega (arith, within) in
      let turned : a * b * c ≡ a * (c * b) = omega arith in
      ap (λ n. min (n * c) m) same ∙ ap (λ n. min n m) turned
]
  where
    by : (c : ℕ) → m < a * b → min (min (a * b) m * c) m ≡ min (a * (c * b)) m
    by zero past = let none : a * (0 * b) ≡ 0 = omega arith in omega (arith, none)
    by (suc c) past =
        let cut : min (a * b) m ≡ m = omega (arith, past) in
        let more : a * (suc c * b) ≡ a * b + c * (a * b) = omega arith in
        let left : min (a * b) m * suc c ≡ m + m * c = ap (λ n. n * suc c) cut ∙ omega arith in
        omega (arith, left, more, past)

-- a path that is that of another step, one step further
abbrev pub Extends : List SetInfo → (before : Option (SetId × ℕ)) → SetId × ℕ → Type 0
Extends ss before t = whole_path (form_sets ss) (Some t) ≡ whole_path (form_sets ss) before ++ taken_model t ∷ []

-- the weights before a span, one step further
pub weight_push : (ss : List SetInfo) (s : Span) (weights : List ℕ) (before : Option (SetId × ℕ)) (t : SetId × ℕ) → Extends ss before t
    → weight_before ss s weights (Some t) ≡ weight_before ss s weights before * cond (is_within s t.0.0) 1 (factor (model_actions ss) weights (taken_model t))
weight_push ss s weights before t e =
    let f = factor (model_actions ss) weights in
    let path = whole_path (form_sets ss) before in
    ap (λ p. product_over f (value.before (span_model ss s) p)) e
    ∙ ap (product_over f) (filter-append (λ u. not (value.is_inside (span_model ss s) u)) path (taken_model t ∷ []))
    ∙ at (is_within s t.0.0) (value.before (span_model ss s) path)
  where
    at : (b : Bool) (p : List SetAction) → product_over (factor (model_actions ss) weights) (p ++ cond (not b) (taken_model t ∷ []) []) ≡ product_over (factor (model_actions ss) weights) p * cond b 1 (factor (model_actions ss) weights (taken_model t))
    at true p = ap (product_over (factor (model_actions ss) weights)) (append-nil p) ∙ omega arith
    at false p = product_push (factor (model_actions ss) weights) p (taken_model t)

-- the decisions inside, one step further
pub inside_push : (ss : List SetInfo) (s : Span) (before : Option (SetId × ℕ)) (t : SetId × ℕ) → Extends ss before t
    → decisions_inside ss s (Some t) ≡ decisions_inside ss s before + cond (is_within s t.0.0 && forms.decides (model_actions ss) t.0.0) 1 0
inside_push ss s before t e =
    let ns = model_actions ss in
    let path = whole_path (form_sets ss) before in
    ap (λ p. forms.deciding ns (value.inside (span_model ss s) p)) e
    ∙ ap (forms.deciding ns) (filter-append (value.is_inside (span_model ss s)) path (taken_model t ∷ []))
    ∙ at (is_within s t.0.0) (value.inside (span_model ss s) path)
  where
    at : (b : Bool) (p : List SetAction) → forms.deciding (model_actions ss) (p ++ cond b (taken_model t ∷ []) []) ≡ forms.deciding (model_actions ss) p + cond (b && forms.decides (model_actions ss) t.0.0) 1 0
    at true p = count_push (λ (u : SetAction). forms.decides (model_actions ss) u.set) p (taken_model t)
    at false p = ap (forms.deciding (model_actions ss)) (append-nil p) ∙ omega arith

-- the weight with one more step counted in, cut at a number
pub weight_more : (ss : List SetInfo) (s : Span) (weights : List ℕ) (before : Option (SetId × ℕ)) (t : SetId × ℕ) (m weight f next : ℕ) → Extends ss before t
    → f ≡ cond (is_within s t.0.0) 1 (factor (model_actions ss) weights (taken_model t)) → next ≡ min (weight * f) m
    → min (next * weight_before ss s weights before) m ≡ min (weight * weight_before ss s weights (Some t)) m
weight_more ss s weights before t m weight f next e h n =
    ap (λ k. min (k * weight_before ss s weights before) m) n ∙ cut_more weight f (weight_before ss s weights before) m
    ∙ ap (λ k. min (weight * (weight_before ss s weights before * k)) m) h ∙ ap (λ k. min (weight * k) m) (sym (weight_push ss s weights before t e))
