-- The form of a tree, set by set and row by row.
use Rattle.std.proofs.Common.{◌≡◌, ℕ, ◌+◌, ◌-◌, ◌<◌, ◌≤◌, pos, List, [], ◌∷◌, ◌++◌, Bool, true, false, cond, map, take, length, get_or, Option, Some, None, refl, sym, ap, ◌∙◌, subst, arith}
use Rattle.std.specs.Prelude.{nat_le, ◌==◌}
use Rattle.std.specs.List.{range_with_len}
use Rattle.std.proofs.lemmas.List.{get_or-map, length-map, map-append, take_more}
use Rattle.std.proofs.lemmas.List.FromFn.{get_or-map-range_with_len, length-map-range_with_len}
use Rattle.lab_defs_game.specs.Forms as forms
use Rattle.lab_defs_game.specs.Paths.{SetAction}
use Rattle.lab_defs_game.proofs.FormLemmas.{count_push}
use Rattle.lab_defs_game.proofs.NumberLemmas.{count_le_length}
use Rattle.lab_form.specs.declared.items.FormSet.{FormSet}
use Rattle.lab_form.specs.declared.items.FormRow.{FormRow}
use Rattle.lab_form.specs.Forms.{FormValue, sets_of, sets_model, whole_path, with_row, AreSets, AreRows, IsNextSet, IsNextRow}
use Rattle.lab_form.proofs.CallerLemmas.{ParentsBelow, chain_step, chain_short, model_length, model_actions, model_parent, parents_below}
use Rattle.lab_tree.specs.declared.info.SetInfo.{SetInfo}
use Rattle.lab_tree.specs.declared.info.RowInfo.{RowInfo}
use Rattle.lab_tree.specs.Decisions.{counted_row}
use Rattle.lab_tree.specs.TreeForms.{form_set, form_sets, form_row, last_set, with_sets, with_rows}

-- the deciding sets on the chain up to a step are those up to its set
pub decisions_of : (sets : List forms.FormSet) (t : SetAction) → ParentsBelow sets → t.set < length sets → forms.deciding (forms.actions_in sets) (forms.chain sets (Some t)) ≡ forms.decisions_to sets t.set
decisions_of sets t ok l = one t l ∙ sym (one (record { set = t.set; action = 0 }) l)
  where
    one : (t : SetAction) → t.set < length sets
        → forms.deciding (forms.actions_in sets) (forms.chain sets (Some t)) ≡ forms.deciding (forms.actions_in sets) (forms.chain sets (forms.parent_at sets t.set)) + cond (forms.decides (forms.actions_in sets) t.set) 1 0
    one t l =
        ap (forms.deciding (forms.actions_in sets)) (chain_step sets t ok l)
        ∙ count_push (λ (u : SetAction). forms.decides (forms.actions_in sets) u.set) (forms.chain sets (forms.parent_at sets t.set)) t

-- they are those up to the parent, with the set's own
pub decisions_next : (sets : List FormSet) (i : ℕ) (d : FormSet) → AreSets sets → i < length sets
    → forms.decisions_to (sets_model sets) i ≡ forms.deciding (forms.actions_in (sets_model sets)) (whole_path sets (get_or sets i d).parent) + cond (nat_le 2 (get_or sets i d).actions) 1 0
decisions_next sets i d ok l =
    ap (forms.deciding ns) (chain_step (sets_model sets) (record { set = i; action = 0 }) (parents_below sets ok) (subst (λ n. i < n) (sym (model_length sets)) l))
    ∙ count_push (λ (u : SetAction). forms.decides ns u.set) (forms.chain (sets_model sets) (forms.parent_at (sets_model sets) i)) (record { set = i; action = 0 })
    ∙ ap (λ o. forms.deciding ns (forms.chain (sets_model sets) o) + cond (forms.decides ns i) 1 0) (model_parent sets i d l)
    ∙ ap (λ n. forms.deciding ns (whole_path sets (get_or sets i d).parent) + cond (nat_le 2 n) 1 0)
    (ap (λ ms. get_or ms i 0) (model_actions sets) ∙ get_or-map (λ (s : FormSet). s.actions) sets i d 0 l)
  where
    ns : List ℕ
    ns = forms.actions_in (sets_model sets)

-- there are no more of them than sets
pub decisions_short : (sets : List forms.FormSet) (o : Option SetAction) → forms.deciding (forms.actions_in sets) (forms.chain sets o) ≤ length sets
decisions_short sets o =
    omega (arith, count_le_length (λ (u : SetAction). forms.decides (forms.actions_in sets) u.set) (forms.chain sets o), chain_short sets o)

-- what is told of sets by their numbers, at one of them
pub counted_at : (f : ℕ → ℕ) (ns : List ℕ) (n i : ℕ) → ns ≡ map f (range_with_len 0 n) → i < n → get_or ns i 0 ≡ f i
counted_at f ns n i e l =
    let none : 0 + i ≡ i = omega arith in
    ap (λ xs. get_or xs i 0) e ∙ get_or-map-range_with_len f 0 n i i 0 l none

-- ---- sets

-- what is read where there is no set, and where there is no row
abbrev pub no_set : SetInfo
no_set = record { id = record { 0 = 0 }; node = record { 0 = 0 }; parent = None; actions = 0; first_weight = 0 }

abbrev pub no_row : RowInfo
no_row = record { id = record { 0 = 0 }; history = record { 0 = 0 }; worth = record { 0 = pos 0 }; last = [] }

-- a set of the tree may come in the form after those before it
pub set_next : (sets : List SetInfo) (i : ℕ) (d : SetInfo) → AreSets (form_sets sets) → i < length sets → IsNextSet (take i (form_sets sets)) (form_set (get_or sets i d))
set_next sets i d ok l =
    subst (IsNextSet (take i (form_sets sets))) (get_or-map form_set sets i d (form_set d) l) (ok i (form_set d) (subst (λ n. i < n) (sym (length-map sets form_set)) l))

-- the deciding sets up to a set with two or more actions, or with fewer
pub more_decisions : (sets : List SetInfo) (i : ℕ) (d : SetInfo) (before : ℕ) → AreSets (form_sets sets) → i < length sets
    → before ≡ forms.deciding (forms.actions_in (sets_model (form_sets sets))) (whole_path (form_sets sets) (get_or sets i d).parent)
    → before + cond (nat_le 2 (get_or sets i d).actions) 1 0 ≡ forms.decisions_to (sets_model (form_sets sets)) i
more_decisions sets i d before ok l e =
    let here : get_or (form_sets sets) i (form_set d) ≡ form_set (get_or sets i d) = get_or-map form_set sets i d (form_set d) l in
    ap (λ n. n + cond (nat_le 2 (get_or sets i d).actions) 1 0) e
    ∙ ap (λ (s : FormSet). forms.deciding (forms.actions_in (sets_model (form_sets sets))) (whole_path (form_sets sets) s.parent) + cond (nat_le 2 s.actions) 1 0) (sym here)
    ∙ sym (decisions_next (form_sets sets) i (form_set d) ok (subst (λ n. i < n) (sym (length-map sets form_set)) l))

-- the sets of a seat once they are given
pub sets_with : (f : FormValue) (seat : ℕ) (sets : List FormSet) → sets_of (with_sets f seat sets) seat ≡ sets
sets_with f seat sets = at (seat == 1)
  where
    given : Bool → FormValue
    given b = cond b (record { sets1 = sets; sets2 = f.sets2; rows = f.rows; set_room = f.set_room; row_room = f.row_room }) (record { sets1 = f.sets1; sets2 = sets; rows = f.rows; set_room = f.set_room; row_room = f.row_room })

    at : (b : Bool) → cond b (given b).sets1 (given b).sets2 ≡ sets
    at true = refl
    at false = refl

-- ---- rows

-- a row of the tree may stand in the form
pub row_next : (sets1 sets2 : List FormSet) (rows : List RowInfo) (i most1 most2 : ℕ) (d : RowInfo) → AreRows sets1 sets2 (map (form_row sets1 sets2 0 0) rows) → i < length rows
    → IsNextRow sets1 sets2 (form_row sets1 sets2 most1 most2 (get_or rows i d))
row_next sets1 sets2 rows i most1 most2 d ok l =
    let none : FormRow = form_row sets1 sets2 0 0 d in
    let there = subst (IsNextRow sets1 sets2) (get_or-map (form_row sets1 sets2 0 0) rows i d none l) (ok i none (subst (λ n. i < n) (sym (length-map rows (form_row sets1 sets2 0 0))) l)) in
    record { one = there.one; two = there.two }

-- its last set of a seat is one of those that are counted
pub last_counted : (sets : List FormSet) (counts : List ℕ) (i : ℕ) → counts ≡ map (forms.decisions_to (sets_model sets)) (range_with_len 0 (length sets)) → i < length sets → i < length counts
last_counted sets counts i e l = subst (λ n. i < n) (sym (ap length e ∙ length-map-range_with_len (forms.decisions_to (sets_model sets)) 0 (length sets))) l

-- by the decisions of each set it is the row of the form
pub counted_is : (sets1 sets2 : List FormSet) (counts1 counts2 : List ℕ) (most1 most2 : ℕ) (r : RowInfo)
    → counts1 ≡ map (forms.decisions_to (sets_model sets1)) (range_with_len 0 (length sets1)) → counts2 ≡ map (forms.decisions_to (sets_model sets2)) (range_with_len 0 (length sets2))
    → IsNextRow sets1 sets2 (form_row sets1 sets2 0 0 r) → counted_row counts1 counts2 most1 most2 r ≡ form_row sets1 sets2 most1 most2 r
counted_is sets1 sets2 counts1 counts2 most1 most2 r e1 e2 there =
    ap (λ n. told n (most2 - get_or counts2 (last_set r 2).0.0 0)) (ap (λ n. most1 - n) (counted_at (forms.decisions_to (sets_model sets1)) counts1 (length sets1) (last_set r 1).0.0 e1 there.one.0))
    ∙ ap (told (most1 - forms.decisions_to (sets_model sets1) (last_set r 1).0.0)) (ap (λ n. most2 - n) (counted_at (forms.decisions_to (sets_model sets2)) counts2 (length sets2) (last_set r 2).0.0 e2 there.two.0))
  where
    told : ℕ → ℕ → FormRow
    told m n = record { worth = r.worth; last = Some (last_set r 1) ∷ Some (last_set r 2) ∷ []; pads = m ∷ n ∷ [] }

-- a form with the first rows, and then the next one
pub rows_more : (f h : FormValue) (made : RowInfo → FormRow) (rows : List RowInfo) (i : ℕ) (d : RowInfo) (row : FormRow) → i < length rows → h ≡ with_rows f (map made (take i rows)) → row ≡ made (get_or rows i d)
    → with_row h row ≡ with_rows f (map made (take (i + 1) rows))
rows_more f h made rows i d row l e r =
    ap (λ (h : FormValue). with_row h row) e ∙ ap (λ z. with_rows f (map made (take i rows) ++ z ∷ [])) r
    ∙ ap (with_rows f) (sym (map-append made (take i rows) (get_or rows i d ∷ [])) ∙ ap (map made) (sym (take_more rows i d l)))
