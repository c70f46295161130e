-- The rows of a subgame of a tree stand in its form.
use Rattle.std.proofs.Common.{◌≡◌, ℕ, ◌<◌, ◌≤◌, List, map, length, get_or, Some, sym, subst}
use Rattle.std.specs.Prelude.{unsigned_abs}
use Rattle.std.specs.List.{All}
use Rattle.std.proofs.lemmas.List.{get_or-map, length-map}
use Rattle.std.proofs.lemmas.List.Elements.{recursion_from_All}
use Rattle.lab_math.proofs.Members.{In, all_in, in_get_or}
use Rattle.lab_defs_game.specs.Forms as forms
use Rattle.lab_form.specs.declared.items.FormSet.{FormSet}
use Rattle.lab_form.specs.declared.items.FormRow.{FormRow}
use Rattle.lab_form.specs.Forms.{row_model, IsStepBelow, IsNextRow, AreRows}
use Rattle.lab_tree.specs.declared.info.SetInfo.{SetInfo}
use Rattle.lab_tree.specs.declared.info.RowInfo.{RowInfo}
use Rattle.lab_tree.specs.TreeForms.{form_sets, form_row, form_rows, last_set, AreFormParts}
use Rattle.lab_tree.specs.Subforms.{SubgameParts, inner_sets, inner_row}
use Rattle.lab_tree.specs.TreeParts.{IsSpan}
use Rattle.lab_tree.proofs.SubformSets.{inner_row_next}
use Rattle.lab_tree.proofs.TreeFormLemmas.{no_row}

-- a row among those of the tree may stand in its form
pub row_stands : (one two : List SetInfo) (rows : List RowInfo) → AreRows (form_sets one) (form_sets two) (form_rows one two 0 0 rows) → (r : RowInfo) → In r rows
    → IsNextRow (form_sets one) (form_sets two) (form_row (form_sets one) (form_sets two) 0 0 r)
row_stands one two rows ok r i =
    let made = form_row (form_sets one) (form_sets two) 0 0 in
    let IsNext : RowInfo → Type 0 = λ r. IsNextRow (form_sets one) (form_sets two) (made r) in
    all_in IsNext rows r
    (recursion_from_All IsNext rows (λ k d l. subst (IsNextRow (form_sets one) (form_sets two)) (get_or-map made rows k d (made d) l) (ok k (made d) (subst (λ n. k < n) (sym (length-map rows made)) l)))) i

-- rows that may each stand in a form do
pub rows_stand : (sets1 sets2 : List FormSet) (made : RowInfo → FormRow) (rows : List RowInfo) → ((r : RowInfo) → In r rows → IsNextRow sets1 sets2 (made r)) → AreRows sets1 sets2 (map made rows)
rows_stand sets1 sets2 made rows each i d l =
    let low : i < length rows = subst (λ n. i < n) (length-map rows made) l in
    subst (IsNextRow sets1 sets2) (sym (get_or-map made rows i no_row d low)) (each (get_or rows i no_row) (in_get_or rows i no_row low))

-- worths that are small as the definitions have them are so as the program has them
pub worths_small : (sets1 sets2 : List FormSet) (most : ℕ) (rows : List FormRow) → All (λ (z : forms.Row). unsigned_abs z.worth ≤ most) (map (row_model sets1 sets2) rows) → All (λ (r : FormRow). unsigned_abs r.worth.0 ≤ most) rows
worths_small sets1 sets2 most rows small k d l =
    let made = row_model sets1 sets2 in
    subst (λ (z : forms.Row). unsigned_abs z.worth ≤ most) (get_or-map made rows k d (made d) l) (small k (made d) (subst (λ n. k < n) (sym (length-map rows made)) l))

-- rows among those of a tree stand in its form
pub rows_last : (one one' two two' : List SetInfo) (all rows : List RowInfo) → one ≡ one' → two ≡ two' → AreFormParts one' two' all → ((r : RowInfo) → In r rows → In r all)
    → AreRows (form_sets one) (form_sets two) (map (form_row (form_sets one) (form_sets two) 0 0) rows)
rows_last one one' two two' all rows e1 e2 ok there =
    subst (λ ss. AreRows (form_sets ss) (form_sets two) (map (form_row (form_sets ss) (form_sets two) 0 0) rows)) (sym e1)
    (subst (λ ss. AreRows (form_sets one') (form_sets ss) (map (form_row (form_sets one') (form_sets ss) 0 0) rows)) (sym e2)
    (rows_stand (form_sets one') (form_sets two') (form_row (form_sets one') (form_sets two') 0 0) rows (λ r i. row_stands one' two' all ok.last r (there r i))))

-- and as rows of a subgame in the form of that
pub rows_inner : (p : SubgameParts) (one' two' : List SetInfo) (all rows : List RowInfo) (f1 f2 : List FormSet) → p.one ≡ one' → p.two ≡ two' → f1 ≡ inner_sets p.one p.span1 → f2 ≡ inner_sets p.two p.span2
    → IsSpan (length p.one) p.span1 → IsSpan (length p.two) p.span2 → AreFormParts one' two' all → ((r : RowInfo) → In r rows → In r all) → AreRows f1 f2 (map (inner_row p) rows)
rows_inner p one' two' all rows f1 f2 e1 e2 s1 s2 in1 in2 ok there =
    subst (λ fs. AreRows fs f2 (map (inner_row p) rows)) (sym s1) (subst (λ fs. AreRows (inner_sets p.one p.span1) fs (map (inner_row p) rows)) (sym s2)
    (rows_stand (inner_sets p.one p.span1) (inner_sets p.two p.span2) (inner_row p) rows (λ r i.
    let next = row_stands one' two' all ok.last r (there r i) in
    inner_row_next p r in1.0 in1.1 in2.0 in2.1
    (subst (λ ss. IsStepBelow (form_sets ss) (Some (last_set r 1))) (sym e1) next.one)
    (subst (λ ss. IsStepBelow (form_sets ss) (Some (last_set r 2))) (sym e2) next.two))))
