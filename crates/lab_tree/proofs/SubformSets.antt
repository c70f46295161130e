-- The sets and rows of a subgame stand in a form.
use Rattle.std.proofs.Common.{◌≡◌, ℕ, zero, suc, ◌+◌, ◌-◌, ◌<◌, ◌≤◌, List, [], ◌∷◌, Bool, true, false, cond, map, take, drop, length, get_or, Option, Some, None, refl, sym, ap, ◌∙◌, subst, arith}
use Rattle.std.specs.Prelude.{nat_le, nat_lt, slice_range}
use Rattle.std.specs.Option.{option_and_then}
use Rattle.std.proofs.lemmas.Bool.{and_parts, leb-true, ltb-true}
use Rattle.std.proofs.lemmas.List.{get_or-map, length-map, length-take-le, length-drop, get_or-take, get_or-drop, take-map, drop-map, take-take}
use Rattle.std.proofs.Math.Seq.{take-length}
use Rattle.lab_math.specs.Sums.{sum_over}
use Rattle.lab_defs_value.specs.Tables.{weights_of, first_weight}
use Rattle.lab_defs_value.proofs.SubgameRows.{first_weight_from}
use Rattle.lab_form.specs.declared.items.SetId.{SetId}
use Rattle.lab_form.specs.declared.items.Span.{Span}
use Rattle.lab_form.specs.declared.items.FormSet.{FormSet}
use Rattle.lab_form.specs.Forms.{actions_in, weight_count, IsStepBelow, IsNextSet, IsNextRow, AreSets}
use Rattle.lab_tree.specs.declared.info.SetInfo.{SetInfo}
use Rattle.lab_tree.specs.declared.info.RowInfo.{RowInfo}
use Rattle.lab_tree.specs.Trees.{set_id}
use Rattle.lab_tree.specs.TreeForms.{form_set, form_sets, last_set}
use Rattle.lab_tree.specs.Subforms.{is_within, inner_step, inner_set, first_of, inner_sets, SubgameParts, inner_row}
use Rattle.lab_tree.proofs.SubformLemmas.{step_below_all}
use Rattle.lab_tree.proofs.TreeFormLemmas.{no_set, set_next}

-- the numbers of actions of sets
abbrev acts : List SetInfo → List ℕ
acts ss = actions_in (form_sets ss)

-- that of one of them
acts_read : (ss : List SetInfo) (k : ℕ) → get_or (acts ss) k 0 ≡ (get_or ss k no_set).actions
acts_read [] k = refl
acts_read (x ∷ ss) zero = refl
acts_read (x ∷ ss) (suc k) = acts_read ss k

-- those of the first ones
acts_take : (n : ℕ) (ss : List SetInfo) → acts (take n ss) ≡ take n (acts ss)
acts_take n ss = ap actions_in (sym (take-map form_set n ss)) ∙ sym (take-map (λ (s : FormSet). s.actions) n (form_sets ss))

-- those after the first ones
acts_drop : (n : ℕ) (ss : List SetInfo) → acts (drop n ss) ≡ drop n (acts ss)
acts_drop n ss = ap actions_in (sym (drop-map form_set n ss)) ∙ sym (drop-map (λ (s : FormSet). s.actions) n (form_sets ss))

-- the place of a set's first weight
first_is : (ss : List SetInfo) (i : ℕ) → AreSets (form_sets ss) → i < length ss → (get_or ss i no_set).first_weight ≡ first_weight (acts ss) i
first_is ss i ok l = (set_next ss i no_set ok l).first ∙ ap (sum_over weights_of) (sym (take-map (λ (s : FormSet). s.actions) i (form_sets ss)))

module _ (ss : List SetInfo) (s : Span) (order : s.from ≤ s.to) (end : s.to ≤ length ss) where
  -- the sets of the span
  abbrev pub part : List SetInfo
  part = slice_range ss s.from s.to

  -- as many as it has numbers
  pub part_long : length part ≡ s.to - s.from
  part_long = length-take-le (s.to - s.from) (drop s.from ss) (omega (arith, end, length-drop s.from ss))

  -- each is that set of the tree
  pub part_at : (i : ℕ) (d : SetInfo) → i < s.to - s.from → get_or part i d ≡ get_or ss (s.from + i) d
  part_at i d l = get_or-take (s.to - s.from) (drop s.from ss) i d l ∙ get_or-drop s.from ss i d

  -- as many sets of the subgame
  pub inner_long : length (inner_sets ss s) ≡ s.to - s.from
  inner_long = length-map part (inner_set s (first_of part)) ∙ part_long

  -- each is made from that set
  inner_at : (i : ℕ) (d : FormSet) → i < s.to - s.from → get_or (inner_sets ss s) i d ≡ inner_set s (first_of part) (get_or ss (s.from + i) no_set)
  inner_at i d l =
      get_or-map (inner_set s (first_of part)) part i no_set d (omega (arith, l, part_long)) ∙ ap (inner_set s (first_of part)) (part_at i no_set l)

  -- the numbers of actions of the first ones are those of the tree's sets
  inner_actions : (i : ℕ) → actions_in (take i (inner_sets ss s)) ≡ take i (acts part)
  inner_actions i = same i part
    where
      same : (i : ℕ) (xs : List SetInfo) → actions_in (take i (map (inner_set s (first_of part)) xs)) ≡ take i (acts xs)
      same zero xs = refl
      same (suc i) [] = refl
      same (suc i) (x ∷ xs) = ap (λ ns. x.actions ∷ ns) (same i xs)

  -- that of one of them
  inner_read : (i k : ℕ) → k < i → k < s.to - s.from → get_or (actions_in (take i (inner_sets ss s))) k 0 ≡ get_or (acts ss) (s.from + k) 0
  inner_read i k l m =
      ap (λ ns. get_or ns k 0) (inner_actions i) ∙ get_or-take i (acts part) k 0 l ∙ acts_read part k
      ∙ ap (λ (x : SetInfo). x.actions) (part_at k no_set m) ∙ sym (acts_read ss (s.from + k))

  -- the weights before one of them, inside
  inner_first : (i : ℕ) → i < s.to - s.from → AreSets (form_sets ss) → (get_or ss (s.from + i) no_set).first_weight - first_of part ≡ weight_count (take i (inner_sets ss s))
  inner_first i l ok =
      let here = first_is ss (s.from + i) ok (omega (arith, l, end)) in
      let none : s.from + 0 ≡ s.from = omega arith in
      let start : first_of part ≡ first_weight (acts ss) s.from =
      ap (λ (x : SetInfo). x.first_weight) (part_at 0 no_set (omega (arith, l)) ∙ ap (λ k. get_or ss k no_set) none) ∙ first_is ss s.from ok (omega (arith, l, end)) in
      let inside : weight_count (take i (inner_sets ss s)) ≡ first_weight (drop s.from (acts ss)) i =
      ap (sum_over weights_of) (inner_actions i)
      ∙ ap (λ ns. sum_over weights_of (take i ns)) (acts_take (s.to - s.from) (drop s.from ss) ∙ ap (take (s.to - s.from)) (acts_drop s.from ss))
      ∙ ap (sum_over weights_of) (take-take i (s.to - s.from) (drop s.from (acts ss)) (omega (arith, l))) in
      omega (arith, here, start, inside, first_weight_from (acts ss) s.from i)

  -- a step that is there is there inside, or none
  inner_step_below : (i : ℕ) (t : SetId × ℕ) → i ≤ s.to - s.from → t.0.0 < s.from + i → t.1 < get_or (acts ss) t.0.0 0 → IsStepBelow (take i (inner_sets ss s)) (inner_step s t)
  inner_step_below i t le low act = at (is_within s t.0.0) refl
    where
      at : (b : Bool) → is_within s t.0.0 ≡ b → IsStepBelow (take i (inner_sets ss s)) (cond b (Some (set_id (t.0.0 - s.from), t.1)) None)
      at true e =
          let both = and_parts (nat_le s.from t.0.0) (nat_lt t.0.0 s.to) e in
          let ge = leb-true s.from t.0.0 both.0 in
          let place : s.from + (t.0.0 - s.from) ≡ t.0.0 = omega (arith, ge) in
          let less : t.0.0 - s.from < i = omega (arith, ge, low) in (
            omega (arith, less, length-take-le i (inner_sets ss s) (omega (arith, le, inner_long))),
            subst (λ n. t.1 < n) (sym (inner_read i (t.0.0 - s.from) less (omega (arith, less, le)) ∙ ap (λ k. get_or (acts ss) k 0) place)) act,
          )
      at false e = tt

  -- so is the parent of a set
  inner_parent : (i : ℕ) (o : Option (SetId × ℕ)) → i ≤ s.to - s.from → IsStepBelow (take (s.from + i) (form_sets ss)) o → IsStepBelow (take i (inner_sets ss s)) (option_and_then (inner_step s) o)
  inner_parent i None le b = tt
  inner_parent i (Some t) le b =
      let many : s.from + i ≤ length (form_sets ss) = omega (arith, le, end, order, length-map ss form_set) in
      let all = step_below_all (form_sets ss) (s.from + i) (Some t) many b in
      inner_step_below i t le (omega (arith, all.1)) all.0.1

  -- the sets of a span stand in a form
  pub inner_stand : AreSets (form_sets ss) → AreSets (inner_sets ss s)
  inner_stand ok i d l =
      let low : i < s.to - s.from = omega (arith, l, inner_long) in
      let next = set_next ss (s.from + i) no_set ok (omega (arith, low, end)) in
      subst (IsNextSet (take i (inner_sets ss s))) (sym (inner_at i d low)) (record {
        some = next.some;
        parent = inner_parent i (get_or ss (s.from + i) no_set).parent (omega (arith, low)) next.parent;
        first = inner_first i low ok;
      })

  -- a step of a row is there inside, or none
  pub inner_last : (t : SetId × ℕ) → IsStepBelow (form_sets ss) (Some t) → IsStepBelow (inner_sets ss s) (inner_step s t)
  inner_last t b = at (is_within s t.0.0) refl
    where
      at : (b : Bool) → is_within s t.0.0 ≡ b → IsStepBelow (inner_sets ss s) (inner_step s t)
      at true e =
          let both = and_parts (nat_le s.from t.0.0) (nat_lt t.0.0 s.to) e in
          let low = ltb-true t.0.0 s.to both.1 in
          subst (λ sets. IsStepBelow sets (inner_step s t)) (ap (λ n. take n (inner_sets ss s)) (sym inner_long) ∙ take-length (inner_sets ss s))
          (inner_step_below (s.to - s.from) t (omega arith) (omega (arith, low, order)) b.1)
      at false e = subst (λ c. IsStepBelow (inner_sets ss s) (cond c (Some (set_id (t.0.0 - s.from), t.1)) None)) (sym e) tt

-- a row of the tree may stand in the form of a subgame
pub inner_row_next : (p : SubgameParts) (r : RowInfo) → p.span1.from ≤ p.span1.to → p.span1.to ≤ length p.one → p.span2.from ≤ p.span2.to → p.span2.to ≤ length p.two
    → IsStepBelow (form_sets p.one) (Some (last_set r 1)) → IsStepBelow (form_sets p.two) (Some (last_set r 2)) → IsNextRow (inner_sets p.one p.span1) (inner_sets p.two p.span2) (inner_row p r)
inner_row_next p r order1 end1 order2 end2 last1 last2 = record { one = inner_last p.one p.span1 order1 end1 (last_set r 1) last1; two = inner_last p.two p.span2 order2 end2 (last_set r 2) last2 }
