-- What a form keeps, with one more set or row.
use Rattle.std.proofs.Common.{◌≡◌, ℕ, suc, ◌<◌, ◌≤◌, ◌⊎◌, inl, inr, Option, Some, None, List, [], ◌∷◌, ◌++◌, cond, length, get_or, sym, ap, ◌∙◌, subst, arith}
use Rattle.std.proofs.lemmas.Bool.{cases_lt, ne_eqb}
use Rattle.std.proofs.lemmas.List.{length-append, get_or_append_left, get_or_push, length-map, map-append}
use Rattle.lab_form.specs.declared.items.SetId.{SetId}
use Rattle.lab_form.specs.declared.items.FormSet.{FormSet}
use Rattle.lab_form.specs.declared.items.FormRow.{FormRow}
use Rattle.lab_form.specs.Forms.{FormValue, sets_of, actions_in, last_of, IsStepBelow, IsNextSet, IsNextRow, AreRows}
use Rattle.lab_form.specs.Decisions.{short_decision}
use Rattle.lab_form.specs.Columns.{SeatValue, seat_with_set, seat_with_row, with_place, AreChains, form_in, AreKept}
use Rattle.lab_form.proofs.ChainLemmas.{step_placed, chains_item, chains_place}
use Rattle.lab_form.proofs.DecisionLemmas.{sets_more, rows_same1, rows_same2}

-- ---- seats

-- the sets of seat 1
pub sets_one : (f : FormValue) (seat : ℕ) → seat ≡ 1 → sets_of f seat ≡ f.sets1
sets_one f seat e = ap (sets_of f) e

-- the sets of the other seat
pub sets_two : (f : FormValue) (seat : ℕ) → (seat ≡ 1 → ⊥) → sets_of f seat ≡ f.sets2
sets_two f seat e = ap (λ b. cond b f.sets1 f.sets2) (ne_eqb seat 1 e)

-- ---- one more set

-- a step that is there is so among more sets
step_longer : (sets more : List FormSet) (step : Option (SetId × ℕ)) → IsStepBelow sets step → IsStepBelow (sets ++ more) step
step_longer sets more None b = tt
step_longer sets more (Some t) b = (
  omega (arith, b.0, length-append sets more),
  subst (λ n. t.1 < n)
      (sym (ap (λ ns. get_or ns t.0.0 0) (map-append (λ (s : FormSet). s.actions) sets more)
      ∙ get_or_append_left (actions_in sets) (actions_in more) 0 t.0.0 (omega (arith, b.0, length-map sets (λ (s : FormSet). s.actions))))) b.1,
)

-- chains of rows with a place for one more set
rows_placed : (sets : List FormSet) (s : FormSet) (seat : ℕ) (rows : List FormRow) (v : SeatValue) → AreChains (length sets) (λ (r : FormRow). last_of r seat) rows v.rows
    → ((i : ℕ) (d : FormRow) → i < length rows → IsStepBelow sets (last_of (get_or rows i d) seat))
    → AreChains (length (sets ++ s ∷ [])) (λ (r : FormRow). last_of r seat) rows (with_place v.rows)
rows_placed sets s seat rows v ok there =
    let long : suc (length sets) ≡ length (sets ++ s ∷ []) = omega (arith, length-append sets (s ∷ [])) in
    subst (λ n. AreChains n (λ (r : FormRow). last_of r seat) rows (with_place v.rows)) long
    (chains_place (length sets) (λ (r : FormRow). last_of r seat) rows v.rows ok (λ i d l. step_placed sets (last_of (get_or rows i d) seat) (there i d l)))

-- a set of seat 1
pub kept_set1 : (one two : SeatValue) (rows : List FormRow) (set_room row_room : ℕ) (last : List (List ℕ)) (s : FormSet) → AreKept (form_in one two rows set_room row_room) one two last
    → length one.sets < set_room → IsNextSet one.sets s → AreKept (form_in (seat_with_set one s) two rows set_room row_room) (seat_with_set one s) two last
kept_set1 one two rows set_room row_room last s k l next = record {
  value = record {
    room1 = omega (arith, l, length-append one.sets (s ∷ []));
    room2 = k.value.room2;
    room = k.value.room;
    sets1 = sets_more one.sets s k.value.sets1 next;
    sets2 = k.value.sets2;
    rows = λ i d w. record { one = step_longer one.sets (s ∷ []) (last_of (get_or rows i d) 1) (k.value.rows i d w).one; two = (k.value.rows i d w).two };
  };
  rows1 = rows_placed one.sets s 1 rows one k.rows1 (λ i d w. (k.value.rows i d w).one);
  rows2 = k.rows2;
  decisions = k.decisions ∙ sym (rows_same1 one.sets two.sets s rows k.value.sets1 next k.value.rows);
  set_room1 = k.set_room1;
  set_room2 = k.set_room2;
  row_room1 = k.row_room1;
  row_room2 = k.row_room2;
}

-- a set of seat 2
pub kept_set2 : (one two : SeatValue) (rows : List FormRow) (set_room row_room : ℕ) (last : List (List ℕ)) (s : FormSet) → AreKept (form_in one two rows set_room row_room) one two last
    → length two.sets < set_room → IsNextSet two.sets s → AreKept (form_in one (seat_with_set two s) rows set_room row_room) one (seat_with_set two s) last
kept_set2 one two rows set_room row_room last s k l next = record {
  value = record {
    room1 = k.value.room1;
    room2 = omega (arith, l, length-append two.sets (s ∷ []));
    room = k.value.room;
    sets1 = k.value.sets1;
    sets2 = sets_more two.sets s k.value.sets2 next;
    rows = λ i d w. record { one = (k.value.rows i d w).one; two = step_longer two.sets (s ∷ []) (last_of (get_or rows i d) 2) (k.value.rows i d w).two };
  };
  rows1 = k.rows1;
  rows2 = rows_placed two.sets s 2 rows two k.rows2 (λ i d w. (k.value.rows i d w).two);
  decisions = k.decisions ∙ sym (rows_same2 one.sets two.sets s rows k.value.sets2 next k.value.rows);
  set_room1 = k.set_room1;
  set_room2 = k.set_room2;
  row_room1 = k.row_room1;
  row_room2 = k.row_room2;
}

-- ---- one more row

-- rows with one more that may come next
rows_more : (sets1 sets2 : List FormSet) (rows : List FormRow) (row : FormRow) → AreRows sets1 sets2 rows → IsNextRow sets1 sets2 row → AreRows sets1 sets2 (rows ++ row ∷ [])
rows_more sets1 sets2 rows row ok next i d l = at (cases_lt i (length rows))
  where
    at : (i < length rows) ⊎ (length rows ≤ i) → IsNextRow sets1 sets2 (get_or (rows ++ row ∷ []) i d)
    at (inl w) = subst (IsNextRow sets1 sets2) (sym (get_or_append_left rows (row ∷ []) d i w)) (ok i d w)
    at (inr w) = subst (IsNextRow sets1 sets2) (sym (get_or_push rows row d i (omega (arith, w, l, length-append rows (row ∷ []))))) next

-- the decisions of a row
abbrev pub decisions_of_row : (sets1 sets2 : List FormSet) → FormRow → List ℕ
decisions_of_row sets1 sets2 r = short_decision sets1 (last_of r 1) ∷ short_decision sets2 (last_of r 2) ∷ []

pub kept_row : (one two : SeatValue) (rows : List FormRow) (set_room row_room : ℕ) (last : List (List ℕ)) (row : FormRow) → AreKept (form_in one two rows set_room row_room) one two last
    → length rows < row_room → IsNextRow one.sets two.sets row
    → AreKept (form_in (seat_with_row one (last_of row 1)) (seat_with_row two (last_of row 2)) (rows ++ row ∷ []) set_room row_room)
    (seat_with_row one (last_of row 1)) (seat_with_row two (last_of row 2)) (last ++ decisions_of_row one.sets two.sets row ∷ [])
kept_row one two rows set_room row_room last row k l next = record {
  value = record {
    room1 = k.value.room1;
    room2 = k.value.room2;
    room = omega (arith, l, length-append rows (row ∷ []));
    sets1 = k.value.sets1;
    sets2 = k.value.sets2;
    rows = rows_more one.sets two.sets rows row k.value.rows next;
  };
  rows1 = chains_item (length one.sets) (λ (r : FormRow). last_of r 1) rows one.rows row k.rows1 (step_placed one.sets (last_of row 1) next.one);
  rows2 = chains_item (length two.sets) (λ (r : FormRow). last_of r 2) rows two.rows row k.rows2 (step_placed two.sets (last_of row 2) next.two);
  decisions = ap (λ ns. ns ++ decisions_of_row one.sets two.sets row ∷ []) k.decisions ∙ sym (map-append (decisions_of_row one.sets two.sets) rows (row ∷ []));
  set_room1 = k.set_room1;
  set_room2 = k.set_room2;
  row_room1 = k.row_room1;
  row_room2 = k.row_room2;
}
