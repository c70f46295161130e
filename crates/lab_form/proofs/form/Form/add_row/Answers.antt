use Rattle.std.proofs.Common.{◌≡◌, ◌<◌, ◌≤◌, length, ℕ, List, [], ◌∷◌, ◌++◌, sym, ap, ◌∙◌, subst, arith}
use Rattle.std.specs.Prelude.{vec_capacity}
use Rattle.lab_form.specs.declared.items.FormRow.{FormRow}
use Rattle.lab_form.specs.Forms.{FormValue, last_of, IsNextRow}
use Rattle.lab_form.specs.Decisions.{short_decision}
use Rattle.lab_form.specs.Columns.{SeatValue, seat_with_row, form_in, AreKept}
use Rattle.lab_form.proofs.KeptLemmas.{decisions_of_row, kept_row}
use Rattle.lab_form.proofs.form.Form.add_row.Goals as goal

pub invariant_of-self : goal.invariant_of-self
invariant_of-self c =
    let s = c.self.inside in
    let row = c.args.row in
    let one : SeatValue = seat_with_row s.one (last_of row 1) in
    let two : SeatValue = seat_with_row s.two (last_of row 2) in
    let rows : List FormRow = c.push-2.new.items.items in
    let last : List (List ℕ) = c.push.new.items.items in
    let room : length s.rows.items < s.row_room = subst (λ (f : FormValue). length f.rows < f.row_room) (sym c.self.view_is) c.requires.room in
    let next : IsNextRow s.one.sets s.two.sets row = subst (λ (f : FormValue). IsNextRow f.sets1 f.sets2 row) (sym c.self.view_is) c.requires.next in
    let decisions : last ≡ s.decisions.items ++ decisions_of_row s.one.sets s.two.sets row ∷ [] =
    c.push.ensures.items
    ∙ ap (λ n. s.decisions.items ++ (n ∷ c.last_decision-2.result ∷ []) ∷ []) c.last_decision.ensures
    ∙ ap (λ n. s.decisions.items ++ (short_decision s.one.sets (last_of row 1) ∷ n ∷ []) ∷ []) c.last_decision-2.ensures in
    let kept = kept_row s.one s.two s.rows.items s.set_room s.row_room s.decisions.items row c.self.invariant.0 room next in
    let held : s.row_room ≤ vec_capacity c.push-2.new.items = omega (arith, c.self.invariant.1, c.push-2.ensures.room) in
    let more : s.row_room ≤ vec_capacity c.push.new.items = omega (arith, c.self.invariant.2, c.push.ensures.room) in (
      subst (λ (v : SeatValue). AreKept (form_in v c.add_row-2.new.self rows s.set_room s.row_room) v c.add_row-2.new.self last) (sym c.add_row.ensures)
          (subst (λ (w : SeatValue). AreKept (form_in one w rows s.set_room s.row_room) one w last) (sym c.add_row-2.ensures)
          (subst (λ (rs : List FormRow). AreKept (form_in one two rs s.set_room s.row_room) one two last) (sym c.push-2.ensures.items)
          (subst (λ (ls : List (List ℕ)). AreKept (form_in one two (s.rows.items ++ row ∷ []) s.set_room s.row_room) one two ls) (sym decisions) kept))),
      held,
      more,
    )
