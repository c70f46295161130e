use Rattle.std.proofs.Common.{◌<◌, length, sym, subst}
use Rattle.lab_form.specs.Forms.{FormValue, IsNextSet}
use Rattle.lab_form.specs.Columns.{SeatValue, form_in, AreKept}
use Rattle.lab_form.proofs.KeptLemmas.{sets_one, sets_two, kept_set1, kept_set2}
use Rattle.lab_form.proofs.form.Form.add_set.Goals as goal

pub invariant_of-self : goal.invariant_of-self
invariant_of-self c =
    let s = c.self.inside in
    let old = sets_one c.args.self.now c.args.seat c.if-seat-eq1.true in
    let room : length s.one.sets < s.set_room =
    subst (λ (f : FormValue). length f.sets1 < f.set_room) (sym c.self.view_is) (subst (λ ss. length ss < c.args.self.now.set_room) old c.requires.room) in
    let next : IsNextSet s.one.sets c.args.set =
    subst (λ (f : FormValue). IsNextSet f.sets1 c.args.set) (sym c.self.view_is) (subst (λ ss. IsNextSet ss c.args.set) old c.requires.next) in (
      subst (λ (v : SeatValue). AreKept (form_in v s.two s.rows.items s.set_room s.row_room) v s.two s.decisions.items) (sym c.add.ensures)
          (kept_set1 s.one s.two s.rows.items s.set_room s.row_room s.decisions.items c.args.set c.self.invariant.0 room next),
      c.self.invariant.1,
      c.self.invariant.2,
    )

pub invariant_of-self-else-seat-eq1 : goal.invariant_of-self-else-seat-eq1
invariant_of-self-else-seat-eq1 c =
    let s = c.self.inside in
    let old = sets_two c.args.self.now c.args.seat c.if-seat-eq1.false in
    let room : length s.two.sets < s.set_room =
    subst (λ (f : FormValue). length f.sets2 < f.set_room) (sym c.self.view_is) (subst (λ ss. length ss < c.args.self.now.set_room) old c.requires.room) in
    let next : IsNextSet s.two.sets c.args.set =
    subst (λ (f : FormValue). IsNextSet f.sets2 c.args.set) (sym c.self.view_is) (subst (λ ss. IsNextSet ss c.args.set) old c.requires.next) in (
      subst (λ (v : SeatValue). AreKept (form_in s.one v s.rows.items s.set_room s.row_room) s.one v s.decisions.items) (sym c.add-else-seat-eq1.ensures)
          (kept_set2 s.one s.two s.rows.items s.set_room s.row_room s.decisions.items c.args.set c.self.invariant.0 room next),
      c.self.invariant.1,
      c.self.invariant.2,
    )
