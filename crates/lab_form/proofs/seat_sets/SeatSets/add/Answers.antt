use Rattle.std.proofs.Common.{rules, ◌≡◌, ◌<◌, ◌≤◌, ◌^◌, [], ◌∷◌, ◌++◌, cond, length, sym, ap, ◌∙◌, subst, arith}
use Rattle.std.specs.Prelude.{nat_le, vec_capacity}
use Rattle.lab_form.specs.Forms.{IsNextSet}
use Rattle.lab_form.specs.Decisions.{short_decision, last_set}
use Rattle.lab_form.specs.Columns.{SeatValue, with_number, with_place}
use Rattle.lab_form.proofs.ColumnLemmas.{columns_added}
use Rattle.lab_form.proofs.SetLemmas.{deciding_few}
use Rattle.lab_form.proofs.seat_sets.SeatSets.add.Goals as goal

pub invariant_of-self : goal.invariant_of-self
invariant_of-self c =
    let s = c.self.inside in
    let set = c.args.set in
    let old : s.sets.items ≡ c.args.self.now.sets = ap (λ (v : SeatValue). v.sets) c.self.view_is in
    let room : length s.sets.items < s.set_room = subst (λ (v : SeatValue). length v.sets < v.set_room) (sym c.self.view_is) c.requires.room in
    let next : IsNextSet s.sets.items set = subst (λ (v : SeatValue). IsNextSet v.sets set) (sym c.self.view_is) c.requires.next in
    let few : set.first_weight < 2 ^ 32 = search rules in
    let number : c.len-number.result ≡ length s.sets.items = search rules in
    let decides = c.push_where.ensures.items ∙ ap (λ n. s.deciding.items ++ cond (nat_le 2 set.actions) (n ∷ []) []) number in
    let columns = columns_added s.sets.items c.push-3.new.items.items s.above.items c.push.new.items.items s.over.items c.push-2.new.items.items s.deciding.items c.push_where.new.items.items
    s.children c.add_place.new.self s.rows c.add_place-2.new.self s.set_room c.last_decision-above.result c.last_set-over.result set
    c.self.invariant.0 room next few (c.last_decision-above.ensures ∙ ap (λ ss. short_decision ss set.parent) (sym old)) (c.last_set-over.ensures ∙ ap (λ ss. last_set ss set.parent) (sym old))
    c.push-3.ensures.items c.push.ensures.items c.push-2.ensures.items decides (c.add_place.ensures ∙ ap with_place (c.add.ensures ∙ ap (with_number s.children) c.step_place.ensures)) c.add_place-2.ensures in
    let sets : s.set_room ≤ vec_capacity c.push-3.new.items = omega (arith, c.self.invariant.1, c.push-3.ensures.room) in
    let above : s.set_room ≤ vec_capacity c.push.new.items = omega (arith, c.self.invariant.2, c.push.ensures.room) in
    let over : s.set_room ≤ vec_capacity c.push-2.new.items = omega (arith, c.self.invariant.3, c.push-2.ensures.room) in
    let deciding : s.set_room ≤ vec_capacity c.push_where.new.items = omega (arith, c.self.invariant.4, c.push_where.ensures.room) in
    (columns, sets, above, over, deciding, c.self.invariant.5)

pub push_where-requires : goal.push_where-requires
push_where-requires c =
    let s = c.self.inside in
    let room : length s.sets.items < s.set_room = subst (λ (v : SeatValue). length v.sets < v.set_room) (sym c.self.view_is) c.requires.room in
    let few : length s.deciding.items ≤ length s.sets.items = subst (λ ns. length ns ≤ length s.sets.items) (sym c.self.invariant.0.deciders) (deciding_few s.sets.items) in
    omega (arith, room, few, c.self.invariant.4)
