use Rattle.std.proofs.Common.{rules, ◌≡◌, ◌<◌, ◌≤◌, List, [], length, get_or, inl, inr, refl, sym, ap, ◌∙◌, subst, arith}
use Rattle.std.specs.Prelude.{slice_index}
use Rattle.std.proofs.lemmas.Int.{ints}
use Rattle.std.proofs.lemmas.List.{take_all}
use Rattle.lab_math.specs.Sums.{total}
use Rattle.lab_form.specs.declared.items.FormSet.{FormSet}
use Rattle.lab_form.specs.declared.items.FormRow.{FormRow}
use Rattle.lab_form.specs.Forms.{AreRows, last_of}
use Rattle.lab_form.specs.Decisions.{short_decision}
use Rattle.lab_best.specs.Rows.{row_term, IsSmallTerm}
use Rattle.lab_best.specs.Kept.{AreKept}
use Rattle.lab_best.proofs.KeptLemmas.{nothing_known}
use Rattle.lab_best.proofs.NumberLemmas.{total_next}
use Rattle.lab_best.proofs.ThroughLemmas.{no_row}
use Rattle.lab_best.proofs.FormLemmas.{row_decision, decisions_length, small_terms, terms_total}
use Rattle.lab_best.proofs.expectation.expect.Goals as goal

pub row_term-term-requires-clause-small : goal.row_term-term-requires-clause-small
row_term-term-requires-clause-small c =
    let f = c.args.form.now in
    let g = slice_index c.args.grids 0 in
    let h = slice_index c.args.grids 1 in
    let i = c.loop-number.number in
    let steps : AreRows f.sets1 f.sets2 f.rows = subst (AreRows f.sets1 f.sets2) c.rows-rows.ensures.rows c.rows-rows.ensures.there in
    let there : i < length f.rows = subst (λ (rs : List FormRow). i < length rs) c.rows-rows.ensures.rows (omega arith) in
    subst (λ (ss : List FormSet). IsSmallTerm g h ss c.paths_of-paths_two.result.sets.now (get_or c.rows-rows.result.now i no_row)) (sym c.paths_of-paths_one.ensures.sets)
    (subst (λ (ss : List FormSet). IsSmallTerm g h f.sets1 ss (get_or c.rows-rows.result.now i no_row)) (sym c.paths_of-paths_two.ensures.sets)
    (subst (λ (rs : List FormRow). IsSmallTerm g h f.sets1 f.sets2 (get_or rs i no_row)) (sym c.rows-rows.ensures.rows)
    (small_terms f g h c.requires.small steps i no_row there)))

pub bounds-decisions-number : goal.bounds-decisions-number
bounds-decisions-number c = omega (arith, subst (λ (rs : List FormRow). c.loop-number.number < length rs) c.rows-rows.ensures.rows (omega arith), ap length c.last_decisions-decisions.ensures, decisions_length c.args.form.now)

pub row_term-term-requires-clause-decision_one : goal.row_term-term-requires-clause-decision_one
row_term-term-requires-clause-decision_one c =
    let f = c.args.form.now in
    let there : c.loop-number.number < length f.rows = subst (λ (rs : List FormRow). c.loop-number.number < length rs) c.rows-rows.ensures.rows (omega arith) in
    row_decision f 1 (inl refl) c.loop-number.number there c.last_decisions-decisions.result.now [] no_row c.last_decisions-decisions.ensures
    ∙ ap (λ (ss : List FormSet). short_decision ss (last_of (get_or f.rows c.loop-number.number no_row) 1)) (sym c.paths_of-paths_one.ensures.sets)
    ∙ ap (λ (rs : List FormRow). short_decision c.paths_of-paths_one.result.sets.now (last_of (get_or rs c.loop-number.number no_row) 1)) (sym c.rows-rows.ensures.rows)

pub row_term-term-requires-clause-decision_two : goal.row_term-term-requires-clause-decision_two
row_term-term-requires-clause-decision_two c =
    let f = c.args.form.now in
    let there : c.loop-number.number < length f.rows = subst (λ (rs : List FormRow). c.loop-number.number < length rs) c.rows-rows.ensures.rows (omega arith) in
    row_decision f 2 (inr refl) c.loop-number.number there c.last_decisions-decisions.result.now [] no_row c.last_decisions-decisions.ensures
    ∙ ap (λ (ss : List FormSet). short_decision ss (last_of (get_or f.rows c.loop-number.number no_row) 2)) (sym c.paths_of-paths_two.ensures.sets)
    ∙ ap (λ (rs : List FormRow). short_decision c.paths_of-paths_two.result.sets.now (last_of (get_or rs c.loop-number.number no_row) 2)) (sym c.rows-rows.ensures.rows)

pub loop-number-init : goal.loop-number-init
loop-number-init c = record {
  value = search rules;
  one = nothing_known (slice_index c.args.grids 0) c.args.form.now.sets1 c.args.one.now 256 c.nothing_kept.result c.nothing_kept.ensures c.requires.small.grids.0 (omega arith);
  two = nothing_known (slice_index c.args.grids 1) c.args.form.now.sets2 c.args.two.now 256 c.nothing_kept-2.result c.nothing_kept-2.ensures c.requires.small.grids.2 (omega arith);
  within = omega arith;
  small = search rules;
}

pub loop-number-preserved : goal.loop-number-preserved
loop-number-preserved c =
    let f = c.args.form.now in
    let g = slice_index c.args.grids 0 in
    let h = slice_index c.args.grids 1 in
    let i = c.loop-number.number in
    let term = row_term g h f.sets1 f.sets2 c.args.one.now c.args.two.now in
    let there : i < length f.rows = subst (λ (rs : List FormRow). i < length rs) c.rows-rows.ensures.rows (omega arith) in
    let own : c.row_term-term.result.0 ≡ term (get_or f.rows i no_row) =
    c.row_term-term.ensures.value
    ∙ ap (λ (ss : List FormSet). row_term g h ss c.paths_of-paths_two.result.sets.now c.args.one.now c.args.two.now (get_or c.rows-rows.result.now i no_row)) c.paths_of-paths_one.ensures.sets
    ∙ ap (λ (ss : List FormSet). row_term g h f.sets1 ss c.args.one.now c.args.two.now (get_or c.rows-rows.result.now i no_row)) c.paths_of-paths_two.ensures.sets
    ∙ ap (λ (rs : List FormRow). term (get_or rs i no_row)) c.rows-rows.ensures.rows in
    record {
      value = c.plus-sum.ensures ∙ (omega (arith, ints, c.loop-number.invariant.value, own, total_next term f.rows i no_row there));
      one = subst (λ (ss : List FormSet). AreKept g ss c.args.one.now c.row_term-term.new.kept_one) c.paths_of-paths_one.ensures.sets c.row_term-term.ensures.kept_one;
      two = subst (λ (ss : List FormSet). AreKept h ss c.args.two.now c.row_term-term.new.kept_two) c.paths_of-paths_two.ensures.sets c.row_term-term.ensures.kept_two;
      within = omega (arith, there);
      small = omega (arith, ints, c.loop-number.invariant.small, c.row_term-term.ensures.within, c.plus-sum.ensures);
    }

pub returns : goal.returns
returns c =
    let f = c.args.form.now in
    let g = slice_index c.args.grids 0 in
    let h = slice_index c.args.grids 1 in
    let past : length f.rows ≤ c.loop-number.number = subst (λ (rs : List FormRow). length rs ≤ c.loop-number.number) c.rows-rows.ensures.rows (omega arith) in
    c.loop-number.invariant.value
    ∙ ap (total (row_term g h f.sets1 f.sets2 c.args.one.now c.args.two.now)) (take_all c.loop-number.number f.rows past)
    ∙ terms_total f g h c.args.one.now c.args.two.now
