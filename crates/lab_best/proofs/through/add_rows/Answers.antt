use Rattle.std.proofs.Common.{◌≡◌, ℕ, suc, ◌+◌, ◌<◌, ◌≤◌, ◌^◌, ◌+ℤ◌, List, [], length, get_or, Some, inl, inr, refl, sym, ap, ◌∙◌, subst, arith}
use Rattle.std.proofs.lemmas.Int.{ints}
use Rattle.std.proofs.lemmas.List.{length-map}
use Rattle.lab_math.specs.Sums.{total}
use Rattle.lab_math.proofs.Members.{In}
use Rattle.lab_defs_game.specs.Seats.{other}
use Rattle.lab_defs_value.specs.Bounds.{at, through_rows}
use Rattle.lab_form.specs.declared.items.FormSet.{FormSet}
use Rattle.lab_form.specs.declared.items.FormRow.{FormRow}
use Rattle.lab_form.specs.Forms.{AreRows, sets_of, last_of, row_model}
use Rattle.lab_form.specs.Decisions.{short_decision}
use Rattle.lab_form.specs.Chains.{rows_of, is_at}
use Rattle.lab_form.proofs.CallerLemmas.{numbers_pass}
use Rattle.lab_best.specs.Parts.{part_at}
use Rattle.lab_best.specs.Rows.{row_worth, IsSmallRow}
use Rattle.lab_best.specs.Values.{strategy_in, numbers}
use Rattle.lab_best.proofs.NumberLemmas.{walk_total}
use Rattle.lab_best.proofs.ThroughLemmas.{no_row, numbers_few}
use Rattle.lab_best.proofs.FormLemmas.{row_decision, decisions_length, rows_walk, small_rows}
use Rattle.lab_best.proofs.through.add_rows.Goals as goal

pub loop-number-init : goal.loop-number-init
loop-number-init c =
    let f = c.args.form.now in
    let seat = other c.args.keeper in
    let walk : c.into_iter-number-iterator.result ≡ rows_of seat f.rows (Some c.args.set) = c.into_iter-number-iterator.ensures.into_iter_gives ∙ c.rows_at-number-items.ensures ∙ ap (λ k. rows_of k f.rows (Some c.args.set)) c.other.ensures in
    let steps : AreRows f.sets1 f.sets2 f.rows = subst (AreRows f.sets1 f.sets2) c.requires.rows c.requires.row_steps in
    let few : length c.into_iter-number-iterator.result ≤ 2 ^ 17 =
    omega (arith, ap length walk, numbers_few (λ (r : FormRow). is_at (Some c.args.set) (last_of r seat)) f.rows, c.requires.small.few, length-map f.rows (row_model f.sets1 f.sets2)) in
    record {
      next = tt;
      ends = tt;
      places = refl;
      there = λ n i. subst (λ (rs : List FormRow). n < length rs) (sym c.requires.rows) (numbers_pass (λ (r : FormRow). is_at (Some c.args.set) (last_of r seat)) f.rows n no_row (subst (In n) walk i)).0;
      values = λ i l.
          ap (λ z. at (numbers c.args.out.now) i +ℤ z)
          (rows_walk f c.args.keeper c.args.d c.args.weights.now c.requires.order steps c.args.set c.args.first i c.args.rows.now c.args.paths.now.sets.now seat c.into_iter-number-iterator.result c.requires.rows c.requires.sets refl walk);
      kept = c.requires.kept;
      sizes = λ i l. omega (arith, few, c.requires.sizes i l);
    }

pub bounds-rows-number : goal.bounds-rows-number
bounds-rows-number c = c.loop-number.invariant.there c.in-Some.number (subst (In c.in-Some.number) (sym c.in-Some.ensures.steps) (inl refl))

pub bounds-decisions-number : goal.bounds-decisions-number
bounds-decisions-number c =
    let there = c.loop-number.invariant.there c.in-Some.number (subst (In c.in-Some.number) (sym c.in-Some.ensures.steps) (inl refl)) in
    omega (arith, subst (λ (rs : List FormRow). c.in-Some.number < length rs) c.requires.rows there, ap length c.requires.decisions, decisions_length c.args.form.now)

pub add_row-requires-clause-decision : goal.add_row-requires-clause-decision
add_row-requires-clause-decision c =
    let f = c.args.form.now in
    let n = c.in-Some.number in
    let there = c.loop-number.invariant.there n (subst (In n) (sym c.in-Some.ensures.steps) (inl refl)) in
    c.of_seat-decision.ensures
    ∙ row_decision f c.args.keeper c.requires.keeper n (subst (λ (rs : List FormRow). n < length rs) c.requires.rows there) c.args.decisions.now [] no_row c.requires.decisions
    ∙ ap (λ (ss : List FormSet). short_decision ss (last_of (get_or f.rows n no_row) c.args.keeper)) (sym c.requires.sets)
    ∙ ap (λ (rs : List FormRow). short_decision c.args.paths.now.sets.now (last_of (get_or rs n no_row) c.args.keeper)) (sym c.requires.rows)

pub add_row-requires-clause-small : goal.add_row-requires-clause-small
add_row-requires-clause-small c =
    let f = c.args.form.now in
    let n = c.in-Some.number in
    let there : n < length c.args.rows.now = c.loop-number.invariant.there n (subst (In n) (sym c.in-Some.ensures.steps) (inl refl)) in
    let steps : AreRows f.sets1 f.sets2 f.rows = subst (AreRows f.sets1 f.sets2) c.requires.rows c.requires.row_steps in
    subst (λ (ss : List FormSet). IsSmallRow c.args.keeper c.args.d ss (get_or c.args.rows.now n no_row)) (sym c.requires.sets)
    (subst (λ (rs : List FormRow). IsSmallRow c.args.keeper c.args.d (sets_of f c.args.keeper) (get_or rs n no_row)) (sym c.requires.rows)
    (small_rows f c.args.keeper c.args.d c.requires.keeper c.requires.small steps n no_row (subst (λ (rs : List FormRow). n < length rs) c.requires.rows there)))

pub add_row-requires-clause-sizes : goal.add_row-requires-clause-sizes
add_row-requires-clause-sizes c =
    λ i l.
    let split : length c.loop-number.number-iterator ≡ suc (length c.next.new.self) = ap length c.in-Some.ensures.steps in
    omega (arith, c.loop-number.invariant.sizes i l, split)

pub loop-number-preserved : goal.loop-number-preserved
loop-number-preserved c =
    let n = c.in-Some.number in
    let seat = other c.args.keeper in
    let part = λ (k i : ℕ). part_at c.args.first (last_of (get_or c.args.rows.now k no_row) seat) (row_worth c.args.keeper c.args.d c.args.paths.now.sets.now c.args.weights.now (get_or c.args.rows.now k no_row)) i in
    let was : (i : ℕ) → i < length c.add_row.new.out → i < length c.loop-number.out = λ i l. omega (arith, l, c.add_row.ensures.places) in
    let split : length c.loop-number.number-iterator ≡ suc (length c.next.new.self) = ap length c.in-Some.ensures.steps in
    record {
      next = tt;
      ends = tt;
      places = c.add_row.ensures.places ∙ c.loop-number.invariant.places;
      there = λ n i. c.loop-number.invariant.there n (subst (In n) (sym c.in-Some.ensures.steps) (inr i));
      values = λ i l.
          walk_total (λ k. part k i) (at (numbers c.loop-number.out) i) (at (numbers c.add_row.new.out) i) (part n i)
          (at (numbers c.args.out.now) i +ℤ through_rows (strategy_in c.args.form.now c.args.keeper c.args.d c.args.weights.now) c.args.set.0 (c.args.first + i))
          n c.loop-number.number-iterator c.next.new.self c.in-Some.ensures.steps (c.loop-number.invariant.values i (was i l)) (c.add_row.ensures.values i (was i l)) refl;
      kept = c.add_row.ensures.kept;
      sizes = λ i l. omega (arith, c.loop-number.invariant.sizes i (was i l), split, c.add_row.ensures.sizes i (was i l));
    }

pub returns-clause-values : goal.returns-clause-values
returns-clause-values c =
    λ i l.
    let left = ap (total (λ k. part_at c.args.first (last_of (get_or c.args.rows.now k no_row) (other c.args.keeper)) (row_worth c.args.keeper c.args.d c.args.paths.now.sets.now c.args.weights.now (get_or c.args.rows.now k no_row)) i)) c.in-None.ensures.steps.0 in
    let done = c.loop-number.invariant.values i (omega (arith, l, c.loop-number.invariant.places)) in
    omega (arith, ints, left, done)
