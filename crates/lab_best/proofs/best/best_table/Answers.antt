use Rattle.std.proofs.Common.{rules, ◌≡◌, ℕ, ◌+◌, ◌-◌, ◌<◌, ◌≤◌, ◌^◌, length, unsigned_abs, sym, ap, ◌∙◌, subst, arith}
use Rattle.std.specs.List.{All}
use Rattle.std.proofs.lemmas.List.Elements.{All-replicate}
use Rattle.std.proofs.lemmas.List.{length-set}
use Rattle.lab_form.specs.Forms.{sets_of}
use Rattle.lab_best.specs.Values.{strategy_in, numbers, AreBest}
use Rattle.lab_best.proofs.BestLemmas.{best_written, small_written, best_list, best_tight}
use Rattle.lab_best.proofs.FormLemmas.{keeper_grid, replies_length}
use Rattle.lab_best.proofs.KeptLemmas.{nothing_known}
use Rattle.lab_best.proofs.NumberLemmas.{nothing}
use Rattle.lab_units.specs.declared.worth.Worth.{Worth}
use Rattle.lab_best.proofs.best.best_table.Goals as goal

pub loop-number-init : goal.loop-number-init
loop-number-init c = record {
  places = search rules;
  within = search rules;
  sound = search rules;
  best = λ J from l. absurd
      (omega (arith, from, l, replies_length c.args.form.now c.args.keeper c.args.d c.args.weights.now, ap length c.sets-number.ensures.sets, ap (λ k. length (sets_of c.args.form.now k)) c.other.ensures));
  kept = nothing_known c.args.d (sets_of c.args.form.now c.args.keeper) c.args.weights.now 256 c.nothing_kept-kept.result c.nothing_kept-kept.ensures (keeper_grid c.args.form.now c.args.keeper c.args.d c.requires.keeper c.requires.small) (omega arith);
  sizes = subst (All (λ (w : Worth). unsigned_abs w.0 ≤ 2 ^ 94)) (sym c.set_to_zero.ensures) (All-replicate (λ (w : Worth). unsigned_abs w.0 ≤ 2 ^ 94) (length c.args.out.now) nothing (omega arith));
}

pub loop-number-preserved : goal.loop-number-preserved
loop-number-preserved c =
    let s = strategy_in c.args.form.now c.args.keeper c.args.d c.args.weights.now in
    let out = c.loop-number.out in
    let J : ℕ = c.loop-number.number - 1 in
    let next : J + 1 ≡ c.loop-number.number = omega arith in
    let there : J < length out = omega arith in
    record {
      places = length-set out J c.best_at.result.0 ∙ c.loop-number.invariant.places;
      within = omega (arith, length-set out J c.best_at.result.0);
      sound = λ l. c.best_at.ensures.sound;
      best = best_written s out J c.best_at.result.0 there c.best_at.ensures.best (subst (λ n. AreBest s n (numbers out)) (sym next) c.loop-number.invariant.best);
      kept = c.best_at.ensures.kept;
      sizes = small_written (2 ^ 94) out J c.best_at.result.0 c.best_at.ensures.small c.loop-number.invariant.sizes;
    }

pub returns-clause-values : goal.returns-clause-values
returns-clause-values c =
    let f = c.args.form.now in
    let s = strategy_in f c.args.keeper c.args.d c.args.weights.now in
    let none : c.loop-number.number ≡ 0 = omega arith in
    best_list s c.loop-number.out (c.loop-number.invariant.places ∙ sym (replies_length f c.args.keeper c.args.d c.args.weights.now)) (subst (λ n. AreBest s n (numbers c.loop-number.out)) none c.loop-number.invariant.best)

pub returns-clause-tight : goal.returns-clause-tight
returns-clause-tight c =
    let f = c.args.form.now in
    let s = strategy_in f c.args.keeper c.args.d c.args.weights.now in
    let none : c.loop-number.number ≡ 0 = omega arith in
    best_tight s (numbers c.loop-number.out) (λ some. c.loop-number.invariant.sound (omega (arith, some, none, c.loop-number.invariant.places, replies_length f c.args.keeper c.args.d c.args.weights.now)))
    (subst (λ n. AreBest s n (numbers c.loop-number.out)) none c.loop-number.invariant.best)
