use Rattle.std.proofs.Common.{rules, ◌≡◌, ℕ, ◌+◌, ◌-◌, ◌<◌, ◌≤◌, ◌^◌, length, unsigned_abs, sym, ap, ◌∙◌, subst, arith}
use Rattle.std.specs.List.{All}
use Rattle.std.proofs.lemmas.List.Elements.{All-replicate}
use Rattle.std.proofs.lemmas.List.{length-set}
use Rattle.lab_defs_value.specs.Replies.{reply_sets}
use Rattle.lab_form.specs.Forms.{sets_of}
use Rattle.lab_best.specs.Values.{strategy_in, numbers, AreBest, IsFirstBest}
use Rattle.lab_best.proofs.BestLemmas.{best_written, each_written, first_best_earns, small_written, best_list, best_tight}
use Rattle.lab_best.proofs.FormLemmas.{keeper_grid, replies_length}
use Rattle.lab_best.proofs.KeptLemmas.{nothing_known}
use Rattle.lab_best.proofs.NumberLemmas.{nothing}
use Rattle.lab_units.specs.declared.worth.Worth.{Worth}
use Rattle.lab_best.proofs.best.best_reply.Goals as goal

pub loop-number-init : goal.loop-number-init
loop-number-init c = record {
  places = search rules;
  action_places = search rules;
  within = search rules;
  sound = search rules;
  best = λ J from l. absurd
      (omega (arith, from, l, replies_length c.args.form.now c.args.keeper c.args.d c.args.weights.now, ap length c.sets-number.ensures.sets, ap (λ k. length (sets_of c.args.form.now k)) c.other.ensures));
  first = search rules;
  kept = nothing_known c.args.d (sets_of c.args.form.now c.args.keeper) c.args.weights.now 256 c.nothing_kept-kept.result c.nothing_kept-kept.ensures (keeper_grid c.args.form.now c.args.keeper c.args.d c.requires.keeper c.requires.small) (omega arith);
  sizes = subst (All (λ (w : Worth). unsigned_abs w.0 ≤ 2 ^ 94)) (sym c.set_to_zero.ensures) (All-replicate (λ (w : Worth). unsigned_abs w.0 ≤ 2 ^ 94) (length c.args.values.now) nothing (omega arith));
}

pub loop-number-preserved : goal.loop-number-preserved
loop-number-preserved c =
    let s = strategy_in c.args.form.now c.args.keeper c.args.d c.args.weights.now in
    let out = c.loop-number.values in
    let J : ℕ = c.loop-number.number - 1 in
    let next : J + 1 ≡ c.loop-number.number = omega arith in
    let there : J < length out = omega arith in
    record {
      places = length-set out J c.best_at-action.result.0 ∙ c.loop-number.invariant.places;
      action_places = length-set c.loop-number.actions J c.best_at-action.result.1 ∙ c.loop-number.invariant.action_places;
      within = omega (arith, length-set out J c.best_at-action.result.0);
      sound = λ l. c.best_at-action.ensures.sound;
      best = best_written s out J c.best_at-action.result.0 there c.best_at-action.ensures.best (subst (λ n. AreBest s n (numbers out)) (sym next) c.loop-number.invariant.best);
      first = each_written (IsFirstBest s) c.loop-number.actions J c.best_at-action.result.1 (omega (arith, there, c.loop-number.invariant.places, c.loop-number.invariant.action_places)) c.best_at-action.ensures.first
          (λ K from l. c.loop-number.invariant.first K (omega (arith, from, next)) l);
      kept = c.best_at-action.ensures.kept;
      sizes = small_written (2 ^ 94) out J c.best_at-action.result.0 c.best_at-action.ensures.small c.loop-number.invariant.sizes;
    }

pub returns-clause-values : goal.returns-clause-values
returns-clause-values c =
    let f = c.args.form.now in
    let s = strategy_in f c.args.keeper c.args.d c.args.weights.now in
    let none : c.loop-number.number ≡ 0 = omega arith in
    best_list s c.loop-number.values (c.loop-number.invariant.places ∙ sym (replies_length f c.args.keeper c.args.d c.args.weights.now)) (subst (λ n. AreBest s n (numbers c.loop-number.values)) none c.loop-number.invariant.best)

pub returns-clause-tight : goal.returns-clause-tight
returns-clause-tight c =
    let f = c.args.form.now in
    let s = strategy_in f c.args.keeper c.args.d c.args.weights.now in
    let none : c.loop-number.number ≡ 0 = omega arith in
    best_tight s (numbers c.loop-number.values) (λ some. c.loop-number.invariant.sound (omega (arith, some, none, c.loop-number.invariant.places, replies_length f c.args.keeper c.args.d c.args.weights.now)))
    (subst (λ n. AreBest s n (numbers c.loop-number.values)) none c.loop-number.invariant.best)

pub returns-clause-earns : goal.returns-clause-earns
returns-clause-earns c =
    λ J l.
    let f = c.args.form.now in
    let s = strategy_in f c.args.keeper c.args.d c.args.weights.now in
    let none : c.loop-number.number ≡ 0 = omega arith in
    let same : length c.loop-number.actions ≡ length (reply_sets s) = c.loop-number.invariant.action_places ∙ sym (replies_length f c.args.keeper c.args.d c.args.weights.now) in
    let there : J < length (reply_sets s) = omega (arith, l, same) in
    let ok = c.loop-number.invariant.sound (omega (arith, l, none, c.loop-number.invariant.places, c.loop-number.invariant.action_places)) in
    first_best_earns s ok c.loop-number.actions (λ K k. c.loop-number.invariant.first K (omega (arith, none)) (omega (arith, k, same))) J there
    ∙ sym (c.loop-number.invariant.best J (omega (arith, none)) there)
