use Rattle.std.proofs.Common.{◌≡◌, ◌+◌, ◌<◌, ◌^◌, inr, length, map, ap, ◌∙◌, subst, arith, rules}
use Rattle.std.specs.List.{range_with_len}
use Rattle.lab_defs_value.specs.Bounds.{at, through}
use Rattle.lab_form.specs.Forms.{AreSets, sets_of}
use Rattle.lab_best.specs.Parts.{IsFirstGreatest}
use Rattle.lab_best.specs.Values.{strategy_in, numbers}
use Rattle.lab_best.proofs.NumberLemmas.{number_in_range, range_length, range_of}
use Rattle.lab_best.proofs.BestLemmas.{small_together}
use Rattle.lab_best.proofs.FoundLemmas.{IsFound, best_found}
use Rattle.lab_best.proofs.greatest.best_at.Goals as goal

pub back_up-requires-clause-sizes : goal.back_up-requires-clause-sizes
back_up-requires-clause-sizes c =
    let few : length c.args.values.now < 2 ^ 32 = omega (arith, c.requires.values, c.sets.ensures.few, ap length c.sets.ensures.sets, ap (λ k. length (sets_of c.args.form.now k)) c.other.ensures) in
    small_together c.args.values.now few c.requires.sizes

pub loop-first-preserved : goal.loop-first-preserved
loop-first-preserved c =
    let s = strategy_in c.args.form.now c.args.keeper c.args.d c.args.weights.now in
    let h = through s (at (numbers c.args.values.now)) c.args.set.0 in
    let out = c.back_up.new.out in
    let part : numbers out ≡ map h (range_with_len c.loop-first.first c.min-count.result) = range_of out h c.loop-first.first c.min-count.result _ c.back_up.ensures.values (search rules) in
    let long = range_length out h c.loop-first.first c.min-count.result part in
    record {
      all = c.loop-first.invariant.all;
      within = omega arith;
      greatest = inr (subst (λ n. IsFirstGreatest (c.loop-first.first + n) h c.better-best.result.0.0 c.better-best.result.1) long
          (c.better-best.ensures h c.loop-first.invariant.greatest (λ k l. number_in_range out h c.loop-first.first c.min-count.result part k (omega (arith, l, long)))));
      kept = c.back_up.ensures.kept;
      sound = λ some. c.back_up.ensures.sound;
      small = λ some. c.back_up.ensures.small;
    }

-- what is known once all actions were looked at
found : (c : goal.After-loop-first) → IsFound c.args.form.now c.args.keeper c.args.d c.args.weights.now c.args.set.0 c.loop-first.best.0.0 c.loop-first.best.1
found c =
    let f = c.args.form.now in
    best_found f c.args.keeper c.args.d c.args.weights.now (numbers c.args.values.now) c.args.set.0 c.loop-first.best.0.0 c.loop-first.best.1 c.loop-first.first
    (subst AreSets (c.sets.ensures.sets ∙ ap (sets_of f) c.other.ensures) c.sets.ensures.order) c.requires.there c.requires.after c.loop-first.invariant.greatest c.loop-first.invariant.sound c.loop-first.invariant.small (omega arith)

pub returns-clause-sound : goal.returns-clause-sound
returns-clause-sound c = (found c).sound

pub returns-clause-best : goal.returns-clause-best
returns-clause-best c = (found c).best

pub returns-clause-first : goal.returns-clause-first
returns-clause-first c = (found c).first

pub returns-clause-small : goal.returns-clause-small
returns-clause-small c = (found c).small
