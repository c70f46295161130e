use Rattle.std.proofs.Common.{◌+◌, sym, subst, arith}
use Rattle.std.proofs.lemmas.Int.{ints}
use Rattle.lab_defs_value.specs.Bounds.{at}
use Rattle.lab_best.specs.Values.{numbers}
use Rattle.lab_best.specs.Parts.{IsFirstGreatest}
use Rattle.lab_best.proofs.NumberLemmas.{number_at}
use Rattle.lab_best.proofs.GreatestLemmas.{greatest_one, greatest_takes, greatest_keeps}
use Rattle.lab_best.proofs.greatest.first_greatest.Goals as goal
use Rattle.lab_best.proofs.greatest.first_greatest.Goals.{then-values-k, else-values-k}

pub loop-k-init : goal.loop-k-init
loop-k-init c = record { greatest = greatest_one (at (numbers c.args.values.now)); within = omega arith }

pub loop-k-preserved : goal.loop-k-preserved
loop-k-preserved c =
    let xs = c.args.values.now in
    let new = number_at xs c.loop-k.k in
    let old = number_at xs c.loop-k.place in
    elim c.if-values-k.branch [
      | then-values-k w ↦ record {
        greatest = subst (λ p. IsFirstGreatest (c.loop-k.k + 1) (at (numbers xs)) (at (numbers xs) p) p) (sym w.place-is)
            (greatest_takes c.loop-k.k (at (numbers xs)) (at (numbers xs) c.loop-k.place) c.loop-k.place c.loop-k.invariant.greatest (omega (arith, ints)));
        within = omega arith;
      }
      | else-values-k w ↦ record {
        greatest = subst (λ p. IsFirstGreatest (c.loop-k.k + 1) (at (numbers xs)) (at (numbers xs) p) p) (sym w.place-is)
            (greatest_keeps c.loop-k.k (at (numbers xs)) (at (numbers xs) c.loop-k.place) c.loop-k.place c.loop-k.invariant.greatest (omega (arith, ints)));
        within = omega arith;
      }
    ]
