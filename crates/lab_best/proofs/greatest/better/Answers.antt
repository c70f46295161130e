use Rattle.std.proofs.Common.{◌≡◌, inl, inr, ◌+◌, length, subst, arith}
use Rattle.std.proofs.lemmas.Int.{ints}
use Rattle.lab_defs_value.specs.Bounds.{at}
use Rattle.lab_best.specs.Values.{numbers}
use Rattle.lab_best.specs.Parts.{IsFirstGreatest}
use Rattle.lab_best.proofs.NumberLemmas.{number_at}
use Rattle.lab_best.proofs.GreatestLemmas.{greatest_joined, greatest_stays}
use Rattle.lab_best.proofs.greatest.better.Goals as goal

pub returns-then-first-eq0 : goal.returns-then-first-eq0
returns-then-first-eq0 c =
    λ h before same.
    let xs = c.args.values.now in
    let m = c.first_greatest-place.result in
    let place : c.args.first + m ≡ m = omega (arith, c.if-first-eq0.true) in
    subst (IsFirstGreatest (c.args.first + length xs) h _) place
    (subst (λ w. IsFirstGreatest (c.args.first + length xs) h w (c.args.first + m)) (number_at xs m)
    (greatest_joined c.args.first (length xs) h (at (numbers xs)) c.args.best.0.0 (at (numbers xs) m) c.args.best.1 m before c.first_greatest-place.ensures same (inl c.if-first-eq0.true)))

pub returns-then-value-best : goal.returns-then-value-best
returns-then-value-best c =
    λ h before same.
    let xs = c.args.values.now in
    let m = c.first_greatest-place.result in
    let read = number_at xs m in
    subst (λ w. IsFirstGreatest (c.args.first + length xs) h w (c.args.first + m)) read
    (greatest_joined c.args.first (length xs) h (at (numbers xs)) c.args.best.0.0 (at (numbers xs) m) c.args.best.1 m before c.first_greatest-place.ensures same (inr (omega (arith, ints))))

pub returns : goal.returns
returns c =
    λ h before same.
    let xs = c.args.values.now in
    let m = c.first_greatest-place.result in
    let read = number_at xs m in
    greatest_stays c.args.first (length xs) h (at (numbers xs)) c.args.best.0.0 (at (numbers xs) m) c.args.best.1 m before c.first_greatest-place.ensures same (omega arith) (omega (arith, ints))
