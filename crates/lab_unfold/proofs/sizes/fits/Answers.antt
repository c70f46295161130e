use Rattle.std.proofs.Common.{◌≡◌, ◌<◌, ◌*◌, ◌^◌, sym, ap, ◌∙◌, subst, arith}
use Rattle.std.specs.Prelude.{max, nat_le}
use Rattle.std.proofs.Math.Nat.{one-le-pow}
use Rattle.lab_unfold.proofs.SizeLemmas.{fits_is}
use Rattle.lab_unfold.proofs.sizes.fits.Goals as goal

pub nonzero_div-result : goal.nonzero_div-result
nonzero_div-result c = subst (λ n. 0 < n) (sym c.in-Some.ensures.1) (one-le-pow c.args.decisions c.args.grid c.requires.grid)

pub returns : goal.returns
returns c =
    let power = c.in-Some.ensures.1 in
    let some : 0 < c.in-Some.power = subst (λ n. 0 < n) (sym power) (one-le-pow c.args.decisions c.args.grid c.requires.grid) in
    let first : c.max.result ≡ max 1 c.args.top = omega (arith, c.max.ensures) in
    fits_is (c.max.result * c.args.k) c.in-Some.power (2 ^ 64) some
    ∙ ap (λ n. nat_le (c.max.result * c.args.k * n) (2 ^ 64)) power
    ∙ ap (λ n. nat_le (n * c.args.k * c.args.grid ^ c.args.decisions) (2 ^ 64)) first
