use Rattle.std.proofs.Common.{◌≡◌, ◌∷◌, [], ◌++◌, ◌<◌, ◌^◌, ap, sym, ◌∙◌, subst, arith, OnOk}
use Rattle.std.specs.Int.{w32}
use Rattle.std.specs.Int.RustNames.{FitsSigned, unsigned_abs}
use Rattle.std.specs.Fmt.{signed_decimal}
use Rattle.std.proofs.lemmas.Int.{ints, to_z-of_z}
use lib.Chars.{codes}
use Rattle.lab_defs_text.specs.Numbers.{signed_numeral}
use Rattle.lab_defs_text.specs.Lines.{joined}
use Rattle.lab_defs_text.proofs.NumeralLemmas.{signed_numeral_is}
use Rattle.lab_text.proofs.places.push_end.Goals as goal

pub returns : goal.returns
returns c =
    let fits : FitsSigned w32 c.args.payoff = c.ranges.payoff in
    let small : unsigned_abs c.args.payoff < 10 ^ 40 = omega (arith, ints, fits) in
    let digits : c.as_bytes.result.now ≡ signed_numeral c.args.payoff =
    c.as_bytes.ensures.value ∙ c.format.ensures.text ∙ ap signed_decimal (to_z-of_z w32 c.args.payoff fits) ∙ sym (signed_numeral_is c.args.payoff small) in
    subst (λ ds. OnOk c.push_line.result (c.push_line.new.text.items ≡ c.args.text.now.items ++ (joined (codes "end" ∷ c.args.name.now ∷ ds ∷ []) ++ 10 ∷ []))) digits c.push_line.ensures.added
