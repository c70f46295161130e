use Rattle.std.proofs.Common.{◌≡◌, ◌∷◌, [], ◌++◌, ◌<◌, ◌^◌, sym, ◌∙◌, subst, arith, OnOk}
use Rattle.lab_defs_text.specs.Numbers.{numeral}
use Rattle.lab_defs_text.specs.Lines.{joined}
use Rattle.lab_defs_text.proofs.NumeralLemmas.{numeral_is}
use Rattle.lab_text.proofs.write.push_number.Goals as goal

pub returns : goal.returns
returns c =
    let small : c.args.number < 10 ^ 40 = omega (arith, c.ranges.number.fits) in
    let digits : c.as_bytes.result.now ≡ numeral c.args.number = c.as_bytes.ensures.value ∙ c.format.ensures.text ∙ sym (numeral_is c.args.number small) in
    subst (λ ds. OnOk c.push_line.result (c.push_line.new.text.items ≡ c.args.text.now.items ++ (joined (c.args.keyword.now ∷ ds ∷ []) ++ 10 ∷ []))) digits c.push_line.ensures.added
