use Rattle.std.proofs.Common.{◌<◌, ◌^◌, sym, ◌∙◌, arith}
use Rattle.lab_defs_text.proofs.NumeralLemmas.{numeral_is}
use Rattle.lab_lines.proofs.number.number_word.Goals as goal

pub returns-clause-word : goal.returns-clause-word
returns-clause-word c =
    let small : c.args.number < 10 ^ 40 = omega (arith, c.ranges.number.fits) in
    c.as_bytes.ensures.value ∙ c.format.ensures.text ∙ sym (numeral_is c.args.number small)
