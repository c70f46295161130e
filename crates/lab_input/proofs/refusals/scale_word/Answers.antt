use Rattle.std.proofs.Common.{◌<◌, ◌^◌, sym, ◌∙◌, arith}
use Rattle.lab_defs_text.proofs.NumeralLemmas.{numeral_is}
use Rattle.lab_input.proofs.refusals.scale_word.Goals as goal

pub returns : goal.returns
returns c =
    let small : c.args.scale < 10 ^ 40 = omega (arith, c.ranges.scale.fits) in
    c.as_bytes.ensures.value ∙ c.format.ensures.text ∙ sym (numeral_is c.args.scale small)
