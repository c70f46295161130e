use Rattle.std.proofs.Common.{◌+◌, ◌-◌, ◌^◌, min, get_or, ap, ◌∙◌, arith}
use Rattle.lab_defs_text.proofs.DigitLemmas.{digit_at}
use Rattle.lab_lex.proofs.ClippedDigits.{clipped_more}
use Rattle.lab_lex.proofs.number.saturated.Goals as goal

pub overflow_sub-c : goal.overflow_sub-c
overflow_sub-c c = omega (arith, digit_at c.args.word.now c.loop-c.c-index c.requires (omega arith))

pub loop-c-preserved : goal.loop-c-preserved
loop-c-preserved c =
    c.saturating_add-value.ensures
    ∙ ap (λ m. min (m + (get_or c.args.word.now c.loop-c.c-index 0 - 48)) (2 ^ 128 - 1)) c.saturating_mul.ensures
    ∙ clipped_more c.args.word.now c.loop-c.c-index c.loop-c.value (2 ^ 128 - 1) c.requires c.loop-c-test.true c.loop-c.invariant
