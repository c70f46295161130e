use Rattle.std.proofs.Common.{◌∙◌, arith}
use Rattle.lab_lex.proofs.EmptyPlaces.{empty_from_start, empty_here, empty_at_end, none_at_end}
use Rattle.lab_lex.proofs.word.empty_place.Goals as goal

pub returns-then-empty : goal.returns-then-empty
returns-then-empty c =
    empty_here c.loop-c.empty c.loop-c.place c.loop-c.c-index c.args.line.now c.loop-c-test.true c.if-space.true c.if-empty.true
    ∙ c.loop-c.invariant.answer ∙ empty_from_start 1 c.args.line.now

pub returns-then-empty-2 : goal.returns-then-empty-2
returns-then-empty-2 c =
    empty_at_end c.loop-c.empty c.loop-c.place c.loop-c.c-index c.args.line.now (omega arith) c.if-empty-2.true
    ∙ c.loop-c.invariant.answer ∙ empty_from_start 1 c.args.line.now

pub returns-else-empty-2 : goal.returns-else-empty-2
returns-else-empty-2 c =
    none_at_end c.loop-c.empty c.loop-c.place c.loop-c.c-index c.args.line.now (omega arith) c.if-empty-2.false
    ∙ c.loop-c.invariant.answer ∙ empty_from_start 1 c.args.line.now
