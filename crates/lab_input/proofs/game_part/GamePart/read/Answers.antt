use Rattle.std.proofs.Common.{◌+◌, length, Ok, ap, ◌∙◌, arith}
use Rattle.lab_input.proofs.Collecting.{line_fits, left_after, done_test, line_added, cut_short, cut_by_stop, part_found, collected_more, collected_lines, lines_left, taken_with_line, memory_passed}
use Rattle.lab_input.proofs.game_part.GamePart.read.Goals as goal

pub overflow_add-number : goal.overflow_add-number
overflow_add-number g c =
    let had = collected_lines _ _ _ _ _ _ _ _ c.loop-text.invariant.collected c.loop-text.invariant.left c.in_ok-number.ensures in
    let left = lines_left _ _ _ _ _ c.loop-text.invariant.left c.in_ok-number.ensures in
    omega (arith, had.few, left)

pub overflow_add-number-in-loop-text : goal.overflow_add-number-in-loop-text
overflow_add-number-in-loop-text g c =
    let had = collected_lines _ _ _ _ _ _ _ _ c.loop-text.invariant.collected c.loop-text.invariant.left c.in_ok-number.ensures in
    let left = lines_left _ _ _ _ _ c.loop-text.invariant.left c.in_ok-number.ensures in
    omega (arith, had.few, left)

pub returns-in-Ok-End-clause-stop : goal.returns-in-Ok-End-clause-stop
returns-in-Ok-End-clause-stop g c =
    let had = collected_lines _ _ _ _ _ _ _ _ c.loop-text.invariant.collected c.loop-text.invariant.left c.in_ok-number.ensures in
    let left = lines_left _ _ _ _ _ c.loop-text.invariant.left c.in_ok-number.ensures in
    cut_short _ _ _ _ _ _ _ _ _ had left (rw c.in-Ok-End.field-0-is at c.in-Ok-End.ensures.bytes) (c.in-Ok-End.ensures.end (ap Ok c.in-Ok-End.field-0-is)) c.refused.ensures

pub returns-in-Err-clause-stop : goal.returns-in-Err-clause-stop
returns-in-Err-clause-stop g c =
    let had = collected_lines _ _ _ _ _ _ _ _ c.loop-text.invariant.collected c.loop-text.invariant.left c.in_ok-number.ensures in
    let left = lines_left _ _ _ _ _ c.loop-text.invariant.left c.in_ok-number.ensures in
    cut_by_stop _ _ _ _ _ _ _ _ _ had left c.in-Err.ensures.stop c.refused_read.ensures

pub returns-then-eq-clause-part : goal.returns-then-eq-clause-part
returns-then-eq-clause-part g c =
    let had = collected_lines _ _ _ _ _ _ _ _ c.loop-text.invariant.collected c.loop-text.invariant.left c.in_ok-number.ensures in
    let left = lines_left _ _ _ _ _ c.loop-text.invariant.left c.in_ok-number.ensures in
    part_found _ _ _ _ _ _ _ _ _ had (rw c.in-Ok-Line.field-0-is at c.in-Ok-Line.ensures.bytes) (rw c.in-Ok-Line.field-0-is at c.in-Ok-Line.ensures.line)
    (line_fits _ _ _ _ (rw c.in-Ok-Line.field-0-is at c.in-Ok-Line.ensures.allowance) left)
    (done_test _ _ _ _ c.if-eq.ensures c.line-in-loop-text.ensures c.as_slice.ensures)
    (line_added _ _ _ _ c.in_ok-push_ended.ensures c.line.ensures)

pub loop-text-preserved : goal.loop-text-preserved
loop-text-preserved g c =
    let had = collected_lines _ _ _ _ _ _ _ _ c.loop-text.invariant.collected c.loop-text.invariant.left c.in_ok-number.ensures in
    let left = lines_left _ _ _ _ _ c.loop-text.invariant.left c.in_ok-number.ensures in
    let added = line_added _ _ _ _ c.in_ok-push_ended.ensures c.line.ensures in
    record {
      live = c.in-Ok-Line.ensures.live;
      ahead = c.in-Ok-Line.ensures.short;
      left = ap (λ t. c.next.new.self.allowance + length t) added ∙ left_after _ _ _ _ (rw c.in-Ok-Line.field-0-is at c.in-Ok-Line.ensures.allowance) left;
      no_fault = c.in-Ok-Line.ensures.no_fault (λ e. cc) ∙ c.loop-text.invariant.no_fault;
      collected = collected_more _ _ _ _ _ _ _ _ _ had (rw c.in-Ok-Line.field-0-is at c.in-Ok-Line.ensures.bytes) (rw c.in-Ok-Line.field-0-is at c.in-Ok-Line.ensures.line)
          (line_fits _ _ _ _ (rw c.in-Ok-Line.field-0-is at c.in-Ok-Line.ensures.allowance) left)
          (done_test _ _ _ _ c.if-eq.ensures c.line-in-loop-text.ensures c.as_slice.ensures) added;
    }

pub returns-in_err-push_ended-clause-stop : goal.returns-in_err-push_ended-clause-stop
returns-in_err-push_ended-clause-stop g c =
    let had = collected_lines _ _ _ _ _ _ _ _ c.loop-text.invariant.collected c.loop-text.invariant.left c.in_ok-number.ensures in
    let left = lines_left _ _ _ _ _ c.loop-text.invariant.left c.in_ok-number.ensures in
    memory_passed _ _ _ c.from_residual-in_err-push_ended.ensures
    (taken_with_line _ _ _ _ _ _ _ _ _ _ had (rw c.in-Ok-Line.field-0-is at c.in-Ok-Line.ensures.bytes) (rw c.in-Ok-Line.field-0-is at c.in-Ok-Line.ensures.allowance) left c.in-Ok-Line.ensures.short)
