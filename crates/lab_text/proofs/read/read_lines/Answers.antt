use Rattle.std.proofs.Common.{◌∙◌, rules}
use Rattle.lab_text.specs.Faults.{line_fault}
use Rattle.lab_text.specs.Drafts.{draft_is, kind_is}
use Rattle.lab_text.proofs.LoopSteps.{keeps_on, is_all, fails_all, more_follows, none_follows, no_feed_follows}
use Rattle.lab_text.proofs.read.read_lines.Goals as goal

pub returns-in-Err-clause-parts : goal.returns-in-Err-clause-parts
returns-in-Err-clause-parts c =
    rw c.on_line.ensures.fault (fails_all c.loop-bytes.line (kind_is c.loop-bytes.last) (draft_is c.loop-bytes.draft) c.in-Some.bytes.now c.loop-bytes.rest.now c.in-Some.after.now c.args.bytes.now
    (line_fault c.in-Err.fault) c.loop-bytes.invariant.keeps c.in-Some.ensures.lines c.in-Err.ensures.line)

pub returns-then-not-is_empty-clause-parts : goal.returns-then-not-is_empty-clause-parts
returns-then-not-is_empty-clause-parts c =
    is_all c.loop-bytes.line (kind_is c.loop-bytes.last) (kind_is c.in-Ok.kind) (draft_is c.loop-bytes.draft) (draft_is c.take_line.new.draft) c.in-Some.bytes.now c.loop-bytes.rest.now c.in-Some.after.now c.args.bytes.now
    c.loop-bytes.invariant.keeps c.in-Some.ensures.lines c.in-Ok.ensures.line (search rules)
    ∙ more_follows c.loop-bytes.line (draft_is c.take_line.new.draft) c.in-Some.after.now c.is_empty.result c.is_empty.ensures c.if-not-is_empty.true

pub returns-then-eq-clause-parts : goal.returns-then-eq-clause-parts
returns-then-eq-clause-parts c =
    is_all c.loop-bytes.line (kind_is c.loop-bytes.last) (kind_is c.in-Ok.kind) (draft_is c.loop-bytes.draft) (draft_is c.take_line.new.draft) c.in-Some.bytes.now c.loop-bytes.rest.now c.in-Some.after.now c.args.bytes.now
    c.loop-bytes.invariant.keeps c.in-Some.ensures.lines c.in-Ok.ensures.line (search rules)
    ∙ none_follows c.loop-bytes.line (draft_is c.take_line.new.draft) c.in-Some.after.now c.is_empty.result c.is_empty.ensures c.if-not-is_empty.false

pub loop-bytes-preserved : goal.loop-bytes-preserved
loop-bytes-preserved c = record {
  keeps = keeps_on c.loop-bytes.line (kind_is c.loop-bytes.last) (kind_is c.in-Ok.kind) (draft_is c.loop-bytes.draft) (draft_is c.take_line.new.draft) c.in-Some.bytes.now c.loop-bytes.rest.now c.in-Some.after.now c.args.bytes.now
      c.loop-bytes.invariant.keeps c.in-Some.ensures.lines c.in-Some.ensures.length c.in-Ok.ensures.line (search rules);
  counts = c.in-Ok.ensures.counts;
}

pub returns-clause-parts : goal.returns-clause-parts
returns-clause-parts c =
    no_feed_follows c.loop-bytes.line (kind_is c.loop-bytes.last) (draft_is c.loop-bytes.draft) c.loop-bytes.rest.now c.args.bytes.now c.is_empty-2.result
    c.loop-bytes.invariant.keeps c.in_default.ensures.lines c.is_empty-2.ensures c.if-is_empty.false
