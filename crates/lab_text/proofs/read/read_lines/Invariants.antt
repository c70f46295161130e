use Rattle.std.proofs.Common.{length}
use Rattle.lab_text.specs.Drafts.{draft_is, kind_is, Counts}
use Rattle.lab_text.proofs.LoopSteps.{Keeps}
use Rattle.lab_text.proofs.read.read_lines.Given as goal

abbrev pub invariant-loop-bytes : goal.invariant-loop-bytes
invariant-loop-bytes l = record {
  keeps : Keeps l.line (kind_is l.last) (draft_is l.draft) l.rest l.fn.bytes;
  counts : Counts l.line l.last l.draft;
}

abbrev pub decreases-loop-bytes : goal.decreases-loop-bytes
decreases-loop-bytes l = length l.rest
