use Rattle.std.proofs.Common.{◌≡◌, ◌+◌, take, drop, []}
use Rattle.lab_defs_text.specs.Drafts.{first_twice}
use Rattle.lab_text.specs.Drafts.{pieces}
use Rattle.lab_text.proofs.draft_steps.twice_in_pairs.Given as goal

abbrev pub invariant-loop-i : goal.invariant-loop-i
invariant-loop-i l = first_twice (l.i + 2) (pieces (take l.i l.names)) (pieces (drop l.i l.names)) ≡ first_twice 2 [] (pieces l.names)
