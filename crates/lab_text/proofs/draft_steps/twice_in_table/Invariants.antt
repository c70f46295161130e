use Rattle.std.proofs.Common.{◌≡◌, ◌+◌, drop, length, []}
use Rattle.lab_defs_text.specs.Drafts.{first_twice}
use Rattle.lab_text.specs.Drafts.{pieces}
use Rattle.lab_text.proofs.draft_steps.twice_in_table.Given as goal

abbrev pub invariant-loop-i : goal.invariant-loop-i
invariant-loop-i l = record {
  count : length l.table ≡ l.i;
  so_far : first_twice (l.i + 2) l.table (pieces (drop l.i l.names)) ≡ first_twice 2 [] (pieces l.names);
}
