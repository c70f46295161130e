use Rattle.std.proofs.Common.{◌≡◌, ◌+◌, drop, ◌++◌, Ok, length}
use Rattle.lab_defs_text.specs.Steps.{◌>>=◌}
use Rattle.lab_defs_text.specs.Reading.{names_at}
use Rattle.lab_text.specs.Drafts.{pieces}
use Rattle.lab_text.proofs.line_words.names_in.Given as goal

abbrev pub invariant-loop-i : goal.invariant-loop-i
invariant-loop-i l = record {
  count : length l.found.items ≡ l.i;
  so_far : (names_at (l.i + 2) (pieces (drop l.i l.rest)) >>= λ xs. Ok (pieces l.found.items ++ xs)) ≡ names_at 2 (pieces l.rest);
}
