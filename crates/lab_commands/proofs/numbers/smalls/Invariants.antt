use Rattle.std.proofs.Common.{◌≡◌, ◌+◌, ◌++◌, drop, Ok}
use Rattle.lab_defs_text.specs.Steps.{◌>>=◌}
use Rattle.lab_defs_report.specs.Commands.{smalls_at}
use Rattle.lab_text.specs.Drafts.{pieces}
use Rattle.lab_commands.proofs.numbers.smalls.Given as goal

abbrev pub invariant-loop-i : goal.invariant-loop-i
invariant-loop-i l = (smalls_at (l.first + l.i) (pieces (drop l.i l.words)) >>= λ ns. Ok (l.found.items ++ ns)) ≡ smalls_at l.first (pieces l.words)
