-- A session of the worked examples, on the fork and before its blueprint.
use Rattle.std.specs.Prelude.{ℕ, Bool, None}
use Rattle.lab_defs_text.specs.Words.{Bytes, lines}
use Rattle.lab_defs_report.specs.States.{State}
use Rattle.lab_defs_report.specs.Sessions.{session_from}
use Rattle.lab_defs_report.specs.Modes.{whole_program}
use Rattle.lab_examples.specs.Games.{fork}

-- the state of a session that has begun
abbrev pub fork_begun : State
fork_begun = record { game = fork; profile = None }

-- what is written for the bytes after the fork, `left` of them being allowed, read to their end or not
abbrev pub fork_replies : Bool → (left : ℕ) → Bytes → Bytes
fork_replies ended left bytes = (session_from whole_program.has_command ended 36 1 left fork_begun (lines bytes)).out
