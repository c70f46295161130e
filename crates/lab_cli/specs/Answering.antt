-- How far an input was answered.
use Rattle.std.specs.Prelude.{◌≡◌, ◌≤◌, ◌+◌, ◌++◌, ℕ, Bool, true, false, IsTrue, length, Option, Result, Ok, Err}
use Rattle.std.specs.Io.KnownBytes.{Consumes, IsAtEnd, Appends}
use Rattle.lab_io.specs.declared.line_reader.TheConstants.{READ_AHEAD}
use Rattle.lab_defs_text.specs.Words.{Bytes}
use Rattle.lab_defs_report.specs.Answers.{Answer, answer}
use Rattle.lab_defs_report.specs.Laws.{IsFront}
use Rattle.lab_input.specs.Stops.{line_of}
use Rattle.lab_input.specs.declared.stop.Stop.{Stop}
use Rattle.lab_input.specs.declared.stop.Stop.TheVariants.{Refused, ReadFault, WriteFault, Memory}

-- what bytes are to be answered with, read to the end of the input or not
abbrev pub Answering : Type 0
Answering = Bool → Bytes → Answer

-- what was written for bytes, by how that ended: all of it; all but the line of a refusal; all, where the source failed;
-- or a prefix of it, where the sink failed or no memory was left
abbrev pub EndsBy : {T : Type 0} → Answering → (ended : Bool) → (bytes written : Bytes) → Result T Stop → Type 0
EndsBy answering ended bytes written (Ok x) = (ended ≡ true) × (answering true bytes ≡ answer written)
EndsBy answering ended bytes written (Err (Refused kept)) = answering ended bytes ≡ record { out = written ++ line_of kept; refuses = true }
EndsBy answering ended bytes written (Err ReadFault) = answering false bytes ≡ answer written
EndsBy answering ended bytes written (Err WriteFault) = IsFront written (answering ended bytes).out
EndsBy answering ended bytes written (Err Memory) = IsFront written (answering ended bytes).out

-- bytes were taken from a source, and these and those that a reader had ahead were answered: no more than a limit and those that the reader holds
pub record Answered {T : Type 0} (answering : Answering) (limit : ℕ) (ahead : Bytes) (left_old left_new written_old written_new : Option Bytes) (result : Result T Stop) : Type 0 where
  pub taken : Bytes
  pub consumed : Consumes left_old left_new taken
  pub within : length (ahead ++ taken) ≤ limit + READ_AHEAD
  pub ended : Bool
  pub at_end : IsTrue ended → IsAtEnd left_new
  pub written : Bytes
  pub appended : Appends written_old written_new written
  pub ends : EndsBy answering ended (ahead ++ taken) written result
