-- What is written for one command line.
use Rattle.std.specs.Prelude.{◌≡◌, List, [], ◌∷◌, ◌++◌, Option, Result, Ok, Err}
use Rattle.std.specs.Io.KnownBytes.{Appends}
use Rattle.lab_io.specs.Causes.{AppendsFront}
use Rattle.lab_defs_text.specs.Words.{Bytes}
use Rattle.lab_defs_text.specs.Lines.{joined}
use Rattle.lab_defs_report.specs.Refusals.{Refusal, refusal_line}
use Rattle.lab_defs_report.specs.States.{State}
use Rattle.lab_input.specs.Stops.{line_of}
use Rattle.lab_input.specs.declared.stop.Stop.{Stop}
use Rattle.lab_input.specs.declared.stop.Stop.TheVariants.{Refused, ReadFault, WriteFault, Memory}

-- a reply was written whole, or a prefix of it where the sink failed, and the session is in the state after it; or the line is refused, or no
-- memory is left: then nothing was written, and the session is as it was
abbrev pub Replies : (before : State) → Result (State × List Bytes) Refusal → (after : State) → (written_old written_new : Option Bytes) → Result (Unit {0}) Stop → Type 0
Replies before found after old new (Ok x) = (words : List Bytes) × (found ≡ Ok (after, words)) × Appends old new (joined words ++ (10 ∷ []))
Replies before found after old new (Err (Refused kept)) = (r : Refusal) × (found ≡ Err r) × (line_of kept ≡ refusal_line r) × (after ≡ before) × Appends old new []
Replies before found after old new (Err ReadFault) = ⊥
Replies before found after old new (Err WriteFault) = (words : List Bytes) × (found ≡ Ok (after, words)) × AppendsFront old new (joined words ++ (10 ∷ []))
Replies before found after old new (Err Memory) = (after ≡ before) × Appends old new []
