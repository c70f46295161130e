-- How a run ends after its input was answered.
use Rattle.std.specs.Prelude.{◌≡◌, Result, Ok, Err, ◌⊎◌, []}
use Rattle.std.specs.declared.option.Option.{Option}
use Rattle.std.specs.Io.KnownBytes.{Appends}
use Rattle.lab_io.specs.Causes.{AppendsFront}
use Rattle.lab_defs_text.specs.Words.{Bytes}
use Rattle.lab_input.specs.Stops.{line_of}
use Rattle.lab_input.specs.declared.stop.Stop.{Stop}
use Rattle.lab_input.specs.declared.stop.Stop.TheVariants as stop
use Rattle.lab_cli.specs.declared.status.Status.{Status}
use Rattle.lab_cli.specs.declared.status.Status.TheVariants.{Done, Refused, Memory, ReadFault, WriteFault}

-- the line was written whole, and the status is `good`; or a prefix of it was, and the sink failed
abbrev pub WritesLine : (line : Bytes) (good : Status) → (written_old written_new : Option Bytes) → Status → Type 0
WritesLine line good old new status = ((status ≡ good) × Appends old new line) ⊎ ((status ≡ WriteFault) × AppendsFront old new line)

-- a refusal is written, and nothing else; the status says how it ended
abbrev pub Finishes : {T : Type 0} → Result T Stop → (written_old written_new : Option Bytes) → Status → Type 0
Finishes (Ok x) old new status = (status ≡ Done) × Appends old new []
Finishes (Err (stop.Refused kept)) old new status = WritesLine (line_of kept) Refused old new status
Finishes (Err stop.ReadFault) old new status = (status ≡ ReadFault) × Appends old new []
Finishes (Err stop.WriteFault) old new status = (status ≡ WriteFault) × Appends old new []
Finishes (Err stop.Memory) old new status = (status ≡ Memory) × Appends old new []
