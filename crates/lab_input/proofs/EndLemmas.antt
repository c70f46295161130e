-- What is found after the line `done` where an input is to end there.
use Rattle.std.proofs.Common.{ℕ, ◌+◌, [], ◌++◌, Option, arith}
use Rattle.std.proofs.lemmas.List.{nil_from_length}
use lib.Chars.{codes}
use Rattle.lab_io.specs.Reading.{StoppedAfter, LineStop}
use Rattle.lab_io.specs.declared.line_reader.ReadStop.TheVariants as read
use Rattle.lab_defs_text.specs.Words.{Bytes}
use Rattle.lab_defs_report.specs.Refusals.{refused}
use Rattle.lab_input.specs.declared.stop.Stop.{Stop}
use Rattle.lab_input.specs.declared.stop.Stop.TheVariants as stop
use Rattle.lab_input.specs.Stops.{IsRefusal}
use Rattle.lab_input.specs.GameParts.{TakesSome, NotEnded}

-- what a reader that may give nothing has taken
abbrev pub taken_after : (ahead : Bytes) (left new : Option Bytes) (Why : Bytes → Type 0) → StoppedAfter ahead left new 0 Why → TakesSome 0 ahead left new
taken_after ahead left new Why u = record { taken = u.taken; consumed = u.consumed; within = u.within }

-- such a reader stopped before a byte
pub not_ended : (ahead : Bytes) (left new : Option Bytes) (n : ℕ) (s : Stop) → StoppedAfter ahead left new 0 (LineStop 0 new read.AllowancePassed) → IsRefusal (refused (n + 1) (codes "ExtraLine") []) s
    → NotEnded ahead left new n s
not_ended ahead left new n (stop.Refused kept) u h = record { takes = taken_after ahead left new (LineStop 0 new read.AllowancePassed) u; some = u.why.long; tells = h }
not_ended ahead left new n stop.ReadFault u h = absurd h
not_ended ahead left new n stop.WriteFault u h = absurd h
not_ended ahead left new n stop.Memory u h = taken_after ahead left new (LineStop 0 new read.AllowancePassed) u

-- such a reader's source failed before a byte came
pub none_came : (ahead : Bytes) (left new : Option Bytes) (n : ℕ) → StoppedAfter ahead left new 0 (LineStop 0 new read.ReadFault) → NotEnded ahead left new n stop.ReadFault
none_came ahead left new n u = record { takes = taken_after ahead left new (LineStop 0 new read.ReadFault) u; none = nil_from_length (ahead ++ u.taken) (omega (arith, u.why.1)) }
