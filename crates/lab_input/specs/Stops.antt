-- What stops an input says, beside the refusals of the definitions.
use Rattle.std.specs.Prelude.{◌≡◌, ℕ, [], Option, Some, None, Result, Ok, Err, ⊤}
use lib.Chars.{codes}
use Rattle.lab_io.specs.declared.line_reader.ReadStop.{ReadStop}
use Rattle.lab_io.specs.declared.line_reader.ReadStop.TheVariants as read
use Rattle.lab_defs_text.specs.Words.{Bytes}
use Rattle.lab_defs_text.specs.Faults.{LineFault, TextFault}
use Rattle.lab_defs_text.specs.Games.{GameModel}
use Rattle.lab_defs_game.specs.Unfolding.{UnfoldFault}
use Rattle.lab_defs_game.specs.Recall.{RecallFault}
use Rattle.lab_defs_report.specs.Refusals.{Refusal, refusal_line, refused, refused_text, refused_in_line, refused_unfolding, refused_recall}
use Rattle.lab_lines.specs.Codes.{code_name}
use Rattle.lab_lines.specs.Lines.{refusal_text}
use Rattle.lab_input.specs.declared.refusals.Rejection.{Rejection}
use Rattle.lab_input.specs.declared.stop.Stop.{Stop}
use Rattle.lab_input.specs.declared.stop.Stop.TheVariants.{Refused, ReadFault, WriteFault, Memory}

-- the line of a refusal that is kept
abbrev pub line_of : Rejection → Bytes
line_of r = refusal_text r.line (code_name r.code) r.rest.items

-- the stop is a refusal; or no memory is left for its words
abbrev pub IsRefusal : Refusal → Stop → Type 0
IsRefusal r (Refused kept) = line_of kept ≡ refusal_line r
IsRefusal r ReadFault = ⊥
IsRefusal r WriteFault = ⊥
IsRefusal r Memory = ⊤

-- the stop is the refusal of a fault, where there is one
abbrev pub RefusesText : Bytes → Option TextFault → Stop → Type 0
RefusesText text None stop = stop ≡ Memory
RefusesText text (Some f) stop = IsRefusal (refused_text text f) stop

abbrev pub RefusesLine : ℕ → Option LineFault → Stop → Type 0
RefusesLine line None stop = stop ≡ Memory
RefusesLine line (Some f) stop = IsRefusal (refused_in_line line f) stop

abbrev pub RefusesUnfolding : GameModel → ℕ → Option UnfoldFault → Stop → Type 0
RefusesUnfolding g line None stop = stop ≡ Memory
RefusesUnfolding g line (Some f) stop = IsRefusal (refused_unfolding g line f) stop

abbrev pub RefusesRecall : GameModel → ℕ → Option RecallFault → Stop → Type 0
RefusesRecall g line None stop = stop ≡ Memory
RefusesRecall g line (Some f) stop = IsRefusal (refused_recall g line f) stop

-- the code of what stops a reader inside a line, `passed` being that of the bytes that are allowed
abbrev pub RefusesRead : (line : ℕ) → (passed : Bytes) → ReadStop → Stop → Type 0
RefusesRead line passed read.NoNewline stop = IsRefusal (refused line (codes "NoNewline") []) stop
RefusesRead line passed read.LineTooLong stop = IsRefusal (refused line (codes "LineTooLong") []) stop
RefusesRead line passed read.AllowancePassed stop = IsRefusal (refused line passed []) stop
RefusesRead line passed read.ReadFault stop = stop ≡ ReadFault
RefusesRead line passed read.Memory stop = stop ≡ Memory

-- what is found is a refusal, and the stop is this one; or no memory is left
abbrev pub Denies : {Y : Type 0} → Result Y Refusal → Stop → Type 0
Denies found (Refused kept) = (r : Refusal) × (found ≡ Err r) × (line_of kept ≡ refusal_line r)
Denies found ReadFault = ⊥
Denies found WriteFault = ⊥
Denies found Memory = ⊤

-- a value of the program is that of the definitions, or its refusal is kept
abbrev pub Gives : {X Y : Type 0} → (X → Y) → Result Y Refusal → Result X Stop → Type 0
Gives value found (Ok x) = found ≡ Ok (value x)
Gives value found (Err stop) = Denies found stop
