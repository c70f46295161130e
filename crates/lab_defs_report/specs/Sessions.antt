-- The mode `session`: a reply for each command.
use Rattle.std.specs.Prelude.{ℕ, ◌+◌, ◌-◌, List, [], ◌∷◌, ◌++◌, length, Bool, true, false, if◌then◌else◌, Some, None, Result, Ok, Err}
use lib.Chars.{codes}
use Rattle.lab_defs_text.specs.Words.{Bytes}
use Rattle.lab_defs_text.specs.Lines.{joined}
use Rattle.lab_defs_report.specs.Commands.{Command, command_at}
use Rattle.lab_defs_report.specs.States.{State, step_of}
use Rattle.lab_defs_report.specs.Cuts.{commands_limit, passed_limit, Cut, cut_at, cut_refused, cut_open}
use Rattle.lab_defs_report.specs.Answers.{Answer, silent, refusing, led_by}
use Rattle.lab_defs_report.specs.Refusals.{Refusal, refused, refused_in_line, refused_command}
use Rattle.lab_defs_report.specs.GameModes.{playable}

-- the refusal of a command that a program does not have
abbrev pub not_built : ℕ → Refusal
not_built line = refused line (codes "NotBuilt") []

-- the state and the reply of a command on a line of the input, or its refusal; `has` says which commands the program has
abbrev pub replied : (has : Command → Bool) → ℕ → State → Command → Result (State × List Bytes) Refusal
replied has line s c = if has c then (elim (step_of s c) [ Ok r ↦ Ok r | Err f ↦ Err (refused_command line f) ]) else Err (not_built line)

-- the state and the reply of the command line with a number, on a line of the input; or its refusal
abbrev pub answered : (has : Command → Bool) → (line number : ℕ) → State → Bytes → Result (State × List Bytes) Refusal
answered has line number s bytes = elim (command_at number bytes) [ Ok c ↦ replied has line s c | Err f ↦ Err (refused_in_line line f) ]

-- what is written where an input ends in a line that no line feed ends
abbrev pub last_answer : Bool → ℕ → Bytes → Answer
last_answer false n l = silent
last_answer true n [] = silent
last_answer true n (c ∷ cs) = refusing (refused n (codes "NoNewline") [])

-- the replies to command lines after the line of `done`, from the one with a number on, `left` bytes being allowed, up to and with the first refusal
abbrev pub session_from : (has : Command → Bool) → Bool → (done number left : ℕ) → State → List Bytes → Answer
session_from has ended done number left s [] = silent
session_from has ended done number left s (l ∷ []) = elim (passed_limit (codes "InputTooLong") left (length l) 0) [
  | Some code ↦ refusing (refused (done + number) code [])
  | None ↦ last_answer ended (done + number) l
]
session_from has ended done number left s (l ∷ m ∷ ms) = elim (passed_limit (codes "InputTooLong") left (length l) 1) [
  | Some code ↦ refusing (refused (done + number) code [])
  | None ↦ elim (answered has (done + number) number s l) [
    | Err r ↦ refusing r
    | Ok r ↦ led_by (joined r.1 ++ (10 ∷ [])) (session_from has ended done (number + 1) (left - (length l + 1)) r.0 (m ∷ ms))
  ]
]

-- what `session` writes for an input cut after its game
abbrev pub session_cut : (has : Command → Bool) → Bool → Cut → Answer
session_cut has ended (cut_at text line behind) = elim (playable text line) [
  | Ok g ↦ session_from has ended line 1 commands_limit (record { game = g; profile = None }) behind
  | Err r ↦ refusing r
]
session_cut has ended (cut_refused r) = refusing r
session_cut has ended cut_open = silent
