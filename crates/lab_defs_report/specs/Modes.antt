-- What each mode writes for its input, read to its end or not.
use Rattle.std.specs.Prelude.{List, [], ◌∷◌, ◌++◌, Bool, true, false, if◌then◌else◌, Option, Some, None}
use Rattle.std.specs.Str.{bytes_eq}
use lib.Chars.{codes}
use Rattle.lab_defs_text.specs.Words.{Bytes, lines}
use Rattle.lab_defs_report.specs.Commands.{Command, expect_uniform, expect, blueprint_uniform, blueprint_given, blueprint_solve, bound, show}
use Rattle.lab_defs_report.specs.Cuts.{Cut, cut_from}
use Rattle.lab_defs_report.specs.Answers.{Answer, answer}
use Rattle.lab_defs_report.specs.GameModes.{check_cut, print_cut, verify_cut}
use Rattle.lab_defs_report.specs.Sessions.{session_cut}
use Rattle.lab_defs_report.specs.Surveys.{generate_answer, survey_answer}

-- what the program can be asked to do
pub data Mode : Type 0 where
  session : Mode
  check : Mode
  print : Mode
  verify : Mode
  generate : (kind size : Bytes) → Mode
  survey : (kind size : Bytes) → Mode

-- the mode that one word names
abbrev pub mode_named : Bytes → Option Mode
mode_named w =
    if bytes_eq w (codes "session") then Some session else if bytes_eq w (codes "check") then Some check
    else if bytes_eq w (codes "print") then Some print else if bytes_eq w (codes "verify") then Some verify else None

-- the mode that three words name
abbrev pub mode_with : (word kind size : Bytes) → Option Mode
mode_with w kind size =
    if bytes_eq w (codes "generate") then Some (generate kind size) else if bytes_eq w (codes "survey") then Some (survey kind size) else None

-- the mode that words name: one word, or three
abbrev pub mode_of : List Bytes → Option Mode
mode_of (w ∷ []) = mode_named w
mode_of (w ∷ kind ∷ size ∷ []) = mode_with w kind size
mode_of _ = None

-- which modes a program has, and which commands its sessions have
pub record Program : Type 0 where
  pub has_mode : Mode → Bool
  pub has_command : Command → Bool

-- a program with all of them
abbrev pub whole_program : Program
whole_program = record { has_mode = λ m. true; has_command = λ c. true }

-- the modes that are built
abbrev pub is_built_mode : Mode → Bool
is_built_mode session = true
is_built_mode check = true
is_built_mode print = true
is_built_mode _ = false

-- the commands that are built
abbrev pub is_built_command : Command → Bool
is_built_command expect_uniform = true
is_built_command expect = true
is_built_command blueprint_uniform = true
is_built_command (blueprint_given weights) = true
is_built_command (blueprint_solve rounds) = true
is_built_command (bound seat) = true
is_built_command (show seat) = true
is_built_command _ = false

-- this program, as far as it is built
abbrev pub this_program : Program
this_program = record { has_mode = is_built_mode; has_command = is_built_command }

-- the mode of a program that words name
abbrev pub mode_in : Program → List Bytes → Option Mode
mode_in p ws = elim (mode_of ws) [ Some m ↦ if p.has_mode m then Some m else None | None ↦ None ]

-- the line that is written for words that are no mode
abbrev pub usage_line : Bytes
usage_line = codes "usage: lab session | check | print | verify | generate KIND SIZE | survey KIND SIZE" ++ (10 ∷ [])

-- an input cut after its game
abbrev pub input_cut : Bool → Bytes → Cut
input_cut ended input = cut_from ended 1 [] (lines input)

-- what a program writes for an input, read to its end or not
abbrev pub mode_answer : Program → Bool → Bytes → Option Mode → Answer
mode_answer p ended input (Some session) = session_cut p.has_command ended (input_cut ended input)
mode_answer p ended input (Some check) = check_cut ended (input_cut ended input)
mode_answer p ended input (Some print) = print_cut ended (input_cut ended input)
mode_answer p ended input (Some verify) = verify_cut ended (input_cut ended input)
mode_answer p ended input (Some (generate kind size)) = generate_answer kind size
mode_answer p ended input (Some (survey kind size)) = survey_answer kind size
mode_answer p ended input None = answer usage_line

-- what a program writes for words and an input that is read to its end
abbrev pub report_in : Program → List Bytes → Bytes → Bytes
report_in p ws input = (mode_answer p true input (mode_in p ws)).out

-- whether this report ends with a refusal
abbrev pub is_refused_in : Program → List Bytes → Bytes → Bool
is_refused_in p ws input = (mode_answer p true input (mode_in p ws)).refuses

-- what a program writes for words and the first bytes of an input, whatever follows them
abbrev pub replies_in : Program → List Bytes → Bytes → Bytes
replies_in p ws bytes = (mode_answer p false bytes (mode_in p ws)).out

-- what a program with all modes and commands writes for words and an input that is read to its end
abbrev pub report_of : List Bytes → Bytes → Bytes
report_of ws input = report_in whole_program ws input

-- what it writes for words and the first bytes of an input, whatever follows them
abbrev pub replies_of : List Bytes → Bytes → Bytes
replies_of ws bytes = replies_in whole_program ws bytes
