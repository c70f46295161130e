-- What is written, and whether it ends with a refusal.
use Rattle.std.specs.Prelude.{[], ◌++◌, Bool, true, false}
use Rattle.lab_defs_text.specs.Words.{Bytes}
use Rattle.lab_defs_report.specs.Refusals.{Refusal, refusal_line}

-- what is written, and whether a refusal is its last line
pub record Answer : Type 0 where
  pub out : Bytes
  pub refuses : Bool

-- what is written without a refusal
abbrev pub answer : Bytes → Answer
answer out = record { out = out; refuses = false }

-- nothing so far
abbrev pub silent : Answer
silent = answer []

-- the line of a refusal
abbrev pub refusing : Refusal → Answer
refusing r = record { out = refusal_line r; refuses = true }

-- what is written after other lines
abbrev pub led_by : Bytes → Answer → Answer
led_by lines a = record { out = lines ++ a.out; refuses = a.refuses }
