-- What reading a whole number answers.
use Rattle.std.specs.Prelude.{ℕ, ℤ, int_le, ◌&&◌, if◌then◌else◌, Result, Ok, Err}
use Rattle.lab_defs_text.specs.Words.{Bytes}
use Rattle.lab_defs_text.specs.Numbers.{is_whole, whole_value}
use Rattle.lab_lex.specs.declared.fault.LexFault.{LexFault}
use Rattle.lab_lex.specs.declared.fault.LexFault.TheVariants.{BadNumber, OutOfRange}

-- the number that a word at a place spells, where it lies from lo to hi
abbrev pub whole_answer : Bytes → ℕ → ℤ → ℤ → Result ℤ LexFault
whole_answer word place lo hi =
    if is_whole word then
    (if int_le lo (whole_value word) && int_le (whole_value word) hi then Ok (whole_value word) else Err (OutOfRange place))
    else Err (BadNumber place)
