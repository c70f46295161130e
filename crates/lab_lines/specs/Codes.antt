-- The names of the codes of refusals.
use lib.Chars.{codes}
use Rattle.lab_defs_text.specs.Words.{Bytes}
use Rattle.lab_lines.specs.declared.code.Code.{Code}
use Rattle.lab_lines.specs.declared.code.Code.TheVariants as code

-- the name of a code
abbrev pub code_name : Code → Bytes
code_name code.CutShort = codes "CutShort"
code_name code.NoNewline = codes "NoNewline"
code_name code.LineTooLong = codes "LineTooLong"
code_name code.GameTooLong = codes "GameTooLong"
code_name code.InputTooLong = codes "InputTooLong"
code_name code.ExtraLine = codes "ExtraLine"
code_name code.BadSpace = codes "BadSpace"
code_name code.BadWord = codes "BadWord"
code_name code.BadName = codes "BadName"
code_name code.BadNumber = codes "BadNumber"
code_name code.OutOfRange = codes "OutOfRange"
code_name code.Twice = codes "Twice"
code_name code.UnknownName = codes "UnknownName"
code_name code.ExtraRow = codes "ExtraRow"
code_name code.MissingRow = codes "MissingRow"
code_name code.NoRoot = codes "NoRoot"
code_name code.TooManyHistories = codes "TooManyHistories"
code_name code.HorizonPassed = codes "HorizonPassed"
code_name code.SizePassed = codes "SizePassed"
code_name code.LegalDiffers = codes "LegalDiffers"
code_name code.Forgotten = codes "Forgotten"
code_name code.NotBuilt = codes "NotBuilt"
code_name code.NoBlueprint = codes "NoBlueprint"
code_name code.SecondBlueprint = codes "SecondBlueprint"
code_name code.BadSeat = codes "BadSeat"
code_name code.BadRounds = codes "BadRounds"
code_name code.WrongCount = codes "WrongCount"
code_name code.WrongSum = codes "WrongSum"
