-- Why given weights are no table, as the program says it.
use Rattle.std.specs.Prelude.{ℕ, List}
use Rattle.lab_table.specs.Tables.{AreWeights, IsWrongCount, IsFirstWrong}
use Rattle.lab_table.specs.declared.given.TableGiven.{TableGiven}
use Rattle.lab_table.specs.declared.given.TableGiven.TheVariants.{WrongCount, WrongSum, Memory}

-- given weights are refused for this reason; only weights that make a table need memory
abbrev pub IsRefused : (grid : ℕ) → (actions weights : List ℕ) → TableGiven → Type 0
IsRefused grid actions weights (WrongCount needed given) = IsWrongCount actions weights needed given
IsRefused grid actions weights (WrongSum set) = IsFirstWrong grid actions weights set.0
IsRefused grid actions weights Memory = AreWeights grid actions weights
