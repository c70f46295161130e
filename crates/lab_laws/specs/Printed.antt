-- The bounds and expectations that a session prints.
use Rattle.std.specs.Prelude.{◌≡◌, ℕ, ◌*◌, ◌-◌, ◌^◌, ◌≤◌, ℤ, pos, ◌*ℤ◌, List, [], length, slice_index_or, Some, Ok}
use Rattle.std.specs.Int.{IsGcd}
use Rattle.std.specs.Int.RustNames.{unsigned_abs}
use Rattle.lab_defs_text.specs.Words.{Bytes}
use Rattle.lab_defs_text.specs.Fractions.{quotient_text}
use Rattle.lab_defs_text.specs.Games.{GameModel}
use Rattle.lab_defs_game.specs.Seats.{grid_of}
use Rattle.lab_defs_game.specs.Sets.{most_decisions}
use Rattle.lab_defs_game.specs.Chance.{scale}
use Rattle.lab_defs_game.specs.Forms.{form_of}
use Rattle.lab_defs_game.specs.Accepted.{IsAccepted}
use Rattle.lab_defs_value.specs.Expectation.{expectation, expectation_of_uniform}
use Rattle.lab_defs_value.specs.Bounds.{at}
use Rattle.lab_defs_report.specs.Commands.{Command, expect_uniform, expect, blueprint_uniform, blueprint_given, blueprint_solve, bound, propose, resolve}
use Rattle.lab_defs_report.specs.States.{State, Profile, step_of, bounds_of}
use Rattle.lab_defs_report.specs.Headline.{Leads, start}

-- a word is a number over units, in lowest terms
pub record IsPrinted (word : Bytes) (value : ℤ) (units : ℕ) : Type 0 where
  pub num : ℤ
  pub den : ℕ
  pub text : word ≡ quotient_text num den
  pub same : num *ℤ pos units ≡ value *ℤ pos den
  pub lowest : IsGcd (unsigned_abs num) den 1
  pub some : 1 ≤ den

-- a word is the bound of a seat: the bound of its first set over the scale and the seat's grid for each of its most decisions
abbrev pub IsBoundWord : GameModel → Profile → (seat : ℕ) → Bytes → Type 0
IsBoundWord g p seat word = IsPrinted word (at (bounds_of p seat) 0) (scale g * grid_of g seat ^ most_decisions g seat)

-- a word is an expectation, over the scale and each seat's grid for each of its most decisions
abbrev pub IsExpectedWord : GameModel → ℤ → Bytes → Type 0
IsExpectedWord g value word = IsPrinted word value (scale g * (grid_of g 1 ^ most_decisions g 1 * grid_of g 2 ^ most_decisions g 2))

-- the word of a reply at a place, and its last one
abbrev pub reply_word : List Bytes → ℕ → Bytes
reply_word reply i = slice_index_or reply i []

-- the last word of a reply
abbrev pub last_word : List Bytes → Bytes
last_word reply = reply_word reply (length reply - 1)

-- what a command's reply prints of the strategies after it: both bounds of a blueprint, the bound that is asked for, that of the seat of a proposal, and what seat 1 expects
abbrev pub Prints : GameModel → Profile → Command → List Bytes → Type 0
Prints g p blueprint_uniform reply = IsBoundWord g p 1 (reply_word reply 1) × IsBoundWord g p 2 (reply_word reply 2)
Prints g p (blueprint_given weights) reply = IsBoundWord g p 1 (reply_word reply 1) × IsBoundWord g p 2 (reply_word reply 2)
Prints g p (blueprint_solve rounds) reply = IsBoundWord g p 1 (reply_word reply 1) × IsBoundWord g p 2 (reply_word reply 2)
Prints g p (bound seat) reply = IsBoundWord g p seat (reply_word reply 2)
Prints g p (propose seat node rule weights) reply = IsBoundWord g p seat (last_word reply)
Prints g p (resolve seat node rule rounds) reply = IsBoundWord g p seat (last_word reply)
Prints g p expect reply = IsExpectedWord g (expectation (grid_of g 1) (grid_of g 2) (form_of g) p.table1 p.table2) (reply_word reply 1)
Prints g p _ reply = Unit {0}

-- each reply prints the bounds and the expectation of the strategies after its command, in their units and in lowest terms
abbrev pub PrintedLaw : Type 0
PrintedLaw = (g : GameModel) → IsAccepted g → (cs : List Command) (s t : State) (c : Command) (reply : List Bytes) → Leads (start g) cs s → step_of s c ≡ Ok (t, reply)
    → ((p : Profile) → t.profile ≡ Some p → Prints g p c reply)
    × (c ≡ expect_uniform → IsExpectedWord g (expectation_of_uniform g) (reply_word reply 1))
