-- What the calls of a session return, beside the definitions' steps and replies.
use Rattle.std.specs.Prelude.{ℕ, ◌≡◌, ◌≤◌, ◌*ℤ◌, ℤ, pos, List, [], ◌∷◌, map, Option, Some, None, Result, Ok, Err, IsOk}
use Rattle.std.specs.Int.{IsGcd}
use Rattle.std.specs.Int.RustNames.{unsigned_abs}
use lib.Chars.{codes}
use Rattle.lab_defs_text.specs.Words.{Bytes}
use Rattle.lab_defs_text.specs.Numbers.{numeral}
use Rattle.lab_defs_text.specs.Fractions.{quotient_text, lowest_num, lowest_den}
use Rattle.lab_defs_text.specs.Steps.{◌>>=◌}
use Rattle.lab_defs_report.specs.Commands as command
use Rattle.lab_defs_report.specs.States.{State, Profile, step_of, some_profile, good_seat}
use Rattle.lab_defs_report.specs.States as model
use Rattle.lab_units.specs.declared.fraction.Fraction.{Fraction}
use Rattle.lab_session.specs.declared.how.How.{How}
use Rattle.lab_session.specs.declared.how.How.TheVariants.{Uniform, Given, Solve}
use Rattle.lab_session.specs.declared.fault.SessionFault.{SessionFault}
use Rattle.lab_session.specs.declared.fault.SessionFault.TheVariants.{NoBlueprint, SecondBlueprint, BadSeat, BadRounds, WrongCount, WrongSum, Memory}

-- ---- fractions and the words of replies

-- a number over units, in lowest terms
pub record IsLowest (f : Fraction) (value : ℤ) (units : ℕ) : Type 0 where
  pub same : f.num *ℤ pos units ≡ value *ℤ pos f.den
  pub lowest : IsGcd (unsigned_abs f.num) f.den 1
  pub some : 1 ≤ f.den

-- and as it is printed
pub record IsReduced (f : Fraction) (value : ℤ) (units : ℕ) : Type 0 where
  pub num : f.num ≡ lowest_num value units
  pub den : f.den ≡ lowest_den value units
  pub lowest : IsLowest f value units

-- a fraction as a word
abbrev pub fraction_word : Fraction → Bytes
fraction_word f = quotient_text f.num f.den

-- the words of the replies
abbrev pub expect_words : Fraction → List Bytes
expect_words f = codes "expect" ∷ fraction_word f ∷ []

abbrev pub blueprint_words : (first second : Fraction) → List Bytes
blueprint_words first second = codes "blueprint" ∷ fraction_word first ∷ fraction_word second ∷ []

abbrev pub bound_words : (seat : ℕ) → Fraction → List Bytes
bound_words seat f = codes "bound" ∷ numeral seat ∷ fraction_word f ∷ []

abbrev pub show_words : (seat : ℕ) → List ℕ → List Bytes
show_words seat weights = codes "show" ∷ numeral seat ∷ map numeral weights

-- ---- commands and refusals

-- the command of a way to a blueprint
abbrev pub command_of : How → command.Command
command_of Uniform = command.blueprint_uniform
command_of (Given weights) = command.blueprint_given weights.now
command_of (Solve rounds) = command.blueprint_solve rounds

-- the reason by the definitions, if it is not that memory is short
abbrev pub fault_in : SessionFault → Option model.SessionFault
fault_in NoBlueprint = Some model.no_blueprint
fault_in SecondBlueprint = Some model.second_blueprint
fault_in BadSeat = Some model.bad_seat
fault_in BadRounds = Some model.bad_rounds
fault_in (WrongCount needed given) = Some (model.wrong_count needed given)
fault_in (WrongSum seat set) = Some (model.wrong_sum seat set.0)
fault_in Memory = None

-- the reason for which something is refused; memory is short only where nothing is refused
abbrev pub IsReason : {A : Type 0} → Result A model.SessionFault → SessionFault → Type 0
IsReason found fault = elim (fault_in fault) [ Some e ↦ found ≡ Err e | None ↦ IsOk found ]

-- a call takes a session as the command does: to the state after it and its reply, or it is refused for this reason and the session is as it was
abbrev pub Steps : {A : Type 0} → (words : A → List Bytes) → (before : State) → command.Command → (after : State) → Result A SessionFault → Type 0
Steps words before c after (Ok x) = step_of before c ≡ Ok (after, words x)
Steps words before c after (Err fault) = IsReason (step_of before c) fault × (after ≡ before)

-- the strategies, asked for a seat's: refused before the blueprint, and then for a seat that is not 1 or 2
abbrev pub asked : State → (seat : ℕ) → Result Profile model.SessionFault
asked s seat = some_profile s >>= λ p. good_seat seat >>= λ x. Ok p

-- what is found of a seat's strategy, or the reason why there is none
abbrev pub Finds : {A : Type 0} → (Profile → A → Type 0) → (s : State) (seat : ℕ) → Result A SessionFault → Type 0
Finds Is s seat (Ok x) = (p : Profile) × (asked s seat ≡ Ok p) × Is p x
Finds Is s seat (Err fault) = IsReason (asked s seat) fault
