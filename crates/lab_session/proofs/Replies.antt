-- Commands and what they reply, as a session finds it.
use Rattle.std.proofs.Common.{◌≡◌, ℕ, ℤ, List, Bool, Option, Some, None, Result, Ok, Err, refl, sym, ap, ◌∙◌, subst, inl, inr}
use Rattle.lab_defs_text.specs.Words.{Bytes}
use Rattle.lab_defs_text.specs.Games.{GameModel}
use Rattle.lab_defs_text.specs.Fractions.{fraction_text, quotient_text}
use Rattle.lab_defs_text.specs.Steps.{◌>>=◌}
use Rattle.lab_defs_game.specs.Seats.{IsSeat}
use Rattle.lab_defs_value.specs.Candidates.{solved_tables}
use Rattle.lab_defs_report.specs.States.{State, Profile, some_profile, good_seat, good_rounds, profile_of, kept, playing, no_blueprint, step_of, blueprint_reply}
use Rattle.lab_defs_report.specs.States as model
use Rattle.lab_units.specs.declared.fraction.Fraction.{Fraction}
use Rattle.lab_session.specs.Answers.{IsReduced, asked, command_of, fraction_word}
use Rattle.lab_session.specs.Kept.{profile_by}
use Rattle.lab_session.specs.declared.how.How.{How}
use Rattle.lab_session.specs.declared.how.How.TheVariants.{Uniform, Given, Solve}

-- a fraction as it is printed, as a word
pub word_is : (f : Fraction) (value : ℤ) (units : ℕ) → IsReduced f value units → fraction_word f ≡ fraction_text value units
word_is f value units is = λ i. quotient_text (is.num i) (is.den i)

-- ---- what is asked for a seat

-- from the blueprint on the strategies are found for seats 1 and 2
pub asked_found : (s : State) (seat : ℕ) (p : Profile) → s.profile ≡ Some p → IsSeat seat → asked s seat ≡ Ok p
asked_found s seat p e is = by (s.profile) e is
  where
    by : (o : Option Profile) → o ≡ Some p → IsSeat seat → (elim o [ Some p ↦ Ok p | None ↦ Err no_blueprint ] >>= λ p. good_seat seat >>= λ x. Ok p) ≡ Ok p
    by (Some q) f (inl k) = subst (λ n. (good_seat n >>= λ x. Ok q) ≡ Ok p) (sym k) cc
    by (Some q) f (inr k) = subst (λ n. (good_seat n >>= λ x. Ok q) ≡ Ok p) (sym k) cc
    by None f is = absurd cc

-- a command for a seat first asks for its strategy
asks_first : {B : Type 0} (s : State) (seat : ℕ) (f : Profile → Result B model.SessionFault) → (some_profile s >>= λ p. good_seat seat >>= λ x. f p) ≡ (asked s seat >>= f)
asks_first {B} s seat f = by (some_profile s) (good_seat seat)
  where
    by : (a : Result Profile model.SessionFault) (b : Result Bool model.SessionFault) → (a >>= λ p. b >>= λ x. f p) ≡ ((a >>= λ p. b >>= λ x. Ok p) >>= f)
    by (Ok p) (Ok x) = refl
    by (Ok p) (Err e) = refl
    by (Err e) b = refl

-- so it has a reply where that is found
pub seat_step : (s : State) (seat : ℕ) (p : Profile) (reply : Profile → List Bytes) → asked s seat ≡ Ok p → (some_profile s >>= λ p. good_seat seat >>= λ x. kept s (reply p)) ≡ Ok (s, reply p)
seat_step s seat p reply e = asks_first s seat (λ p. kept s (reply p)) ∙ ap (λ a. a >>= λ p. kept s (reply p)) e

-- ---- other commands

-- a command that asks for the strategies has a reply from the blueprint on
pub profile_step : (s : State) (p : Profile) (reply : Profile → List Bytes) → s.profile ≡ Some p → (some_profile s >>= λ p. kept s (reply p)) ≡ Ok (s, reply p)
profile_step s p reply e = ap (λ (o : Option Profile). elim o [ Some p ↦ Ok p | None ↦ Err no_blueprint ] >>= λ p. kept s (reply p)) e

-- the first strategies are those of their way
pub first_step : (g : GameModel) (how : How) (p : Profile) → profile_by g how ≡ Ok p
    → step_of (record { game = g; profile = None }) (command_of how) ≡ Ok (record { game = g; profile = Some p }, blueprint_reply g p)
first_step g Uniform p e = ap (λ (r : Result Profile model.SessionFault). r >>= λ p. playing (record { game = g; profile = None }) p (blueprint_reply g p)) e
first_step g (Given weights) p e = ap (λ (r : Result Profile model.SessionFault). r >>= λ p. playing (record { game = g; profile = None }) p (blueprint_reply g p)) e
first_step g (Solve rounds) p e = by (good_rounds rounds) e
  where
    solved : Profile
    solved = let ts = solved_tables g rounds in profile_of g ts.0 ts.1

    by : (r : Result Bool model.SessionFault) → (r >>= λ x. Ok solved) ≡ Ok p
        → (r >>= λ x. playing (record { game = g; profile = None }) solved (blueprint_reply g solved)) ≡ Ok (record { game = g; profile = Some p }, blueprint_reply g p)
    by (Ok x) f = ap (λ (r : Result Profile model.SessionFault). r >>= λ p. playing (record { game = g; profile = None }) p (blueprint_reply g p)) f
    by (Err fault) f = absurd cc

-- replies that are the same
pub kept_as : (s : State) (reply words : List Bytes) → reply ≡ words → kept s reply ≡ Ok (s, words)
kept_as s reply words e = ap (kept s) e
