-- How far an input is answered where its game is not read, or refused.
use Rattle.std.proofs.Common.{◌≡◌, ℕ, ◌+◌, ◌≤◌, Bool, true, false, List, [], ◌++◌, length, length-append, Option, Some, Result, Err, refl, sym, ap, ◌∙◌, subst, arith}
use Rattle.std.specs.Prelude.{IsTrue}
use Rattle.std.specs.Io.KnownBytes.{Consumes, IsAtEnd, Appends}
use Rattle.std.proofs.KnownBytes.{Appends-nil}
use Rattle.lab_io.specs.declared.line_reader.TheConstants.{READ_AHEAD}
use Rattle.lab_defs_text.specs.Words.{Bytes, lines}
use Rattle.lab_defs_text.specs.Games.{GameModel}
use Rattle.lab_defs_report.specs.Refusals.{Refusal, refusal_line}
use Rattle.lab_defs_report.specs.Answers.{silent, refusing}
use Rattle.lab_defs_report.specs.Cuts.{game_limit, cut_at, cut_refused, cut_open}
use Rattle.lab_defs_report.specs.GameModes.{read_text, playable, check_cut}
use Rattle.lab_defs_report.specs.Sessions.{session_cut}
use Rattle.lab_defs_report.specs.Modes.{Mode, session, check, print, this_program, mode_answer, input_cut}
use Rattle.lab_input.specs.declared.refusals.Rejection.{Rejection}
use Rattle.lab_input.specs.declared.stop.Stop.{Stop}
use Rattle.lab_input.specs.declared.stop.Stop.TheVariants.{Refused, ReadFault, WriteFault, Memory}
use Rattle.lab_input.specs.Stops.{line_of, Denies}
use Rattle.lab_input.specs.GameParts.{IsGamePart, TakesSome, CutsOff}
use Rattle.lab_input.proofs.CallerLemmas.{cut_after, given_and_more}
use Rattle.lab_cli.specs.Answering.{Answering, EndsBy, Answered}
use Rattle.lab_cli.proofs.WriteLemmas.{none_front}

-- ---- bytes that were read

-- bytes were taken, to the end of the source or not, no more than a limit and those that a reader holds
pub record IsRead (limit : ℕ) (old new : Option Bytes) (bytes : Bytes) (ended : Bool) : Type 0 where
  pub consumed : Consumes old new bytes
  pub within : length bytes ≤ limit + READ_AHEAD
  pub at_end : IsTrue ended → IsAtEnd new

-- the lines of a game, and what was read ahead
part_read : {old : Option Bytes} {ahead : Bytes} {left : Option Bytes} {text : Bytes} {n : ℕ} → IsGamePart old ahead left text n → length ahead ≤ READ_AHEAD
    → IsRead game_limit old left (text ++ ahead) false
part_read {old} {ahead} {left} {text} part few = record {
  consumed = subst (Consumes old left) part.takes.split part.takes.consumed;
  within = omega (arith, part.short, few, length-append text ahead);
  at_end = λ e. absurd cc;
}

-- the lines of a game, and bytes that were read after them
pub more_read : {old : Option Bytes} {ahead : Bytes} {left new : Option Bytes} {text : Bytes} {n : ℕ} (limit : ℕ) (taken : Bytes) (ended : Bool) → IsGamePart old ahead left text n → Consumes left new taken
    → length (ahead ++ taken) ≤ limit + READ_AHEAD → (IsTrue ended → IsAtEnd new) → IsRead (game_limit + limit) old new (text ++ (ahead ++ taken)) ended
more_read {old} {ahead} {left} {new} {text} limit taken ended part c few e = record {
  consumed = given_and_more old left new ahead text taken part.takes c;
  within = omega (arith, part.short, few, length-append text (ahead ++ taken));
  at_end = e;
}

-- ---- bytes that were answered

-- bytes that were read, and what was written for them
pub answered_by : {A : Answering} {limit : ℕ} {l n a b : Option Bytes} (r : Result (Unit {0}) Stop) (bytes : Bytes) (ended : Bool) (written : Bytes) → IsRead limit l n bytes ended → Appends a b written
    → EndsBy A ended bytes written r → Answered A limit [] l n a b r
answered_by r bytes ended written t p h = record { taken = bytes; consumed = t.consumed; within = t.within; ended = ended; at_end = t.at_end; written = written; appended = p; ends = h }

-- nothing was written, for want of memory
pub answered_memory : {A : Answering} {limit : ℕ} {l n : Option Bytes} (a : Option Bytes) (bytes : Bytes) (ended : Bool) → IsRead limit l n bytes ended → Answered {T = Unit {0}} A limit [] l n a a (Err Memory)
answered_memory {A} a bytes ended t = answered_by (Err Memory) bytes ended [] t (Appends-nil a) (none_front (A ended bytes).out)

-- a refusal is known of the bytes that were read, and nothing was written
pub answered_refused : {A : Answering} {limit : ℕ} {l n : Option Bytes} (a : Option Bytes) (bytes : Bytes) (ended : Bool) (r : Refusal) (kept : Rejection) → IsRead limit l n bytes ended → A ended bytes ≡ refusing r
    → line_of kept ≡ refusal_line r → Answered {T = Unit {0}} A limit [] l n a a (Err (Refused kept))
answered_refused a bytes ended r kept t h tells =
    answered_by (Err (Refused kept)) bytes ended [] t (Appends-nil a) (h ∙ ap (λ o. record { out = o; refuses = true }) (sym tells))

-- the source failed, and nothing is answered so far
pub answered_silent : {A : Answering} {limit : ℕ} {l n : Option Bytes} (a : Option Bytes) (bytes : Bytes) → IsRead limit l n bytes false → A false bytes ≡ silent
    → Answered {T = Unit {0}} A limit [] l n a a (Err ReadFault)
answered_silent a bytes t h = answered_by (Err ReadFault) bytes false [] t (Appends-nil a) h

-- what is within a limit is within a greater one
pub answered_within : {A : Answering} {limit : ℕ} {l n a b : Option Bytes} (more : ℕ) (r : Result (Unit {0}) Stop) → limit ≤ more → Answered A limit [] l n a b r → Answered A more [] l n a b r
answered_within more r le h = record {
  taken = h.taken;
  consumed = h.consumed;
  within = omega (arith, le, h.within);
  ended = h.ended;
  at_end = h.at_end;
  written = h.written;
  appended = h.appended;
  ends = h.ends;
}

-- ---- games that are refused

-- what is answered before anything is written: the refusal of the lines of a game, and of what is found wrong with them
pub record RefusesGames (A : Answering) (found : Bytes → ℕ → Result GameModel Refusal) : Type 0 where
  pub by_cut : (ended : Bool) (input : Bytes) (r : Refusal) → input_cut ended input ≡ cut_refused r → A ended input ≡ refusing r
  pub while_open : (input : Bytes) → input_cut false input ≡ cut_open → A false input ≡ silent
  pub by_game : (ended : Bool) (input text : Bytes) (n : ℕ) (ls : List Bytes) (r : Refusal) → input_cut ended input ≡ cut_at text n ls → found text n ≡ Err r → A ended input ≡ refusing r

-- what is answered in a mode
abbrev pub answered_in : Mode → Answering
answered_in m = λ ended input. mode_answer this_program ended input (Some m)

pub print_refuses : RefusesGames (answered_in print) (λ text n. read_text text)
print_refuses = record { by_cut = λ ended input r e. rw e refl; while_open = λ input e. rw e refl; by_game = λ ended input text n ls r e t. rw (e, t) refl }

pub check_refuses : RefusesGames (answered_in check) playable
check_refuses = record { by_cut = λ ended input r e. rw e refl; while_open = λ input e. rw e refl; by_game = λ ended input text n ls r e t. rw (e, check_cut, t) refl }

pub session_refuses : RefusesGames (answered_in session) playable
session_refuses = record { by_cut = λ ended input r e. rw e refl; while_open = λ input e. rw e refl; by_game = λ ended input text n ls r e t. rw (e, session_cut, t) refl }

-- the lines of a game are cut off
pub answered_cut_off : {A : Answering} {found : Bytes → ℕ → Result GameModel Refusal} {old new : Option Bytes} (a : Option Bytes) (s : Stop) → RefusesGames A found → CutsOff old new s
    → Answered {T = Unit {0}} A game_limit [] old new a a (Err s)
answered_cut_off {A} {old = old} {new = new} a s p h = by_stop s h
  where
    read : (t : TakesSome game_limit [] old new) (ended : Bool) → (IsTrue ended → IsAtEnd new) → IsRead game_limit old new t.taken ended
    read t ended e = record { consumed = t.consumed; within = t.within; at_end = e }

    by_stop : (s : Stop) → CutsOff old new s → Answered {T = Unit {0}} A game_limit [] old new a a (Err s)
    by_stop (Refused kept) h = answered_refused a h.takes.taken h.ended h.refusal kept (read h.takes h.ended h.at_end) (p.by_cut h.ended h.takes.taken h.refusal h.cuts) h.tells
    by_stop ReadFault h = answered_silent a h.takes.taken (read h.takes false (λ e. absurd cc)) (p.while_open h.takes.taken h.cuts)
    by_stop WriteFault h = absurd h
    by_stop Memory h = answered_memory a h.taken false (read h false (λ e. absurd cc))

-- a game is refused
pub answered_denied : {A : Answering} {found : Bytes → ℕ → Result GameModel Refusal} {old : Option Bytes} {ahead : Bytes} {left : Option Bytes} {text : Bytes} {n : ℕ} (a : Option Bytes) (s : Stop)
    → RefusesGames A found → IsGamePart old ahead left text n → length ahead ≤ READ_AHEAD → Denies (found text n) s → Answered {T = Unit {0}} A game_limit [] old left a a (Err s)
answered_denied {A} {ahead = ahead} {text = text} {n = n} a (Refused kept) p part few h =
    answered_refused a (text ++ ahead) false h.0 kept (part_read part few) (p.by_game false (text ++ ahead) text n (lines ahead) h.0 (cut_after _ _ _ text n part false ahead) h.1) h.2
answered_denied a ReadFault p part few h = absurd h
answered_denied a WriteFault p part few h = absurd h
answered_denied {ahead = ahead} {text = text} a Memory p part few h = answered_memory a (text ++ ahead) false (part_read part few)
