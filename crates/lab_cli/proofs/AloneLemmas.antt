-- How far an input is answered in a mode for games alone, after its game was read.
use Rattle.std.proofs.Common.{◌≡◌, ◌≢◌, ℕ, ◌+◌, ◌<◌, true, false, cond, List, [], ◌∷◌, ◌++◌, length, length-append, Option, Result, Ok, Err, OnOk, OnErr, refl, sym, ap, ◌∙◌, subst, arith}
use Rattle.std.specs.Prelude.{◌==◌}
use Rattle.std.specs.List.{onto_first}
use Rattle.std.specs.Io.KnownBytes.{Appends}
use lib.Chars.{codes}
use Rattle.lab_io.specs.Causes.{AppendsFront}
use Rattle.lab_io.specs.Reading.{Takes, IsEnd}
use Rattle.lab_io.proofs.CallerLemmas.{Takes-append, Takes-all}
use Rattle.lab_defs_text.specs.Words.{Bytes, lines}
use Rattle.lab_defs_text.specs.Games.{GameModel}
use Rattle.lab_defs_text.specs.Texts.{canonical}
use Rattle.lab_defs_report.specs.Refusals.{refused}
use Rattle.lab_defs_report.specs.Answers.{Answer, answer, silent, refusing}
use Rattle.lab_defs_report.specs.Cuts.{game_limit, cut_at, goes_on}
use Rattle.lab_defs_report.specs.GameModes.{read_text, playable, check_cut, counts_line}
use Rattle.lab_defs_report.specs.Modes.{check, print, input_cut}
use Rattle.lab_defs_report.proofs.CutLemmas.{lines_some}
use Rattle.lab_input.specs.declared.stop.Stop.{Stop}
use Rattle.lab_input.specs.declared.stop.Stop.TheVariants.{Refused, ReadFault, WriteFault, Memory}
use Rattle.lab_input.specs.GameParts.{IsGamePart, TakesSome, NotEnded}
use Rattle.lab_input.proofs.CallerLemmas.{cut_after}
use Rattle.lab_cli.specs.Answering.{Answering, Answered}
use Rattle.lab_cli.proofs.WriteLemmas.{prefix_written, front_trans, whole_front}
use Rattle.lab_cli.proofs.AnsweredLemmas.{IsRead, more_read, answered_by, answered_in, answered_memory, answered_refused, answered_silent}

-- a mode that writes `out` for a game alone, once its input ends, and refuses what follows the game
pub record IsAlone (A : Answering) (text : Bytes) (n : ℕ) (out : Bytes) : Type 0 where
  pub extra : (input : Bytes) (ls : List Bytes) → input_cut false input ≡ cut_at text n ls → goes_on ls ≡ true → A false input ≡ refusing (refused (n + 1) (codes "ExtraLine") [])
  pub so_far : (input : Bytes) → input_cut false input ≡ cut_at text n ([] ∷ []) → A false input ≡ silent
  pub whole : (input : Bytes) → input_cut true input ≡ cut_at text n ([] ∷ []) → A true input ≡ answer out

pub print_alone : (text : Bytes) (n : ℕ) (g : GameModel) → read_text text ≡ Ok g → IsAlone (answered_in print) text n (canonical g)
print_alone text n g t = record { extra = λ input ls e h. rw (e, t, h) refl; so_far = λ input e. rw (e, t) refl; whole = λ input e. rw (e, t) refl }

pub check_alone : (text : Bytes) (n : ℕ) (g : GameModel) → playable text n ≡ Ok g → IsAlone (answered_in check) text n (counts_line g)
check_alone text n g t = record { extra = λ input ls e h. rw (e, check_cut, t, h) refl; so_far = λ input e. rw (e, check_cut, t) refl; whole = λ input e. rw (e, check_cut, t) refl }

-- where there are bytes after a game, a byte follows it
some_goes_on : (bytes : Bytes) → 0 < length bytes → goes_on (lines bytes) ≡ true
some_goes_on [] h = absurd (omega arith)
some_goes_on (c ∷ cs) h = by_lines (lines cs) (lines_some cs)
  where
    by_rest : (l : Bytes) (ls : List Bytes) → goes_on ((c ∷ l) ∷ ls) ≡ true
    by_rest l [] = refl
    by_rest l (m ∷ ms) = refl

    by_lines : (ls : List Bytes) → ls ≢ [] → goes_on (cond (c == 10) ([] ∷ ls) (onto_first c ls)) ≡ true
    by_lines [] e = absurd (e refl)
    by_lines (l ∷ ls) e = elim (c == 10) as (λ b. goes_on (cond b ([] ∷ l ∷ ls) (onto_first c (l ∷ ls))) ≡ true) [ true ↦ refl | false ↦ by_rest l ls ]

-- the end of the input was not found after the game
pub answered_not_ended : {A : Answering} {old : Option Bytes} {ahead : Bytes} {left new : Option Bytes} {text : Bytes} {n : ℕ} {out : Bytes} (a : Option Bytes) (s : Stop) → IsGamePart old ahead left text n
    → IsAlone A text n out → NotEnded ahead left new n s → Answered {T = Unit {0}} A game_limit [] old new a a (Err s)
answered_not_ended {A} {old} {ahead} {left} {new} {text} {n} a s part alone h = by_stop s h
  where
    read : (t : TakesSome 0 ahead left new) → IsRead game_limit old new (text ++ (ahead ++ t.taken)) false
    read t = more_read 0 t.taken false part t.consumed t.within (λ e. absurd cc)

    cut : (t : TakesSome 0 ahead left new) → input_cut false (text ++ (ahead ++ t.taken)) ≡ cut_at text n (lines (ahead ++ t.taken))
    cut t = cut_after old ahead left text n part false (ahead ++ t.taken)

    by_stop : (s : Stop) → NotEnded ahead left new n s → Answered {T = Unit {0}} A game_limit [] old new a a (Err s)
    by_stop (Refused kept) h =
        answered_refused a (text ++ (ahead ++ h.takes.taken)) false (refused (n + 1) (codes "ExtraLine") []) kept (read h.takes)
        (alone.extra (text ++ (ahead ++ h.takes.taken)) (lines (ahead ++ h.takes.taken)) (cut h.takes) (some_goes_on (ahead ++ h.takes.taken) h.some)) h.tells
    by_stop ReadFault h =
        answered_silent a (text ++ (ahead ++ h.takes.taken)) (read h.takes)
        (alone.so_far (text ++ (ahead ++ h.takes.taken)) (cut h.takes ∙ ap (λ x. cut_at text n (lines x)) h.none))
    by_stop WriteFault h = absurd h
    by_stop Memory h = answered_memory a (text ++ (ahead ++ h.taken)) false (read h)

-- nothing follows the game
all_read : {old : Option Bytes} {ahead : Bytes} {left : Option Bytes} {rest : Bytes} {new : Option Bytes} {text : Bytes} {n : ℕ} → IsGamePart old ahead left text n → Takes ahead left rest new []
    → IsEnd ahead rest new → IsRead game_limit old new (text ++ []) true
all_read {old} {new = new} {text = text} part t e =
    let all : Takes [] old [] new (text ++ []) = subst (λ x. Takes [] old x new (text ++ [])) e.none_now (Takes-append part.takes t) in
    record { consumed = Takes-all all; within = omega (arith, part.short, length-append text []); at_end = λ _. e.at_end }

-- no memory is left once the input has ended
pub answered_unwritten : {A : Answering} {old : Option Bytes} {ahead : Bytes} {left : Option Bytes} {rest : Bytes} {new : Option Bytes} {text : Bytes} {n : ℕ} (a : Option Bytes) → IsGamePart old ahead left text n
    → Takes ahead left rest new [] → IsEnd ahead rest new → Answered {T = Unit {0}} A game_limit [] old new a a (Err Memory)
answered_unwritten {text = text} a part t e = answered_memory a (text ++ []) true (all_read part t e)

-- bytes were written whole, or a prefix of them, and then the sink failed
pub record IsWritten (a b : Option Bytes) (bytes : Bytes) (r : Result (Unit {0}) Stop) : Type 0 where
  pub whole : OnOk r (Appends a b bytes)
  pub front : OnErr r (AppendsFront a b bytes)
  pub only : r ≢ Ok tt → r ≡ Err WriteFault

-- what the mode says of the game is written once the input has ended
pub answered_alone : {A : Answering} {old : Option Bytes} {ahead : Bytes} {left : Option Bytes} {rest : Bytes} {new : Option Bytes} {text : Bytes} {n : ℕ} {a b : Option Bytes} (out bytes : Bytes) (r : Result (Unit {0}) Stop)
    → IsGamePart old ahead left text n → Takes ahead left rest new [] → IsEnd ahead rest new → IsAlone A text n out → bytes ≡ out → IsWritten a b bytes r → Answered A game_limit [] old new a b r
answered_alone {A} {old} {new = new} {text = text} {n = n} {a = a} {b = b} out bytes r part t e alone same w = by_result r w
  where
    said : A true (text ++ []) ≡ answer bytes
    said = alone.whole (text ++ []) (cut_after _ _ _ text n part true []) ∙ ap answer (sym same)

    by_result : (r : Result (Unit {0}) Stop) → IsWritten a b bytes r → Answered A game_limit [] old new a b r
    by_result (Ok x) w = answered_by (Ok x) (text ++ []) true bytes (all_read part t e) w.whole (refl, said)
    by_result (Err WriteFault) w =
        let p = prefix_written a b bytes w.front in
        answered_by (Err WriteFault) (text ++ []) true p.0 (all_read part t e) p.1 (front_trans p.0 bytes (A true (text ++ [])).out p.2 (whole_front bytes (A true (text ++ [])).out (ap (λ (x : Answer). x.out) said)))
    by_result (Err (Refused kept)) w = let no : ◌≡◌ {A = Result (Unit {0}) Stop} (Err (Refused kept)) (Err WriteFault) = w.only (λ e. cc) in absurd cc
    by_result (Err ReadFault) w = let no : ◌≡◌ {A = Result (Unit {0}) Stop} (Err ReadFault) (Err WriteFault) = w.only (λ e. cc) in absurd cc
    by_result (Err Memory) w = let no : ◌≡◌ {A = Result (Unit {0}) Stop} (Err Memory) (Err WriteFault) = w.only (λ e. cc) in absurd cc
