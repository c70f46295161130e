-- The lines of a game that are collected from a source, and what stops them.
use Rattle.std.proofs.Common.{◌≡◌, ℕ, ◌+◌, ◌-◌, ◌≤◌, Bool, true, false, [], ◌∷◌, ◌++◌, length, Option, Result, Ok, Err, IfErr, refl, sym, ap, ◌∙◌, subst, arith, length-append, append_assoc}
use Rattle.std.specs.Prelude.{IsTrue}
use Rattle.std.specs.Result.{IsErr, IsErrAnd}
use Rattle.std.specs.Str.{bytes_eq}
use Rattle.std.specs.Io.KnownBytes.{Consumes, IsAtEnd}
use lib.Chars.{codes}
use Rattle.lab_io.specs.Reading.{Reader, Takes, StoppedAfter, LineStop, IsLine, IsEnd}
use Rattle.lab_io.specs.declared.line_reader.ReadStop.{ReadStop}
use Rattle.lab_io.specs.declared.line_reader.ReadStop.TheVariants as read
use Rattle.lab_io.specs.declared.line_reader.TheConstants.{READ_AHEAD}
use Rattle.lab_io.proofs.CallerLemmas.{Takes-append, Takes-all}
use Rattle.lab_defs_text.specs.Words.{Bytes, lines}
use Rattle.lab_defs_report.specs.Refusals.{Refusal, refused}
use Rattle.lab_defs_report.specs.Cuts.{game_limit, cut_at, cut_refused, cut_from}
use Rattle.lab_defs_report.specs.Modes.{input_cut}
use Rattle.lab_input.specs.declared.stop.Stop.{Stop}
use Rattle.lab_input.specs.declared.stop.Stop.TheVariants as stop
use Rattle.lab_input.specs.Stops.{IsRefusal, RefusesRead}
use Rattle.lab_input.specs.GameParts.{IsGamePart, TakesSome, CutsOff}
use Rattle.lab_input.specs.PlainLines.{GivesLines}
use Rattle.lab_input.proofs.PartLemmas.{given_and_more}
use Rattle.lab_input.proofs.PlainLemmas.{plain_cut, plain_few}
use Rattle.lab_input.proofs.LineLimits.{limit_passes, allowance_passes}
use Rattle.lab_input.proofs.LineCuts.{line_cut, line_open, ends_short, ends_inside, cut_passed}

-- whole lines that came next, none of them `done`; the next one has the number n
pub record Collected (old : Option Bytes) (ahead : Bytes) (left : Option Bytes) (text : Bytes) (n : ℕ) : Type 0 where
  pub takes : Takes [] old ahead left text
  pub cuts : (ended : Bool) (y : Bytes) → input_cut ended (text ++ y) ≡ cut_from ended n text (lines y)
  pub few : n ≤ length text + 1

-- one line more
pub collected_more : (old left new : Option Bytes) (ahead rest text line after : Bytes) (n : ℕ) → Collected old ahead left text n → Takes ahead left rest new (line ++ 10 ∷ []) → IsLine line
    → length line + 1 ≤ game_limit - length text → bytes_eq line (codes "done") ≡ false → after ≡ text ++ (line ++ 10 ∷ []) → Collected old rest new after (n + 1)
collected_more old left new ahead rest text line after n c t whole h other e =
    subst (λ t. Collected old rest new t (n + 1)) (sym e) (record {
      takes = Takes-append c.takes t;
      cuts = λ ended y.
          ap (input_cut ended) (append_assoc text (line ++ 10 ∷ []) y ∙ ap (λ x. text ++ x) (append_assoc line (10 ∷ []) y)) ∙ c.cuts ended (line ++ 10 ∷ y)
          ∙ line_cut ended n text line y whole h ∙ (rw other refl) ∙ ap (λ t. cut_from ended (n + 1) t (lines y)) (append_assoc text line (10 ∷ []));
      few = omega (arith, c.few, length-append text (line ++ 10 ∷ []), length-append line (10 ∷ []));
    })

-- lines more, which a reader had ahead
pub collected_lines : (old left : Option Bytes) (a b : Reader) (text more : Bytes) (n count : ℕ) → Collected old a.ahead left text n → a.allowance + length text ≡ game_limit → GivesLines a b text more count
    → Collected old b.ahead left more (n + count)
collected_lines old left a b text more n count c fits g =
    subst (λ t. Collected old b.ahead left t (n + count)) (sym g.text) (record {
      takes = record { taken = c.takes.taken; consumed = c.takes.consumed; split = c.takes.split ∙ ap (λ x. text ++ x) g.ahead ∙ sym (append_assoc text g.given b.ahead) };
      cuts = λ ended y. ap (input_cut ended) (append_assoc text g.given y) ∙ c.cuts ended (g.given ++ y) ∙ plain_cut ended n count text g.given y g.lines g.short (omega (arith, fits, g.paid));
      few = omega (arith, c.few, length-append text g.given, plain_few g.given count g.lines);
    })

-- what is allowed after them
pub lines_left : (a b : Reader) (text more : Bytes) (count : ℕ) → a.allowance + length text ≡ game_limit → GivesLines a b text more count → b.allowance + length more ≡ game_limit
lines_left a b text more count fits g = omega (arith, fits, g.paid, ap length g.text, length-append text g.given)

-- the line that is `done`
pub part_found : (old left new : Option Bytes) (ahead rest text line after : Bytes) (n : ℕ) → Collected old ahead left text n → Takes ahead left rest new (line ++ 10 ∷ []) → IsLine line
    → length line + 1 ≤ game_limit - length text → bytes_eq line (codes "done") ≡ true → after ≡ text ++ (line ++ 10 ∷ []) → IsGamePart old rest new after n
part_found old left new ahead rest text line after n c t whole h last e =
    subst (λ t. IsGamePart old rest new t n) (sym e) (record {
      takes = Takes-append c.takes t;
      cuts = c.cuts false (line ++ 10 ∷ []) ∙ line_cut false n text line [] whole h ∙ (rw last refl) ∙ ap (λ t. cut_at t n ([] ∷ [])) (append_assoc text line (10 ∷ []));
      short = omega (arith, h, length-append text (line ++ 10 ∷ []), length-append line (10 ∷ []));
      few = omega (arith, c.few, length-append text (line ++ 10 ∷ []), length-append line (10 ∷ []));
    })

-- the text with a line added, as it was shown
pub line_added : (after text shown line : Bytes) → after ≡ text ++ (shown ++ 10 ∷ []) → shown ≡ line → after ≡ text ++ (line ++ 10 ∷ [])
line_added after text shown line e s = e ∙ ap (λ l. text ++ (l ++ 10 ∷ [])) s

-- a line within the allowance
pub line_fits : (left allowance : ℕ) (text line : Bytes) → left + length (line ++ 10 ∷ []) ≡ allowance → allowance + length text ≡ game_limit → length line + 1 ≤ game_limit - length text
line_fits left allowance text line e h = omega (arith, e, h, length-append line (10 ∷ []))

-- what is allowed after it
pub left_after : (left allowance : ℕ) (text line : Bytes) → left + length (line ++ 10 ∷ []) ≡ allowance → allowance + length text ≡ game_limit → left + length (text ++ (line ++ 10 ∷ [])) ≡ game_limit
left_after left allowance text line e h = omega (arith, e, h, length-append text (line ++ 10 ∷ []))

-- whether a line is `done`, as it was tested
pub done_test : (b : Bool) (shown word line : Bytes) → b ≡ bytes_eq shown word → shown ≡ line → word ≡ codes "done" → bytes_eq line (codes "done") ≡ b
done_test b shown word line e s w = sym (e ∙ ap (λ x. bytes_eq x word) s ∙ ap (bytes_eq line) w)

-- ---- how much was taken

-- what was given, and what a reader has ahead, is all that was taken
taken_so_far : (old left : Option Bytes) (ahead text : Bytes) (allowance : ℕ) → Takes [] old ahead left text → allowance + length text ≡ game_limit → length ahead ≤ READ_AHEAD → TakesSome game_limit [] old left
taken_so_far old left ahead text allowance t fits held = record {
  taken = t.taken;
  consumed = t.consumed;
  within = omega (arith, fits, held, ap length t.split, length-append text ahead);
}

-- and one line more
pub taken_with_line : (old left new : Option Bytes) (ahead rest text line : Bytes) (n allowance now : ℕ) → Collected old ahead left text n → Takes ahead left rest new (line ++ 10 ∷ [])
    → now + length (line ++ 10 ∷ []) ≡ allowance → allowance + length text ≡ game_limit → length rest ≤ READ_AHEAD → TakesSome game_limit [] old new
taken_with_line old left new ahead rest text line n allowance now c t paid fits held =
    taken_so_far old new rest (text ++ (line ++ 10 ∷ [])) now (Takes-append c.takes t) (left_after now allowance text line paid fits) held

-- where the reader stopped inside a line
abbrev stopped_after : (old left new : Option Bytes) (ahead text more : Bytes) (allowance : ℕ) → Takes [] old ahead left text → allowance + length text ≡ game_limit → Consumes left new more
    → length (ahead ++ more) ≤ allowance + READ_AHEAD → TakesSome game_limit [] old new
stopped_after old left new ahead text more allowance t fits c within = record {
  taken = text ++ (ahead ++ more);
  consumed = given_and_more old left new ahead text more t c;
  within = omega (arith, fits, within, length-append text (ahead ++ more));
}

-- ---- what stops the lines of a game

-- a refusal that is known of the bytes that were taken
cuts_off : (old new : Option Bytes) (t : TakesSome game_limit [] old new) (ended : Bool) (r : Refusal) (s : Stop) → IsRefusal r s → (IsTrue ended → IsAtEnd new) → input_cut ended t.taken ≡ cut_refused r
    → CutsOff old new s
cuts_off old new t ended r (stop.Refused kept) h e k = record { takes = t; ended = ended; at_end = e; refusal = r; cuts = k; tells = h }
cuts_off old new t ended r stop.ReadFault h e k = absurd h
cuts_off old new t ended r stop.WriteFault h e k = absurd h
cuts_off old new t ended r stop.Memory h e k = t

-- the input ended where a line would begin
pub cut_short : (old left new : Option Bytes) (ahead rest text : Bytes) (n allowance : ℕ) (s : Stop) → Collected old ahead left text n → allowance + length text ≡ game_limit → Takes ahead left rest new [] → IsEnd ahead rest new
    → IsRefusal (refused n (codes "CutShort") []) s → CutsOff old new s
cut_short old left new ahead rest text n allowance s c fits t e h =
    let all : Takes [] old [] new (text ++ []) = subst (λ a. Takes [] old a new (text ++ [])) e.none_now (Takes-append c.takes t) in
    let some : TakesSome game_limit [] old new = record { taken = text ++ []; consumed = Takes-all all; within = omega (arith, fits, length-append text []) } in
    cuts_off old new some true (refused n (codes "CutShort") []) s h (λ _. e.at_end) (c.cuts true [] ∙ ends_short n text)

-- what stopped the reader inside a line cuts the input off
pub cut_by_stop : (old left new : Option Bytes) (ahead text : Bytes) (n allowance : ℕ) (why : ReadStop) (s : Stop) → Collected old ahead left text n → allowance + length text ≡ game_limit
    → StoppedAfter ahead left new allowance (LineStop allowance new why) → RefusesRead n (codes "GameTooLong") why s → CutsOff old new s
cut_by_stop old left new ahead text n allowance read.NoNewline s c fits t h =
    cuts_off old new (stopped_after old left new ahead text t.taken allowance c.takes fits t.consumed t.within) true (refused n (codes "NoNewline") []) s h (λ _. t.why.3)
    (c.cuts true (ahead ++ t.taken) ∙ ends_inside n text (ahead ++ t.taken) t.why.0 t.why.1 (omega (arith, fits, t.why.2)))
cut_by_stop old left new ahead text n allowance read.LineTooLong s c fits t h =
    let same : allowance ≡ game_limit - length text = omega (arith, fits) in
    cuts_off old new (stopped_after old left new ahead text t.taken allowance c.takes fits t.consumed t.within) false (refused n (codes "LineTooLong") []) s h (λ x. absurd cc)
    (c.cuts false (ahead ++ t.taken)
    ∙ cut_passed false n text (ahead ++ t.taken) (codes "LineTooLong") (limit_passes (codes "GameTooLong") (game_limit - length text) (ahead ++ t.taken) (rw same at t.why)))
cut_by_stop old left new ahead text n allowance read.AllowancePassed s c fits t h =
    let same : allowance ≡ game_limit - length text = omega (arith, fits) in
    cuts_off old new (stopped_after old left new ahead text t.taken allowance c.takes fits t.consumed t.within) false (refused n (codes "GameTooLong") []) s h (λ x. absurd cc)
    (c.cuts false (ahead ++ t.taken)
    ∙ cut_passed false n text (ahead ++ t.taken) (codes "GameTooLong") (allowance_passes (codes "GameTooLong") (game_limit - length text) (ahead ++ t.taken) (rw same at t.why)))
cut_by_stop old left new ahead text n allowance read.ReadFault s c fits t h =
    subst (CutsOff old new) (sym h) (record {
      takes = stopped_after old left new ahead text t.taken allowance c.takes fits t.consumed t.within;
      cuts = c.cuts false (ahead ++ t.taken) ∙ line_open false n text (ahead ++ t.taken) t.why.0 (omega (arith, fits, t.why.1));
    })
cut_by_stop old left new ahead text n allowance read.Memory s c fits t h =
    subst (CutsOff old new) (sym h) (stopped_after old left new ahead text t.taken allowance c.takes fits t.consumed t.within)

-- for want of memory, what was taken is known
pub memory_passed : {T : Type 0} (old new : Option Bytes) (r : Result T Stop) → IsErr r × IsErrAnd r (λ e. e ≡ stop.Memory) → TakesSome game_limit [] old new → IfErr r (CutsOff old new)
memory_passed old new (Ok x) h t = absurd h.1
memory_passed old new (Err f) h t = subst (CutsOff old new) (sym h.1) t
