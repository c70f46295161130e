-- The replies to command lines, one after another.
use Rattle.std.proofs.Common.{◌≡◌, ◌≢◌, ℕ, ◌+◌, ◌-◌, ◌≤◌, ◌<◌, Bool, true, false, List, [], ◌∷◌, ◌++◌, take, drop, length, Option, Some, Result, Ok, Err, refl, sym, ap, ◌∙◌, subst, arith, append_assoc, append-nil, length-append}
use Rattle.std.specs.Io.KnownBytes.{Appends}
use Rattle.std.proofs.KnownBytes.{Consumes-nil, Appends-nil, Appends-trans}
use Rattle.std.proofs.lemmas.List.{take-append-drop}
use lib.Chars.{codes}
use Rattle.lab_io.specs.Reading.{Takes, StoppedAfter, LineStop, IsLine, IsEnd}
use Rattle.lab_io.specs.declared.line_reader.TheConstants.{READ_AHEAD}
use Rattle.lab_io.specs.declared.line_reader.ReadStop.{ReadStop}
use Rattle.lab_io.specs.declared.line_reader.ReadStop.TheVariants as read
use Rattle.lab_io.proofs.CallerLemmas.{Takes-append}
use Rattle.lab_defs_text.specs.Words.{Bytes, lines}
use Rattle.lab_defs_text.specs.Lines.{joined}
use Rattle.lab_defs_report.specs.Refusals.{Refusal, refused}
use Rattle.lab_defs_report.specs.States.{State}
use Rattle.lab_defs_report.specs.Answers.{Answer, answer, refusing, led_by}
use Rattle.lab_defs_report.specs.Cuts.{commands_limit, line_limit, passed_limit}
use Rattle.lab_defs_report.specs.Modes.{is_built_command}
use Rattle.lab_defs_report.specs.Sessions.{answered, session_from}
use Rattle.lab_defs_report.proofs.CutLemmas.{lines_some}
use Rattle.lab_input.proofs.CallerLemmas.{one_line, first_line, feeds, FirstPasses, limit_passes, allowance_passes, none_passed}
use Rattle.lab_input.specs.Stops.{IsRefusal, RefusesRead}
use Rattle.lab_input.specs.declared.stop.Stop.{Stop}
use Rattle.lab_input.specs.declared.stop.Stop.TheVariants as stop
use Rattle.lab_cli.specs.Answering.{Answering, EndsBy, Answered}
use Rattle.lab_cli.specs.LineReplies.{Replies}
use Rattle.lab_cli.proofs.ContinuedLemmas.{led_none, led_twice, refusal_ends, answered_after, answered_silently}
use Rattle.lab_cli.proofs.WriteLemmas.{none_front}

-- what command lines are answered with, from the one with a number on
abbrev pub replies_from : (done number left : ℕ) → State → Answering
replies_from done number left s ended bytes = session_from is_built_command ended done number left s (lines bytes)

-- what is written for a line, by the state and the reply that were found, and for what follows
abbrev pub reply_first : Result (State × List Bytes) Refusal → (State → Answer) → Answer
reply_first found after = elim found [ Err r ↦ refusing r | Ok r ↦ led_by (joined r.1 ++ (10 ∷ [])) (after r.0) ]

-- ---- one line

-- a whole line within the limits is answered first
line_first : (ended : Bool) (done number left : ℕ) (s : State) (l : Bytes) (ms : List Bytes) → ms ≢ [] → length l ≤ line_limit → length l + 1 ≤ left
    → session_from is_built_command ended done number left s (l ∷ ms)
    ≡ reply_first (answered is_built_command (done + number) number s l) (λ t. session_from is_built_command ended done (number + 1) (left - (length l + 1)) t ms)
line_first ended done number left s l [] h short fits = absurd (h refl)
line_first ended done number left s l (m ∷ ms) h short fits = rw (session_from, none_passed (codes "InputTooLong") left (length l) 1 short fits) refl

-- bytes that begin with a whole line within the limits
line_replied : (ended : Bool) (done number left rest : ℕ) (s : State) (l more : Bytes) → IsLine l → rest + length (l ++ 10 ∷ []) ≡ left
    → replies_from done number left s ended ((l ++ 10 ∷ []) ++ more) ≡ reply_first (answered is_built_command (done + number) number s l) (λ t. replies_from done (number + 1) rest t ended more)
line_replied ended done number left rest s l more line paid =
    let size : length (l ++ 10 ∷ []) ≡ length l + 1 = length-append l (10 ∷ []) in
    let spent : left - (length l + 1) ≡ rest = omega (arith, paid, size) in
    ap (session_from is_built_command ended done number left s) (ap lines (append_assoc l (10 ∷ []) more) ∙ first_line l more line.unended)
    ∙ line_first ended done number left s l (lines more) (lines_some more) line.short (omega (arith, paid, size))
    ∙ ap (λ n. reply_first (answered is_built_command (done + number) number s l) (λ t. session_from is_built_command ended done (number + 1) n t (lines more))) spent

-- a first line that passes a limit is refused
first_refused : (ended : Bool) (done number left : ℕ) (s : State) (l : Bytes) (ms : List Bytes) (k : Bytes) → passed_limit (codes "InputTooLong") left (length l) (feeds ms) ≡ Some k
    → session_from is_built_command ended done number left s (l ∷ ms) ≡ refusing (refused (done + number) k [])
first_refused ended done number left s l [] k e = rw (session_from, e) refl
first_refused ended done number left s l (m ∷ ms) k e = rw (session_from, e) refl

-- so are bytes that begin with one
passed_refused : (ended : Bool) (done number left : ℕ) (s : State) (bytes k : Bytes) → FirstPasses (codes "InputTooLong") left bytes k
    → replies_from done number left s ended bytes ≡ refusing (refused (done + number) k [])
passed_refused ended done number left s bytes k p = ap (session_from is_built_command ended done number left s) p.first ∙ first_refused ended done number left s p.line p.more k p.passes

-- an input that ends where a line would begin has no answer there
silent_end : (done number left : ℕ) (s : State) → session_from is_built_command true done number left s ([] ∷ []) ≡ answer []
silent_end done number left s = rw (session_from, none_passed (codes "InputTooLong") left 0 0 (omega arith) (omega arith)) refl

-- an input that ends inside a line
ends_inside : (done number left : ℕ) (s : State) (l : Bytes) → 0 < length l → IsLine l → length l ≤ left → replies_from done number left s true l ≡ refusing (refused (done + number) (codes "NoNewline") [])
ends_inside done number left s [] some line h = absurd (omega arith)
ends_inside done number left s (c ∷ cs) some line h =
    rw (one_line (c ∷ cs) line.unended, session_from, none_passed (codes "InputTooLong") left (length (c ∷ cs)) 0 line.short (omega (arith, h))) refl

-- a line that no line feed has ended yet has no answer
silent_inside : (done number left : ℕ) (s : State) (l : Bytes) → IsLine l → length l ≤ left → replies_from done number left s false l ≡ answer []
silent_inside done number left s l line h = rw (one_line l line.unended, session_from, none_passed (codes "InputTooLong") left (length l) 0 line.short (omega (arith, h))) refl

-- ---- where the reader stops

-- at the end of the input
pub answered_end : (done number left : ℕ) (s : State) (ahead rest : Bytes) (old new written : Option Bytes) (x : Unit {0}) → Takes ahead old rest new [] → IsEnd ahead rest new
    → Answered {T = Unit {0}} (replies_from done number left s) left ahead old new written written (Ok x)
answered_end done number left s ahead rest old new written x t e =
    let none : ahead ++ t.taken ≡ [] = t.split ∙ e.none_now in
    answered_silently (replies_from done number left s) left ahead t.taken old new written true (Ok x) t.consumed (omega (arith, ap length none)) (λ _. e.at_end)
    (refl, ap (replies_from done number left s true) none ∙ silent_end done number left s)

-- inside a line
pub answered_stop : (done number left : ℕ) (s : State) (ahead : Bytes) (old new written : Option Bytes) (why : ReadStop) (k : Stop) → StoppedAfter ahead old new left (LineStop left new why)
    → RefusesRead (done + number) (codes "InputTooLong") why k → Answered {T = Unit {0}} (replies_from done number left s) left ahead old new written written (Err k)
answered_stop done number left s ahead old new written read.NoNewline k u h =
    answered_silently (replies_from done number left s) left ahead u.taken old new written true (Err k) u.consumed u.within (λ _. u.why.3)
    (refusal_ends (replies_from done number left s) true (ahead ++ u.taken) (refused (done + number) (codes "NoNewline") []) k (ends_inside done number left s (ahead ++ u.taken) u.why.0 u.why.1 u.why.2) h)
answered_stop done number left s ahead old new written read.LineTooLong k u h =
    answered_silently (replies_from done number left s) left ahead u.taken old new written false (Err k) u.consumed u.within (λ x. absurd cc)
    (refusal_ends (replies_from done number left s) false (ahead ++ u.taken) (refused (done + number) (codes "LineTooLong") []) k
    (passed_refused false done number left s (ahead ++ u.taken) (codes "LineTooLong") (limit_passes (codes "InputTooLong") left (ahead ++ u.taken) u.why)) h)
answered_stop done number left s ahead old new written read.AllowancePassed k u h =
    answered_silently (replies_from done number left s) left ahead u.taken old new written false (Err k) u.consumed u.within (λ x. absurd cc)
    (refusal_ends (replies_from done number left s) false (ahead ++ u.taken) (refused (done + number) (codes "InputTooLong") []) k
    (passed_refused false done number left s (ahead ++ u.taken) (codes "InputTooLong") (allowance_passes (codes "InputTooLong") left (ahead ++ u.taken) u.why)) h)
answered_stop done number left s ahead old new written read.ReadFault k u h =
    subst (λ k. Answered {T = Unit {0}} (replies_from done number left s) left ahead old new written written (Err k)) (sym h)
    (answered_silently (replies_from done number left s) left ahead u.taken old new written false (Err stop.ReadFault) u.consumed u.within (λ x. absurd cc)
    (silent_inside done number left s (ahead ++ u.taken) u.why.0 u.why.1))
answered_stop done number left s ahead old new written read.Memory k u h =
    subst (λ k. Answered {T = Unit {0}} (replies_from done number left s) left ahead old new written written (Err k)) (sym h)
    (answered_silently (replies_from done number left s) left ahead u.taken old new written false (Err stop.Memory) u.consumed u.within (λ x. absurd cc)
    (none_front (replies_from done number left s false (ahead ++ u.taken)).out))

-- ---- where a line is answered

-- what was written for bytes that begin with a line whose reply ended the session
reply_ends : (a : Answering) (bytes : Bytes) (s t : State) (found : Result (State × List Bytes) Refusal) (after : State → Answer) (old new : Option Bytes) (k : Stop) → a false bytes ≡ reply_first found after
    → Replies s found t old new (Err k) → (written : Bytes) × Appends old new written × EndsBy {T = Unit {0}} a false bytes written (Err k)
reply_ends a bytes s t found after old new (stop.Refused kept) e h =
    ([], h.4, e ∙ (rw h.1 refl) ∙ ap (λ (o : Bytes). record { out = o; refuses = true }) (sym h.2))
reply_ends a bytes s t found after old new stop.ReadFault e h = absurd h
reply_ends a bytes s t found after old new stop.WriteFault e h =
    let reply = joined h.0 ++ (10 ∷ []) in
    let same : (a false bytes).out ≡ reply ++ (after t).out = ap (λ (x : Answer). x.out) e ∙ (rw h.1 refl) in (
      take h.2.0 reply,
      h.2.2,
      (drop h.2.0 reply ++ (after t).out, same ∙ ap (λ x. x ++ (after t).out) (sym (take-append-drop h.2.0 reply)) ∙ append_assoc (take h.2.0 reply) (drop h.2.0 reply) (after t).out),
    )
reply_ends a bytes s t found after old new stop.Memory e h = ([], h.1, none_front (a false bytes).out)

-- such a line was answered, with no line after it
pub answered_line : (done number left rest : ℕ) (s t : State) (ahead kept line : Bytes) (old new written_old written_new : Option Bytes) (k : Stop) → Takes ahead old kept new (line ++ 10 ∷ []) → IsLine line
    → rest + length (line ++ 10 ∷ []) ≡ left → length kept ≤ READ_AHEAD → Replies s (answered is_built_command (done + number) number s line) t written_old written_new (Err k)
    → Answered {T = Unit {0}} (replies_from done number left s) left ahead old new written_old written_new (Err k)
answered_line done number left rest s t ahead kept line old new written_old written_new k u whole paid short h =
    let same : replies_from done number left s false (ahead ++ u.taken) ≡ reply_first (answered is_built_command (done + number) number s line) (λ r. replies_from done (number + 1) rest r false kept) =
    ap (replies_from done number left s false) u.split ∙ line_replied false done number left rest s line kept whole paid in
    let e = reply_ends (replies_from done number left s) (ahead ++ u.taken) s t (answered is_built_command (done + number) number s line) (λ r. replies_from done (number + 1) rest r false kept) written_old written_new k same h in
    record {
      taken = u.taken;
      consumed = u.consumed;
      within = omega (arith, ap length u.split, length-append (line ++ 10 ∷ []) kept, paid, short);
      ended = false;
      at_end = λ x. absurd cc;
      written = e.0;
      appended = e.1;
      ends = e.2;
    }

-- ---- the lines so far

-- lines that came next were answered, which led from a state to another; the next one has a number, and so many bytes are allowed from it on
pub record Replied (done : ℕ) (s t : State) (ahead_old : Bytes) (left_old : Option Bytes) (ahead : Bytes) (left written_old written : Option Bytes) (allowance number : ℕ) : Type 0 where
  pub given : Bytes
  pub takes : Takes ahead_old left_old ahead left given
  pub out : Bytes
  pub appended : Appends written_old written out
  pub goes_on : (ended : Bool) (more : Bytes) → replies_from done 1 commands_limit s ended (given ++ more) ≡ led_by out (replies_from done number allowance t ended more)
  pub paid : allowance + length given ≡ commands_limit
  pub few : number ≤ length given + 1

-- none so far
pub replied_none : (done : ℕ) (s : State) (ahead : Bytes) (left written : Option Bytes) → Replied done s s ahead left ahead left written written commands_limit 1
replied_none done s ahead left written = record {
  given = [];
  takes = record { taken = []; consumed = Consumes-nil left; split = append-nil ahead };
  out = [];
  appended = Appends-nil written;
  goes_on = λ ended more. led_none (replies_from done 1 commands_limit s ended more);
  paid = refl;
  few = omega arith;
}

-- one more
pub replied_more : (done number left rest : ℕ) (s t u : State) (ahead_old ahead kept line : Bytes) (left_old old new written_old written written_new : Option Bytes) (x : Unit {0})
    → Replied done s t ahead_old left_old ahead old written_old written left number → Takes ahead old kept new (line ++ 10 ∷ []) → IsLine line → rest + length (line ++ 10 ∷ []) ≡ left
    → Replies t (answered is_built_command (done + number) number t line) u written written_new (Ok x) → Replied done s u ahead_old left_old kept new written_old written_new rest (number + 1)
replied_more done number left rest s t u ahead_old ahead kept line left_old old new written_old written written_new x c taken whole paid h =
    let reply = joined h.0 ++ (10 ∷ []) in record {
      given = c.given ++ (line ++ 10 ∷ []);
      takes = Takes-append c.takes taken;
      out = c.out ++ reply;
      appended = Appends-trans written_old written written_new c.out reply c.appended h.2;
      goes_on = λ ended more.
          ap (replies_from done 1 commands_limit s ended) (append_assoc c.given (line ++ 10 ∷ []) more) ∙ c.goes_on ended ((line ++ 10 ∷ []) ++ more)
          ∙ ap (led_by c.out) (line_replied ended done number left rest t line more whole paid ∙ (rw h.1 refl)) ∙ led_twice c.out reply (replies_from done (number + 1) rest u ended more);
      paid = omega (arith, c.paid, paid, length-append c.given (line ++ 10 ∷ []));
      few = omega (arith, c.few, length-append c.given (line ++ 10 ∷ []), length-append line (10 ∷ []));
    }

-- what follows them was answered
pub replied_all : (done number left : ℕ) (s t : State) (ahead_old ahead : Bytes) (left_old old new written_old written written_new : Option Bytes) (r : Result (Unit {0}) Stop)
    → Replied done s t ahead_old left_old ahead old written_old written left number → Answered (replies_from done number left t) left ahead old new written written_new r
    → Answered (replies_from done 1 commands_limit s) commands_limit ahead_old left_old new written_old written_new r
replied_all done number left s t ahead_old ahead left_old old new written_old written written_new r c h =
    answered_after (replies_from done 1 commands_limit s) (replies_from done number left t) commands_limit left ahead_old c.given c.out ahead left_old old new written_old written written_new r
    c.goes_on (omega (arith, c.paid)) c.takes c.appended h

-- ---- causes

-- the reader stopped for a fault of the source where that is why the command line was not read
pub stopped_by_fault : (n : ℕ) (why : ReadStop) (k : Stop) → RefusesRead n (codes "InputTooLong") why k → k ≡ stop.ReadFault → why ≡ read.ReadFault
stopped_by_fault n read.NoNewline k h e = absurd (subst (IsRefusal (refused n (codes "NoNewline") [])) e h)
stopped_by_fault n read.LineTooLong k h e = absurd (subst (IsRefusal (refused n (codes "LineTooLong") [])) e h)
stopped_by_fault n read.AllowancePassed k h e = absurd (subst (IsRefusal (refused n (codes "InputTooLong") [])) e h)
stopped_by_fault n read.ReadFault k h e = refl
stopped_by_fault n read.Memory k h e = let no : stop.Memory ≡ stop.ReadFault = sym h ∙ e in absurd cc

-- and only there
pub stopped_fault : (n : ℕ) (why : ReadStop) (k : Stop) → RefusesRead n (codes "InputTooLong") why k → why ≡ read.ReadFault → k ≡ stop.ReadFault
stopped_fault n why k h e = subst (λ w. RefusesRead n (codes "InputTooLong") w k) e h

-- the sink does not fail while a line is read
pub stopped_no_write_fault : (n : ℕ) (why : ReadStop) (k : Stop) → RefusesRead n (codes "InputTooLong") why k → k ≢ stop.WriteFault
stopped_no_write_fault n read.NoNewline k h = λ e. subst (IsRefusal (refused n (codes "NoNewline") [])) e h
stopped_no_write_fault n read.LineTooLong k h = λ e. subst (IsRefusal (refused n (codes "LineTooLong") [])) e h
stopped_no_write_fault n read.AllowancePassed k h = λ e. subst (IsRefusal (refused n (codes "InputTooLong") [])) e h
stopped_no_write_fault n read.ReadFault k h = λ e. let no : stop.ReadFault ≡ stop.WriteFault = sym h ∙ e in absurd cc
stopped_no_write_fault n read.Memory k h = λ e. let no : stop.Memory ≡ stop.WriteFault = sym h ∙ e in absurd cc
