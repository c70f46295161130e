-- What an input was answered with, where it was taken and answered in steps.
use Rattle.std.proofs.Common.{◌≡◌, ℕ, ◌+◌, ◌≤◌, Bool, true, false, [], ◌++◌, length, Option, Result, Ok, Err, refl, sym, ap, ◌∙◌, subst, arith, append_assoc, length-append}
use Rattle.std.specs.Prelude.{IsTrue}
use Rattle.std.specs.Result.{IsErr, IsErrAnd}
use Rattle.std.specs.Io.KnownBytes.{Consumes, IsAtEnd, Appends}
use Rattle.std.proofs.KnownBytes.{Consumes-nil, Appends-nil, Appends-trans}
use Rattle.lab_io.specs.Reading.{Takes}
use Rattle.lab_io.specs.declared.line_reader.TheConstants.{READ_AHEAD}
use Rattle.lab_io.proofs.CallerLemmas.{Consumes-append}
use Rattle.lab_defs_text.specs.Words.{Bytes}
use Rattle.lab_defs_report.specs.Answers.{Answer, refusing, led_by}
use Rattle.lab_defs_report.specs.Laws.{IsFront}
use Rattle.lab_defs_report.specs.Refusals.{Refusal}
use Rattle.lab_input.specs.Stops.{IsRefusal}
use Rattle.lab_input.specs.declared.stop.Stop.{Stop}
use Rattle.lab_input.specs.declared.stop.Stop.TheVariants as stop
use Rattle.lab_cli.specs.Answering.{Answering, EndsBy, Answered}
use Rattle.lab_cli.proofs.WriteLemmas.{none_front, front_after}

-- ---- answers

-- no line before an answer
pub led_none : (a : Answer) → a ≡ led_by [] a
led_none a = refl

-- lines before an answer, and others before these
pub led_twice : (first second : Bytes) (a : Answer) → led_by first (led_by second a) ≡ led_by (first ++ second) a
led_twice first second a = ap (λ (o : Bytes). record { out = o; refuses = a.refuses }) (sym (append_assoc first second a.out))

-- ---- how bytes end

-- a refusal that is known, or for whose words no memory was left
pub refusal_ends : (a : Answering) (ended : Bool) (bytes : Bytes) (r : Refusal) (s : Stop) → a ended bytes ≡ refusing r → IsRefusal r s → EndsBy {T = Unit {0}} a ended bytes [] (Err s)
refusal_ends a ended bytes r (stop.Refused kept) e h = e ∙ ap (λ (o : Bytes). record { out = o; refuses = true }) (sym h)
refusal_ends a ended bytes r stop.ReadFault e h = absurd h
refusal_ends a ended bytes r stop.WriteFault e h = absurd h
refusal_ends a ended bytes r stop.Memory e h = none_front (a ended bytes).out

-- bytes whose answer is led by lines end as those that follow
ends_after : (a b : Answering) (all rest out : Bytes) → ((ended : Bool) → a ended all ≡ led_by out (b ended rest)) → (ended : Bool) (written : Bytes) (r : Result (Unit {0}) Stop) → EndsBy b ended rest written r
    → EndsBy a ended all (out ++ written) r
ends_after a b all rest out e ended written (Ok x) h = (h.0, e true ∙ ap (led_by out) h.1)
ends_after a b all rest out e ended written (Err (stop.Refused kept)) h = e ended ∙ ap (led_by out) h ∙ ap (λ (o : Bytes). record { out = o; refuses = true }) (sym (append_assoc out written _))
ends_after a b all rest out e ended written (Err stop.ReadFault) h = e false ∙ ap (led_by out) h
ends_after a b all rest out e ended written (Err stop.WriteFault) h = subst (λ (x : Answer). IsFront (out ++ written) x.out) (sym (e ended)) (front_after out written (b ended rest).out h)
ends_after a b all rest out e ended written (Err stop.Memory) h = subst (λ (x : Answer). IsFront (out ++ written) x.out) (sym (e ended)) (front_after out written (b ended rest).out h)

-- ---- inputs

-- bytes came next, and lines were written for them; those that follow were answered
pub answered_after : (a b : Answering) (limit left_limit : ℕ) (ahead_old given out ahead : Bytes) (left_old left left_new written_old written written_new : Option Bytes) (r : Result (Unit {0}) Stop)
    → ((ended : Bool) (more : Bytes) → a ended (given ++ more) ≡ led_by out (b ended more)) → left_limit + length given ≤ limit → Takes ahead_old left_old ahead left given → Appends written_old written out
    → Answered b left_limit ahead left left_new written written_new r → Answered a limit ahead_old left_old left_new written_old written_new r
answered_after a b limit left_limit ahead_old given out ahead left_old left left_new written_old written written_new r e fits t w h =
    let same : ahead_old ++ (t.taken ++ h.taken) ≡ given ++ (ahead ++ h.taken) =
    sym (append_assoc ahead_old t.taken h.taken) ∙ ap (λ x. x ++ h.taken) t.split ∙ append_assoc given ahead h.taken in
    record {
      taken = t.taken ++ h.taken;
      consumed = Consumes-append left_old left left_new t.taken h.taken t.consumed h.consumed;
      within = omega (arith, ap length same, length-append given (ahead ++ h.taken), fits, h.within);
      ended = h.ended;
      at_end = h.at_end;
      written = out ++ h.written;
      appended = Appends-trans written_old written written_new out h.written w h.appended;
      ends = ends_after a b (ahead_old ++ (t.taken ++ h.taken)) (ahead ++ h.taken) out (λ ended. ap (a ended) same ∙ e ended (ahead ++ h.taken)) h.ended h.written r h.ends;
    }

-- nothing was written for the bytes that were taken
pub answered_silently : (a : Answering) (limit : ℕ) (ahead taken : Bytes) (left_old left_new written : Option Bytes) (ended : Bool) (r : Result (Unit {0}) Stop) → Consumes left_old left_new taken
    → length (ahead ++ taken) ≤ limit + READ_AHEAD → (IsTrue ended → IsAtEnd left_new) → EndsBy a ended (ahead ++ taken) [] r → Answered a limit ahead left_old left_new written written r
answered_silently a limit ahead taken left_old left_new written ended r c w e h = record {
  taken = taken;
  consumed = c;
  within = w;
  ended = ended;
  at_end = e;
  written = [];
  appended = Appends-nil written;
  ends = h;
}

-- an error that is passed on was met
pub answered_passed : {a : Answering} {limit : ℕ} {ahead : Bytes} {left_old left_new written_old written_new : Option Bytes} (s : Stop) (r : Result (Unit {0}) Stop) → IsErr r × IsErrAnd r (λ e. e ≡ s)
    → Answered {T = Unit {0}} a limit ahead left_old left_new written_old written_new (Err s) → Answered a limit ahead left_old left_new written_old written_new r
answered_passed s (Ok x) h p = absurd h.1
answered_passed {a = a} {limit} {ahead} {left_old} {left_new} {written_old} {written_new} s (Err e) h p = subst (λ e. Answered {T = Unit {0}} a limit ahead left_old left_new written_old written_new (Err e)) (sym h.1) p

-- nothing was read or written, for want of memory
pub answered_nothing : (a : Answering) (limit : ℕ) (ahead : Bytes) (left written : Option Bytes) → length ahead ≤ READ_AHEAD → Answered {T = Unit {0}} a limit ahead left left written written (Err stop.Memory)
answered_nothing a limit ahead left written short =
    answered_silently a limit ahead [] left left written false (Err stop.Memory) (Consumes-nil left) (omega (arith, short, length-append ahead [])) (λ e. absurd cc) (none_front (a false (ahead ++ [])).out)
