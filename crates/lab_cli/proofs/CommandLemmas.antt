-- The reply to one command line.
use Rattle.std.proofs.Common.{◌≡◌, ◌≢◌, ℕ, true, false, List, Option, Some, None, Result, Ok, Err, refl, sym, ◌∙◌, subst}
use Rattle.std.specs.Io.KnownBytes.{Appends}
use Rattle.std.proofs.KnownBytes.{Appends-nil}
use Rattle.lab_io.specs.Causes.{AppendsFront}
use Rattle.lab_defs_text.specs.Agreement.{FaultAgrees}
use Rattle.lab_defs_text.specs.Faults.{LineFault}
use Rattle.lab_defs_text.specs.Words.{Bytes}
use Rattle.lab_defs_report.specs.Commands.{Command, command_at}
use Rattle.lab_defs_report.specs.Modes.{is_built_command}
use Rattle.lab_defs_report.specs.Refusals.{Refusal, refused_in_line, refused_command}
use Rattle.lab_defs_report.specs.Sessions.{answered, replied, not_built}
use Rattle.lab_defs_report.specs.States.{State, step_of}
use Rattle.lab_defs_report.specs.States as model
use Rattle.lab_session.specs.declared.fault.SessionFault.{SessionFault}
use Rattle.lab_session.specs.declared.fault.SessionFault.TheVariants as fault
use Rattle.lab_session.specs.Answers.{Steps, fault_in}
use Rattle.lab_lines.specs.declared.reply.Reply.{Reply}
use Rattle.lab_lines.specs.Lines.{reply_words, reply_text}
use Rattle.lab_input.specs.declared.stop.Stop.{Stop}
use Rattle.lab_input.specs.declared.stop.Stop.TheVariants as stop
use Rattle.lab_input.specs.Stops.{IsRefusal, RefusesLine}
use Rattle.lab_cli.specs.CommandStops.{RefusesCommand}
use Rattle.lab_cli.specs.LineReplies.{Replies}

-- a command that is built is replied to by its step
step_replied : (line : ℕ) (s t : State) (c : Command) (words : List Bytes) → is_built_command c ≡ true → step_of s c ≡ Ok (t, words) → replied is_built_command line s c ≡ Ok (t, words)
step_replied line s t c words b e = rw (replied, b, e) refl

-- its reply was written
pub reply_written : (line : ℕ) (s t : State) (c : Command) (r : Reply) (old new : Option Bytes) (x : Unit {0}) → is_built_command c ≡ true → Steps reply_words s c t (Ok r)
    → Appends old new (reply_text r) → Replies s (replied is_built_command line s c) t old new (Ok x)
reply_written line s t c r old new x b e h = (reply_words r, step_replied line s t c (reply_words r) b e, h)

-- or a prefix of it
pub reply_begun : (line : ℕ) (s t : State) (c : Command) (r : Reply) (old new : Option Bytes) → is_built_command c ≡ true → Steps reply_words s c t (Ok r)
    → AppendsFront old new (reply_text r) → Replies s (replied is_built_command line s c) t old new (Err stop.WriteFault)
reply_begun line s t c r old new b e h = (reply_words r, step_replied line s t c (reply_words r) b e, h)

-- a refusal that was found is kept, and nothing is written
refusal_kept : (s t : State) (found : Result (State × List Bytes) Refusal) (r : Refusal) (written : Option Bytes) (k : Stop) → found ≡ Err r → t ≡ s → IsRefusal r k → Replies s found t written written (Err k)
refusal_kept s t found r written (stop.Refused kept) e u h = (r, e, h, u, Appends-nil written)
refusal_kept s t found r written stop.ReadFault e u h = absurd h
refusal_kept s t found r written stop.WriteFault e u h = absurd h
refusal_kept s t found r written stop.Memory e u h = (u, Appends-nil written)

-- nor is anything written for want of memory
memory_kept : (s t : State) (found : Result (State × List Bytes) Refusal) (written : Option Bytes) (k : Stop) → k ≡ stop.Memory → t ≡ s → Replies s found t written written (Err k)
memory_kept s t found written k h u = subst (λ k. Replies s found t written written (Err k)) (sym h) (u, Appends-nil written)

-- a command that the session does not take
fault_kept : (line : ℕ) (s t : State) (c : Command) (f : model.SessionFault) (written : Option Bytes) (k : Stop) → is_built_command c ≡ true → step_of s c ≡ Err f → t ≡ s
    → IsRefusal (refused_command line f) k → Replies s (replied is_built_command line s c) t written written (Err k)
fault_kept line s t c f written k b e u h = refusal_kept s t (replied is_built_command line s c) (refused_command line f) written k (rw (replied, b, e) refl) u h

pub fault_refused : (line : ℕ) (s t : State) (c : Command) (f : SessionFault) (written : Option Bytes) (k : Stop) → is_built_command c ≡ true → Steps reply_words s c t (Err f)
    → RefusesCommand line (fault_in f) k → Replies s (replied is_built_command line s c) t written written (Err k)
fault_refused line s t c fault.NoBlueprint written k b h r = fault_kept line s t c model.no_blueprint written k b h.0 h.1 r
fault_refused line s t c fault.SecondBlueprint written k b h r = fault_kept line s t c model.second_blueprint written k b h.0 h.1 r
fault_refused line s t c fault.BadSeat written k b h r = fault_kept line s t c model.bad_seat written k b h.0 h.1 r
fault_refused line s t c fault.BadRounds written k b h r = fault_kept line s t c model.bad_rounds written k b h.0 h.1 r
fault_refused line s t c (fault.WrongCount needed given) written k b h r = fault_kept line s t c (model.wrong_count needed given) written k b h.0 h.1 r
fault_refused line s t c (fault.WrongSum seat set) written k b h r = fault_kept line s t c (model.wrong_sum seat set.0) written k b h.0 h.1 r
fault_refused line s t c fault.Memory written k b h r = memory_kept s t (replied is_built_command line s c) written k r h.1

-- a command that is not built
pub other_refused : (line : ℕ) (s : State) (c : Command) (written : Option Bytes) (k : Stop) → is_built_command c ≡ false → IsRefusal (not_built line) k
    → Replies s (replied is_built_command line s c) s written written (Err k)
other_refused line s c written k e h = refusal_kept s s (replied is_built_command line s c) (not_built line) written k (rw (replied, e) refl) refl h

-- a line that is a command
pub command_replied : (line number : ℕ) (s : State) (bytes : Bytes) (c : Command) → command_at number bytes ≡ Ok c → answered is_built_command line number s bytes ≡ replied is_built_command line s c
command_replied line number s bytes c e = rw (answered, e) refl

-- a line that is none
pub line_refused : (line number : ℕ) (s : State) (bytes : Bytes) (f : Option LineFault) (written : Option Bytes) (k : Stop) → FaultAgrees f (command_at number bytes) → RefusesLine line f k
    → Replies s (answered is_built_command line number s bytes) s written written (Err k)
line_refused line number s bytes None written k a h = memory_kept s s (answered is_built_command line number s bytes) written k h refl
line_refused line number s bytes (Some f) written k a h = refusal_kept s s (answered is_built_command line number s bytes) (refused_in_line line f) written k (rw (answered, a) refl) refl h

-- nothing fails where an input is refused
pub refusal_no_fault : (r : Refusal) (k : Stop) → IsRefusal r k → (k ≢ stop.ReadFault) × (k ≢ stop.WriteFault)
refusal_no_fault r k h = (λ e. subst (IsRefusal r) e h, λ e. subst (IsRefusal r) e h)

-- nor where memory is short
memory_no_fault : (k : Stop) → k ≡ stop.Memory → (k ≢ stop.ReadFault) × (k ≢ stop.WriteFault)
memory_no_fault k h = (λ e. let no : stop.Memory ≡ stop.ReadFault = sym h ∙ e in absurd cc, λ e. let no : stop.Memory ≡ stop.WriteFault = sym h ∙ e in absurd cc)

-- nor where a line is refused
pub line_no_fault : (line : ℕ) (f : Option LineFault) (k : Stop) → RefusesLine line f k → (k ≢ stop.ReadFault) × (k ≢ stop.WriteFault)
line_no_fault line None k h = memory_no_fault k h
line_no_fault line (Some f) k h = refusal_no_fault (refused_in_line line f) k h

-- nor where a command is
pub command_no_fault : (line : ℕ) (f : Option model.SessionFault) (k : Stop) → RefusesCommand line f k → (k ≢ stop.ReadFault) × (k ≢ stop.WriteFault)
command_no_fault line None k h = memory_no_fault k h
command_no_fault line (Some f) k h = refusal_no_fault (refused_command line f) k h
