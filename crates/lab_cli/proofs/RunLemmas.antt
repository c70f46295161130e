-- What a run has read and written, by its status.
use Rattle.std.proofs.Common.{◌≡◌, ◌≢◌, ℕ, ◌+◌, ◌≤◌, Bool, true, false, List, [], ◌++◌, Option, None, Some, IfSome, Result, Ok, Err, refl, sym, ap, subst, ◌∙◌, append-nil, inl, inr, ◌⊎◌, arith}
use Rattle.std.specs.Prelude.{IsTrue}
use Rattle.std.specs.Io.KnownBytes.{IsAtEnd, Appends}
use Rattle.std.proofs.KnownBytes.{Appends-trans}
use Rattle.lab_io.specs.Causes.{Rose}
use Rattle.lab_defs_text.specs.Words.{Bytes}
use Rattle.lab_defs_report.specs.Answers.{Answer, answer}
use Rattle.lab_defs_report.specs.Cuts.{game_limit, commands_limit}
use Rattle.lab_defs_report.specs.Laws.{IsFront}
use Rattle.lab_defs_report.specs.Modes.{Mode, this_program, mode_in, mode_answer, is_refused_in, usage_line}
use Rattle.lab_defs_report.proofs.FrontLemmas.{answer_stays}
use Rattle.lab_input.specs.Stops.{line_of}
use Rattle.lab_input.specs.declared.stop.Stop.{Stop}
use Rattle.lab_input.specs.declared.stop.Stop.TheVariants as stop
use Rattle.lab_input.proofs.CallerLemmas.{rose_earlier}
use Rattle.lab_cli.specs.declared.status.Status.{Status}
use Rattle.lab_cli.specs.declared.status.Status.TheVariants.{Done, BadWords, Refused, Memory, ReadFault, WriteFault}
use Rattle.lab_cli.specs.Answering.{Answered}
use Rattle.lab_cli.specs.Finishes.{Finishes, WritesLine}
use Rattle.lab_cli.specs.Runs.{EndsAs, Tells, IsAnswer, IsRejection}
use Rattle.lab_cli.proofs.AnsweredLemmas.{answered_in}
use Rattle.lab_cli.proofs.StopLemmas.{rose_later}
use Rattle.lab_cli.proofs.WriteLemmas.{prefix_written, whole_front, front_trans, front_after}

-- ---- all that a run has written

-- what was written for bytes, read to the end of the input or not, by the status
abbrev pub EndsIn : Status → Mode → (ended : Bool) → (taken written : Bytes) → Type 0
EndsIn Done m ended taken written = (ended ≡ true) × (answered_in m true taken ≡ answer written)
EndsIn BadWords m ended taken written = ⊥
EndsIn Refused m ended taken written = answered_in m ended taken ≡ record { out = written; refuses = true }
EndsIn Memory m ended taken written = Unit {0}
EndsIn ReadFault m ended taken written = (ended ≡ false) × (answered_in m false taken ≡ answer written)
EndsIn WriteFault m ended taken written = Unit {0}

-- a run in a mode, whose refusal was written too
record Wrote (m : Mode) (s : Status) (left before after : Option Bytes) (taken : Bytes) : Type 0 where
  ended : Bool
  at_end : IsTrue ended → IsAtEnd left
  written : Bytes
  appended : Appends before after written
  front : IsFront written (answered_in m ended taken).out
  ends : EndsIn s m ended taken written

-- an answer without a refusal is all of the report
answer_front : (a : Answer) (written : Bytes) → a ≡ answer written → IsFront written a.out
answer_front a written h = whole_front written a.out (ap (λ (x : Answer). x.out) h)

-- nothing more was written
wrote_no_more : (m : Mode) (s good : Status) (left a b c : Option Bytes) (taken : Bytes) (ended : Bool) (written : Bytes) → (IsTrue ended → IsAtEnd left) → Appends a b written → (s ≡ good) × Appends b c []
    → IsFront written (answered_in m ended taken).out → EndsIn good m ended taken written → Wrote m s left a c taken
wrote_no_more m s good left a b c taken ended written e p f front h = record {
  ended = ended;
  at_end = e;
  written = written;
  appended = subst (Appends a c) (append-nil written) (Appends-trans a b c written [] p f.1);
  front = front;
  ends = subst (λ x. EndsIn x m ended taken written) (sym f.0) h;
}

-- the line of a refusal was written, or a prefix of it
wrote_refusal : (m : Mode) (s : Status) (left a b c : Option Bytes) (taken : Bytes) (ended : Bool) (written line : Bytes) → (IsTrue ended → IsAtEnd left) → Appends a b written
    → answered_in m ended taken ≡ record { out = written ++ line; refuses = true } → WritesLine line Refused b c s → Wrote m s left a c taken
wrote_refusal m s left a b c taken ended written line e p h (inl f) = record {
  ended = ended;
  at_end = e;
  written = written ++ line;
  appended = Appends-trans a b c written line p f.1;
  front = whole_front (written ++ line) (answered_in m ended taken).out (ap (λ (x : Answer). x.out) h);
  ends = subst (λ x. EndsIn x m ended taken (written ++ line)) (sym f.0) h;
}
wrote_refusal m s left a b c taken ended written line e p h (inr f) =
    let begun = prefix_written b c line f.1 in
    record {
      ended = ended;
      at_end = e;
      written = written ++ begun.0;
      appended = Appends-trans a b c written begun.0 p begun.1;
      front = front_trans (written ++ begun.0) (written ++ line) (answered_in m ended taken).out (front_after written begun.0 line begun.2)
          (whole_front (written ++ line) (answered_in m ended taken).out (ap (λ (x : Answer). x.out) h));
      ends = subst (λ x. EndsIn x m ended taken (written ++ begun.0)) (sym f.0) tt;
    }

-- an input that was answered, and the end of its run
wrote : (m : Mode) (r : Result (Unit {0}) Stop) (s : Status) (limit : ℕ) (l n a b c : Option Bytes) → (h : Answered (answered_in m) limit [] l n a b r) → Finishes r b c s → Wrote m s n a c h.taken
wrote m (Ok x) s limit l n a b c h f =
    let said : answered_in m h.ended h.taken ≡ answer h.written = ap (λ e. answered_in m e h.taken) h.ends.0 ∙ h.ends.1 in
    wrote_no_more m s Done n a b c h.taken h.ended h.written h.at_end h.appended f (answer_front _ h.written said) h.ends
wrote m (Err (stop.Refused kept)) s limit l n a b c h f = wrote_refusal m s n a b c h.taken h.ended h.written (line_of kept) h.at_end h.appended h.ends f
wrote m (Err stop.ReadFault) s limit l n a b c h f =
    wrote_no_more m s ReadFault n a b c h.taken false h.written (λ e. absurd cc) h.appended f (answer_front _ h.written h.ends) (refl, h.ends)
wrote m (Err stop.WriteFault) s limit l n a b c h f = wrote_no_more m s WriteFault n a b c h.taken h.ended h.written h.at_end h.appended f h.ends tt
wrote m (Err stop.Memory) s limit l n a b c h f = wrote_no_more m s Memory n a b c h.taken h.ended h.written h.at_end h.appended f h.ends tt

-- ---- the whole input

-- a prefix of what the bytes that were read are answered with is one of the whole report
front_of_whole : (m : Mode) (ended : Bool) (taken left written : Bytes) → (IsTrue ended → left ≡ []) → IsFront written (answered_in m ended taken).out → IsFront written (answered_in m true (taken ++ left)).out
front_of_whole m true taken left written e f = subst (λ x. IsFront written (answered_in m true x).out) (sym (ap (λ x. taken ++ x) (e refl) ∙ append-nil taken)) f
front_of_whole m false taken left written e f = front_trans written _ _ f (answer_stays this_program true (Some m) taken left).front

-- and, where some bytes were not read, of the replies to those that were
front_of_replies : (m : Mode) (ended : Bool) (taken left written : Bytes) → (IsTrue ended → left ≡ []) → IsFront written (answered_in m ended taken).out → left ≢ [] → IsFront written (answered_in m false taken).out
front_of_replies m true taken left written e f some = absurd (some (e refl))
front_of_replies m false taken left written e f some = f

-- a refusal of the bytes that were read is one of the whole input
whole_refused : (m : Mode) (ended : Bool) (taken left : Bytes) (a : Answer) → (IsTrue ended → left ≡ []) → answered_in m ended taken ≡ a → a.refuses ≡ true → answered_in m true (taken ++ left) ≡ a
whole_refused m true taken left a e h r = ap (answered_in m true) (ap (λ x. taken ++ x) (e refl) ∙ append-nil taken) ∙ h
whole_refused m false taken left a e h r = (answer_stays this_program true (Some m) taken left).refusal (ap (λ (x : Answer). x.refuses) h ∙ r) ∙ h

-- how the run of words of a mode ends
ends_as : (ws : List Bytes) (m : Mode) (s : Status) (ended : Bool) (taken left written : Bytes) → mode_in this_program ws ≡ Some m → (IsTrue ended → left ≡ []) → EndsIn s m ended taken written
    → EndsAs s ws taken left written
ends_as ws m Done ended taken left written e none h =
    let whole : mode_answer this_program true (taken ++ left) (mode_in this_program ws) ≡ answer written =
    ap (λ x. mode_answer this_program true (taken ++ left) x) e ∙ ap (answered_in m true) (ap (λ x. taken ++ x) (none h.0) ∙ append-nil taken) ∙ h.1 in
    (sym (ap (λ (x : Answer). x.out) whole), ap (λ (x : Answer). x.refuses) whole)
ends_as ws m BadWords ended taken left written e none h = absurd h
ends_as ws m Refused ended taken left written e none h =
    let whole : mode_answer this_program true (taken ++ left) (mode_in this_program ws) ≡ record { out = written; refuses = true } =
    ap (λ x. mode_answer this_program true (taken ++ left) x) e ∙ whole_refused m ended taken left _ none h refl in
    (sym (ap (λ (x : Answer). x.out) whole), ap (λ (x : Answer). x.refuses) whole)
ends_as ws m Memory ended taken left written e none h = tt
ends_as ws m ReadFault ended taken left written e none h = ap (λ x. mode_answer this_program false taken x) e ∙ h.1
ends_as ws m WriteFault ended taken left written e none h = tt

-- a run that is done has read all
done_ended : (m : Mode) (s : Status) (ended : Bool) (taken written : Bytes) → EndsIn s m ended taken written → s ≡ Done → IsTrue ended
done_ended m s ended taken written h e = (subst (λ x. EndsIn x m ended taken written) e h).0

-- ---- what a run tells

-- of an input that was answered in the mode that the words name
pub tells_answered : (ws : List Bytes) (m : Mode) (r : Result (Unit {0}) Stop) (s : Status) (l n a b c : Option Bytes) → mode_in this_program ws ≡ Some m
    → Answered (answered_in m) (game_limit + commands_limit) [] l n a b r → Finishes r b c s → Tells s ws l n a c
tells_answered ws m r s None n a b c e h f = tt
tells_answered ws m r s (Some input) None a b c e h f = elim h.consumed [ ]
tells_answered ws m r s (Some input) (Some left) a b c e h f =
    let w = wrote m r s (game_limit + commands_limit) (Some input) (Some left) a b c h f in (
      h.taken,
      w.written,
      h.consumed,
      w.appended,
      record {
        front = subst (λ x. IsFront w.written (mode_answer this_program true (h.taken ++ left) x).out) (sym e) (front_of_whole m w.ended h.taken left w.written w.at_end w.front);
        early = λ some. subst (λ x. IsFront w.written (mode_answer this_program false h.taken x).out) (sym e) (front_of_replies m w.ended h.taken left w.written w.at_end w.front some);
        ends = ends_as ws m s w.ended h.taken left w.written e w.at_end w.ends;
        to_the_end = λ d. w.at_end (done_ended m s w.ended h.taken w.written w.ends d);
        within = h.within;
      },
    )

-- the usage line was written, or a prefix of it
rejected : (b c : Option Bytes) (s : Status) → WritesLine usage_line BadWords b c s → (written : Bytes) × Appends b c written × IsFront written usage_line × ((s ≡ BadWords) ⊎ (s ≡ WriteFault))
rejected b c s (inl f) = (usage_line, f.1, whole_front usage_line usage_line refl, inl f.0)
rejected b c s (inr f) = let begun = prefix_written b c usage_line f.1 in (begun.0, begun.1, begun.2, inr f.0)

-- of words that name no mode
pub tells_rejected : (ws : List Bytes) (l b c : Option Bytes) (s : Status) → mode_in this_program ws ≡ None → WritesLine usage_line BadWords b c s → Tells s ws l l b c
tells_rejected ws None b c s e w = tt
tells_rejected ws (Some input) b c s e w =
    let h = rejected b c s w in (
      [],
      h.0,
      refl,
      h.1,
      record {
        front = subst (λ x. IsFront h.0 (mode_answer this_program true input x).out) (sym e) h.2;
        early = λ some. subst (λ x. IsFront h.0 (mode_answer this_program false [] x).out) (sym e) h.2;
        ends = ends h.0 h.3;
        to_the_end = λ d. absurd (not_done d h.3);
        within = omega arith;
      },
    )
  where
    ends : (written : Bytes) → (s ≡ BadWords) ⊎ (s ≡ WriteFault) → EndsAs s ws [] input written
    ends written (inl e) = subst (λ x. EndsAs x ws [] input written) (sym e) tt
    ends written (inr e) = subst (λ x. EndsAs x ws [] input written) (sym e) tt

    not_done : s ≡ Done → ¬ ((s ≡ BadWords) ⊎ (s ≡ WriteFault))
    not_done d (inl e) = let no : Done ≡ BadWords = sym d ∙ e in absurd cc
    not_done d (inr e) = let no : Done ≡ WriteFault = sym d ∙ e in absurd cc

-- the line was written whole where the status says so
pub line_written : (line : Bytes) (b c : Option Bytes) (s : Status) → WritesLine line BadWords b c s → s ≡ BadWords → Appends b c line
line_written line b c s (inl f) e = f.1
line_written line b c s (inr f) e = let no : WriteFault ≡ BadWords = sym f.0 ∙ e in absurd cc

-- words that name no mode are rejected
pub is_rejection : (line : Bytes) (b c : Option Bytes) (s : Status) → WritesLine line BadWords b c s → IsRejection s
is_rejection line b c s (inl f) = subst IsRejection (sym f.0) tt
is_rejection line b c s (inr f) = subst IsRejection (sym f.0) tt

-- ---- the causes of statuses

-- a run ends with a fault of the source where its answering does
pub read_fault_is : (r : Result (Unit {0}) Stop) (b c : Option Bytes) (s : Status) → Finishes r b c s → s ≡ ReadFault → r ≡ Err stop.ReadFault
read_fault_is (Ok x) b c s f e = let no : Done ≡ ReadFault = sym f.0 ∙ e in absurd cc
read_fault_is (Err (stop.Refused kept)) b c s (inl f) e = let no : Refused ≡ ReadFault = sym f.0 ∙ e in absurd cc
read_fault_is (Err (stop.Refused kept)) b c s (inr f) e = let no : WriteFault ≡ ReadFault = sym f.0 ∙ e in absurd cc
read_fault_is (Err stop.ReadFault) b c s f e = refl
read_fault_is (Err stop.WriteFault) b c s f e = let no : WriteFault ≡ ReadFault = sym f.0 ∙ e in absurd cc
read_fault_is (Err stop.Memory) b c s f e = let no : Memory ≡ ReadFault = sym f.0 ∙ e in absurd cc

-- and only there
pub read_fault_status : (r : Result (Unit {0}) Stop) (b c : Option Bytes) (s : Status) → Finishes r b c s → r ≡ Err stop.ReadFault → s ≡ ReadFault
read_fault_status r b c s f e = (subst (λ x. Finishes x b c s) e f).0

-- a run ends with a fault of the sink where its answering does
pub write_fault_status : (r : Result (Unit {0}) Stop) (b c : Option Bytes) (s : Status) → Finishes r b c s → r ≡ Err stop.WriteFault → s ≡ WriteFault
write_fault_status r b c s f e = (subst (λ x. Finishes x b c s) e f).0

-- words that name a mode are no bad words
pub not_bad_words : (r : Result (Unit {0}) Stop) (b c : Option Bytes) (s : Status) → Finishes r b c s → s ≢ BadWords
not_bad_words (Ok x) b c s f = λ e. let no : Done ≡ BadWords = sym f.0 ∙ e in absurd cc
not_bad_words (Err (stop.Refused kept)) b c s (inl f) = λ e. let no : Refused ≡ BadWords = sym f.0 ∙ e in absurd cc
not_bad_words (Err (stop.Refused kept)) b c s (inr f) = λ e. let no : WriteFault ≡ BadWords = sym f.0 ∙ e in absurd cc
not_bad_words (Err stop.ReadFault) b c s f = λ e. let no : ReadFault ≡ BadWords = sym f.0 ∙ e in absurd cc
not_bad_words (Err stop.WriteFault) b c s f = λ e. let no : WriteFault ≡ BadWords = sym f.0 ∙ e in absurd cc
not_bad_words (Err stop.Memory) b c s f = λ e. let no : Memory ≡ BadWords = sym f.0 ∙ e in absurd cc

-- a fault of the sink has its cause, in the answering or at the end
pub write_fault_cause : (r : Result (Unit {0}) Stop) (s : Status) (f g h : ℕ) → f ≤ g → g ≤ h → (r ≡ Err stop.WriteFault → Rose f g) → (s ≡ WriteFault → r ≢ Err stop.WriteFault → Rose g h) → s ≡ WriteFault → Rose f h
write_fault_cause (Ok x) s f g h a b before after e = rose_earlier f g h a (after e (λ d. cc))
write_fault_cause (Err (stop.Refused kept)) s f g h a b before after e = rose_earlier f g h a (after e (λ d. cc))
write_fault_cause (Err stop.ReadFault) s f g h a b before after e = rose_earlier f g h a (after e (λ d. cc))
write_fault_cause (Err stop.WriteFault) s f g h a b before after e = rose_later f g h b (before refl)
write_fault_cause (Err stop.Memory) s f g h a b before after e = rose_earlier f g h a (after e (λ d. cc))

-- ---- answers where nothing failed

-- by whether the whole report has a refusal, or for want of memory
pub is_answer : (ws : List Bytes) (s : Status) (l n a c : Option Bytes) (F G : Type 0) → Tells s ws l n a c → (s ≡ ReadFault → F) → (s ≡ WriteFault → G) → s ≢ BadWords
    → IfSome l (λ input. ¬ F → ¬ G → IsAnswer s (is_refused_in this_program ws input))
is_answer ws s None n a c F G t read write words = tt
is_answer ws s (Some input) None a c F G t read write words = elim t [ ]
is_answer ws s (Some input) (Some left) a c F G t read write words = λ not_read not_write.
    subst (λ x. IsAnswer s (is_refused_in this_program ws x)) (sym t.2) (by_status s t.4.ends not_read not_write read write words)
  where
    by_status : (s : Status) → EndsAs s ws t.0 left t.1 → ¬ F → ¬ G → (s ≡ ReadFault → F) → (s ≡ WriteFault → G) → s ≢ BadWords → IsAnswer s (is_refused_in this_program ws (t.0 ++ left))
    by_status Done h not_read not_write read write words = h.1
    by_status BadWords h not_read not_write read write words = absurd (words refl)
    by_status Refused h not_read not_write read write words = h.1
    by_status Memory h not_read not_write read write words = tt
    by_status ReadFault h not_read not_write read write words = absurd (not_read (read refl))
    by_status WriteFault h not_read not_write read write words = absurd (not_write (write refl))
