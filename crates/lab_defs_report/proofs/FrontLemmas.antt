-- What is written for the first bytes of an input stays, and so does a refusal, whatever follows them.
use Rattle.std.proofs.Common.{◌≡◌, ◌≢◌, ℕ, ◌+◌, ◌-◌, ◌≤◌, Bool, true, false, List, [], ◌∷◌, ◌++◌, length, Option, Some, None, Result, Ok, Err, refl, sym, ap, ◌∙◌, subst, arith, length-append, append-nil}
use Rattle.std.specs.Prelude.{nat_lt}
use Rattle.std.specs.List.{join_with_byte}
use Rattle.std.proofs.lemmas.Bool.{lt-ltb, ltb-true}
use Rattle.std.proofs.lemmas.List.{append_assoc}
use lib.Chars.{codes}
use Rattle.lab_defs_text.specs.Words.{Bytes, lines}
use Rattle.lab_defs_text.specs.Lines.{joined}
use Rattle.lab_defs_text.specs.Games.{GameModel}
use Rattle.lab_defs_text.specs.Texts.{canonical}
use Rattle.lab_defs_report.specs.Commands.{Command}
use Rattle.lab_defs_report.specs.States.{State}
use Rattle.lab_defs_report.specs.Refusals.{Refusal, refused}
use Rattle.lab_defs_report.specs.Cuts.{commands_limit, passed_limit, Cut, cut_at, cut_refused, cut_open, goes_on}
use Rattle.lab_defs_report.specs.Answers.{Answer, silent, refusing, led_by}
use Rattle.lab_defs_report.specs.GameModes.{game_answer, check_cut, counts_line, playable, print_cut, read_text, verify_behind, verify_cut}
use Rattle.lab_defs_report.specs.Sessions.{answered, session_from, session_cut}
use Rattle.lab_defs_report.specs.Modes as mode
use Rattle.lab_defs_report.specs.Modes.{Mode, Program, input_cut, mode_in, mode_answer}
use Rattle.lab_defs_report.specs.Laws.{IsFront, FrontLaw, RefusalLaw}
use Rattle.lab_defs_report.proofs.CutLemmas.{continued, continued_some, passed_more, GoesOn, cut_goes_on, lines_append, lines_some}

-- the first answer is a prefix of the second one, and all of it where it ends with a refusal
pub record Stays (a b : Answer) : Type 0 where
  pub front : IsFront a.out b.out
  pub refusal : a.refuses ≡ true → b ≡ a

-- nothing is a prefix of each answer
silent_stays : (b : Answer) → Stays silent b
silent_stays b = record { front = (b.out, refl); refusal = λ e. absurd cc }

-- an answer that is the same
same_stays : (a b : Answer) → b ≡ a → Stays a b
same_stays a b e = record { front = ([], ap (λ (x : Answer). x.out) e ∙ sym (append-nil a.out)); refusal = λ r. e }

-- lines before both answers
led_stays : (ls : Bytes) (a b : Answer) → Stays a b → Stays (led_by ls a) (led_by ls b)
led_stays ls a b s = record {
  front = (s.front.0, ap (λ bs. ls ++ bs) s.front.1 ∙ sym (append_assoc ls a.out s.front.0));
  refusal = λ r. ap (led_by ls) (s.refusal r);
}

-- ---- what follows a game

more_goes_on : (l : Bytes) (ms : List Bytes) → ms ≢ [] → goes_on (l ∷ ms) ≡ true
more_goes_on l [] h = absurd (h refl)
more_goes_on [] (m ∷ ms) h = refl
more_goes_on (c ∷ cs) (m ∷ ms) h = refl

-- a byte that follows a game still does where more follows
goes_on_continued : (ls ys : List Bytes) → goes_on ls ≡ true → goes_on (continued ls ys) ≡ true
goes_on_continued [] ys e = absurd cc
goes_on_continued ([] ∷ []) ys e = absurd cc
goes_on_continued ((c ∷ cs) ∷ []) [] e = refl
goes_on_continued ((c ∷ cs) ∷ []) (h ∷ []) e = refl
goes_on_continued ((c ∷ cs) ∷ []) (h ∷ t ∷ ts) e = refl
goes_on_continued (l ∷ m ∷ ms) ys e = more_goes_on l (continued (m ∷ ms) ys) (continued_some (m ∷ ms) ys (λ x. cc))

length_join : (l : Bytes) (ms : List Bytes) → ms ≢ [] → length (join_with_byte 10 (l ∷ ms)) ≡ length l + (1 + length (join_with_byte 10 ms))
length_join l [] h = absurd (h refl)
length_join l (m ∷ ms) h = omega (arith, length-append l (10 ∷ join_with_byte 10 (m ∷ ms)))

-- pieces that go on are no shorter together
join_continued : (ls ys : List Bytes) → length (join_with_byte 10 ls) ≤ length (join_with_byte 10 (continued ls ys))
join_continued [] ys = omega arith
join_continued (l ∷ []) [] = omega arith
join_continued (l ∷ []) (h ∷ []) = omega (arith, length-append l h)
join_continued (l ∷ []) (h ∷ t ∷ ts) = omega (arith, length-append l h, length-append (l ++ h) (10 ∷ join_with_byte 10 (t ∷ ts)))
join_continued (l ∷ m ∷ ms) ys =
    omega (arith, join_continued (m ∷ ms) ys, length_join l (m ∷ ms) (λ e. cc), length_join l (continued (m ∷ ms) ys) (continued_some (m ∷ ms) ys (λ e. cc)))

-- ---- the modes

-- what a mode for a game alone writes
game_stays : (ended : Bool) (line : ℕ) (ls ys : List Bytes) (found : Result Bytes Refusal) → Stays (game_answer false line ls found) (game_answer ended line (continued ls ys) found)
game_stays ended line ls ys (Err r) = same_stays _ _ refl
game_stays ended line ls ys (Ok out) =
    let at : (b : Bool) → goes_on ls ≡ b → Stays (game_answer false line ls (Ok out)) (game_answer ended line (continued ls ys) (Ok out)) =
    λ b. elim b as (λ b. goes_on ls ≡ b → Stays (game_answer false line ls (Ok out)) (game_answer ended line (continued ls ys) (Ok out))) [
      | true ↦ λ e. rw (e, goes_on_continued ls ys e) (same_stays _ _ refl)
      | false ↦ λ e. rw e (silent_stays _)
    ] in
    at (goes_on ls) refl

-- what `print` writes
print_stays : (ended : Bool) (ys : List Bytes) (c d : Cut) → GoesOn c ys d → Stays (print_cut false c) (print_cut ended d)
print_stays ended ys (cut_at text n ls) d e =
    subst (λ x. Stays (print_cut false (cut_at text n ls)) (print_cut ended x)) (sym e)
    (game_stays ended n ls ys (elim (read_text text) [ Ok g ↦ Ok (canonical g) | Err r ↦ Err r ]))
print_stays ended ys (cut_refused r) d e = same_stays _ _ (ap (print_cut ended) e)
print_stays ended ys cut_open d e = silent_stays _

-- what `check` writes
check_stays : (ended : Bool) (ys : List Bytes) (c d : Cut) → GoesOn c ys d → Stays (check_cut false c) (check_cut ended d)
check_stays ended ys (cut_at text n ls) d e =
    subst (λ x. Stays (check_cut false (cut_at text n ls)) (check_cut ended x)) (sym e)
    (game_stays ended n ls ys (elim (playable text n) [ Ok g ↦ Ok (counts_line g) | Err r ↦ Err r ]))
check_stays ended ys (cut_refused r) d e = same_stays _ _ (ap (check_cut ended) e)
check_stays ended ys cut_open d e = silent_stays _

-- too many bytes after a game still are too many
behind_stays : (ended : Bool) (g : GameModel) (line : ℕ) (xs ys : Bytes) → length xs ≤ length ys → Stays (verify_behind false g line xs) (verify_behind ended g line ys)
behind_stays ended g line xs ys h =
    let at : (b : Bool) → nat_lt commands_limit (length xs) ≡ b → Stays (verify_behind false g line xs) (verify_behind ended g line ys) =
    λ b. elim b as (λ b. nat_lt commands_limit (length xs) ≡ b → Stays (verify_behind false g line xs) (verify_behind ended g line ys)) [
      | true ↦ λ e. rw (e, lt-ltb commands_limit (length ys) (omega (arith, h, ltb-true commands_limit (length xs) e))) (same_stays _ _ refl)
      | false ↦ λ e. rw e (silent_stays _)
    ] in
    at (nat_lt commands_limit (length xs)) refl

-- a refusal of the game stays too
verified_stays : (ended : Bool) (n : ℕ) (xs ys : Bytes) (found : Result GameModel Refusal) → length xs ≤ length ys
    → Stays (elim found [ Ok g ↦ verify_behind false g n xs | Err r ↦ refusing r ]) (elim found [ Ok g ↦ verify_behind ended g n ys | Err r ↦ refusing r ])
verified_stays ended n xs ys (Ok g) h = behind_stays ended g n xs ys h
verified_stays ended n xs ys (Err r) h = same_stays _ _ refl

-- what `verify` writes
verify_stays : (ended : Bool) (ys : List Bytes) (c d : Cut) → GoesOn c ys d → Stays (verify_cut false c) (verify_cut ended d)
verify_stays ended ys (cut_at text n ls) d e =
    subst (λ x. Stays (verify_cut false (cut_at text n ls)) (verify_cut ended x)) (sym e)
    (verified_stays ended (n + 1) (join_with_byte 10 ls) (join_with_byte 10 (continued ls ys)) (playable text n) (join_continued ls ys))
verify_stays ended ys (cut_refused r) d e = same_stays _ _ (ap (verify_cut ended) e)
verify_stays ended ys cut_open d e = silent_stays _

-- ---- sessions

-- an answer, unless a limit is passed first
abbrev unless_passed : ℕ → Option Bytes → Answer → Answer
unless_passed n o a = elim o [ Some code ↦ refusing (refused n code []) | None ↦ a ]

-- the reply to a command line and the answers after it, or its refusal
abbrev replied_first : Result (State × List Bytes) Refusal → (State → Answer) → Answer
replied_first found after = elim found [ Err r ↦ refusing r | Ok r ↦ led_by (joined r.1 ++ (10 ∷ [])) (after r.0) ]

-- a line that no line feed has ended yet has no reply
begun_stays : (n : ℕ) (o p : Option Bytes) (a : Answer) → ((k : Bytes) → o ≡ Some k → p ≡ Some k) → Stays (unless_passed n o silent) (unless_passed n p a)
begun_stays n None p a h = silent_stays _
begun_stays n (Some k) p a h = same_stays _ _ (ap (λ x. unless_passed n x a) (h k refl))

-- the reply to a whole line stays, and so do those after it
reply_stays : (n : ℕ) (o : Option Bytes) (found : Result (State × List Bytes) Refusal) (f g : State → Answer) → ((s : State) → Stays (f s) (g s))
    → Stays (unless_passed n o (replied_first found f)) (unless_passed n o (replied_first found g))
reply_stays n (Some k) found f g h = same_stays _ _ refl
reply_stays n None (Err r) f g h = same_stays _ _ refl
reply_stays n None (Ok r) f g h = led_stays (joined r.1 ++ (10 ∷ [])) (f r.0) (g r.0) (h r.0)

-- the answers from a command line on that other lines follow
answers_from : (has : Command → Bool) (ended : Bool) (done number left : ℕ) (s : State) (l : Bytes) (ms : List Bytes) → ms ≢ []
    → session_from has ended done number left s (l ∷ ms)
    ≡ unless_passed (done + number) (passed_limit (codes "InputTooLong") left (length l) 1)
    (replied_first (answered has (done + number) number s l) (λ t. session_from has ended done (number + 1) (left - (length l + 1)) t ms))
answers_from has ended done number left s l [] h = absurd (h refl)
answers_from has ended done number left s l (m ∷ ms) h = refl

-- the replies to the first lines of a session stay where it goes on
replies_stay : (has : Command → Bool) (ended : Bool) (done number left : ℕ) (s : State) (ls ys : List Bytes) → ys ≢ []
    → Stays (session_from has false done number left s ls) (session_from has ended done number left s (continued ls ys))
replies_stay has ended done number left s [] ys h = silent_stays _
replies_stay has ended done number left s (l ∷ []) [] h = absurd (h refl)
replies_stay has ended done number left s (l ∷ []) (y ∷ []) h =
    begun_stays (done + number) _ _ _ (λ k e. passed_more (codes "InputTooLong") k left (length l) (length (l ++ y)) 0 (omega (arith, length-append l y)) e)
replies_stay has ended done number left s (l ∷ []) (y ∷ z ∷ zs) h =
    begun_stays (done + number) _ _ _ (λ k e. passed_more (codes "InputTooLong") k left (length l) (length (l ++ y)) 1 (omega (arith, length-append l y)) e)
replies_stay has ended done number left s (l ∷ m ∷ ms) ys h =
    rw (answers_from has ended done number left s l (continued (m ∷ ms) ys) (continued_some (m ∷ ms) ys (λ e. cc)))
    (reply_stays (done + number) (passed_limit (codes "InputTooLong") left (length l) 1) (answered has (done + number) number s l) _ _
    (λ t. replies_stay has ended done (number + 1) (left - (length l + 1)) t (m ∷ ms) ys h))

-- so do those to a game that can be played, and the refusal of another one
played_stays : (has : Command → Bool) (ended : Bool) (n : ℕ) (ls ys : List Bytes) (found : Result GameModel Refusal) → ys ≢ []
    → Stays (elim found [ Ok g ↦ session_from has false n 1 commands_limit (record { game = g; profile = None }) ls | Err r ↦ refusing r ])
    (elim found [ Ok g ↦ session_from has ended n 1 commands_limit (record { game = g; profile = None }) (continued ls ys) | Err r ↦ refusing r ])
played_stays has ended n ls ys (Ok g) h = replies_stay has ended n 1 commands_limit (record { game = g; profile = None }) ls ys h
played_stays has ended n ls ys (Err r) h = same_stays _ _ refl

-- what `session` writes
session_stays : (has : Command → Bool) (ended : Bool) (ys : List Bytes) (c d : Cut) → ys ≢ [] → GoesOn c ys d → Stays (session_cut has false c) (session_cut has ended d)
session_stays has ended ys (cut_at text n ls) d h e =
    subst (λ x. Stays (session_cut has false (cut_at text n ls)) (session_cut has ended x)) (sym e) (played_stays has ended n ls ys (playable text n) h)
session_stays has ended ys (cut_refused r) d h e = same_stays _ _ (ap (session_cut has ended) e)
session_stays has ended ys cut_open d h e = silent_stays _

-- ---- all modes

-- what was found in the first bytes of an input
pub input_goes_on : (ended : Bool) (xs ys : Bytes) → GoesOn (input_cut false xs) (lines ys) (input_cut ended (xs ++ ys))
input_goes_on ended xs ys = rw (lines_append xs ys) (cut_goes_on ended 1 [] (lines xs) (lines ys) (lines_some ys))

-- what a program writes for the first bytes of an input stays, whatever follows them
pub answer_stays : (p : Program) (ended : Bool) (m : Option Mode) (xs ys : Bytes) → Stays (mode_answer p false xs m) (mode_answer p ended (xs ++ ys) m)
answer_stays p ended None xs ys = same_stays _ _ refl
answer_stays p ended (Some mode.session) xs ys =
    session_stays p.has_command ended (lines ys) (input_cut false xs) (input_cut ended (xs ++ ys)) (lines_some ys) (input_goes_on ended xs ys)
answer_stays p ended (Some mode.check) xs ys = check_stays ended (lines ys) (input_cut false xs) (input_cut ended (xs ++ ys)) (input_goes_on ended xs ys)
answer_stays p ended (Some mode.print) xs ys = print_stays ended (lines ys) (input_cut false xs) (input_cut ended (xs ++ ys)) (input_goes_on ended xs ys)
answer_stays p ended (Some mode.verify) xs ys = verify_stays ended (lines ys) (input_cut false xs) (input_cut ended (xs ++ ys)) (input_goes_on ended xs ys)
answer_stays p ended (Some (mode.generate kind size)) xs ys = same_stays _ _ refl
answer_stays p ended (Some (mode.survey kind size)) xs ys = same_stays _ _ refl

-- what is written for the first bytes of an input is a prefix of what is written for more of them
pub front_law : FrontLaw
front_law p ws xs ys = ((answer_stays p false (mode_in p ws) xs ys).front, (answer_stays p true (mode_in p ws) xs ys).front)

-- a refusal that they cause stays
pub refusal_law : RefusalLaw
refusal_law p ws ended xs ys r = (answer_stays p ended (mode_in p ws) xs ys).refusal r
