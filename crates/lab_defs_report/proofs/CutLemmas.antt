-- Inputs that go on: their lines, and how they are cut after their game.
use Rattle.std.proofs.Common.{◌≡◌, ◌≢◌, ℕ, ◌+◌, ◌-◌, ◌≤◌, Bool, true, false, cond, List, [], ◌∷◌, ◌++◌, length, Option, Some, None, refl, sym, ap, ◌∙◌, arith, length-append}
use Rattle.std.specs.Prelude.{◌==◌, if◌then◌else◌}
use Rattle.std.specs.List.{slice_split, onto_first}
use Rattle.std.specs.Str.{bytes_eq}
use Rattle.std.proofs.lemmas.Bool.Decides.{nat_tests}
use lib.Chars.{codes}
use Rattle.lab_math.proofs.ListParts.{split_nonempty}
use Rattle.lab_defs_text.specs.Words.{Bytes, lines}
use Rattle.lab_defs_report.specs.Cuts.{game_limit, passed_limit, Cut, cut_at, cut_refused, cut_open, or_refused, cut_from}

-- pieces of which the last one goes on as the first of others
abbrev pub continued : List Bytes → List Bytes → List Bytes
continued [] ys = ys
continued (l ∷ []) [] = l ∷ []
continued (l ∷ []) (h ∷ t) = (l ++ h) ∷ t
continued (l ∷ m ∷ ms) ys = l ∷ continued (m ∷ ms) ys

-- pieces that go on are some pieces
pub continued_some : (ls ys : List Bytes) → ls ≢ [] → continued ls ys ≢ []
continued_some [] ys h = absurd (h refl)
continued_some (l ∷ []) [] h = λ e. cc
continued_some (l ∷ []) (y ∷ ys) h = λ e. cc
continued_some (l ∷ m ∷ ms) ys h = λ e. cc

-- the first piece of several stays
pub cons_continued : (l : Bytes) (ms ys : List Bytes) → ms ≢ [] → continued (l ∷ ms) ys ≡ l ∷ continued ms ys
cons_continued l [] ys h = absurd (h refl)
cons_continued l (m ∷ ms) ys h = refl

-- an empty piece goes on as what follows it
pub none_continued : (ys : List Bytes) → ys ≢ [] → continued ([] ∷ []) ys ≡ ys
none_continued [] h = absurd (h refl)
none_continued (y ∷ ys) h = refl

onto_continued : (c : ℕ) (ls ys : List Bytes) → ls ≢ [] → onto_first c (continued ls ys) ≡ continued (onto_first c ls) ys
onto_continued c [] ys h = absurd (h refl)
onto_continued c (l ∷ []) [] h = refl
onto_continued c (l ∷ []) (y ∷ ys) h = refl
onto_continued c (l ∷ m ∷ ms) ys h = refl

-- the pieces of bytes that go on
split_append : (p : ℕ → Bool) (xs ys : Bytes) → slice_split p (xs ++ ys) ≡ continued (slice_split p xs) (slice_split p ys)
split_append p [] ys = sym (none_continued (slice_split p ys) (split_nonempty p ys))
split_append p (x ∷ xs) ys =
    elim (p x) as (λ b. cond b ([] ∷ slice_split p (xs ++ ys)) (onto_first x (slice_split p (xs ++ ys)))
    ≡ continued (cond b ([] ∷ slice_split p xs) (onto_first x (slice_split p xs))) (slice_split p ys)) [
      | true ↦ ap (λ ps. [] ∷ ps) (split_append p xs ys) ∙ sym (cons_continued [] (slice_split p xs) (slice_split p ys) (split_nonempty p xs))
      | false ↦ ap (onto_first x) (split_append p xs ys) ∙ onto_continued x (slice_split p xs) (slice_split p ys) (split_nonempty p xs)
    ]

-- the lines of an input that goes on
pub lines_append : (xs ys : Bytes) → lines (xs ++ ys) ≡ continued (lines xs) (lines ys)
lines_append xs ys = split_append (λ c. c == 10) xs ys

pub lines_some : (xs : Bytes) → lines xs ≢ []
lines_some xs = split_nonempty (λ c. c == 10) xs

-- ---- cuts

-- a limit that a line passes is passed by the line that goes on
pub passed_more : (code k : Bytes) (left a b ended : ℕ) → a ≤ b → passed_limit code left a 0 ≡ Some k → passed_limit code left b ended ≡ Some k
passed_more code k left a b ended h e = grind (arith, nat_tests)

-- a cut of an input that goes on in pieces ys: what was found in its first bytes stays
abbrev pub GoesOn : Cut → List Bytes → Cut → Type 0
GoesOn (cut_at text n behind) ys c = c ≡ cut_at text n (continued behind ys)
GoesOn (cut_refused r) ys c = c ≡ cut_refused r
GoesOn cut_open ys c = Unit {0}

-- a line that other lines follow
pub cut_more : (ended : Bool) (n : ℕ) (text l : Bytes) (ms : List Bytes) → ms ≢ []
    → cut_from ended n text (l ∷ ms)
    ≡ or_refused n (passed_limit (codes "GameTooLong") (game_limit - length text) (length l) 1)
    (if bytes_eq l (codes "done") then cut_at (text ++ l ++ (10 ∷ [])) n ms else cut_from ended (n + 1) (text ++ l ++ (10 ∷ [])) ms)
cut_more ended n text l [] h = absurd (h refl)
cut_more ended n text l (m ∷ ms) h = refl

last_goes_on : (n : ℕ) (o p : Option Bytes) (ys : List Bytes) (c : Cut) → ((k : Bytes) → o ≡ Some k → p ≡ Some k) → GoesOn (or_refused n o cut_open) ys (or_refused n p c)
last_goes_on n None p ys c h = tt
last_goes_on n (Some k) p ys c h = ap (λ x. or_refused n x c) (h k refl)

line_goes_on : (n : ℕ) (o : Option Bytes) (b : Bool) (text : Bytes) (ms ys : List Bytes) (c d : Cut) → GoesOn c ys d
    → GoesOn (or_refused n o (cond b (cut_at text n ms) c)) ys (or_refused n o (cond b (cut_at text n (continued ms ys)) d))
line_goes_on n (Some k) b text ms ys c d h = refl
line_goes_on n None true text ms ys c d h = refl
line_goes_on n None false text ms ys c d h = h

-- what was found in the first lines of an input stays where it goes on
pub cut_goes_on : (ended : Bool) (n : ℕ) (text : Bytes) (ls ys : List Bytes) → ys ≢ [] → GoesOn (cut_from false n text ls) ys (cut_from ended n text (continued ls ys))
cut_goes_on ended n text [] ys h = tt
cut_goes_on ended n text (l ∷ []) [] h = absurd (h refl)
cut_goes_on ended n text (l ∷ []) (y ∷ []) h =
    last_goes_on n _ _ (y ∷ []) _ (λ k e. passed_more (codes "GameTooLong") k (game_limit - length text) (length l) (length (l ++ y)) 0 (omega (arith, length-append l y)) e)
cut_goes_on ended n text (l ∷ []) (y ∷ z ∷ zs) h =
    last_goes_on n _ _ (y ∷ z ∷ zs) _ (λ k e. passed_more (codes "GameTooLong") k (game_limit - length text) (length l) (length (l ++ y)) 1 (omega (arith, length-append l y)) e)
cut_goes_on ended n text (l ∷ m ∷ ms) ys h =
    rw (cut_more ended n text l (continued (m ∷ ms) ys) (continued_some (m ∷ ms) ys (λ e. cc)))
    (line_goes_on n (passed_limit (codes "GameTooLong") (game_limit - length text) (length l) 1) (bytes_eq l (codes "done")) (text ++ l ++ (10 ∷ [])) (m ∷ ms) ys _ _
    (cut_goes_on ended (n + 1) (text ++ l ++ (10 ∷ [])) (m ∷ ms) ys h))
