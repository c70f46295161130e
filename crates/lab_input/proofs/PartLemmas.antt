-- What follows the lines of a game.
use Rattle.std.proofs.Common.{◌≡◌, ℕ, ◌≤◌, Bool, [], ◌++◌, Option, subst, ap, ◌∙◌, arith, append_assoc}
use Rattle.std.specs.Io.KnownBytes.{Consumes}
use Rattle.lab_io.specs.Causes.{Rose}
use Rattle.lab_io.specs.Reading.{Takes}
use Rattle.lab_io.proofs.CallerLemmas.{Consumes-append}
use Rattle.lab_defs_text.specs.Words.{Bytes, lines}
use Rattle.lab_defs_report.specs.Cuts.{cut_at}
use Rattle.lab_defs_report.specs.Modes.{input_cut}
use Rattle.lab_defs_report.proofs.CutLemmas.{cut_goes_on, lines_append, lines_some, none_continued}
use Rattle.lab_input.specs.GameParts.{IsGamePart}

-- the lines after those of a game are what its input is cut before
pub cut_after : (old : Option Bytes) (ahead : Bytes) (left : Option Bytes) (text : Bytes) (n : ℕ) → IsGamePart old ahead left text n → (ended : Bool) (more : Bytes) → input_cut ended (text ++ more) ≡ cut_at text n (lines more)
cut_after old ahead left text n p ended more =
    let on = cut_goes_on ended 1 [] (lines text) (lines more) (lines_some more) in
    rw (lines_append text more) ((rw p.cuts at on) ∙ ap (cut_at text n) (none_continued (lines more) (lines_some more)))

-- what was given, what was held and what came then is all that was taken
pub given_and_more : (old left new : Option Bytes) (ahead text more : Bytes) → Takes [] old ahead left text → Consumes left new more → Consumes old new (text ++ (ahead ++ more))
given_and_more old left new ahead text more t c =
    let same : t.taken ++ more ≡ text ++ (ahead ++ more) = ap (λ x. x ++ more) t.split ∙ append_assoc text ahead more in
    subst (Consumes old new) same (Consumes-append old left new t.taken more t.consumed c)

-- a count that rose from a later number rose from an earlier one
pub rose_earlier : (a b c : ℕ) → a ≤ b → Rose b c → Rose a c
rose_earlier a b c h r = omega (arith, h, r)
