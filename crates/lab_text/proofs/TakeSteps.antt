-- A line that is taken.
use Rattle.std.proofs.Common.{◌≡◌, ℕ, true, List, ◌∷◌, Option, Some, Result, Ok, Err, refl, ap, ◌∙◌, sym}
use Rattle.std.specs.Prelude.{◌==◌}
use Rattle.std.proofs.lemmas.Bool.{cond-true}
use Rattle.lab_defs_text.specs.Agreement.{FaultAgrees}
use Rattle.lab_defs_text.specs.Faults.{LineFault, lexical, bad_space_at}
use Rattle.lab_defs_text.specs.Steps.{◌>>=◌}
use Rattle.lab_defs_text.specs.Words.{Bytes, words, first_empty}
use Rattle.lab_defs_text.specs.Lines.{Line}
use Rattle.lab_defs_text.specs.Reading.{Kind, line_at, words_at, of_kind, kind_of, kind_among, next_kinds, rest_at}
use Rattle.lab_defs_text.specs.Drafts.{Draft, with_line}
use Rattle.lab_defs_text.proofs.StepLemmas.{bind_ok}
use Rattle.lab_defs_text.proofs.ReadingLemmas.{rest_read}
use Rattle.lab_text.proofs.FaultSteps.{fault_same}

-- the kind of a line, and the parts with it
abbrev pub kinded : ℕ → Kind → Draft → Result Line LineFault → Result (Kind × Draft) LineFault
kinded n last d read = read >>= λ l. with_line n last d l >>= λ e. Ok (kind_of l, e)

-- a line whose first word has a kind
line_is : (last k : Kind) (bytes w : Bytes) (ws : List Bytes) → (first_empty 1 (words bytes) == 0) ≡ true → words bytes ≡ w ∷ ws → kind_among (next_kinds last) w ≡ Some k → line_at last bytes ≡ rest_at k ws
line_is last k bytes w ws t p q =
    cond-true (first_empty 1 (words bytes) == 0) (words_at last (words bytes)) (Err (lexical (bad_space_at (first_empty 1 (words bytes))))) t
    ∙ ap (words_at last) p ∙ ap (λ o. of_kind o ws) q

-- a line that was read and added
kinded_ok : (n : ℕ) (last : Kind) (d new : Draft) (read : Result Line LineFault) (l : Line) → read ≡ Ok l → with_line n last d l ≡ Ok new → kinded n last d read ≡ Ok (kind_of l, new)
kinded_ok n last d new read l p q = rw (p, q) refl

-- a line that was not read, or not added
kinded_err : (n : ℕ) (last : Kind) (d : Draft) (read : Result Line LineFault) (f : LineFault) → (read >>= with_line n last d) ≡ Err f → kinded n last d read ≡ Err f
kinded_err n last d (Err e) f q = cc
kinded_err n last d (Ok l) f q = rw q refl

-- a line is taken where its words behind the first one are
pub take_ok : (n : ℕ) (last k : Kind) (d new : Draft) (bytes w : Bytes) (ws : List Bytes) → (first_empty 1 (words bytes) == 0) ≡ true → words bytes ≡ w ∷ ws → kind_among (next_kinds last) w ≡ Some k
    → (rest_at k ws >>= with_line n last d) ≡ Ok new → kinded n last d (line_at last bytes) ≡ Ok (k, new)
take_ok n last k d new bytes w ws t p q e =
    let a = bind_ok (rest_at k ws) (with_line n last d) new e in
    ap (kinded n last d) (line_is last k bytes w ws t p q) ∙ kinded_ok n last d new (rest_at k ws) a.0 a.1 a.2
    ∙ ap (λ (j : Kind). Ok (j, new)) (sym (rest_read k ws a.0 a.1).kind)

-- a line is not taken where they are not
pub take_err : (n : ℕ) (last k : Kind) (d : Draft) (bytes w : Bytes) (ws : List Bytes) (fault : Option LineFault) → (first_empty 1 (words bytes) == 0) ≡ true → words bytes ≡ w ∷ ws
    → kind_among (next_kinds last) w ≡ Some k → FaultAgrees fault (rest_at k ws >>= with_line n last d) → FaultAgrees fault (kinded n last d (line_at last bytes))
take_err n last k d bytes w ws fault t p q e =
    fault_same fault (rest_at k ws >>= with_line n last d) (kinded n last d (line_at last bytes))
    (λ f h. ap (kinded n last d) (line_is last k bytes w ws t p q) ∙ kinded_err n last d (rest_at k ws) f h) e
