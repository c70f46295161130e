-- The first line of bytes, and which limit it passes.
use Rattle.std.proofs.Common.{◌≡◌, ◌≢◌, ℕ, ◌+◌, ◌≤◌, ◌<◌, Bool, true, false, List, [], ◌∷◌, ◌++◌, length, take, drop, slice_index, Some, None, refl, sym, ap, ◌∙◌, subst, arith, length-append}
use Rattle.std.specs.Prelude.{◌==◌, not}
use Rattle.std.proofs.lemmas.Bool.{and_parts, not-true, eqb-true}
use Rattle.std.proofs.lemmas.Bool.Decides.{nat_tests}
use Rattle.std.proofs.lemmas.List.{take-append-drop, length-take-le, drop_more, take_more}
use Rattle.std.proofs.lemmas.List.Folds.{list_all-append}
use lib.Chars.{codes}
use Rattle.lab_io.specs.Reading.{no_feed, IsLine, PassesLimit, PassesAllowance}
use Rattle.lab_io.specs.declared.line_reader.TheConstants.{LINE_LIMIT}
use Rattle.lab_defs_text.specs.Words.{Bytes, lines}
use Rattle.lab_defs_report.specs.Cuts.{line_limit, passed_limit}
use Rattle.lab_defs_report.proofs.CutLemmas.{continued, passed_more, lines_append, lines_some}

-- bytes without a line feed are one line
pub one_line : (bytes : Bytes) → no_feed bytes ≡ true → lines bytes ≡ bytes ∷ []
one_line [] h = refl
one_line (c ∷ cs) h = let a = and_parts (not (c == 10)) (no_feed cs) h in rw (not-true (c == 10) a.0, one_line cs a.1) refl

-- a line before a line feed is the first one
pub first_line : (l y : Bytes) → no_feed l ≡ true → lines (l ++ 10 ∷ y) ≡ l ∷ lines y
first_line [] y h = refl
first_line (c ∷ cs) y h = let a = and_parts (not (c == 10)) (no_feed cs) h in rw (not-true (c == 10) a.0, first_line cs y a.1) refl

-- how many line feeds end a line, by the lines that follow it
abbrev pub feeds : List Bytes → ℕ
feeds [] = 0
feeds (m ∷ ms) = 1

-- the first line passes a limit, whose code is named, where `left` bytes are allowed
pub record FirstPasses (code : Bytes) (left : ℕ) (bytes passed : Bytes) : Type 0 where
  pub line : Bytes
  pub more : List Bytes
  pub first : lines bytes ≡ line ∷ more
  pub passes : passed_limit code left (length line) (feeds more) ≡ Some passed

-- no limit is passed within both
pub none_passed : (code : Bytes) (left n ended : ℕ) → n ≤ line_limit → n + ended ≤ left → passed_limit code left n ended ≡ None
none_passed code left n ended h k = grind (arith, nat_tests)

-- a line with its line feed passes no limit within the bytes that are allowed
pub line_passes_none : (code : Bytes) (left : ℕ) (l : Bytes) → IsLine l → length l + 1 ≤ left → passed_limit code left (length l) 1 ≡ None
line_passes_none code left l line h = none_passed code left (length l) 1 line.short h

limit_passed : (code : Bytes) (left n : ℕ) → line_limit < n → line_limit ≤ left → passed_limit code left n 0 ≡ Some (codes "LineTooLong")
limit_passed code left n h k = grind (arith, nat_tests)

allowance_passed : (code : Bytes) (left n ended : ℕ) → n ≤ line_limit → left < n + ended → passed_limit code left n ended ≡ Some code
allowance_passed code left n ended h k = grind (arith, nat_tests)

-- what bytes without a line feed pass, the line that begins with them passes
begins_past : (code prefix rest passed : Bytes) (left : ℕ) → no_feed prefix ≡ true → passed_limit code left (length prefix) 0 ≡ Some passed → FirstPasses code left (prefix ++ rest) passed
begins_past code prefix rest passed left unended h =
    by_rest (lines rest) (lines_some rest) (lines_append prefix rest ∙ ap (λ ls. continued ls (lines rest)) (one_line prefix unended))
  where
    by_rest : (ls : List Bytes) → ls ≢ [] → lines (prefix ++ rest) ≡ continued (prefix ∷ []) ls → FirstPasses code left (prefix ++ rest) passed
    by_rest [] some e = absurd (some refl)
    by_rest (l ∷ ls) some e = record {
      line = prefix ++ l;
      more = ls;
      first = e;
      passes = passed_more code passed left (length prefix) (length (prefix ++ l)) (feeds ls) (omega (arith, length-append prefix l)) h;
    }

-- a line that is too long, wherever it ends
pub limit_passes : (code : Bytes) (left : ℕ) (bytes : Bytes) → PassesLimit left bytes → FirstPasses code left bytes (codes "LineTooLong")
limit_passes code left bytes p =
    let prefix = take (LINE_LIMIT + 1) bytes in
    let size : length (take (LINE_LIMIT + 1) bytes) ≡ LINE_LIMIT + 1 = length-take-le (LINE_LIMIT + 1) bytes (omega (arith, p.long)) in
    subst (λ b. FirstPasses code left b (codes "LineTooLong")) (take-append-drop (LINE_LIMIT + 1) bytes)
    (begins_past code prefix (drop (LINE_LIMIT + 1) bytes) (codes "LineTooLong") left p.unended (limit_passed code left (length prefix) (omega (arith, size)) p.reached))

-- the byte past the allowance ends a line within the limit
ended_past : (code : Bytes) (left : ℕ) (bytes : Bytes) → PassesAllowance left bytes → slice_index bytes left ≡ 10 → FirstPasses code left bytes code
ended_past code left bytes p feed =
    let parts : take left bytes ++ (10 ∷ drop (left + 1) bytes) ≡ bytes =
    ap (λ c. take left bytes ++ (c ∷ drop (left + 1) bytes)) (sym feed) ∙ ap (λ x. take left bytes ++ x) (sym (drop_more bytes left 0 p.long)) ∙ take-append-drop left bytes in
    by_more (lines (drop (left + 1) bytes)) (lines_some (drop (left + 1) bytes)) (ap lines (sym parts) ∙ first_line (take left bytes) (drop (left + 1) bytes) p.unended)
  where
    by_more : (ms : List Bytes) → ms ≢ [] → lines bytes ≡ take left bytes ∷ ms → FirstPasses code left bytes code
    by_more [] some e = absurd (some refl)
    by_more (m ∷ ms) some e =
        let size : length (take left bytes) ≡ left = length-take-le left bytes (omega (arith, p.long)) in
        record {
          line = take left bytes;
          more = m ∷ ms;
          first = e;
          passes = allowance_passed code left (length (take left bytes)) 1 (omega (arith, size, p.reached)) (omega (arith, size));
        }

-- a byte that is no line feed does not come right after the longest line
not_at_limit : (a : ℕ) (bytes : Bytes) → (a ≡ LINE_LIMIT → slice_index bytes LINE_LIMIT ≡ 10) → (slice_index bytes a == 10) ≡ false → a ≢ LINE_LIMIT
not_at_limit a bytes h e same = let feed : slice_index bytes a ≡ 10 = ap (slice_index bytes) same ∙ h same in let other = rw feed at e in absurd cc

-- the byte past the allowance is inside a line within the limit
inside_past : (code : Bytes) (left : ℕ) (bytes : Bytes) → PassesAllowance left bytes → (slice_index bytes left == 10) ≡ false → FirstPasses code left bytes code
inside_past code left bytes p other =
    let prefix : take (left + 1) bytes ≡ take left bytes ++ (slice_index bytes left ∷ []) = take_more bytes left 0 p.long in
    let size : length (take (left + 1) bytes) ≡ left + 1 = length-take-le (left + 1) bytes (omega (arith, p.long)) in
    let below : left < LINE_LIMIT = omega (arith, p.reached, not_at_limit left bytes p.at_limit other) in
    let unended : no_feed (take (left + 1) bytes) ≡ true = rw (prefix, list_all-append (λ c. not (c == 10)) (take left bytes) (slice_index bytes left ∷ []), p.unended, other) refl in
    subst (λ b. FirstPasses code left b code) (take-append-drop (left + 1) bytes)
    (begins_past code (take (left + 1) bytes) (drop (left + 1) bytes) code left unended
    (allowance_passed code left (length (take (left + 1) bytes)) 0 (omega (arith, size, below)) (omega (arith, size))))

-- a line within the limit that passes the allowance
pub allowance_passes : (code : Bytes) (left : ℕ) (bytes : Bytes) → PassesAllowance left bytes → FirstPasses code left bytes code
allowance_passes code left bytes p = by_test (slice_index bytes left == 10) refl
  where
    by_test : (b : Bool) → (slice_index bytes left == 10) ≡ b → FirstPasses code left bytes code
    by_test true e = ended_past code left bytes p (eqb-true (slice_index bytes left) 10 e)
    by_test false e = inside_past code left bytes p e
