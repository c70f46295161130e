-- Whole lines before the end of a game: how they are found, counted and cut.
use Rattle.std.proofs.Common.{◌≡◌, ℕ, zero, suc, ◌+◌, ◌≤◌, ◌<◌, Bool, false, List, [], ◌∷◌, ◌++◌, length, take, drop, Some, refl, sym, ap, ◌∙◌, arith, length-append, append_assoc, append-nil}
use Rattle.std.specs.Prelude.{IsTrue, not}
use Rattle.std.specs.List.{list_all}
use Rattle.std.specs.Str.{bytes_eq}
use Rattle.std.proofs.Math.Seq.{take-add}
use Rattle.std.proofs.lemmas.Bool.{and_parts, and_from, not-true}
use Rattle.std.proofs.lemmas.List.{take_more, length-take-le}
use Rattle.std.proofs.lemmas.List.Folds.{list_all-append}
use lib.Chars.{codes}
use Rattle.memchr.specs.Find.{IsFirstByte, is_byte}
use Rattle.lab_io.specs.Reading.{no_feed}
use Rattle.lab_io.specs.declared.line_reader.TheConstants.{READ_AHEAD}
use Rattle.lab_io.proofs.CallerLemmas.{IsBefore, IsBefore-from, before_is}
use Rattle.lab_defs_text.specs.Words.{Bytes, lines}
use Rattle.lab_defs_report.specs.Cuts.{game_limit, line_limit, cut_from}
use Rattle.lab_input.specs.PlainLines.{ended_lines, is_plain, ArePlainLines}
use Rattle.lab_input.proofs.LineCuts.{line_cut}

-- the bytes up to and with the first line feed are a line
pub plain_one : (bytes : Bytes) (n : ℕ) → IsFirstByte (is_byte 10) bytes (Some n) → bytes_eq (take n bytes) (codes "done") ≡ false → ArePlainLines (take (n + 1) bytes) 1
plain_one bytes n first other =
    let within : n < length bytes = first.0.high in
    let before : IsBefore bytes n = IsBefore-from bytes n (before_is bytes (Some n) first) in
    record {
      each = take n bytes ∷ [];
      whole = take_more bytes n 0 within ∙ ap (λ c. take n bytes ++ (c ∷ [])) (before.feed within);
      counts = refl;
      plain = rw (before.unended, other) refl;
    }

-- lines after lines
ended-append : (xs ys : List Bytes) → ended_lines (xs ++ ys) ≡ ended_lines xs ++ ended_lines ys
ended-append [] ys = refl
ended-append (l ∷ xs) ys = ap (λ t. l ++ (10 ∷ t)) (ended-append xs ys) ∙ sym (append_assoc l (10 ∷ ended_lines xs) (ended_lines ys))

-- plain lines after plain lines
pub plain_append : (a b : Bytes) (m n : ℕ) → ArePlainLines a m → ArePlainLines b n → ArePlainLines (a ++ b) (m + n)
plain_append a b m n p q = record {
  each = p.each ++ q.each;
  whole = rw (p.whole, q.whole) (sym (ended-append p.each q.each));
  counts = omega (arith, length-append p.each q.each, p.counts, q.counts);
  plain = rw list_all-append (and_from (list_all is_plain p.each) (list_all is_plain q.each) p.plain q.plain);
}

-- one line more among the first bytes
pub plain_more : (bytes : Bytes) (at length count : ℕ) → ArePlainLines (take at bytes) count → ArePlainLines (take length (drop at bytes)) 1 → ArePlainLines (take (at + length) bytes) (count + 1)
plain_more bytes at length count p q = rw take-add (plain_append (take at bytes) (take length (drop at bytes)) count 1 p q)

-- lines with their line feeds are no fewer bytes than lines
ended_few : (ls : List Bytes) → length ls ≤ length (ended_lines ls)
ended_few [] = omega arith
ended_few (l ∷ ls) = omega (arith, ended_few ls, length-append l (10 ∷ ended_lines ls))

-- lines are no more than their bytes
pub plain_few : (bytes : Bytes) (n : ℕ) → ArePlainLines bytes n → n ≤ length bytes
plain_few bytes n p = omega (arith, ended_few p.each, ap length p.whole, p.counts)

-- a line has some bytes
pub plain_some : (bytes : Bytes) (n : ℕ) → ArePlainLines (take n bytes) 1 → 0 < n
plain_some bytes zero p = absurd (omega (arith, plain_few [] 1 p))
plain_some bytes (suc n) p = omega arith

-- the first bytes have no more lines than bytes
pub plain_within : (bytes : Bytes) (n count : ℕ) → n ≤ length bytes → ArePlainLines (take n bytes) count → count ≤ n
plain_within bytes n count within p = omega (arith, plain_few (take n bytes) count p, length-take-le n bytes within)

-- lines that are no game's end are cut off those that follow
ended_cut : (ended : Bool) (n : ℕ) (text : Bytes) (ls : List Bytes) (y : Bytes) → IsTrue (list_all is_plain ls) → length (ended_lines ls) ≤ line_limit → length text + length (ended_lines ls) ≤ game_limit
    → cut_from ended n text (lines (ended_lines ls ++ y)) ≡ cut_from ended (n + length ls) (text ++ ended_lines ls) (lines y)
ended_cut ended n text [] y plain short fits = ap (λ k. cut_from ended k text (lines y)) (omega arith) ∙ ap (λ t. cut_from ended (n + 0) t (lines y)) (sym (append-nil text))
ended_cut ended n text (l ∷ ls) y plain short fits =
    let all = and_parts (is_plain l) (list_all is_plain ls) plain in
    let one = and_parts (no_feed l) (not (bytes_eq l (codes "done"))) all.0 in
    let size = length-append l (10 ∷ ended_lines ls) in
    let before : length (text ++ l ++ (10 ∷ [])) ≡ length text + (length l + 1) = omega (arith, length-append (text ++ l) (10 ∷ []), length-append text l) in
    ap (λ x. cut_from ended n text (lines x)) (append_assoc l (10 ∷ ended_lines ls) y)
    ∙ line_cut ended n text l (ended_lines ls ++ y) (record { unended = one.0; short = omega (arith, size, short) }) (omega (arith, size, fits))
    ∙ (rw (not-true (bytes_eq l (codes "done")) one.1) refl)
    ∙ ended_cut ended (n + 1) (text ++ l ++ (10 ∷ [])) ls y all.1 (omega (arith, size, short)) (omega (arith, size, before, fits))
    ∙ ap (λ k. cut_from ended k ((text ++ l ++ (10 ∷ [])) ++ ended_lines ls) (lines y)) (omega arith)
    ∙ ap (λ t. cut_from ended (n + length (l ∷ ls)) t (lines y)) (append_assoc (text ++ l) (10 ∷ []) (ended_lines ls) ∙ append_assoc text l (10 ∷ ended_lines ls))

-- plain lines within the limits are cut off what follows
pub plain_cut : (ended : Bool) (n count : ℕ) (text given y : Bytes) → ArePlainLines given count → length given ≤ READ_AHEAD → length text + length given ≤ game_limit
    → cut_from ended n text (lines (given ++ y)) ≡ cut_from ended (n + count) (text ++ given) (lines y)
plain_cut ended n count text given y p short fits =
    rw (← p.counts, p.whole) (ended_cut ended n text p.each y p.plain (omega (arith, ap length p.whole, short)) (omega (arith, ap length p.whole, fits)))
