-- Bytes with no line feed, and the byte where a line ends.
use Rattle.std.proofs.Common.{◌≡◌, ◌≢◌, ℕ, zero, suc, Option, Some, None, inl, inr, sym, ◌+◌, ◌≤◌, ◌<◌, ◌∙◌, slice_index, ◌++◌, Bool, List, [], ◌∷◌, ◌==◌, not, true, false, cond, IsTrue, length, take, drop, append_assoc, length-append, refl, arith}
use Rattle.std.proofs.Math.Numerals.{one-add}
use Rattle.std.proofs.Math.Seq.{take-length}
use Rattle.std.proofs.lemmas.Bool.{and_from, and_parts, cases_Bool}
use Rattle.std.proofs.lemmas.List.{take-append-le, take-append-drop, length-take-le}
use Rattle.std.proofs.lemmas.List.Folds.{list_all-append, length-prefix_len}
use Rattle.std.proofs.lemmas.List.Sums.{prefix_len-le-length, prefix_len_stops}
use Rattle.std.proofs.lemmas.Bool.Decides.{nat_tests}
use Rattle.std.specs.List.{list_all, prefix_len, take_while}
use Rattle.std.specs.Option.{unwrap_or}
use Rattle.memchr.specs.Find.{IsFirstByte, is_byte}
use Rattle.lab_io.specs.Reading.{no_feed, IsLine}
use Rattle.lab_io.specs.declared.line_reader.TheConstants.{LINE_LIMIT}

-- each element of the prefix that passes does
pub list_all-prefix : {X : Type 0} (p : X → Bool) (xs : List X) → list_all p (take (prefix_len p xs) xs) ≡ true
list_all-prefix p [] = refl
list_all-prefix p (x ∷ xs) =
    let at : (b : Bool) → p x ≡ b → list_all p (take (cond b (1 + prefix_len p xs) 0) (x ∷ xs)) ≡ true =
    λ b. elim b as (λ b. p x ≡ b → list_all p (take (cond b (1 + prefix_len p xs) 0) (x ∷ xs)) ≡ true) [
      | true ↦ λ passes. rw one-add (and_from (p x) (list_all p (take (prefix_len p xs) xs)) passes (list_all-prefix p xs))
      | false ↦ λ _. refl
    ] in
    at (p x) refl

-- so many bytes stand before the first line feed
pub record IsBefore (bytes : List ℕ) (n : ℕ) : Type 0 where
  pub within : n ≤ length bytes
  pub unended : IsTrue (no_feed (take n bytes))
  pub feed : n < length bytes → slice_index bytes n ≡ 10

-- those that are taken while there is no line feed
pub IsBefore-from : (bytes : List ℕ) (n : ℕ) → n ≡ length (take_while (λ (b : ℕ). not (b == 10)) bytes) → IsBefore bytes n
IsBefore-from bytes n first =
    let same : n ≡ prefix_len (λ (b : ℕ). not (b == 10)) bytes = first ∙ length-prefix_len (λ (b : ℕ). not (b == 10)) bytes in
    rw same record {
      within = prefix_len-le-length (λ (b : ℕ). not (b == 10)) bytes;
      unended = list_all-prefix (λ (b : ℕ). not (b == 10)) bytes;
      feed = λ more. let stops = prefix_len_stops (λ (b : ℕ). not (b == 10)) bytes 0 more in grind (arith, nat_tests, stops);
    }

-- a prefix that passes, up to a byte that does not
prefix_is : (bytes : List ℕ) (n : ℕ) → n ≤ length bytes → ((k : ℕ) → k < n → ¬ ((slice_index bytes k == 10) ≡ true)) → (n < length bytes → (slice_index bytes n == 10) ≡ true) → n ≡ prefix_len (λ (b : ℕ). not (b == 10)) bytes
prefix_is [] n le none feed = omega (arith, le)
prefix_is (x ∷ xs) zero le none feed = rw (feed (omega arith)) refl
prefix_is (x ∷ xs) (suc n) le none feed = elim (cases_Bool (x == 10)) [
  | inl t ↦ absurd (none 0 (omega arith) t)
  | inr f ↦ (let rest = prefix_is xs n (omega (arith, le)) (λ k lt. none (suc k) (omega (arith, lt))) (λ lt. feed (omega (arith, lt))) in rw f (omega (arith, rest)))
]

-- where the first line feed stands, or how many bytes there are, so many stand before it
pub before_is : (bytes : List ℕ) (found : Option ℕ) → IsFirstByte (is_byte 10) bytes found → unwrap_or found (length bytes) ≡ length (take_while (λ (b : ℕ). not (b == 10)) bytes)
before_is bytes None h =
    prefix_is bytes (length bytes) (omega arith) (λ k lt. h k (omega arith) lt) (λ lt. absurd (omega (arith, lt))) ∙ sym (length-prefix_len (λ (b : ℕ). not (b == 10)) bytes)
before_is bytes (Some n) h =
    prefix_is bytes n (omega (arith, h.0.high)) (λ k lt. h.0.before k (omega arith) lt) (λ lt. h.1) ∙ sym (length-prefix_len (λ (b : ℕ). not (b == 10)) bytes)

-- a front of bytes with no line feed has none
pub no_feed-take : (n : ℕ) (bytes : List ℕ) → IsTrue (no_feed bytes) → IsTrue (no_feed (take n bytes))
no_feed-take n bytes none = (and_parts (no_feed (take n bytes)) (no_feed (drop n bytes)) (rw (← list_all-append, take-append-drop) none)).0

-- a line that has grown by the bytes before the first line feed has none
pub no_feed-grown : (line ahead : List ℕ) (count : ℕ) → IsTrue (no_feed line) → IsBefore ahead count → IsTrue (no_feed (line ++ take count ahead))
no_feed-grown line ahead count none before = rw list_all-append (and_from (no_feed line) (no_feed (take count ahead)) none before.unended)

-- nor has a front of such a line, whatever follows
pub no_feed-front : (n : ℕ) (line ahead : List ℕ) (count : ℕ) → IsTrue (no_feed line) → IsBefore ahead count → n ≤ length line + count → IsTrue (no_feed (take n (line ++ ahead)))
no_feed-front n line ahead count none before short =
    let within = before.within in
    let whole : line ++ ahead ≡ (line ++ take count ahead) ++ drop count ahead = rw (append_assoc, take-append-drop) refl in
    let front : n ≤ length (line ++ take count ahead) = rw (length-append, length-take-le) short in
    rw (whole, take-append-le) (no_feed-take n (line ++ take count ahead) (no_feed-grown line ahead count none before))

-- within the limit it is a line
pub IsLine-grown : (line ahead : List ℕ) (count : ℕ) → IsLine line → IsBefore ahead count → length line + count ≤ LINE_LIMIT → IsLine (line ++ take count ahead)
IsLine-grown line ahead count whole before fits =
    let within = before.within in
    record {
      unended = no_feed-grown line ahead count whole.unended before;
      short = rw (length-append, length-take-le) fits;
    }

-- bytes with a line feed are some bytes
pub some_feed : (bytes : List ℕ) → IsTrue (not (no_feed bytes)) → bytes ≢ []
some_feed bytes feed none = let with_feed = rw none at feed in cc

-- bytes with a line feed have not all become part of a line
pub feed_left : (line ahead : List ℕ) (count : ℕ) → IsTrue (not (no_feed ahead)) → IsTrue (no_feed (line ++ take count ahead)) → ¬ (count ≡ length ahead)
feed_left line ahead count feed none all =
    let parts = and_parts (no_feed line) (no_feed ahead) (rw (all, take-length, list_all-append) at none) in
    let taken = parts.1 in cc
