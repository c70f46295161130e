-- Reading line by line, as the loop does.
use Rattle.std.proofs.Common.{◌≡◌, ℕ, ◌+◌, ◌*◌, ◌<◌, ◌≤◌, Bool, true, false, cond, eqb, List, [], ◌∷◌, length, Option, Some, None, Result, Ok, Err, refl, sym, ap, ◌∙◌, arith}
use Rattle.std.specs.Prelude.{◌==◌}
use Rattle.std.specs.Option.{option_map}
use Rattle.std.specs.List.{onto_first}
use Rattle.std.proofs.lemmas.Bool.{cond-true, cond-false, eqb-true}
use Rattle.lab_math.proofs.ListParts.{split_nonempty}
use Rattle.lab_defs_text.specs.Agreement.{FaultAgrees}
use Rattle.lab_defs_text.specs.Faults.{LineFault, TextFault, in_line, extra_line, no_newline}
use Rattle.lab_defs_text.specs.Steps.{◌>>=◌}
use Rattle.lab_defs_text.specs.Words.{Bytes, lines}
use Rattle.lab_defs_text.specs.Lines.{Line}
use Rattle.lab_defs_text.specs.Reading.{Kind, line_at, kind_of}
use Rattle.lab_defs_text.specs.Drafts.{Draft, with_line, on_line, read_from, parts_of, at_done, is_done}
use Rattle.lab_defs_text.proofs.StepLemmas.{bind_ok, ok_is}
use Rattle.lab_text.proofs.TakeSteps.{kinded}

-- reading of the rest gives the reading of all; each line so far has a byte and its line feed
pub record Keeps (n : ℕ) (k : Kind) (d : Draft) (rest bytes : Bytes) : Type 0 where
  pub same : read_from n k d (lines rest) ≡ parts_of bytes
  pub count : 2 * n + length rest ≤ length bytes + 2
  pub first : 1 ≤ n

-- the parts behind a line, where some pieces are left
abbrev going_on : ℕ → List Bytes → Kind → Draft → Result Draft TextFault
going_on n ps k e = cond (is_done k) (at_done n e ps) (read_from (n + 1) k e ps)

-- what a line and the pieces behind it give
read_line : (n : ℕ) (k : Kind) (d : Draft) (l : Bytes) (ps : List Bytes) → (ps ≡ [] → ⊥)
    → read_from n k d (l ∷ ps) ≡ (on_line n (line_at k l) >>= λ x. on_line n (with_line n k d x) >>= λ e. going_on n ps (kind_of x) e)
read_line n k d l [] some = absurd (some refl)
read_line n k d l (m ∷ ms) some = refl

-- a line that was taken
read_step : (n : ℕ) (k j : Kind) (d e : Draft) (l : Bytes) (ps : List Bytes) → (ps ≡ [] → ⊥) → kinded n k d (line_at k l) ≡ Ok (j, e) → read_from n k d (l ∷ ps) ≡ going_on n ps j e
read_step n k j d e l ps some q =
    let a = bind_ok {B = Kind × Draft} (line_at k l) (λ x. ◌>>=◌ {B = Kind × Draft} (with_line n k d x) (λ y. Ok (kind_of x, y))) (j, e) q in
    let b = bind_ok {B = Kind × Draft} (with_line n k d a.0) (λ y. Ok (kind_of a.0, y)) (j, e) a.2 in
    let same = ok_is {E = LineFault} {A = Kind × Draft} (kind_of a.0, b.0) (j, e) b.2 in
    read_line n k d l ps some
    ∙ ap (λ r. on_line n r >>= λ x. on_line n (with_line n k d x) >>= λ y. going_on n ps (kind_of x) y) a.1
    ∙ ap (λ r. on_line n r >>= λ y. going_on n ps (kind_of a.0) y) b.1
    ∙ ap (λ (z : Kind × Draft). going_on n ps z.0 z.1) same

-- a line that was not added
fault_second : (n : ℕ) (r : Result Draft LineFault) (k : Kind) (h : Draft → Result Draft TextFault) (f : LineFault) → ◌>>=◌ {B = Kind × Draft} r (λ y. Ok (k, y)) ≡ Err f → (on_line n r >>= h) ≡ Err (in_line n f)
fault_second n (Err e) k h f q = cc
fault_second n (Ok y) k h f q = absurd cc

-- a line that was not read, or not added
fault_first : (n : ℕ) (k : Kind) (d : Draft) (r : Result Line LineFault) (h : Line → Draft → Result Draft TextFault) (f : LineFault) → kinded n k d r ≡ Err f
    → (on_line n r >>= λ x. on_line n (with_line n k d x) >>= λ y. h x y) ≡ Err (in_line n f)
fault_first n k d (Err e) h f q = cc
fault_first n k d (Ok x) h f q = fault_second n (with_line n k d x) (kind_of x) (h x) f q

-- a line that is taken has a byte
some_byte : (n : ℕ) (k j : Kind) (d e : Draft) (l : Bytes) → kinded n k d (line_at k l) ≡ Ok (j, e) → 0 < length l
some_byte n k j d e [] q = absurd cc
some_byte n k j d e (c ∷ cs) q = omega arith

-- what the first line of the rest gives
rest_is : (n : ℕ) (k : Kind) (d : Draft) (l rest after bytes : Bytes) → Keeps n k d rest bytes → lines rest ≡ l ∷ lines after → parts_of bytes ≡ read_from n k d (l ∷ lines after)
rest_is n k d l rest after bytes i s = sym i.same ∙ ap (read_from n k d) s

-- ---- the ways on from a line

-- a line is taken, and it is not the last one
pub keeps_on : (n : ℕ) (k j : Kind) (d e : Draft) (l rest after bytes : Bytes) → Keeps n k d rest bytes → lines rest ≡ l ∷ lines after → length l + 1 + length after ≡ length rest
    → kinded n k d (line_at k l) ≡ Ok (j, e) → is_done j ≡ false → Keeps (n + 1) j e after bytes
keeps_on n k j d e l rest after bytes i s c q f = record {
  same = sym (cond-false (is_done j) (at_done n e (lines after)) (read_from (n + 1) j e (lines after)) f)
      ∙ sym (read_step n k j d e l (lines after) (split_nonempty (λ b. b == 10) after) q) ∙ sym (rest_is n k d l rest after bytes i s);
  count = let some = some_byte n k j d e l q in let few = i.count in omega arith;
  first = omega arith;
}

-- the last line is taken
pub is_all : (n : ℕ) (k j : Kind) (d e : Draft) (l rest after bytes : Bytes) → Keeps n k d rest bytes → lines rest ≡ l ∷ lines after → kinded n k d (line_at k l) ≡ Ok (j, e) → is_done j ≡ true
    → parts_of bytes ≡ at_done n e (lines after)
is_all n k j d e l rest after bytes i s q f =
    rest_is n k d l rest after bytes i s ∙ read_step n k j d e l (lines after) (split_nonempty (λ b. b == 10) after) q
    ∙ cond-true (is_done j) (at_done n e (lines after)) (read_from (n + 1) j e (lines after)) f

-- a line is refused
pub fails_all : (n : ℕ) (k : Kind) (d : Draft) (l rest after bytes : Bytes) (fault : Option LineFault) → Keeps n k d rest bytes → lines rest ≡ l ∷ lines after
    → FaultAgrees fault (kinded n k d (line_at k l)) → FaultAgrees (option_map (in_line n) fault) (parts_of bytes)
fails_all n k d l rest after bytes None i s p = tt
fails_all n k d l rest after bytes (Some f) i s p =
    rest_is n k d l rest after bytes i s ∙ read_line n k d l (lines after) (split_nonempty (λ b. b == 10) after)
    ∙ fault_first n k d (line_at k l) (λ x y. going_on n (lines after) (kind_of x) y) f p

-- ---- what stands behind the last line

-- a byte more
first_more : (n : ℕ) (d : Draft) (c : ℕ) (ps : List Bytes) (feed : Bool) → (ps ≡ [] → ⊥) → at_done n d (cond feed ([] ∷ ps) (onto_first c ps)) ≡ Err (extra_line (n + 1))
first_more n d c [] feed some = absurd (some refl)
first_more n d c (p ∷ ps) true some = refl
first_more n d c (p ∷ ps) false some = refl

-- a byte behind the last line
pub more_follows : (n : ℕ) (d : Draft) (after : Bytes) (none : Bool) → none ≡ eqb (length after) 0 → none ≡ false → at_done n d (lines after) ≡ Err (extra_line (n + 1))
more_follows n d [] none e f = absurd cc
more_follows n d (c ∷ cs) none e f = first_more n d c (lines cs) (eqb c 10) (split_nonempty (λ b. b == 10) cs)

-- no byte behind the last line
pub none_follows : (n : ℕ) (d : Draft) (after : Bytes) (none : Bool) → none ≡ eqb (length after) 0 → none ≡ true → at_done n d (lines after) ≡ Ok d
none_follows n d [] none e f = refl
none_follows n d (c ∷ cs) none e f = let zero = eqb-true (length (c ∷ cs)) 0 (sym e ∙ f) in absurd (omega arith)

-- a byte behind the last line feed
pub no_feed_follows : (n : ℕ) (k : Kind) (d : Draft) (rest bytes : Bytes) (none : Bool) → Keeps n k d rest bytes → lines rest ≡ rest ∷ [] → none ≡ eqb (length rest) 0 → none ≡ false → parts_of bytes ≡ Err (no_newline n)
no_feed_follows n k d [] bytes none i s e f = absurd cc
no_feed_follows n k d (c ∷ cs) bytes none i s e f = sym i.same ∙ ap (read_from n k d) s
