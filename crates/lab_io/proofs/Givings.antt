-- Bytes that were given in two steps, and bytes that were read ahead without being given.
use Rattle.std.proofs.Common.{◌≡◌, ℕ, ◌+◌, ◌-◌, ◌≤◌, ◌<◌, ◌∷◌, length, slice_index, arith, slice_range, ◌++◌, List, [], take, drop, append_assoc, append-nil, subst, refl}
use Rattle.std.proofs.lemmas.List.{take-append-drop, drop-take, drop-drop, drop_more}
use Rattle.std.proofs.Math.Seq.{take-length}
use Rattle.std.specs.declared.option.Option.{Option}
use Rattle.std.specs.Io.KnownBytes.{Consumes}
use Rattle.lab_io.specs.Reading.{Takes}
use Rattle.lab_io.proofs.Fronts.{Consumes-append}

-- what was given, and what was given after it, was given together
pub Takes-append : {a b c : List ℕ} {l m n : Option (List ℕ)} {first second : List ℕ} → Takes a l b m first → Takes b m c n second → Takes a l c n (first ++ second)
Takes-append {a} {b} {c} {l} {m} {n} {first} {second} p q = record {
  taken = p.taken ++ q.taken;
  consumed = Consumes-append l m n p.taken q.taken p.consumed q.consumed;
  split = rw (← append_assoc, p.split, append_assoc, q.split, append_assoc) refl;
}

-- reading ahead gives nothing more
pub Takes-ahead : {a b c : List ℕ} {l m n : Option (List ℕ)} {given : List ℕ} → Takes a l b m given → Takes b m c n [] → Takes a l c n given
Takes-ahead {given = given} p q = rw append-nil at (Takes-append p q)

-- bytes that were read ahead are given
pub Takes-more : {a b : List ℕ} {l m : Option (List ℕ)} {given : List ℕ} (count : ℕ) → Takes a l b m given → Takes a l (drop count b) m (given ++ take count b)
Takes-more {b = b} count p = record {
  taken = p.taken;
  consumed = p.consumed;
  split = rw (append_assoc, take-append-drop) p.split;
}

-- all bytes that were read ahead are given
pub Takes-rest : {a b : List ℕ} {l m : Option (List ℕ)} {given : List ℕ} (count : ℕ) → Takes a l b m given → count ≡ length b → Takes a l (drop count b) m (given ++ b)
Takes-rest {a} {b} {l} {m} {given} count p all =
    let whole : take count b ≡ b = rw (all, take-length) refl in
    rw whole at (Takes-more count p)

-- a line is given with the line feed that was read ahead
pub Takes-line : {a b : List ℕ} {l m : Option (List ℕ)} {given : List ℕ} (count : ℕ) → Takes a l b m given → count < length b → slice_index b count ≡ 10 → Takes a l (drop (count + 1) b) m ((given ++ take count b) ++ 10 ∷ [])
Takes-line {b = b} count p within feed =
    let parts : take count b ++ (slice_index b count ∷ drop (count + 1) b) ≡ b = rw (← drop_more b count 0 within, take-append-drop) refl in
    record {
      taken = p.taken;
      consumed = p.consumed;
      split = rw (append_assoc, append_assoc, ← feed, parts) p.split;
    }

-- a run that began with no byte read ahead and ended so took what it gave
pub Takes-all : {l m : Option (List ℕ)} {given : List ℕ} → Takes [] l [] m given → Consumes l m given
Takes-all {l} {m} p = let same = rw append-nil at p.split in subst (Consumes l m) same p.consumed

-- a range that begins later has lost its first bytes
pub slice_range-drop : (xs : List ℕ) (from to count : ℕ) → from + count ≤ to → slice_range xs (from + count) to ≡ drop count (slice_range xs from to)
slice_range-drop xs from to count fits =
    let parts : to - from ≡ count + (to - (from + count)) = omega arith in
    rw (parts, drop-take, drop-drop) refl
