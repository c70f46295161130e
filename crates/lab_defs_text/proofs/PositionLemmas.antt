-- Names by their numbers, and numbers by their names.
use Rattle.std.proofs.Common.{◌≡◌, ℕ, zero, suc, ◌+◌, ◌<◌, true, false, not, List, [], ◌∷◌, ◌++◌, length, Some, refl, ◌∙◌, arith}
use Rattle.std.specs.Prelude.{position}
use Rattle.std.specs.List.{position_from}
use Rattle.std.specs.Str.{bytes_eq}
use Rattle.std.proofs.lemmas.Bool.{and_parts, not-true, or_parts}
use Rattle.std.proofs.lemmas.Iterator.Adapters.{position_from-zero}
use Rattle.lab_defs_text.specs.Words.{Bytes, stands_in, apart_after}
use Rattle.lab_defs_text.specs.Texts.{name_of}
use Rattle.lab_defs_text.proofs.SplitLemmas.{bytes_eq_refl}

-- what does not stand among names and one more is none of them
pub stands_push : (x : Bytes) (before : List Bytes) (n : Bytes) → stands_in x (before ++ n ∷ []) ≡ false → (stands_in x before ≡ false) × (bytes_eq x n ≡ false)
stands_push x [] n e = (refl, (or_parts (bytes_eq x n) false e).0)
stands_push x (b ∷ bs) n e =
    let a = or_parts (bytes_eq x b) (stands_in x (bs ++ n ∷ [])) e in
    let r = stands_push x bs n a.1 in
    (rw (a.0, r.0) refl, r.1)

-- none of the names that stand apart is among those before them
pub apart_member : (before ns : List Bytes) (k : ℕ) → apart_after before ns ≡ true → k < length ns → stands_in (name_of ns k) before ≡ false
apart_member before [] k e h = absurd (omega arith)
apart_member before (n ∷ ns) zero e h = not-true (stands_in n before) (and_parts (not (stands_in n before)) (apart_after (before ++ n ∷ []) ns) e).0
apart_member before (n ∷ ns) (suc k) e h =
    let a = and_parts (not (stands_in n before)) (apart_after (before ++ n ∷ []) ns) e in
    (stands_push (name_of ns k) before n (apart_member (before ++ n ∷ []) ns k a.1 (omega arith))).0

-- the name of number k is found at k, where counting starts at i at i + k
pub position_back : (before ns : List Bytes) (i j k : ℕ) → apart_after before ns ≡ true → k < length ns → j ≡ i + k → position_from (bytes_eq (name_of ns k)) i ns ≡ Some j
position_back before [] i j k e h s = absurd (omega arith)
position_back before (n ∷ ns) i j zero e h s = let t : i ≡ j = omega (arith, s) in rw (bytes_eq_refl n, t) refl
position_back before (n ∷ ns) i j (suc k) e h s =
    let a = and_parts (not (stands_in n before)) (apart_after (before ++ n ∷ []) ns) e in
    let no_eq = (stands_push (name_of ns k) before n (apart_member (before ++ n ∷ []) ns k a.1 (omega arith))).1 in
    rw no_eq (position_back (before ++ n ∷ []) ns (i + 1) j k a.1 (omega arith) (omega (arith, s)))

-- among names that stand apart the name of number k has the place k
pub name_position : (ns : List Bytes) (k : ℕ) → apart_after [] ns ≡ true → k < length ns → position (bytes_eq (name_of ns k)) ns ≡ Some k
name_position ns k e h = position_from-zero (bytes_eq (name_of ns k)) ns ∙ position_back [] ns 0 k k e h (omega arith)
