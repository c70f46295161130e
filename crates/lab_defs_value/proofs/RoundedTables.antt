-- Rounded tables: they are tables, and those of zeros are the uniform table.
use Rattle.std.proofs.Common.{◌≡◌, ℕ, zero, suc, ◌+◌, ◌-◌, ◌<◌, ◌≤◌, pos, List, [], ◌∷◌, ◌++◌, take, drop, replicate, length, get_or, Bool, true, false, cond, refl, sym, ap, ◌∙◌, subst, arith, zero-add}
use Rattle.std.specs.Prelude.{ℤ, nat_le, slice_index}
use Rattle.std.specs.List.{AllByRecursion, range_with_len}
use Rattle.std.proofs.lemmas.Bool.{leb-true}
use Rattle.std.proofs.lemmas.List.{length-append, length-take-le, length-drop, get_or_append_left, get_or-append-add, take-replicate, drop-replicate}
use Rattle.std.proofs.lemmas.List.Elements.{All-from_recursion}
use Rattle.lab_math.specs.Sums.{sum_over}
use Rattle.lab_math.proofs.BelowLemmas.{sum_below_cong}
use Rattle.lab_math.proofs.NaturalSums.{sum_over-places}
use Rattle.lab_defs_value.specs.Rounding.{rounded}
use Rattle.lab_defs_value.specs.Tables.{weights_of, first_weight, uniform_table}
use Rattle.lab_defs_value.specs.Replies.{SumsToGrid}
use Rattle.lab_defs_value.specs.Matching.{rounded_table, zeros}
use Rattle.lab_defs_value.specs.MatchingLaws.{IsWhole, RoundedTableLaw, ZeroSharesLaw}
use Rattle.lab_defs_value.proofs.UniformLemmas.{rounded_length}
use Rattle.lab_defs_value.proofs.RoundingSums.{rounded_sum, rounded_within}
use Rattle.lab_defs_value.proofs.Pools.{range_sum}

-- all weights of some sets
abbrev pub all_weights : List ℕ → ℕ
all_weights ns = first_weight ns (length ns)

-- two lists of which all elements are so
pub all_both_parts : {X : Type 0} (P : X → Type 0) (xs ys : List X) → AllByRecursion P xs → AllByRecursion P ys → AllByRecursion P (xs ++ ys)
all_both_parts P [] ys p q = q
all_both_parts P (x ∷ xs) ys p q = (p.0, all_both_parts P xs ys p.1 q)

-- the shares of the first set, and those of the rest
first_long : (n : ℕ) (ns : List ℕ) (shares : List ℤ) → length shares ≡ all_weights (n ∷ ns) → length (take (weights_of n) shares) ≡ weights_of n
first_long n ns shares e = length-take-le (weights_of n) shares (omega (arith, e))

rest_long : (n : ℕ) (ns : List ℕ) (shares : List ℤ) → length shares ≡ all_weights (n ∷ ns) → length (drop (weights_of n) shares) ≡ all_weights ns
rest_long n ns shares e = length-drop (weights_of n) shares ∙ omega (arith, e)

-- the weights of the first set are as many as it has
piece_long : (grid n : ℕ) (ns : List ℕ) (shares : List ℤ) → length shares ≡ all_weights (n ∷ ns) → length (rounded grid (take (weights_of n) shares)) ≡ weights_of n
piece_long grid n ns shares e = rounded_length grid (take (weights_of n) shares) ∙ first_long n ns shares e

-- a table has a weight for each share
table_long : (grid : ℕ) (ns : List ℕ) (shares : List ℤ) → length shares ≡ all_weights ns → length (rounded_table grid ns shares) ≡ all_weights ns
table_long grid [] shares e = refl
table_long grid (n ∷ ns) shares e =
    let rest = table_long grid ns (drop (weights_of n) shares) (rest_long n ns shares e) in
    let piece = piece_long grid n ns shares e in
    length-append (rounded grid (take (weights_of n) shares)) (rounded_table grid ns (drop (weights_of n) shares)) ∙ omega (arith, rest, piece)

-- no weight is above the grid
table_within : (grid : ℕ) (ns : List ℕ) (shares : List ℤ) → AllByRecursion (λ w. w ≤ grid) (rounded_table grid ns shares)
table_within grid [] shares = tt
table_within grid (n ∷ ns) shares =
    all_both_parts (λ w. w ≤ grid) (rounded grid (take (weights_of n) shares)) (rounded_table grid ns (drop (weights_of n) shares))
    (rounded_within grid (take (weights_of n) shares)) (table_within grid ns (drop (weights_of n) shares))

-- the weights of a deciding set sum to the grid
table_sums : (grid : ℕ) (ns : List ℕ) (shares : List ℤ) → length shares ≡ all_weights ns → SumsToGrid grid ns (rounded_table grid ns shares)
table_sums grid [] shares e set l d = absurd (omega (arith, l))
table_sums grid (n ∷ ns) shares e zero l d =
    let piece = rounded grid (take (weights_of n) shares) in
    let rest = rounded_table grid ns (drop (weights_of n) shares) in
    let some : weights_of n ≡ n = ap (λ b. cond b n 0) d in
    let long : length piece ≡ n = piece_long grid n ns shares e ∙ some in
    let two : 2 ≤ n = leb-true 2 n d in
    sum_below_cong n (λ a. slice_index (piece ++ rest) (0 + a)) (λ a. get_or piece a 0)
    (λ a less. ap (λ m. get_or (piece ++ rest) m 0) (zero-add a) ∙ get_or_append_left piece rest 0 a (subst (λ m. a < m) (sym long) less))
    ∙ sym (range_sum n (λ a. get_or piece a 0))
    ∙ ap (λ m. sum_over (λ a. get_or piece a 0) (range_with_len 0 m)) (sym long)
    ∙ sum_over-places (λ w. w) 0 piece
    ∙ rounded_sum grid (take (weights_of n) shares) (omega (arith, first_long n ns shares e, some, two))
table_sums grid (n ∷ ns) shares e (suc J) l d =
    let piece = rounded grid (take (weights_of n) shares) in
    let rest = rounded_table grid ns (drop (weights_of n) shares) in
    let long = piece_long grid n ns shares e in
    let m = slice_index ns J in
    let place : (a : ℕ) → first_weight (n ∷ ns) (suc J) + a ≡ length piece + (first_weight ns J + a) = λ a. omega (arith, long) in
    sum_below_cong m (λ a. slice_index (piece ++ rest) (first_weight (n ∷ ns) (suc J) + a)) (λ a. slice_index rest (first_weight ns J + a))
    (λ a less. ap (λ k. get_or (piece ++ rest) k 0) (place a) ∙ get_or-append-add piece rest (first_weight ns J + a) 0)
    ∙ table_sums grid ns (drop (weights_of n) shares) (rest_long n ns shares e) J (omega (arith, l)) d

-- rounded shares are a table
pub rounded_whole : (grid : ℕ) (ns : List ℕ) (shares : List ℤ) → length shares ≡ all_weights ns → IsWhole grid ns (rounded_table grid ns shares)
rounded_whole grid ns shares e =
    (table_long grid ns shares e, All-from_recursion (λ w. w ≤ grid) (rounded_table grid ns shares) (table_within grid ns shares), table_sums grid ns shares e)

-- the law of rounded tables
pub rounded_table_law : RoundedTableLaw
rounded_table_law grid ns shares e =
    (rounded_whole grid ns shares e, λ some. (some, table_sums grid ns shares e))

-- ---- zeros

-- no share is rounded to no weight
none_rounded : (grid n : ℕ) (b : Bool) → rounded grid (replicate (cond b n 0) (pos 0)) ≡ cond b (rounded grid (replicate n (pos 0))) []
none_rounded grid n true = refl
none_rounded grid n false = refl

-- the law of zeros
pub zero_shares_law : ZeroSharesLaw
zero_shares_law grid [] = refl
zero_shares_law grid (n ∷ ns) =
    let m = weights_of n in
    let all = zeros (n ∷ ns) in
    let less : (m + all_weights ns) - m ≡ all_weights ns = omega arith in
    ap (λ p. rounded grid p ++ rounded_table grid ns (drop m all)) (take-replicate m (m + all_weights ns) (pos 0) (omega arith))
    ∙ ap (λ q. rounded grid (replicate m (pos 0)) ++ rounded_table grid ns q) (drop-replicate m (m + all_weights ns) (pos 0) ∙ ap (λ k. replicate k (pos 0)) less)
    ∙ ap (λ t. rounded grid (replicate m (pos 0)) ++ t) (zero_shares_law grid ns)
    ∙ ap (λ p. p ++ uniform_table grid ns) (none_rounded grid n (nat_le 2 n))
