-- The rows in order are in some order.
use Rattle.std.proofs.Common.{◌≡◌, ℕ, zero, suc, ◌+◌, ◌<◌, ◌≤◌, true, false, not, eqb, List, [], ◌∷◌, ◌++◌, refl, arith}
use Rattle.std.specs.Prelude.{length, map, nat_lt}
use Rattle.std.specs.List.{list_all, range_with_len}
use Rattle.std.proofs.lemmas.Bool.{eq-eqb, and_parts, and_from, not_from_false, or_from, lt-ltb, ne_eqb, ltb-true}
use Rattle.lab_defs_text.proofs.ListLemmas.{any_in_range}
use Rattle.lab_defs_text.specs.Games.{GameModel, Place, a_world, an_end}
use Rattle.lab_defs_text.specs.Texts.{one_of, numbers_apart, IsOrder, AreOrders, IsText, game_ok, row_order, canonical}

-- a number of a range stands in it
one_of_range : (k i n : ℕ) → i ≤ k → k < i + n → one_of (range_with_len i n) k ≡ true
one_of_range k i n h lt = any_in_range (λ j. eqb j k) k i n h lt (eq-eqb k k refl)

-- the numbers of a range are below its end
below_range : (i n m : ℕ) → i + n ≤ m → list_all (λ k. nat_lt k m) (range_with_len i n) ≡ true
below_range i zero m h = refl
below_range i (suc n) m h = and_from (nat_lt i m) (list_all (λ k. nat_lt k m) (range_with_len (i + 1) n)) (lt-ltb i m (omega arith)) (below_range (i + 1) n m (omega arith))

-- a number is not among those below it
none_below : (ks : List ℕ) (i : ℕ) → list_all (λ k. nat_lt k i) ks ≡ true → one_of ks i ≡ false
none_below [] i h = refl
none_below (k ∷ ks) i h =
    let a = and_parts (nat_lt k i) (list_all (λ j. nat_lt j i) ks) h in
    let lt = ltb-true k i a.0 in
    or_from (eqb k i) (one_of ks i) (ne_eqb k i (λ e. absurd (omega (arith, e)))) (none_below ks i a.1)

-- numbers below i, and i behind them, are below i + 1
more_below : (ks : List ℕ) (i : ℕ) → list_all (λ k. nat_lt k i) ks ≡ true → list_all (λ k. nat_lt k (i + 1)) (ks ++ i ∷ []) ≡ true
more_below [] i h = and_from (nat_lt i (i + 1)) true (lt-ltb i (i + 1) (omega arith)) refl
more_below (k ∷ ks) i h =
    let a = and_parts (nat_lt k i) (list_all (λ j. nat_lt j i) ks) h in
    let lt = ltb-true k i a.0 in
    and_from (nat_lt k (i + 1)) (list_all (λ j. nat_lt j (i + 1)) (ks ++ i ∷ [])) (lt-ltb k (i + 1) (omega arith)) (more_below ks i a.1)

-- no number of a range stands among those before it
apart_range : (before : List ℕ) (i n : ℕ) → list_all (λ k. nat_lt k i) before ≡ true → numbers_apart before (range_with_len i n) ≡ true
apart_range before i zero h = refl
apart_range before i (suc n) h = and_from (not (one_of before i)) (numbers_apart (before ++ i ∷ []) (range_with_len (i + 1) n)) (not_from_false (one_of before i) (none_below before i h)) (apart_range (before ++ i ∷ []) (i + 1) n (more_below before i h))

-- the numbers below n in order are an order of them
pub in_order : (n : ℕ) → IsOrder n (range_with_len 0 n)
in_order n = record { below = below_range 0 n n (omega arith); once = apart_range [] 0 n refl; whole = λ k lt. one_of_range k 0 n (omega arith) (omega arith) }

-- the orders of a game's canonical text are orders
pub canonical_orders : (ps : List Place) → AreOrders ps (map row_order ps)
canonical_orders [] = tt
canonical_orders (a_world w ∷ ps) = (in_order (length w.rows), canonical_orders ps)
canonical_orders (an_end z ∷ ps) = (refl, canonical_orders ps)

-- a canonical text is a text
pub canonical_is_text : (g : GameModel) → game_ok g ≡ true → IsText (canonical g) g
canonical_is_text g e = (e, map row_order g.places, canonical_orders g.places, refl)
