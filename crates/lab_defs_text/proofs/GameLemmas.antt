-- What holds of a game that a text may have, and of its lines.
use Rattle.std.proofs.Common.{◌≡◌, ℕ, zero, suc, ◌*◌, ◌/◌, ◌%◌, ◌^◌, ◌<◌, true, List, [], ◌∷◌, ◌++◌, length, refl, subst, arith}
use Rattle.std.specs.Prelude.{◌&&◌, ◌==◌, nat_lt, nat_le, ℤ, pos, neg_ℤ, int_le, ◌≤ℤ◌, slice_index_or}
use Rattle.std.specs.Int.RustNames.{unsigned_abs}
use Rattle.std.specs.List.{list_all}
use Rattle.std.proofs.Math.Nat.{div-lt_iff_lt-mul}
use Rattle.std.proofs.lemmas.Bool.{and_parts, and_from, eqb-true, ltb-true, leb-true}
use Rattle.std.proofs.lemmas.Int.{ints}
use Rattle.std.proofs.lemmas.List.Recursion.{and_at}
use Rattle.lab_defs_text.specs.Words.{Bytes, is_name, apart_after, are_names}
use Rattle.lab_defs_text.specs.Games.{GameModel, Place, a_world, an_end, World, Outcome, Recall, by_acts, by_seen}
use Rattle.lab_defs_text.specs.Lines.{head_line, grid_line, horizon_line, memory_line, token_line, world_line, one_line, two_line, row_line, to_line, end_line, root_line, done_line}
use Rattle.lab_defs_text.specs.Numbers.{numeral, signed_numeral}
use Rattle.lab_defs_text.specs.Texts.{name_of, outcome_lines, row_lines, place_lines, places_lines, token_lines, game_lines, is_within, is_payoff, outcome_ok, row_ok, place_ok, is_world, place_at, game_ok, AreOrders, IsOrderOf}
use Rattle.lab_defs_text.proofs.SplitLemmas.{is_word, are_words, has_words, name_is_word, names_are_words}
use Rattle.lab_defs_text.proofs.ListLemmas.{all_append}
use Rattle.lab_defs_text.proofs.SpellingLemmas.{numeral_is_word, signed_is_word}

-- what the test of a list of names says
pub record NamesFine (ns : List Bytes) : Type 0 where
  pub some : 0 < length ns
  pub names : list_all is_name ns ≡ true
  pub apart : apart_after [] ns ≡ true

-- names that pass the test are such
pub names_fine : (ns : List Bytes) → are_names ns ≡ true → NamesFine ns
names_fine ns e =
    let a = and_parts (nat_lt 0 (length ns)) (list_all is_name ns && apart_after [] ns) e in
    let b = and_parts (list_all is_name ns) (apart_after [] ns) a.1 in
    record { some = ltb-true 0 (length ns) a.0; names = b.0; apart = b.1 }

-- what the test of a game says
pub record GameFine (g : GameModel) : Type 0 where
  pub grid : is_within 1 4096 g.grid ≡ true
  pub horizon : is_within 1 32 g.horizon ≡ true
  pub tokens : are_names g.tokens ≡ true
  pub names : are_names g.names ≡ true
  pub same : length g.places ≡ length g.names
  pub places : list_all (place_ok g) g.places ≡ true
  pub root : is_world (place_at g g.root) ≡ true

-- a game that passes the test is such
pub game_fine : (g : GameModel) → game_ok g ≡ true → GameFine g
game_fine g e =
    let a = and_parts (is_within 1 4096 g.grid) (is_within 1 32 g.horizon && (are_names g.tokens && (are_names g.names && ((length g.places == length g.names) && (list_all (place_ok g) g.places && is_world (place_at g g.root)))))) e in
    let b = and_parts (is_within 1 32 g.horizon) (are_names g.tokens && (are_names g.names && ((length g.places == length g.names) && (list_all (place_ok g) g.places && is_world (place_at g g.root))))) a.1 in
    let c = and_parts (are_names g.tokens) (are_names g.names && ((length g.places == length g.names) && (list_all (place_ok g) g.places && is_world (place_at g g.root)))) b.1 in
    let d = and_parts (are_names g.names) ((length g.places == length g.names) && (list_all (place_ok g) g.places && is_world (place_at g g.root))) c.1 in
    let f = and_parts (length g.places == length g.names) (list_all (place_ok g) g.places && is_world (place_at g g.root)) d.1 in
    let h = and_parts (list_all (place_ok g) g.places) (is_world (place_at g g.root)) f.1 in
    record { grid = a.0; horizon = b.0; tokens = c.0; names = d.0; same = eqb-true (length g.places) (length g.names) f.0; places = h.0; root = h.1 }

-- what the test of a world says
pub record WorldFine (g : GameModel) (w : World) : Type 0 where
  pub one : are_names w.one ≡ true
  pub two : are_names w.two ≡ true
  pub count : length w.rows ≡ length w.one * length w.two
  pub rows : list_all (row_ok g) w.rows ≡ true

-- a world that passes the test is such
pub world_fine : (g : GameModel) (w : World) → place_ok g (a_world w) ≡ true → WorldFine g w
world_fine g w e =
    let a = and_parts (are_names w.one) (are_names w.two && ((length w.rows == length w.one * length w.two) && list_all (row_ok g) w.rows)) e in
    let b = and_parts (are_names w.two) ((length w.rows == length w.one * length w.two) && list_all (row_ok g) w.rows) a.1 in
    let c = and_parts (length w.rows == length w.one * length w.two) (list_all (row_ok g) w.rows) b.1 in
    record { one = a.0; two = b.0; count = eqb-true (length w.rows) (length w.one * length w.two) c.0; rows = c.1 }

-- what the test of an outcome says
pub record OutcomeFine (g : GameModel) (o : Outcome) : Type 0 where
  pub weight : is_within 1 1048576 o.weight ≡ true
  pub next : o.next < length g.names
  pub own1 : o.own1 < length g.tokens
  pub own2 : o.own2 < length g.tokens
  pub public : o.public < length g.tokens

-- an outcome that passes the test is such
pub outcome_fine : (g : GameModel) (o : Outcome) → outcome_ok g o ≡ true → OutcomeFine g o
outcome_fine g o e =
    let a = and_parts (is_within 1 1048576 o.weight) (nat_lt o.next (length g.names) && (nat_lt o.own1 (length g.tokens) && (nat_lt o.own2 (length g.tokens) && nat_lt o.public (length g.tokens)))) e in
    let b = and_parts (nat_lt o.next (length g.names)) (nat_lt o.own1 (length g.tokens) && (nat_lt o.own2 (length g.tokens) && nat_lt o.public (length g.tokens))) a.1 in
    let c = and_parts (nat_lt o.own1 (length g.tokens)) (nat_lt o.own2 (length g.tokens) && nat_lt o.public (length g.tokens)) b.1 in
    let d = and_parts (nat_lt o.own2 (length g.tokens)) (nat_lt o.public (length g.tokens)) c.1 in
    record { weight = a.0; next = ltb-true o.next (length g.names) b.0; own1 = ltb-true o.own1 (length g.tokens) c.0; own2 = ltb-true o.own2 (length g.tokens) d.0; public = ltb-true o.public (length g.tokens) d.1 }

-- a place that is a world is one of the places
pub root_below : (n : ℕ) (ps : List Place) → is_world (slice_index_or ps n (an_end (pos 0))) ≡ true → n < length ps
root_below n [] e = absurd cc
root_below zero (p ∷ ps) e = omega arith
root_below (suc n) (p ∷ ps) e = let h = root_below n ps e in omega arith

-- ---- the words of each line are words

-- the name with a number is a name
pub name_of_is_name : (ns : List Bytes) (k : ℕ) → list_all is_name ns ≡ true → k < length ns → is_name (name_of ns k) ≡ true
name_of_is_name ns k e h = and_at (list_all is_name) is_name refl (λ _ _. refl) ns k [] h e

-- the name with a number is a word
name_word : (ns : List Bytes) (k : ℕ) → are_names ns ≡ true → k < length ns → is_word (name_of ns k) ≡ true
name_word ns k e h = name_is_word (name_of ns k) (name_of_is_name ns k (names_fine ns e).names h)

-- a number within limits is below 10 ^ 40
pub within_small : (lo hi n : ℕ) → is_within lo hi n ≡ true → hi < 10 ^ 40 → n < 10 ^ 40
within_small lo hi n e h = let le = leb-true n hi (and_parts (nat_le lo n) (nat_le n hi) e).1 in omega arith

-- the order of integers by the test
int_le_true : (a b : ℤ) → int_le a b ≡ true → a ≤ℤ b
int_le_true a b e = grind (arith, ints)

-- payoffs have a size below 10 ^ 40
pub payoff_small : (z : ℤ) → is_payoff z ≡ true → unsigned_abs z < 10 ^ 40
payoff_small z e =
    let a = and_parts (int_le (neg_ℤ (pos 1048576)) z) (int_le z (pos 1048576)) e in
    let b = int_le_true (neg_ℤ (pos 1048576)) z a.0 in
    let c = int_le_true z (pos 1048576) a.1 in
    omega (arith, ints)

-- two words are words
two_words : (a b : Bytes) → is_word a ≡ true → is_word b ≡ true → are_words (a ∷ b ∷ []) ≡ true
two_words a b p q = and_from (is_word a) (is_word b && true) p (and_from (is_word b) true q refl)

-- the words of the lines of outcomes
outcome_words : (g : GameModel) (os : List Outcome) → GameFine g → list_all (outcome_ok g) os ≡ true → list_all has_words (outcome_lines g os) ≡ true
outcome_words g [] f e = refl
outcome_words g (o ∷ os) f e =
    let a = and_parts (outcome_ok g o) (list_all (outcome_ok g) os) e in
    let b = outcome_fine g o a.0 in
    and_from (has_words (to_line o.weight (name_of g.names o.next) (name_of g.tokens o.own1) (name_of g.tokens o.own2) (name_of g.tokens o.public))) (list_all has_words (outcome_lines g os))
    (and_from (is_word (numeral o.weight)) (are_words (name_of g.names o.next ∷ name_of g.tokens o.own1 ∷ name_of g.tokens o.own2 ∷ name_of g.tokens o.public ∷ []))
    (numeral_is_word o.weight (within_small 1 1048576 o.weight b.weight (omega arith)))
    (and_from (is_word (name_of g.names o.next)) (are_words (name_of g.tokens o.own1 ∷ name_of g.tokens o.own2 ∷ name_of g.tokens o.public ∷ []))
    (name_word g.names o.next f.names b.next)
    (and_from (is_word (name_of g.tokens o.own1)) (are_words (name_of g.tokens o.own2 ∷ name_of g.tokens o.public ∷ []))
    (name_word g.tokens o.own1 f.tokens b.own1)
    (two_words (name_of g.tokens o.own2) (name_of g.tokens o.public) (name_word g.tokens o.own2 f.tokens b.own2) (name_word g.tokens o.public f.tokens b.public)))))
    (outcome_words g os f a.1)

-- the first action of a row
quotient_below : (k m n : ℕ) → 0 < m → k < n * m → k / m < n
quotient_below k m n some h = (div-lt_iff_lt-mul {k = m} {x = k} {y = n} some).1 h

-- the second action of a row
remainder_below : (k m : ℕ) → 0 < m → k % m < m
remainder_below k m h = omega arith

-- the words of the lines of rows
row_words : (g : GameModel) (w : World) (ks : List ℕ) → GameFine g → WorldFine g w → list_all (λ k. nat_lt k (length w.rows)) ks ≡ true → list_all has_words (row_lines g w ks) ≡ true
row_words g w [] f v e = refl
row_words g w (k ∷ ks) f v e =
    let a = and_parts (nat_lt k (length w.rows)) (list_all (λ i. nat_lt i (length w.rows)) ks) e in
    let lt = ltb-true k (length w.rows) a.0 in
    let two = (names_fine w.two v.two).some in
    let below : k < length w.one * length w.two = subst (λ (n : ℕ). k < n) v.count lt in
    let row : row_ok g (slice_index_or w.rows k []) ≡ true = and_at (list_all (row_ok g)) (row_ok g) refl (λ _ _. refl) w.rows k [] lt v.rows in
    let outcomes = (and_parts (nat_lt 0 (length (slice_index_or w.rows k []))) (list_all (outcome_ok g) (slice_index_or w.rows k [])) row).1 in
    all_append has_words (row_line (name_of w.one (k / length w.two)) (name_of w.two (k % length w.two)) ∷ outcome_lines g (slice_index_or w.rows k [])) (row_lines g w ks)
    (and_from (has_words (row_line (name_of w.one (k / length w.two)) (name_of w.two (k % length w.two)))) (list_all has_words (outcome_lines g (slice_index_or w.rows k [])))
    (two_words (name_of w.one (k / length w.two)) (name_of w.two (k % length w.two))
    (name_word w.one (k / length w.two) v.one (quotient_below k (length w.two) (length w.one) two below))
    (name_word w.two (k % length w.two) v.two (remainder_below k (length w.two) two)))
    (outcome_words g (slice_index_or w.rows k []) f outcomes))
    (row_words g w ks f v a.1)

-- the words of the lines of a place
place_words : (g : GameModel) (n : Bytes) (p : Place) (ks : List ℕ) → GameFine g → is_name n ≡ true → place_ok g p ≡ true → IsOrderOf p ks → list_all has_words (place_lines g n p ks) ≡ true
place_words g n (a_world w) ks f i e o =
    let v = world_fine g w e in
    and_from (has_words (world_line n)) (list_all has_words (one_line w.one ∷ two_line w.two ∷ row_lines g w ks)) (and_from (is_word n) true (name_is_word n i) refl)
    (and_from (has_words (one_line w.one)) (list_all has_words (two_line w.two ∷ row_lines g w ks)) (names_are_words w.one (names_fine w.one v.one).names)
    (and_from (has_words (two_line w.two)) (list_all has_words (row_lines g w ks)) (names_are_words w.two (names_fine w.two v.two).names) (row_words g w ks f v o.below)))
place_words g n (an_end z) ks f i e o =
    and_from (has_words (end_line n z)) true (two_words n (signed_numeral z) (name_is_word n i) (signed_is_word z (payoff_small z e))) refl

-- the words of the lines of places
places_words : (g : GameModel) (ns : List Bytes) (ps : List Place) (kss : List (List ℕ)) → GameFine g → list_all is_name ns ≡ true → list_all (place_ok g) ps ≡ true → AreOrders ps kss → list_all has_words (places_lines g ns ps kss) ≡ true
places_words g [] ps kss f i e o = refl
places_words g (n ∷ ns) [] kss f i e o = refl
places_words g (n ∷ ns) (p ∷ ps) [] f i e o = refl
places_words g (n ∷ ns) (p ∷ ps) (ks ∷ kss) f i e o =
    let a = and_parts (is_name n) (list_all is_name ns) i in
    let b = and_parts (place_ok g p) (list_all (place_ok g) ps) e in
    all_append has_words (place_lines g n p ks) (places_lines g ns ps kss) (place_words g n p ks f a.0 b.0 o.0) (places_words g ns ps kss f a.1 b.1 o.1)

-- the words of the lines of tokens
tokens_words : (ts : List Bytes) → list_all is_name ts ≡ true → list_all has_words (token_lines ts) ≡ true
tokens_words [] e = refl
tokens_words (t ∷ ts) e =
    let a = and_parts (is_name t) (list_all is_name ts) e in
    and_from (has_words (token_line t)) (list_all has_words (token_lines ts)) (and_from (is_word t) true (name_is_word t a.0) refl) (tokens_words ts a.1)

-- the words of the line of the memory
memory_words : (r : Recall) → has_words (memory_line r) ≡ true
memory_words by_acts = refl
memory_words by_seen = refl

-- the words of each line of a game are words
pub game_words : (g : GameModel) (orders : List (List ℕ)) → game_ok g ≡ true → AreOrders g.places orders → list_all has_words (game_lines g orders) ≡ true
game_words g orders e o =
    let f = game_fine g e in
    let rooted = root_below g.root g.places f.root in
    all_append has_words (head_line ∷ grid_line g.grid ∷ horizon_line g.horizon ∷ memory_line g.recall ∷ token_lines g.tokens) (places_lines g g.names g.places orders ++ (root_line (name_of g.names g.root) ∷ done_line ∷ []))
    (and_from (has_words head_line) (list_all has_words (grid_line g.grid ∷ horizon_line g.horizon ∷ memory_line g.recall ∷ token_lines g.tokens)) refl
    (and_from (has_words (grid_line g.grid)) (list_all has_words (horizon_line g.horizon ∷ memory_line g.recall ∷ token_lines g.tokens)) (and_from (is_word (numeral g.grid)) true (numeral_is_word g.grid (within_small 1 4096 g.grid f.grid (omega arith))) refl)
    (and_from (has_words (horizon_line g.horizon)) (list_all has_words (memory_line g.recall ∷ token_lines g.tokens)) (and_from (is_word (numeral g.horizon)) true (numeral_is_word g.horizon (within_small 1 32 g.horizon f.horizon (omega arith))) refl)
    (and_from (has_words (memory_line g.recall)) (list_all has_words (token_lines g.tokens)) (memory_words g.recall) (tokens_words g.tokens (names_fine g.tokens f.tokens).names)))))
    (all_append has_words (places_lines g g.names g.places orders) (root_line (name_of g.names g.root) ∷ done_line ∷ [])
    (places_words g g.names g.places orders f (names_fine g.names f.names).names f.places o)
    (and_from (has_words (root_line (name_of g.names g.root))) (list_all has_words (done_line ∷ [])) (and_from (is_word (name_of g.names g.root)) true (name_word g.names g.root f.names (omega (arith, f.same))) refl) refl))
