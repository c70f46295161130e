-- The numbers of the sets on a path, at a node and inside a subgame.
use Rattle.std.proofs.Common.{◌≡◌, ℕ, ◌+◌, ◌-◌, ◌<◌, ◌≤◌, List, [], ◌∷◌, Bool, true, false, ◌&&◌, ◌||◌, map, filter, length, get_or, refl, sym, ap, ◌∙◌, subst, arith, ◌↔◌}
use Rattle.std.specs.Prelude.{◌==◌}
use Rattle.std.specs.List.{range_with_len}
use Rattle.std.specs.Ordering.{is_lt, is_eq, nat_cmp}
use Rattle.std.proofs.lemmas.Bool.{and_parts, and_from, eqb-true, eq-eqb}
use Rattle.std.proofs.lemmas.Cmp.{nat_cmp_total, tied_itself}
use Rattle.std.proofs.lemmas.List.Elements.{filter_agree}
use Rattle.lab_math.proofs.Members.{in_filter, in_from_filter, in_range, in_from_range}
use Rattle.lab_defs_text.specs.Games.{GameModel}
use Rattle.lab_defs_game.specs.Keys.{count, list_cmp}
use Rattle.lab_defs_game.specs.Sets.{Item, publics, set_cmp, sets, set_number}
use Rattle.lab_defs_game.specs.Nodes.{begins, node_sets, span_from, span_to, public_of, path_sets, root_sets, subgame_sets}
use Rattle.lab_defs_game.specs.Laws.{NumberLaw, ConsecutiveLaw}
use Rattle.lab_defs_game.proofs.KeyLemmas.{ascending_same, filter_ascending}
use Rattle.lab_defs_game.proofs.NumberLemmas.{count_or, count_le_length, length-filter}
use Rattle.lab_defs_game.proofs.Orders.{list_total, list_exact, set_total}
use Rattle.lab_defs_game.proofs.Places.{numbers_are}
use Rattle.lab_defs_game.proofs.GameLemmas.{sets_ascending}
use Rattle.lab_defs_game.proofs.HistoryOrder.{range_ascending}
use Rattle.lab_defs_game.proofs.Spans.{span_is, node_sets_are, eq_is, apart, lt_no_eq}

-- ---- by public lists

-- tests that pass together are one
pub tests_same : (a b : Bool) → (a ≡ true → b ≡ true) → (b ≡ true → a ≡ true) → a ≡ b
tests_same true b to from = sym (to refl)
tests_same false true to from = from refl
tests_same false false to from = refl

-- a list begins itself
pub begins_itself : (xs : List ℕ) → begins xs xs ≡ true
begins_itself [] = refl
begins_itself (x ∷ xs) = and_from (x == x) (begins xs xs) (eq-eqb x x refl) (begins_itself xs)

-- lists that begin each other are one
pub begun_both : (xs ys : List ℕ) → begins xs ys ≡ true → begins ys xs ≡ true → xs ≡ ys
begun_both [] [] a b = refl
begun_both [] (y ∷ ys) a b = absurd cc
begun_both (x ∷ xs) [] a b = absurd cc
begun_both (x ∷ xs) (y ∷ ys) a b =
    let p = and_parts (x == y) (begins xs ys) a in
    let q = and_parts (y == x) (begins ys xs) b in
    ap (λ z. z ∷ xs) (eqb-true x y p.0) ∙ ap (λ zs. y ∷ zs) (begun_both xs ys p.1 q.1)

-- two lists are one exactly where each begins the other
pub same_is_begun : (xs ys : List ℕ) → is_eq (list_cmp xs ys) ≡ (begins xs ys && begins ys xs)
same_is_begun xs ys =
    tests_same (is_eq (list_cmp xs ys)) (begins xs ys && begins ys xs)
    (λ e. subst (λ zs. (begins xs zs && begins zs xs) ≡ true) (list_exact xs ys (eq_is (list_cmp xs ys) e)) (and_from (begins xs xs) (begins xs xs) (begins_itself xs) (begins_itself xs)))
    (λ e. let p = and_parts (begins xs ys) (begins ys xs) e in subst (λ zs. is_eq (list_cmp xs zs) ≡ true) (begun_both xs ys p.0 p.1) (ap is_eq (tied_itself list_total xs)))

-- the numbers of the sets on a path: those of the sets whose public list begins the node's
pub path_sets_are : (g : GameModel) (seat : ℕ) (node : List ℕ) → path_sets g seat node ≡ filter (λ I. begins (public_of g seat I) node) (range_with_len 0 (length (sets g seat)))
path_sets_are g seat node = numbers_are set_cmp set_total (λ s. begins (publics s) node) [] (sets g seat) (sets_ascending g seat)

-- those of the sets at a node: each of both lists begins the other
pub root_sets_are : (g : GameModel) (seat : ℕ) (node : List ℕ)
    → root_sets g seat node ≡ filter (λ I. begins (public_of g seat I) node && begins node (public_of g seat I)) (range_with_len 0 (length (sets g seat)))
root_sets_are g seat node =
    ap (map (set_number g seat))
    (filter_agree (λ (s : List Item). is_eq (list_cmp (publics s) node)) (λ s. begins (publics s) node && begins node (publics s)) (λ s. same_is_begun (publics s) node) (sets g seat))
    ∙ numbers_are set_cmp set_total (λ s. begins (publics s) node && begins node (publics s)) [] (sets g seat) (sets_ascending g seat)

-- those of the sets inside a subgame: the node's list begins theirs
pub subgame_sets_are : (g : GameModel) (seat : ℕ) (node : List ℕ) → subgame_sets g seat node ≡ filter (λ I. begins node (public_of g seat I)) (range_with_len 0 (length (sets g seat)))
subgame_sets_are g seat node = numbers_are set_cmp set_total (λ s. begins node (publics s)) [] (sets g seat) (sets_ascending g seat)

-- the law of numbers
pub number_law : NumberLaw
number_law g seat node = (path_sets_are g seat node, root_sets_are g seat node, subgame_sets_are g seat node)

-- ---- consecutive numbers

-- where a test passes from a number on for a length, these are what it keeps of the numbers below n
pub kept_between : (p : ℕ → Bool) (n from len : ℕ) → from + len ≤ n → ((i : ℕ) → i < n → (p i ≡ true) ↔ ((from ≤ i) × (i < from + len)))
    → filter p (range_with_len 0 n) ≡ range_with_len from len
kept_between p n from len le h =
    ascending_same nat_cmp nat_cmp_total (filter p (range_with_len 0 n)) (range_with_len from len) (filter_ascending nat_cmp p (range_with_len 0 n) (range_ascending 0 n)) (range_ascending from len)
    (λ i j. let k = in_from_filter p (range_with_len 0 n) i j in let below = in_from_range i 0 n k.0 in let r = (h i (omega (arith, below.1))).0 k.1 in in_range i from len r.0 r.1)
    (λ i j. let r = in_from_range i from len j in let below : i < n = omega (arith, r.1, le) in in_filter p (range_with_len 0 n) i (in_range i 0 n (omega arith) (omega arith)) ((h i below).1 r))

-- the sets at a node have numbers from the start of its span on
pub root_sets_between : (g : GameModel) (seat : ℕ) (node : List ℕ) → root_sets g seat node ≡ range_with_len (span_from g seat node) (length (node_sets g seat node))
root_sets_between g seat node =
    numbers_are set_cmp set_total (λ s. is_eq (list_cmp (publics s) node)) [] (sets g seat) (sets_ascending g seat)
    ∙ kept_between (λ i. is_eq (list_cmp (publics (get_or (sets g seat) i [])) node)) (length (sets g seat)) (span_from g seat node) (length (node_sets g seat node))
    (let or = count_or (λ s. is_lt (list_cmp (publics s) node)) (λ s. is_eq (list_cmp (publics s) node)) (sets g seat) (λ s. lt_no_eq (list_cmp (publics s) node)) in
    let le = count_le_length (λ s. is_lt (list_cmp (publics s) node) || is_eq (list_cmp (publics s) node)) (sets g seat) in
    omega (arith, or, le, len))
    (λ i l. subst (λ n. (is_eq (list_cmp (publics (get_or (sets g seat) i [])) node) ≡ true) ↔ ((span_from g seat node ≤ i) × (i < span_from g seat node + n))) (sym len) (node_sets_are g seat node i [] l))
  where
    len : length (node_sets g seat node) ≡ count (λ s. is_eq (list_cmp (publics s) node)) (sets g seat)
    len = length-filter (λ s. is_eq (list_cmp (publics s) node)) (sets g seat)

-- a span ends within the sets
pub span_within : (g : GameModel) (seat : ℕ) (node : List ℕ) → span_to g seat node ≤ length (sets g seat)
span_within g seat node =
    let or = count_or (λ s. is_lt (list_cmp (publics s) node)) (λ s. begins node (publics s)) (sets g seat) (λ s. apart node (publics s)) in
    let le = count_le_length (λ s. is_lt (list_cmp (publics s) node) || begins node (publics s)) (sets g seat) in
    omega (arith, or, le)

-- the sets inside a subgame have the numbers of its span
pub subgame_sets_between : (g : GameModel) (seat : ℕ) (node : List ℕ) → subgame_sets g seat node ≡ range_with_len (span_from g seat node) (span_to g seat node - span_from g seat node)
subgame_sets_between g seat node =
    subgame_sets_are g seat node
    ∙ kept_between (λ i. begins node (public_of g seat i)) (length (sets g seat)) (span_from g seat node) (span_to g seat node - span_from g seat node)
    (subst (λ n. n ≤ length (sets g seat)) (sym end) (span_within g seat node))
    (λ i l. subst (λ n. (begins node (public_of g seat i) ≡ true) ↔ ((span_from g seat node ≤ i) × (i < n))) (sym end) (span_is g seat node i [] l))
  where
    end : span_from g seat node + (span_to g seat node - span_from g seat node) ≡ span_to g seat node
    end = omega arith

-- the law of consecutive numbers
pub consecutive_law : ConsecutiveLaw
consecutive_law g seat node = (root_sets_between g seat node, subgame_sets_between g seat node)
