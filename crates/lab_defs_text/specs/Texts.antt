-- The texts of a game: all has one spelling and one place, but for the order of a world's rows.
use Rattle.std.specs.Prelude.{◌≡◌, ℕ, ◌*◌, ◌/◌, ◌%◌, ◌<◌, Bool, true, false, not, ◌&&◌, ◌==◌, nat_le, nat_lt, int_le, ℤ, pos, neg_ℤ, List, [], ◌∷◌, ◌++◌, length, map, slice_index_or}
use Rattle.std.specs.List.{list_all, list_any, range_with_len}
use Rattle.lab_defs_text.specs.Words.{Bytes, are_names}
use Rattle.lab_defs_text.specs.Games.{GameModel, Place, a_world, an_end, World, Outcome}
use Rattle.lab_defs_text.specs.Lines.{Line, head_line, grid_line, horizon_line, memory_line, token_line, world_line, one_line, two_line, row_line, to_line, end_line, root_line, done_line, text_of}

-- the name with a number
abbrev pub name_of : List Bytes → ℕ → Bytes
name_of ns n = slice_index_or ns n []

-- ---- the lines of a game

-- the lines of outcomes
abbrev pub outcome_lines : GameModel → List Outcome → List Line
outcome_lines g [] = []
outcome_lines g (o ∷ os) =
    to_line o.weight (name_of g.names o.next) (name_of g.tokens o.own1) (name_of g.tokens o.own2) (name_of g.tokens o.public) ∷ outcome_lines g os

-- the rows with these numbers, in this order: row k is that of the actions k / m and k % m, m being the number of seat 2's
abbrev pub row_lines : GameModel → World → List ℕ → List Line
row_lines g w [] = []
row_lines g w (k ∷ ks) =
    (row_line (name_of w.one (k / length w.two)) (name_of w.two (k % length w.two)) ∷ outcome_lines g (slice_index_or w.rows k [])) ++ row_lines g w ks

-- a place with its name, its rows in an order
abbrev pub place_lines : GameModel → Bytes → Place → List ℕ → List Line
place_lines g name (a_world w) order = world_line name ∷ one_line w.one ∷ two_line w.two ∷ row_lines g w order
place_lines g name (an_end z) order = end_line name z ∷ []

-- each place with its name and the order of its rows
abbrev pub places_lines : GameModel → List Bytes → List Place → List (List ℕ) → List Line
places_lines g (n ∷ ns) (p ∷ ps) (ks ∷ kss) = place_lines g n p ks ++ places_lines g ns ps kss
places_lines g _ _ _ = []

-- the lines of tokens
abbrev pub token_lines : List Bytes → List Line
token_lines [] = []
token_lines (t ∷ ts) = token_line t ∷ token_lines ts

-- the lines of a game, with an order of rows for each place
abbrev pub game_lines : GameModel → List (List ℕ) → List Line
game_lines g orders =
    (head_line ∷ grid_line g.grid ∷ horizon_line g.horizon ∷ memory_line g.recall ∷ token_lines g.tokens)
    ++ (places_lines g g.names g.places orders ++ (root_line (name_of g.names g.root) ∷ done_line ∷ []))

-- ---- games that a text may have

-- whether a number is within a range, its ends included
abbrev pub is_within : ℕ → ℕ → ℕ → Bool
is_within lo hi n = nat_le lo n && nat_le n hi

-- whether a number is within the limits of a payoff
abbrev pub is_payoff : ℤ → Bool
is_payoff z = int_le (neg_ℤ (pos 1048576)) z && int_le z (pos 1048576)

-- whether an outcome has a weight within its limits, and its place and tokens are there
abbrev pub outcome_ok : GameModel → Outcome → Bool
outcome_ok g o =
    is_within 1 1048576 o.weight && (nat_lt o.next (length g.names) && (nat_lt o.own1 (length g.tokens) && (nat_lt o.own2 (length g.tokens) && nat_lt o.public (length g.tokens))))

-- whether a row has an outcome, and each is fine
abbrev pub row_ok : GameModel → List Outcome → Bool
row_ok g os = nat_lt 0 (length os) && list_all (outcome_ok g) os

-- whether a place has actions of each seat, none twice, and a fine row for each joint action; or pays within the limits
abbrev pub place_ok : GameModel → Place → Bool
place_ok g (a_world w) = are_names w.one && (are_names w.two && ((length w.rows == length w.one * length w.two) && list_all (row_ok g) w.rows))
place_ok g (an_end z) = is_payoff z

-- whether a place is a world
abbrev pub is_world : Place → Bool
is_world (a_world w) = true
is_world (an_end z) = false

-- the place with a number
abbrev pub place_at : GameModel → ℕ → Place
place_at g n = slice_index_or g.places n (an_end (pos 0))

-- numbers within their limits, names apart, one row for each joint action, each with an outcome, and a world as root
abbrev pub game_ok : GameModel → Bool
game_ok g =
    is_within 1 4096 g.grid && (is_within 1 32 g.horizon && (are_names g.tokens && (are_names g.names
    && ((length g.places == length g.names) && (list_all (place_ok g) g.places && is_world (place_at g g.root))))))

-- ---- orders of rows

-- whether a number is one of a list
abbrev pub one_of : List ℕ → ℕ → Bool
one_of ks k = list_any (λ i. i == k) ks

-- no number is among those before it
abbrev pub numbers_apart : List ℕ → List ℕ → Bool
numbers_apart before [] = true
numbers_apart before (k ∷ ks) = not (one_of before k) && numbers_apart (before ++ k ∷ []) ks

-- the numbers below n in some order: each is there, no other is, and none is there twice
pub record IsOrder (n : ℕ) (ks : List ℕ) : Type 0 where
  pub below : list_all (λ k. nat_lt k n) ks ≡ true
  pub once : numbers_apart [] ks ≡ true
  pub whole : (k : ℕ) → k < n → one_of ks k ≡ true

-- an order of the rows of a place: its rows, each once
abbrev pub IsOrderOf : Place → List ℕ → Type 0
IsOrderOf (a_world w) ks = IsOrder (length w.rows) ks
IsOrderOf (an_end z) ks = ks ≡ []

-- an order of the rows of each place
abbrev pub AreOrders : List Place → List (List ℕ) → Type 0
AreOrders [] [] = Unit {0}
AreOrders [] (ks ∷ kss) = ⊥
AreOrders (p ∷ ps) [] = ⊥
AreOrders (p ∷ ps) (ks ∷ kss) = IsOrderOf p ks × AreOrders ps kss

-- the bytes are a text of the game, with the rows of each world in some order
abbrev pub IsText : Bytes → GameModel → Type 0
IsText bytes g = (game_ok g ≡ true) × (orders : List (List ℕ)) × AreOrders g.places orders × (bytes ≡ text_of (game_lines g orders))

-- the order of the places of actions
abbrev pub row_order : Place → List ℕ
row_order (a_world w) = range_with_len 0 (length w.rows)
row_order (an_end z) = []

-- the one text with rows in order of places
abbrev pub canonical : GameModel → Bytes
canonical g = text_of (game_lines g (map row_order g.places))
