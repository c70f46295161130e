-- What is counted of a game is counted of its tree.
use Rattle.std.proofs.Common.{◌≡◌, ℕ, ◌+◌, ◌<◌, List, [], ◌∷◌, length, map, get_or, cond, refl, ap, ◌∙◌, subst, arith}
use Rattle.std.specs.Ordering.{is_lt}
use Rattle.std.proofs.lemmas.List.{length-map, get_or-map}
use Rattle.lab_math.proofs.Members.{In}
use Rattle.lab_defs_text.specs.Games.{GameModel}
use Rattle.lab_defs_game.specs.Keys.{count, number_of, list_cmp}
use Rattle.lab_defs_game.specs.Histories.{histories}
use Rattle.lab_defs_game.specs.Sets.{Item, publics, sets}
use Rattle.lab_defs_game.specs.Nodes.{nodes, begins, span_to}
use Rattle.lab_defs_game.specs.Counts.{counts_of}
use Rattle.lab_defs_game.proofs.GameLemmas.{node_has, nodes_ascending}
use Rattle.lab_defs_game.proofs.Legal.{legal_history}
use Rattle.lab_defs_game.proofs.NumberLemmas.{at_number, number_below}
use Rattle.lab_defs_game.proofs.Orders.{list_total}
use Rattle.lab_unfold.specs.Values.{history_in}
use Rattle.lab_tree.specs.Trees.{span_in, tree_of}
use Rattle.lab_cli.specs.Counted.{tree_counts}

-- no list stands before the empty one
none_before : {X : Type 0} (f : X → List ℕ) (xs : List X) → count (λ x. is_lt (list_cmp (f x) [])) xs ≡ 0
none_before f [] = refl
none_before f (x ∷ xs) = at (f x) (none_before f xs)
  where
    at : (ys : List ℕ) → count (λ x. is_lt (list_cmp (f x) [])) xs ≡ 0 → (cond (is_lt (list_cmp ys [])) 1 0) + count (λ x. is_lt (list_cmp (f x) [])) xs ≡ 0
    at [] e = omega (arith, e)
    at (y ∷ ys) e = omega (arith, e)

-- the empty list begins all
all_begun : {X : Type 0} (f : X → List ℕ) (xs : List X) → count (λ x. begins [] (f x)) xs ≡ length xs
all_begun f [] = refl
all_begun f (x ∷ xs) = omega (arith, all_begun f xs)

-- the history without a step is one
root_there : (g : GameModel) → In [] (histories g)
root_there g = legal_history g [] tt (omega arith)

-- the first node is that of the empty list
first_node : (g : GameModel) → (get_or (nodes g) 0 [] ≡ []) × (0 < length (nodes g))
first_node g =
    let there : In [] (nodes g) = node_has g [] (root_there g) in
    let none : number_of list_cmp (nodes g) [] ≡ 0 = none_before (λ x. x) (nodes g) in (
      subst (λ n. get_or (nodes g) n [] ≡ []) none (at_number list_cmp list_total (nodes g) [] [] (nodes_ascending g) there),
      subst (λ n. n < length (nodes g)) none (number_below list_cmp list_total (nodes g) [] (nodes_ascending g) there),
    )

-- so there is a node
pub some_node : (g : GameModel) → 0 < length (nodes g)
some_node g = (first_node g).1

-- all sets are inside its subgame
span_whole : (g : GameModel) (seat : ℕ) → span_to g seat [] ≡ length (sets g seat)
span_whole g seat = omega (arith, none_before (λ (s : List Item). publics s) (sets g seat), all_begun (λ (s : List Item). publics s) (sets g seat))

first_span : (g : GameModel) (seat : ℕ) → (get_or (map (span_in g seat) (nodes g)) 0 (record { from = 0; to = 0 })).to ≡ length (sets g seat)
first_span g seat =
    ap (λ s. s.to) (get_or-map (span_in g seat) (nodes g) 0 [] (record { from = 0; to = 0 }) (first_node g).1)
    ∙ ap (span_to g seat) (first_node g).0
    ∙ span_whole g seat

-- what is counted of the tree of a game
pub counts_are : (g : GameModel) → tree_counts (tree_of g) ≡ counts_of g
counts_are g = rw (length-map (histories g) (history_in g), first_span g 1, first_span g 2) refl
