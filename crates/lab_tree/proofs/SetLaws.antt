-- The sets of a game's tree by their nodes.
use Rattle.std.proofs.Common.{◌≡◌, ℕ, suc, ◌+◌, ◌<◌, ◌≤◌, List, [], ◌∷◌, Bool, cond, ltb, length, map, get_or, refl, sym, ap, ◌∙◌, subst, arith, inl, inr, ◌⊎◌}
use Rattle.std.specs.Prelude.{nat_lt, slice_index}
use Rattle.std.specs.Option.{option_map}
use Rattle.std.specs.Ordering.{is_lt}
use Rattle.std.specs.Cmp.Lexicographic.{slice_cmp}
use Rattle.std.specs.declared.cmp.Ordering.TheVariants.{Less, Equal}
use Rattle.std.proofs.lemmas.Bool.{lt-ltb, le-ltb, ltb-true, ltb-false}
use Rattle.std.proofs.lemmas.List.{get_or-map, length-map}
use Rattle.lab_math.proofs.Members.{in_get_or}
use Rattle.lab_defs_text.specs.Games.{GameModel}
use Rattle.lab_defs_game.specs.Keys.{count, list_cmp}
use Rattle.lab_defs_game.specs.Nodes.{nodes, node_number}
use Rattle.lab_defs_game.specs.Paths.{parent}
use Rattle.lab_defs_game.specs.Sets.{Item, publics, seen, item_cmp, set_cmp, sets, set_number}
use Rattle.lab_defs_game.proofs.GameLemmas.{Follows, set_cases, sets_ascending, nodes_ascending, parent_is, parent_before}
use Rattle.lab_defs_game.proofs.NumberLemmas.{HoldsUpTo, passes_at, number_at, number_below, lt_is}
use Rattle.lab_defs_game.proofs.Orders.{list_total, list_exact, set_total, then_less}
use Rattle.lab_tree.specs.declared.info.SetInfo.{SetInfo}
use Rattle.lab_tree.specs.Trees.{set_in, taken_in}
use Rattle.lab_tree.specs.Ways.{bases_of}
use Rattle.lab_tree.specs.Places.{set_read, IsEarlier}
use Rattle.lab_tree.specs.WayLaws.{tree_sets, AtNodesLaw}
use Rattle.lab_tree.proofs.WayLemmas.{base_small, bases_length}
use Rattle.lab_tree.proofs.SpanLemmas.{set_at_node}
use Rattle.lab_tree.proofs.StartLemmas.{count_less}
use Rattle.lab_tree.proofs.WayLaws.{way_law}

-- a count over a made list
pub count-map : {X Y : Type 0} (p : Y → Bool) (f : X → Y) (xs : List X) → count p (map f xs) ≡ count (λ x. p (f x)) xs
count-map p f [] = refl
count-map p f (x ∷ xs) = ap (λ n. cond (p (f x)) 1 0 + n) (count-map p f xs)

-- the set of the tree with a number
pub read_set : (g : GameModel) (seat i : ℕ) → i < length (sets g seat) → set_read (tree_sets g seat) i ≡ set_in g seat (get_or (sets g seat) i [])
read_set g seat i l = get_or-map (set_in g seat) (sets g seat) i [] _ l

-- nodes are numbered in their order
node_rise : (g : GameModel) (p q : List ℕ) → list_cmp p q ≡ Less → node_number g p ≤ node_number g q
node_rise g p q l = count_less (λ x. is_lt (list_cmp x p)) (λ x. is_lt (list_cmp x q)) (nodes g) (λ x e. ap is_lt (list_total.trans x p q (lt_is e) l))

-- and so are those of sets
pub set_node_rise : (g : GameModel) (s t : List Item) → set_cmp s t ≡ Less → node_number g (publics s) ≤ node_number g (publics t)
set_node_rise g s t l = at (then_less (list_cmp (publics s) (publics t)) (slice_cmp item_cmp s t) l)
  where
    at : (list_cmp (publics s) (publics t) ≡ Less) ⊎ ((list_cmp (publics s) (publics t) ≡ Equal) × (slice_cmp item_cmp s t ≡ Less)) → node_number g (publics s) ≤ node_number g (publics t)
    at (inl less) = node_rise g (publics s) (publics t) less
    at (inr both) = let e = ap (node_number g) (list_exact (publics s) (publics t) both.0) in omega (arith, e)

-- the sets at nodes before one are those with the first numbers
pub before_node : (g : GameModel) (seat n i : ℕ) → i < length (sets g seat)
    → nat_lt (node_number g (publics (get_or (sets g seat) i []))) n ≡ ltb i (count (λ (s : SetInfo). nat_lt s.node.0 n) (tree_sets g seat))
before_node g seat n i l =
    passes_at set_cmp (λ s. nat_lt (node_number g (publics s)) n) holds (sets g seat) i [] (sets_ascending g seat) l
    ∙ ap (ltb i) (sym (count-map (λ (s : SetInfo). nat_lt s.node.0 n) (set_in g seat) (sets g seat)))
  where
    holds : HoldsUpTo set_cmp (λ s. nat_lt (node_number g (publics s)) n)
    holds s t less e =
        let b = ltb-true (node_number g (publics t)) n e in
        let r = set_node_rise g s t less in
        lt-ltb (node_number g (publics s)) n (omega (arith, b, r))

-- the law of sets at nodes
pub at_nodes_law : AtNodesLaw
at_nodes_law g seat starts parents s p = record { long = long; small = small; node = node; start = start; parent = earlier }
  where
    many : length (bases_of starts parents) ≡ length parents
    many = bases_length (tree_sets g seat) starts parents (way_law g seat starts parents s p)

    long : length (bases_of starts parents) ≤ length starts
    long = omega (arith, many, p.long, s.long)

    small : (n : ℕ) → n < length (bases_of starts parents) → slice_index (bases_of starts parents) n ≤ slice_index starts n
    small n l = base_small (tree_sets g seat) starts parents (way_law g seat starts parents s p) (suc n) n (omega arith) (omega (arith, l, many))

    below : (j : ℕ) → j < length (tree_sets g seat) → j < length (sets g seat)
    below j l = omega (arith, l, length-map (sets g seat) (set_in g seat))

    node_below : (j : ℕ) → j < length (sets g seat) → node_number g (publics (get_or (sets g seat) j [])) < length (nodes g)
    node_below j l =
        number_below list_cmp list_total (nodes g) (publics (get_or (sets g seat) j [])) (nodes_ascending g)
        (set_at_node g seat (get_or (sets g seat) j []) (in_get_or (sets g seat) j [] l))

    node : (j : ℕ) → j < length (tree_sets g seat) → (set_read (tree_sets g seat) j).node.0 < length (bases_of starts parents)
    node j l =
        let e = ap (λ (t : SetInfo). t.node.0) (read_set g seat j (below j l)) in
        omega (arith, e, node_below j (below j l), many, p.long)

    start : (j : ℕ) → j < length (tree_sets g seat) → slice_index starts (set_read (tree_sets g seat) j).node.0 ≤ j
    start j l =
        let n = node_number g (publics (get_or (sets g seat) j [])) in
        let e = ap (λ (t : SetInfo). t.node.0) (read_set g seat j (below j l)) in
        let c = ltb-false j (count (λ (t : SetInfo). nat_lt t.node.0 n) (tree_sets g seat)) (sym (before_node g seat n j (below j l)) ∙ le-ltb n n (omega arith)) in
        subst (λ m. slice_index starts m ≤ j) (sym e) (omega (arith, c, s.is n (omega (arith, node_below j (below j l), s.long))))

    earlier : (j : ℕ) → j < length (tree_sets g seat) → IsEarlier j (set_read (tree_sets g seat) j).parent
    earlier j l = subst (IsEarlier j) (sym (ap (λ (t : SetInfo). t.parent) (read_set g seat j (below j l)))) (at (set_cases g seat (get_or (sets g seat) j []) (in_get_or (sets g seat) j [] (below j l))))
      where
        at : (get_or (sets g seat) j [] ≡ []) ⊎ Follows g seat (get_or (sets g seat) j []) → IsEarlier j (option_map taken_in (parent g seat (get_or (sets g seat) j [])))
        at (inl e) = subst (λ t. IsEarlier j (option_map taken_in (parent g seat t))) (sym e) tt
        at (inr f) =
            let n_is = number_at set_cmp set_total (sets g seat) j [] (sets_ascending g seat) (below j l) in
            subst (λ o. IsEarlier j (option_map taken_in o)) (sym (parent_is g seat (get_or (sets g seat) j []) f))
            (subst (λ n. set_number g seat (seen g seat f.history) < n) n_is (parent_before g seat (get_or (sets g seat) j []) f))
