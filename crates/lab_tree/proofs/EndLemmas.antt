-- Terminal histories by their nodes.
use Rattle.std.proofs.Common.{◌≡◌, ℕ, zero, suc, ◌+◌, ◌<◌, ◌≤◌, List, [], ◌∷◌, ◌++◌, Bool, true, false, cond, map, filter, flat_map, length, get_or, take, None, refl, sym, ap, ◌∙◌, subst, arith, inl, inr}
use Rattle.std.specs.Prelude.{◌==◌, nat_lt}
use Rattle.std.specs.List.{range_with_len}
use Rattle.std.specs.List.Sorted.{IsNonDecreasingBy, IsStableByKey}
use Rattle.std.specs.Ordering.{is_eq, nat_cmp}
use Rattle.std.specs.Cmp.{both_ways}
use Rattle.std.proofs.lemmas.Bool.{eqb-true, eq-eqb, lt-ltb, le-ltb}
use Rattle.std.proofs.lemmas.List.{map-append, length-map, length-append}
use Rattle.std.specs.declared.cmp.Ordering.TheVariants.{Less}
use Rattle.std.proofs.lemmas.Cmp.{tied_itself}
use Rattle.lab_math.proofs.Members.{In, in_from_filter, in_from_map, in_from_flat_map}
use Rattle.lab_math.proofs.Ranges.{flat_map_range_same, map_range_same}
use Rattle.lab_defs_text.specs.Games.{GameModel}
use Rattle.lab_defs_game.specs.Keys.{count, number_of, list_cmp}
use Rattle.lab_defs_game.specs.Histories.{History, histories, is_terminal, terminal_histories}
use Rattle.lab_defs_game.specs.Sets.{public_list}
use Rattle.lab_defs_game.specs.Unfolding.{unfold_fault}
use Rattle.lab_defs_game.specs.Nodes.{nodes, node_of, node_ends, ends_by_nodes}
use Rattle.lab_defs_game.proofs.KeyLemmas.{length_merged}
use Rattle.lab_defs_game.proofs.NumberLemmas.{number_at, at_number, number_below, count_none, place_of_in}
use Rattle.lab_defs_game.proofs.Orders.{list_total, list_exact}
use Rattle.lab_defs_game.proofs.Spans.{eq_is}
use Rattle.lab_defs_game.proofs.GameLemmas.{node_has, nodes_ascending}
use Rattle.lab_defs_game.proofs.HistoryCounts.{history_count_law}
use Rattle.lab_defs_game.proofs.UnfoldLaws.{accepted_law}
use Rattle.lab_unfold.proofs.CallerLemmas.{map_flat}
use Rattle.lab_tree.specs.declared.end.End.{End}
use Rattle.lab_tree.specs.Ends.{end_in, ends_before, end_starts, parts_of, CutsFrom, AreCuts}
use Rattle.lab_tree.proofs.Grouping.{with_key, sorted_is}
use Rattle.lab_tree.proofs.Parts.{count-append, count_whole, part_start, part_ends, starts_are, ends_rise, parts_are}

-- ---- the nodes of histories

-- a history is at the node with a number just where its public list is that node
pub at_node : (g : GameModel) (h : History) (k : ℕ) → In h (histories g) → k < length (nodes g) → (node_of g h == k) ≡ is_eq (list_cmp (public_list g h) (get_or (nodes g) k []))
at_node g h k i l = both_ways (node_of g h == k) (is_eq (list_cmp (public_list g h) (get_or (nodes g) k []))) there back
  where
    there : (node_of g h == k) ≡ true → is_eq (list_cmp (public_list g h) (get_or (nodes g) k [])) ≡ true
    there e =
        let n = eqb-true (node_of g h) k e in
        let p : get_or (nodes g) k [] ≡ public_list g h = ap (λ m. get_or (nodes g) m []) (sym n) ∙ at_number list_cmp list_total (nodes g) (public_list g h) [] (nodes_ascending g) (node_has g h i) in
        ap (λ q. is_eq (list_cmp (public_list g h) q)) p ∙ ap is_eq (tied_itself list_total (public_list g h))

    back : is_eq (list_cmp (public_list g h) (get_or (nodes g) k [])) ≡ true → (node_of g h == k) ≡ true
    back e =
        let p = list_exact (public_list g h) (get_or (nodes g) k []) (eq_is (list_cmp (public_list g h) (get_or (nodes g) k [])) e) in
        eq-eqb (node_of g h) k (ap (λ q. number_of list_cmp (nodes g) q) p ∙ number_at list_cmp list_total (nodes g) k [] (nodes_ascending g) l)

-- the number of the node of a history is that of a node
pub node_below : (g : GameModel) (h : History) → In h (histories g) → node_of g h < length (nodes g)
node_below g h i = number_below list_cmp list_total (nodes g) (public_list g h) (nodes_ascending g) (node_has g h i)

-- those of some histories that are at the node with a number
with_node : (g : GameModel) (k : ℕ) (hs : List History) → k < length (nodes g) → ((h : History) → In h hs → In h (histories g))
    → with_key (λ (e : End). e.node) k (map (end_in g) hs) ≡ map (end_in g) (filter (λ h. is_eq (list_cmp (public_list g h) (get_or (nodes g) k []))) hs)
with_node g k [] l there = refl
with_node g k (h ∷ hs) l there =
    ap (λ b. cond b (end_in g h ∷ rest) rest) (at_node g h k (there h (inl refl)) l) ∙ ap (λ t. cond test (end_in g h ∷ t) t) (with_node g k hs l (λ j i. there j (inr i))) ∙ at test
  where
    rest : List End
    rest = with_key (λ (e : End). e.node) k (map (end_in g) hs)

    left : List History
    left = filter (λ h. is_eq (list_cmp (public_list g h) (get_or (nodes g) k []))) hs

    test : Bool
    test = is_eq (list_cmp (public_list g h) (get_or (nodes g) k []))

    at : (b : Bool) → cond b (end_in g h ∷ map (end_in g) left) (map (end_in g) left) ≡ map (end_in g) (cond b (h ∷ left) left)
    at true = refl
    at false = refl

-- lists for the elements of a list are lists for their places
places_flat : {X Y : Type 0} (f : X → List Y) (xs : List X) (d : X) (s : ℕ) (at : ℕ → X) → ((k : ℕ) → k < length xs → at (s + k) ≡ get_or xs k d)
    → flat_map (λ k. f (at k)) (range_with_len s (length xs)) ≡ flat_map f xs
places_flat f [] d s at e = refl
places_flat f (x ∷ xs) d s at e =
    let here : at s ≡ x = (let z : s ≡ s + 0 = omega arith in ap at z ∙ e 0 (omega arith)) in
    ap (λ y. f y ++ flat_map (λ k. f (at k)) (range_with_len (s + 1) (length xs))) here
    ∙ ap (λ t. f x ++ t) (places_flat f xs d (s + 1) at (λ k l. let on : s + 1 + k ≡ s + suc k = omega arith in ap at on ∙ e (suc k) (omega (arith, l))))

-- what a stable sort by nodes makes of the terminal histories
pub ends_sorted : (g : GameModel) (xs ys : List End) → xs ≡ map (end_in g) (terminal_histories g) → IsNonDecreasingBy (λ (e : End). e.node) ys → IsStableByKey (λ (e : End). e.node) nat_cmp xs ys
    → ys ≡ map (end_in g) (ends_by_nodes g)
ends_sorted g xs ys e up stable =
    sorted_is (λ (e : End). e.node) (λ k. record { node = k; history = 0 }) (λ k. refl) xs ys (length (nodes g)) up stable below
    ∙ ap (λ zs. flat_map (λ k. with_key (λ (e : End). e.node) k zs) (range_with_len 0 (length (nodes g)))) e
    ∙ flat_map_range_same (λ k. with_key (λ (e : End). e.node) k (map (end_in g) (terminal_histories g))) (λ k. map (end_in g) (node_ends g (get_or (nodes g) k []))) 0 (length (nodes g))
    (λ k a b. with_node g k (terminal_histories g) (omega (arith, b)) (λ h i. (in_from_filter (is_terminal g) (histories g) h i).0))
    ∙ places_flat (λ p. map (end_in g) (node_ends g p)) (nodes g) [] 0 (λ k. get_or (nodes g) k []) (λ k l. let none : 0 + k ≡ k = omega arith in ap (λ n. get_or (nodes g) n []) none)
    ∙ sym (map_flat (end_in g) (node_ends g) (nodes g))
  where
    below : (x : End) → In x xs → x.node < length (nodes g)
    below x i =
        let r = in_from_map (end_in g) (terminal_histories g) x (subst (In x) e i) in
        subst (λ (y : End). y.node < length (nodes g)) r.2 (node_below g r.0 (in_from_filter (is_terminal g) (histories g) r.0 r.1).0)

-- ---- where the terminal histories of nodes begin

-- those of some nodes, the first of which has the number s
before_from : (g : GameModel) (ps : List (List ℕ)) (s m : ℕ) → ((k : ℕ) (h : History) → k < length ps → In h (node_ends g (get_or ps k [])) → node_of g h ≡ s + k)
    → count (λ (e : End). nat_lt e.node (s + m)) (map (end_in g) (flat_map (node_ends g) ps)) ≡ length (flat_map (node_ends g) (take m ps))
before_from g [] s zero at = refl
before_from g [] s (suc m) at = refl
before_from g (p ∷ ps) s zero at =
    count_none (λ (e : End). nat_lt e.node (s + 0)) (map (end_in g) (flat_map (node_ends g) (p ∷ ps))) (λ e i. none e (in_from_map (end_in g) (flat_map (node_ends g) (p ∷ ps)) e i))
  where
    none : (e : End) → (h : History) × In h (flat_map (node_ends g) (p ∷ ps)) × (end_in g h ≡ e) → nat_lt e.node (s + 0) ≡ false
    none e r =
        let q = in_from_flat_map (node_ends g) (p ∷ ps) r.0 r.1 in
        let k = place_of_in (λ a b. Less) (p ∷ ps) q.0 [] q.1 in
        let n = at k.0 r.0 k.1 (subst (λ x. In r.0 (node_ends g x)) (sym k.2) q.2) in
        subst (λ (x : End). nat_lt x.node (s + 0) ≡ false) r.2 (le-ltb (node_of g r.0) (s + 0) (omega (arith, n)))
before_from g (p ∷ ps) s (suc m) at =
    ap (count test) (map-append (end_in g) (node_ends g p) (flat_map (node_ends g) ps)) ∙ count-append test (map (end_in g) (node_ends g p)) (map (end_in g) (flat_map (node_ends g) ps))
    ∙ ap (λ n. n + count test (map (end_in g) (flat_map (node_ends g) ps))) (count_whole test (map (end_in g) (node_ends g p)) (λ e i. here e (in_from_map (end_in g) (node_ends g p) e i)) ∙ length-map (node_ends g p) (end_in g))
    ∙ ap (λ n. length (node_ends g p) + n) (ap (λ n. count (λ (e : End). nat_lt e.node n) (map (end_in g) (flat_map (node_ends g) ps))) on ∙ before_from g ps (s + 1) m later)
    ∙ sym (length-append (node_ends g p) (flat_map (node_ends g) (take m ps)))
  where
    test : End → Bool
    test e = nat_lt e.node (s + suc m)

    on : s + suc m ≡ s + 1 + m
    on = omega arith

    here : (e : End) → (h : History) × In h (node_ends g p) × (end_in g h ≡ e) → nat_lt e.node (s + suc m) ≡ true
    here e r =
        let n = at 0 r.0 (omega arith) r.1 in
        subst (λ (x : End). nat_lt x.node (s + suc m) ≡ true) r.2 (lt-ltb (node_of g r.0) (s + suc m) (omega (arith, n)))

    later : (k : ℕ) (h : History) → k < length ps → In h (node_ends g (get_or ps k [])) → node_of g h ≡ s + 1 + k
    later k h l i = let n = at (suc k) h (omega (arith, l)) i in omega (arith, n)

-- the terminal histories before a node are those of the nodes before it
pub before_is : (g : GameModel) (m : ℕ) → ends_before (map (end_in g) (ends_by_nodes g)) m ≡ part_start (node_ends g) 0 (nodes g) m
before_is g m =
    let none : 0 + m ≡ m = omega arith in
    let zero_behind : length (flat_map (node_ends g) (take m (nodes g))) ≡ 0 + length (flat_map (node_ends g) (take m (nodes g))) = omega arith in
    ap (λ n. count (λ (e : End). nat_lt e.node n) (map (end_in g) (ends_by_nodes g))) (sym none) ∙ before_from g (nodes g) 0 m there ∙ zero_behind
  where
    there : (k : ℕ) (h : History) → k < length (nodes g) → In h (node_ends g (get_or (nodes g) k [])) → node_of g h ≡ 0 + k
    there k h l i =
        let z = in_from_filter (λ h. is_eq (list_cmp (public_list g h) (get_or (nodes g) k []))) (terminal_histories g) h i in
        let e = eqb-true (node_of g h) k (at_node g h k (in_from_filter (is_terminal g) (histories g) h z.0).0 l ∙ z.1) in
        omega (arith, e)

-- where the rows of each node begin
pub starts_is : (g : GameModel) (n : ℕ) → n ≡ length (nodes g) → end_starts (map (end_in g) (ends_by_nodes g)) n ≡ 0 ∷ part_ends (node_ends g) 0 (nodes g)
starts_is g n e =
    ap (end_starts (map (end_in g) (ends_by_nodes g))) e
    ∙ map_range_same (ends_before (map (end_in g) (ends_by_nodes g))) (part_start (node_ends g) 0 (nodes g)) 0 0 (length (nodes g) + 1) (λ k l. before_is g (0 + k))
    ∙ starts_are (node_ends g) 0 (nodes g)

-- there are no more nodes than histories
pub nodes_few : (g : GameModel) → length (nodes g) ≤ length (histories g)
nodes_few g = omega (arith, length_merged list_cmp (map (public_list g) (histories g)) [], length-map (histories g) (public_list g))

-- the rows of each node, from all by their nodes
pub node_rows_are : {Z : Type 0} (g : GameModel) (f : History → Z) → parts_of (0 ∷ part_ends (node_ends g) 0 (nodes g)) (map f (ends_by_nodes g)) ≡ map (λ p. map f (node_ends g p)) (nodes g)
node_rows_are g f =
    ap (parts_of (0 ∷ part_ends (node_ends g) 0 (nodes g))) (map_flat f (node_ends g) (nodes g))
    ∙ ap (λ t. parts_of (0 ∷ t) (flat_map (λ p. map f (node_ends g p)) (nodes g))) (same_ends 0 (nodes g))
    ∙ parts_are (λ p. map f (node_ends g p)) 0 [] (nodes g) refl
  where
    same_ends : (a : ℕ) (ps : List (List ℕ)) → part_ends (node_ends g) a ps ≡ part_ends (λ p. map f (node_ends g p)) a ps
    same_ends a [] = refl
    same_ends a (p ∷ ps) =
        let long = length-map (node_ends g p) f in
        ap (λ n. (a + n) ∷ part_ends (node_ends g) (a + n) ps) (sym long) ∙ ap (λ t. (a + length (map f (node_ends g p))) ∷ t) (same_ends (a + length (map f (node_ends g p))) ps)

-- and these are where they stand
pub cuts_are : (g : GameModel) (n : ℕ) → n ≡ length (ends_by_nodes g) → AreCuts (0 ∷ part_ends (node_ends g) 0 (nodes g)) n
cuts_are g n e = (refl, subst (CutsFrom 0 (part_ends (node_ends g) 0 (nodes g))) whole (ends_rise (node_ends g) 0 (nodes g)))
  where
    whole : 0 + length (ends_by_nodes g) ≡ n
    whole = omega (arith, e)

-- a game that is unfolded has at most 65,536 histories
pub histories_few : (g : GameModel) → unfold_fault g ≡ None → length (histories g) ≤ 65536
histories_few g ok = omega (arith, history_count_law g g.horizon, ((accepted_law g).0 ok).0 g.horizon (omega arith))
