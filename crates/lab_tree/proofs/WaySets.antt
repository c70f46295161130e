-- The sets on the ways of a game's tree.
use Rattle.std.proofs.Common.{◌≡◌, ℕ, zero, suc, ◌+◌, ◌-◌, ◌<◌, ◌≤◌, List, [], ◌∷◌, ◌++◌, Bool, true, cond, length, filter, take, drop, get_or, Option, Some, None, refl, sym, ap, ◌∙◌, subst, arith, inl, inr, ◌⊎◌}
use Rattle.std.specs.Prelude.{nat_lt, slice_index, slice_range}
use Rattle.std.specs.Ordering.{is_eq, ordering_then}
use Rattle.std.specs.Cmp.Lexicographic.{slice_cmp}
use Rattle.std.specs.declared.cmp.Ordering.{Ordering}
use Rattle.std.specs.declared.cmp.Ordering.TheVariants.{Less}
use Rattle.std.proofs.lemmas.Bool.{lt-ltb, le-ltb, ltb-true, ltb-false}
use Rattle.std.proofs.lemmas.Cmp.{nat_cmp_total, tied_itself}
use Rattle.std.proofs.lemmas.List.{append_assoc, append-nil, get_or-take, get_or-drop, length-map, length-take, length-drop}
use Rattle.lab_math.proofs.Members.{In, all_in, all_from_in, in_get_or, in_filter, in_from_filter, in_append_cases, in_append_left, in_append_right}
use Rattle.lab_defs_text.specs.Games.{GameModel}
use Rattle.lab_defs_game.specs.Keys.{count, list_cmp}
use Rattle.lab_defs_game.specs.Nodes.{nodes, node_number, node_sets, begins, path}
use Rattle.lab_defs_game.specs.Sets.{Item, publics, item_cmp, set_cmp, sets}
use Rattle.lab_defs_game.proofs.GameLemmas.{sets_ascending, nodes_ascending}
use Rattle.lab_defs_game.proofs.HistoryOrder.{ascending_append}
use Rattle.lab_defs_game.proofs.KeyLemmas.{Ascending, ascending_same, filter_ascending}
use Rattle.lab_defs_game.proofs.NumberLemmas.{number_at, at_number, place_of_in}
use Rattle.lab_defs_game.proofs.Orders.{list_total, list_exact, set_total, prefix_less}
use Rattle.lab_defs_game.proofs.Spans.{eq_is}
use Rattle.lab_defs_game.proofs.Ways.{begins_cases}
use Rattle.lab_defs_game.proofs.TreeLaws.{begins_law}
use Rattle.lab_tree.specs.declared.info.NodeId.{NodeId}
use Rattle.lab_tree.specs.declared.info.SetInfo.{SetInfo}
use Rattle.lab_tree.specs.Ways.{AreWays, IsBefore, way_before, all_paths, path_in}
use Rattle.lab_tree.specs.Trees.{set_in}
use Rattle.lab_tree.proofs.WayLemmas.{path_is}
use Rattle.lab_tree.specs.WayLaws.{tree_sets, AreStarts, AreParents, IsParentNode}
use Rattle.lab_tree.proofs.SpanLemmas.{set_at_node}
use Rattle.lab_tree.proofs.SetLaws.{before_node}
use Rattle.lab_tree.proofs.WayLaws.{way_law, shorter_node}

-- ---- parts of ascending lists

-- what is in the front of a list is in the list
pub from_take : {K : Type 0} (n : ℕ) (xs : List K) (y : K) → In y (take n xs) → In y xs
from_take zero xs y i = absurd i
from_take (suc n) [] y i = absurd i
from_take (suc n) (x ∷ xs) y (inl e) = inl e
from_take (suc n) (x ∷ xs) y (inr i) = inr (from_take n xs y i)

module _ {K : Type 0} (R : K → K → Ordering) where
  -- what is left of a list in order is in order
  drop_ascending : (n : ℕ) (xs : List K) → Ascending R xs → Ascending R (drop n xs)
  drop_ascending zero xs a = a
  drop_ascending (suc n) [] a = a
  drop_ascending (suc n) (x ∷ xs) a = drop_ascending n xs a.1

  -- and so is the front of it
  take_ascending : (n : ℕ) (xs : List K) → Ascending R xs → Ascending R (take n xs)
  take_ascending zero xs a = tt
  take_ascending (suc n) [] a = a
  take_ascending (suc n) (x ∷ xs) a = (all_from_in (λ y. R x y ≡ Less) (take n xs) (λ y i. all_in (λ y. R x y ≡ Less) xs y a.0 (from_take n xs y i)), take_ascending n xs a.1)

-- a member of a part stands at a place of it
in_range_place : {X : Type 0} (xs : List X) (a b : ℕ) (y d : X) → In y (slice_range xs a b) → (i : ℕ) × (a ≤ i) × (i < b) × (i < length xs) × (get_or xs i d ≡ y)
in_range_place xs a b y d i =
    let r = place_of_in (λ x z. Less) (slice_range xs a b) y d i in
    let long = length-take (b - a) (drop a xs) in
    let k : r.0 < b - a = omega (arith, r.1, long) in
    (a + r.0, omega arith, omega (arith, k), omega (arith, r.1, long, length-drop a xs), sym (get_or-drop a xs r.0 d) ∙ sym (get_or-take (b - a) (drop a xs) r.0 d k) ∙ r.2)

-- and what stands at such a place is a member
pub place_in_range : {X : Type 0} (xs : List X) (a b i : ℕ) (d : X) → a ≤ i → i < b → i < length xs → In (get_or xs i d) (slice_range xs a b)
place_in_range xs a b i d lo hi l =
    let at : a + (i - a) ≡ i = omega (arith, lo) in
    let k : i - a < b - a = omega (arith, lo, hi) in
    subst (λ y. In y (slice_range xs a b)) (get_or-take (b - a) (drop a xs) (i - a) d k ∙ get_or-drop a xs (i - a) d ∙ ap (λ n. get_or xs n d) at)
    (in_get_or (slice_range xs a b) (i - a) d (omega (arith, k, lo, l, length-take (b - a) (drop a xs), length-drop a xs)))

-- tests that agree keep the same
filter_same : {X : Type 0} (p q : X → Bool) (xs : List X) → ((x : X) → p x ≡ q x) → filter p xs ≡ filter q xs
filter_same p q [] e = refl
filter_same p q (x ∷ xs) e = ap (λ b. cond b (x ∷ filter p xs) (filter p xs)) (e x) ∙ ap (λ t. cond (q x) (x ∷ t) t) (filter_same p q xs e)

-- ---- the sets on a way

module _ (g : GameModel) (seat : ℕ) (starts : List ℕ) (parents : List (Option NodeId)) (s : AreStarts g (tree_sets g seat) starts) (p : AreParents g parents) where
  -- the public list of a set, by the number of its node
  list_of : (y : List Item) (n : ℕ) → In y (sets g seat) → node_number g (publics y) ≡ n → publics y ≡ get_or (nodes g) n []
  list_of y n i e = sym (at_number list_cmp list_total (nodes g) (publics y) [] (nodes_ascending g) (set_at_node g seat y i)) ∙ ap (λ k. get_or (nodes g) k []) e

  -- the sets at a node are those from its start to the next one's
  pub sets_at : (n : ℕ) → n < length (nodes g) → slice_range (sets g seat) (slice_index starts n) (slice_index starts (n + 1)) ≡ node_sets g seat (get_or (nodes g) n [])
  sets_at n l =
      ascending_same set_cmp set_total (slice_range (sets g seat) a b) (node_sets g seat node)
      (take_ascending set_cmp (b - a) (drop a (sets g seat)) (drop_ascending set_cmp a (sets g seat) (sets_ascending g seat)))
      (filter_ascending set_cmp (λ y. is_eq (list_cmp (publics y) node)) (sets g seat) (sets_ascending g seat)) to from
    where
      a : ℕ
      a = slice_index starts n

      b : ℕ
      b = slice_index starts (n + 1)

      node : List ℕ
      node = get_or (nodes g) n []

      a_is : slice_index starts n ≡ count (λ (t : SetInfo). nat_lt t.node.0 n) (tree_sets g seat)
      a_is = s.is n (omega (arith, l, s.long))

      b_is : slice_index starts (n + 1) ≡ count (λ (t : SetInfo). nat_lt t.node.0 (n + 1)) (tree_sets g seat)
      b_is = s.is (n + 1) (omega (arith, l, s.long))

      to : (y : List Item) → In y (slice_range (sets g seat) (slice_index starts n) (slice_index starts (n + 1))) → In y (node_sets g seat (get_or (nodes g) n []))
      to y i =
          let r = in_range_place (sets g seat) a b y [] i in
          let low = ltb-false (node_number g (publics (get_or (sets g seat) r.0 []))) n (before_node g seat n r.0 r.3 ∙ le-ltb r.0 (count (λ (t : SetInfo). nat_lt t.node.0 n) (tree_sets g seat)) (omega (arith, r.1, a_is))) in
          let high = ltb-true (node_number g (publics (get_or (sets g seat) r.0 []))) (n + 1) (before_node g seat (n + 1) r.0 r.3 ∙ lt-ltb r.0 (count (λ (t : SetInfo). nat_lt t.node.0 (n + 1)) (tree_sets g seat)) (omega (arith, r.2, b_is))) in
          let here : node_number g (publics (get_or (sets g seat) r.0 [])) ≡ n = omega (arith, low, high) in
          let there = in_get_or (sets g seat) r.0 [] r.3 in
          subst (λ z. In z (node_sets g seat node)) r.4
          (in_filter (λ z. is_eq (list_cmp (publics z) node)) (sets g seat) (get_or (sets g seat) r.0 []) there
          (ap (λ q. is_eq (list_cmp q node)) (list_of (get_or (sets g seat) r.0 []) n there here) ∙ ap is_eq (tied_itself list_total node)))

      from : (y : List Item) → In y (node_sets g seat (get_or (nodes g) n [])) → In y (slice_range (sets g seat) (slice_index starts n) (slice_index starts (n + 1)))
      from y i =
          let f = in_from_filter (λ z. is_eq (list_cmp (publics z) node)) (sets g seat) y i in
          let q = list_exact (publics y) node (eq_is (list_cmp (publics y) node) f.1) in
          let k = place_of_in set_cmp (sets g seat) y [] f.0 in
          let here : node_number g (publics (get_or (sets g seat) k.0 [])) ≡ n = ap (λ z. node_number g (publics z)) k.2 ∙ ap (node_number g) q ∙ number_at list_cmp list_total (nodes g) n [] (nodes_ascending g) l in
          let lo = ltb-false k.0 (count (λ (t : SetInfo). nat_lt t.node.0 n) (tree_sets g seat))
          (sym (before_node g seat n k.0 k.1) ∙ le-ltb (node_number g (publics (get_or (sets g seat) k.0 []))) n (omega (arith, here))) in
          let hi = ltb-true k.0 (count (λ (t : SetInfo). nat_lt t.node.0 (n + 1)) (tree_sets g seat))
          (sym (before_node g seat (n + 1) k.0 k.1) ∙ lt-ltb (node_number g (publics (get_or (sets g seat) k.0 []))) (n + 1) (omega (arith, here))) in
          subst (λ z. In z (slice_range (sets g seat) a b)) k.2 (place_in_range (sets g seat) a b k.0 [] (omega (arith, lo, a_is)) (omega (arith, hi, b_is)) k.1)

  -- a path is the path to the node before, and the sets at the node
  path_split : (q : List ℕ) (x : ℕ) → path g seat (q ++ x ∷ []) ≡ path g seat q ++ node_sets g seat (q ++ x ∷ [])
  path_split q x =
      ascending_same set_cmp set_total (path g seat (q ++ x ∷ [])) (path g seat q ++ node_sets g seat (q ++ x ∷ []))
      (filter_ascending set_cmp (λ y. begins (publics y) (q ++ x ∷ [])) (sets g seat) (sets_ascending g seat))
      (ascending_append set_cmp (path g seat q) (node_sets g seat (q ++ x ∷ [])) (filter_ascending set_cmp (λ y. begins (publics y) q) (sets g seat) (sets_ascending g seat))
      (filter_ascending set_cmp (λ y. is_eq (list_cmp (publics y) (q ++ x ∷ []))) (sets g seat) (sets_ascending g seat)) cross)
      to from
    where
      listed : (y : List Item) → In y (node_sets g seat (q ++ x ∷ [])) → publics y ≡ q ++ x ∷ []
      listed y i =
          list_exact (publics y) (q ++ x ∷ [])
          (eq_is (list_cmp (publics y) (q ++ x ∷ [])) (in_from_filter (λ z. is_eq (list_cmp (publics z) (q ++ x ∷ []))) (sets g seat) y i).1)

      before_more : (a rest : List ℕ) → list_cmp a (a ++ (rest ++ x ∷ [])) ≡ Less
      before_more a [] = prefix_less nat_cmp_total a x []
      before_more a (r ∷ rest) = prefix_less nat_cmp_total a r (rest ++ x ∷ [])

      cross : (y z : List Item) → In y (path g seat q) → In z (node_sets g seat (q ++ x ∷ [])) → set_cmp y z ≡ Less
      cross y z i j =
          let b = (begins_law (publics y) q).0 (in_from_filter (λ w. begins (publics w) q) (sets g seat) y i).1 in
          let e : publics z ≡ publics y ++ (b.0 ++ x ∷ []) = listed z j ∙ ap (λ w. w ++ x ∷ []) b.1 ∙ append_assoc (publics y) b.0 (x ∷ []) in
          ap (λ w. ordering_then (list_cmp (publics y) w) (slice_cmp item_cmp y z)) e ∙ ap (λ o. ordering_then o (slice_cmp item_cmp y z)) (before_more (publics y) b.0)

      to : (y : List Item) → In y (path g seat (q ++ x ∷ [])) → In y (path g seat q ++ node_sets g seat (q ++ x ∷ []))
      to y i =
          let f = in_from_filter (λ w. begins (publics w) (q ++ x ∷ [])) (sets g seat) y i in
          at f.0 (begins_cases (publics y) q x f.1)
        where
          at : In y (sets g seat) → (begins (publics y) q ≡ true) ⊎ (publics y ≡ q ++ x ∷ []) → In y (path g seat q ++ node_sets g seat (q ++ x ∷ []))
          at j (inl b) = in_append_left (path g seat q) (node_sets g seat (q ++ x ∷ [])) y (in_filter (λ w. begins (publics w) q) (sets g seat) y j b)
          at j (inr e) =
              in_append_right (path g seat q) (node_sets g seat (q ++ x ∷ [])) y
              (in_filter (λ w. is_eq (list_cmp (publics w) (q ++ x ∷ []))) (sets g seat) y j (ap (λ w. is_eq (list_cmp w (q ++ x ∷ []))) e ∙ ap is_eq (tied_itself list_total (q ++ x ∷ []))))

      from : (y : List Item) → In y (path g seat q ++ node_sets g seat (q ++ x ∷ [])) → In y (path g seat (q ++ x ∷ []))
      from y i = at (in_append_cases (path g seat q) (node_sets g seat (q ++ x ∷ [])) y i)
        where
          at : In y (path g seat q) ⊎ In y (node_sets g seat (q ++ x ∷ [])) → In y (path g seat (q ++ x ∷ []))
          at (inl j) =
              let f = in_from_filter (λ w. begins (publics w) q) (sets g seat) y j in
              let b = (begins_law (publics y) q).0 f.1 in
              in_filter (λ w. begins (publics w) (q ++ x ∷ [])) (sets g seat) y f.0
              ((begins_law (publics y) (q ++ x ∷ [])).1 ((b.0 ++ x ∷ [], ap (λ w. w ++ x ∷ []) b.1 ∙ append_assoc (publics y) b.0 (x ∷ []))))
          at (inr j) =
              let f = in_from_filter (λ w. is_eq (list_cmp (publics w) (q ++ x ∷ []))) (sets g seat) y j in
              in_filter (λ w. begins (publics w) (q ++ x ∷ [])) (sets g seat) y f.0
              ((begins_law (publics y) (q ++ x ∷ [])).1 (([], sym (listed y j) ∙ sym (append-nil (publics y)))))

  -- at the root a path is the sets there
  path_root : path g seat [] ≡ node_sets g seat []
  path_root = filter_same (λ y. begins (publics y) []) (λ y. is_eq (list_cmp (publics y) [])) (sets g seat) at
    where
      at : (y : List Item) → begins (publics y) [] ≡ is_eq (list_cmp (publics y) [])
      at [] = refl
      at (z ∷ y) = refl

  -- nodes and starts are ways for the sets themselves
  pub set_ways : AreWays (length (sets g seat)) starts parents
  set_ways = subst (λ n. AreWays n starts parents) (length-map (sets g seat) (set_in g seat)) (way_law g seat starts parents s p)

  -- what stands on the way to a node is its path
  pub set_paths : (m n : ℕ) → n < m → n < length (nodes g) → path_in (sets g seat) starts parents n ≡ path g seat (get_or (nodes g) n [])
  set_paths zero n b l = absurd (omega (arith, b))
  set_paths (suc m) n b l =
      path_is (sets g seat) starts parents set_ways n (omega (arith, l, p.long))
      ∙ at (get_or parents n None) (p.is n (omega (arith, l, p.long))) (set_ways.before n (omega (arith, l, p.long))) (λ k c d. set_paths m k c d)
    where
      node : List ℕ
      node = get_or (nodes g) n []

      here : slice_range (sets g seat) (slice_index starts n) (slice_index starts (n + 1)) ≡ node_sets g seat (get_or (nodes g) n [])
      here = sets_at n l

      at : (o : Option NodeId) → IsParentNode g (get_or (nodes g) n []) o → IsBefore n o → ((k : ℕ) → k < m → k < length (nodes g) → path_in (sets g seat) starts parents k ≡ path g seat (get_or (nodes g) k []))
          → way_before (all_paths (sets g seat) starts parents) o ++ slice_range (sets g seat) (slice_index starts n) (slice_index starts (n + 1)) ≡ path g seat (get_or (nodes g) n [])
      at None e c rest = here ∙ ap (node_sets g seat) e ∙ sym path_root ∙ ap (path g seat) (sym e)
      at (Some q) e c rest =
          let there = subst (λ k. In k (nodes g)) e.2 (in_get_or (nodes g) n [] l) in
          let up = at_number list_cmp list_total (nodes g) e.0 [] (nodes_ascending g) (shorter_node g e.0 e.1 there) in
          ap (λ w. w ++ slice_range (sets g seat) (slice_index starts n) (slice_index starts (n + 1))) (rest q.0 (omega (arith, b, c)) (omega (arith, c, l)) ∙ ap (λ k. path g seat (get_or (nodes g) k [])) e.3 ∙ ap (path g seat) up)
          ∙ ap (λ w. path g seat e.0 ++ w) (here ∙ ap (node_sets g seat) e.2) ∙ sym (path_split e.0 e.1) ∙ ap (path g seat) (sym e.2)
