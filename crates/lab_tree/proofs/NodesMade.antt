-- The nodes of a game, as they are made from the first histories at them.
use Rattle.std.proofs.Common.{◌≡◌, ℕ, ◌<◌, ◌≤◌, ◌^◌, List, [], ◌∷◌, Bool, true, length, get_or, map, filter, Option, refl, sym, ap, ◌∙◌, subst, arith}
use Rattle.std.specs.List.{All, range_with_len}
use Rattle.std.specs.List.Sorted.{IsStrictlySortedBy}
use Rattle.std.proofs.lemmas.List.{ext_get_or, get_or-map, length-map, get_or_default}
use Rattle.std.proofs.lemmas.List.FromFn.{length-map-range_with_len}
use Rattle.lab_math.proofs.Members.{in_get_or}
use Rattle.lab_defs_text.specs.Games.{GameModel}
use Rattle.lab_defs_game.specs.Keys.{in_order, number_of, list_cmp}
use Rattle.lab_defs_game.specs.Histories.{History, histories}
use Rattle.lab_defs_game.specs.Nodes as nodes
use Rattle.lab_defs_game.specs.Sets.{public_list}
use Rattle.lab_defs_game.proofs.KeyLemmas.{length_merged, sorted_from_ascending}
use Rattle.lab_defs_game.proofs.Legal.{history_legal}
use Rattle.lab_defs_game.proofs.NumberLemmas.{count_le_length, length-filter}
use Rattle.lab_defs_game.proofs.Orders.{list_total, list_exact}
use Rattle.lab_defs_game.proofs.TreeLaws.{depth_law}
use Rattle.lab_unfold.specs.Firsts.{AreFirsts, one_node}
use Rattle.lab_unfold.specs.Values.{Unfolded, unfolded}
use Rattle.lab_unfold.proofs.CallerLemmas.{read_node_firsts}
use Rattle.lab_tree.specs.declared.info.NodeId.{NodeId}
use Rattle.lab_unfold.specs.Parents.{history_at}
use Rattle.lab_tree.specs.Keyed.{is_first, keyed}
use Rattle.lab_tree.specs.NodeValues.{NodesValue, HasList, end_among, keys_in, nodes_in, pair_cmp, parent_node}
use Rattle.lab_tree.specs.Ranks.{AreApart, AreRanks}
use Rattle.lab_tree.specs.Trees.{node_id}
use Rattle.lab_tree.proofs.ClassLemmas.{AreFirstByKey, first_is, stands, keys_ascend, keys_are, apart, within, rank_is}

-- ---- lists

-- all are kept where all pass
pub filter_all : {A : Type 0} (xs : List A) → filter (λ x. true) xs ≡ xs
filter_all [] = refl
filter_all (x ∷ xs) = ap (λ ys. x ∷ ys) (filter_all xs)

-- no more have keys than there are
pub keyed_few : {K : Type 0} (test : History → Bool) (key : History → K) (hs : List History) (firsts : List ℕ) (n : ℕ) → length (keyed test key hs firsts n) ≤ n
keyed_few {K = K} test key hs firsts n =
    let all : List (K × ℕ) = map (λ i. (key (get_or hs i []), i)) (range_with_len 0 n) in
    let long : length all ≡ n = length-map-range_with_len (λ i. (key (get_or hs i []), i)) 0 n in
    omega (arith, length-filter (λ (p : K × ℕ). is_first test hs firsts p.1) all, count_le_length (λ (p : K × ℕ). is_first test hs firsts p.1) all, long)

-- ---- nodes

-- what was made so far: the first history at each node, with its public list, in order
pub record NodesMade (g : GameModel) (firsts : List ℕ) (order : List (List ℕ × ℕ)) : Type 0 where
  pub firsts_are : AreFirsts (λ h. true) (one_node g) (histories g) firsts
  pub order_is : order ≡ in_order (pair_cmp list_cmp) (keyed (λ h. true) (public_list g) (histories g) firsts (length (histories g)))

-- from what the functions say
pub made : (g : GameModel) (u : Unfolded) (firsts : List ℕ) (keys order : List (List ℕ × ℕ)) → u ≡ unfolded g → firsts ≡ u.node_firsts
    → keys ≡ keyed (λ h. true) (public_list g) (histories g) firsts (length (histories g)) → order ≡ in_order (pair_cmp list_cmp) keys → NodesMade g firsts order
made g u firsts keys order e f k o = record {
  firsts_are = read_node_firsts g u firsts e f;
  order_is = o ∙ ap (in_order (pair_cmp list_cmp)) k;
}

module _ (g : GameModel) (firsts : List ℕ) (order : List (List ℕ × ℕ)) (m : NodesMade g firsts order) where
  by_key : AreFirstByKey list_cmp list_total list_exact (λ h. true) (public_list g) (histories g) firsts
  by_key = record { count = m.firsts_are.count; placed = λ i l t. m.firsts_are.first i l t }

  pub made_few : length order ≤ length (histories g)
  made_few =
      let keys = keyed (λ h. true) (public_list g) (histories g) firsts (length (histories g)) in
      omega (arith, ap length m.order_is, length_merged (pair_cmp list_cmp) keys [], keyed_few (λ h. true) (public_list g) (histories g) firsts (length (histories g)))

  pub made_within : All (λ (p : List ℕ × ℕ). p.1 < length (histories g)) order
  made_within = within list_cmp list_total list_exact (λ h. true) (public_list g) (histories g) firsts by_key order m.order_is

  pub made_apart : AreApart order
  made_apart = apart list_cmp list_total list_exact (λ h. true) (public_list g) (histories g) firsts by_key order m.order_is

  pub made_lists : All (HasList g) order
  made_lists i d l =
      let s = stands list_cmp list_total list_exact (λ h. true) (public_list g) (histories g) firsts by_key order m.order_is (get_or order i d) (in_get_or order i d l) in
      (s.below, s.own)

  pub made_nodes : keys_in order ≡ nodes.nodes g
  made_nodes =
      keys_are list_cmp list_total list_exact (λ h. true) (public_list g) (histories g) firsts by_key order m.order_is
      ∙ ap (λ hs. in_order list_cmp (map (public_list g) hs)) (filter_all (histories g))

  pub made_sorted : IsStrictlySortedBy list_cmp (keys_in order)
  made_sorted = sorted_from_ascending list_cmp (keys_in order) (keys_ascend list_cmp list_total list_exact (λ h. true) (public_list g) (histories g) firsts by_key order m.order_is)

  pub made_short : g.horizon ≤ 32 → All (λ (k : List ℕ). length k < 2 ^ 32) (keys_in order)
  made_short h i d l =
      let li : i < length order = omega (arith, l, length-map order (λ (p : List ℕ × ℕ). p.0)) in
      let p : List ℕ × ℕ = get_or order i (d, 0) in
      let s = made_lists i (d, 0) li in
      let k : get_or (keys_in order) i d ≡ p.0 = get_or-map (λ (p : List ℕ × ℕ). p.0) order i (d, 0) d li in
      let legal = history_legal g (history_at g p.1) (in_get_or (histories g) p.1 [] s.0) in
      omega (arith, ap length k, ap length s.1, depth_law g (history_at g p.1), legal.1, h)

  pub first_below : All (λ f. f < length (histories g)) firsts
  first_below i d l =
      let li : i < length (histories g) = omega (arith, l, m.firsts_are.count) in
      subst (λ n. n < length (histories g)) (get_or_default firsts i 0 d l)
      (first_is list_cmp list_total list_exact (λ h. true) (public_list g) (histories g) firsts by_key i li refl).0

  pub made_of : (ranks : List ℕ) → AreRanks order ranks (length order) → map (λ f. node_id (get_or ranks f 0)) firsts ≡ map (λ h. node_id (nodes.node_of g h)) (histories g)
  made_of ranks are =
      ext_get_or (node_id 0) (map (λ f. node_id (get_or ranks f 0)) firsts) (map (λ h. node_id (nodes.node_of g h)) (histories g))
      (length-map firsts (λ f. node_id (get_or ranks f 0)) ∙ m.firsts_are.count ∙ sym (length-map (histories g) (λ h. node_id (nodes.node_of g h))))
      each
    where
      each : (i : ℕ) → i < length (map (λ f. node_id (get_or ranks f 0)) firsts)
          → get_or (map (λ f. node_id (get_or ranks f 0)) firsts) i (node_id 0) ≡ get_or (map (λ h. node_id (nodes.node_of g h)) (histories g)) i (node_id 0)
      each i l =
          let lf : i < length firsts = omega (arith, l, length-map firsts (λ f. node_id (get_or ranks f 0))) in
          let lh : i < length (histories g) = omega (arith, lf, m.firsts_are.count) in
          get_or-map (λ f. node_id (get_or ranks f 0)) firsts i 0 (node_id 0) lf
          ∙ ap node_id (rank_is list_cmp list_total list_exact (λ h. true) (public_list g) (histories g) firsts by_key order m.order_is ranks are i lh refl
          ∙ ap (λ hs. number_of list_cmp (in_order list_cmp (map (public_list g) hs)) (public_list g (history_at g i))) (filter_all (histories g)))
          ∙ sym (get_or-map (λ h. node_id (nodes.node_of g h)) (histories g) i [] (node_id 0) lh)

  pub made_value : (of : List NodeId) (parents : List (Option NodeId)) (ends : List ℕ) → of ≡ map (λ h. node_id (nodes.node_of g h)) (histories g)
      → parents ≡ map (parent_node g) (keys_in order) → ends ≡ map (end_among (keys_in order)) (keys_in order)
      → ◌≡◌ {A = NodesValue} (record { nodes = keys_in order; node_of = of; parents = parents; ends = ends }) (nodes_in g)
  made_value of parents ends o p e =
      same made_nodes o (p ∙ ap (map (parent_node g)) made_nodes) (e ∙ ap (λ ks. map (end_among ks) ks) made_nodes)
    where
      same : keys_in order ≡ nodes.nodes g → of ≡ map (λ h. node_id (nodes.node_of g h)) (histories g) → parents ≡ map (parent_node g) (nodes.nodes g)
          → ends ≡ map (end_among (nodes.nodes g)) (nodes.nodes g) → ◌≡◌ {A = NodesValue} (record { nodes = keys_in order; node_of = of; parents = parents; ends = ends }) (nodes_in g)
      same a b c d = λ i. record { nodes = a i; node_of = b i; parents = c i; ends = d i }
