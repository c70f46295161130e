-- The terminal histories put together by their nodes are the terminal histories: each sum over them is the same.
use Rattle.std.proofs.Common.{◌≡◌, ℤ, pos, List, [], ◌∷◌, cond, filter, flat_map, length, refl, sym, ap, ◌∙◌, arith, inl, inr}
use Rattle.std.specs.Ordering.{is_eq, ordering_reverse}
use Rattle.std.specs.declared.cmp.Ordering.{Ordering}
use Rattle.std.specs.declared.cmp.Ordering.TheVariants.{Less}
use Rattle.std.specs.Cmp.{IsTotalOrder}
use Rattle.std.proofs.lemmas.Cmp.{tied_itself}
use Rattle.std.proofs.lemmas.Int.{ints}
use Rattle.lab_math.specs.Sums.{total}
use Rattle.lab_math.proofs.Members.{In, all_in, in_filter, in_from_filter, in_flat_map, in_from_flat_map, contains_from_in, in_from_contains}
use Rattle.lab_math.proofs.IntegerSums.{total-flat_map, total-same, total-none, total-swap, total-filter}
use Rattle.lab_defs_game.specs.Keys.{list_cmp}
use Rattle.lab_defs_text.specs.Games.{GameModel}
use Rattle.lab_defs_game.specs.Histories.{History, histories, is_terminal, terminal_histories}
use Rattle.lab_defs_game.specs.Sets.{public_list}
use Rattle.lab_defs_game.specs.Nodes.{nodes, node_ends, ends_by_nodes}
use Rattle.lab_defs_game.specs.Laws.{NodeEndLaw}
use Rattle.lab_defs_game.proofs.KeyLemmas.{Ascending}
use Rattle.lab_defs_game.proofs.Orders.{list_total}
use Rattle.lab_defs_game.proofs.GameLemmas.{node_has, nodes_ascending}

module _ {K : Type 0} (R : K → K → Ordering) where
  -- of ascending keys just one is this one
  pub total_pick : IsTotalOrder R → (ks : List K) (k : K) (v : ℤ) → Ascending R ks → In k ks → total (λ q. cond (is_eq (R k q)) v (pos 0)) ks ≡ v
  total_pick o [] k v a h = absurd h
  total_pick o (q ∷ ks) k v a (inl e) =
      let here = ap (λ c. cond (is_eq c) v (pos 0)) (ap (λ z. R z q) (sym e) ∙ tied_itself o q) in
      let rest = total-none (λ z. cond (is_eq (R k z)) v (pos 0)) ks (λ z i. ap (λ c. cond (is_eq c) v (pos 0)) (ap (λ y. R y z) (sym e) ∙ all_in (λ y. R q y ≡ Less) ks z a.0 i)) in
      omega (arith, ints, here, rest)
  total_pick o (q ∷ ks) k v a (inr h) =
      let here = ap (λ c. cond (is_eq c) v (pos 0)) (o.antisymm k q ∙ ap ordering_reverse (all_in (λ y. R q y ≡ Less) ks k a.0 h)) in
      let rest = total_pick o ks k v a.1 h in
      omega (arith, ints, here, rest)

  -- what is put together by its keys has the same sum
  pub total_grouped : IsTotalOrder R → {X : Type 0} (key : X → K) (f : X → ℤ) (ks : List K) (xs : List X) → Ascending R ks → ((x : X) → In x xs → In (key x) ks)
      → total f (flat_map (λ k. filter (λ x. is_eq (R (key x) k)) xs) ks) ≡ total f xs
  total_grouped o key f ks xs a h =
      total-flat_map f (λ k. filter (λ x. is_eq (R (key x) k)) xs) ks
      ∙ total-same (λ k. total f (filter (λ x. is_eq (R (key x) k)) xs)) (λ k. total (λ x. cond (is_eq (R (key x) k)) (f x) (pos 0)) xs) ks (λ k i. total-filter (λ x. is_eq (R (key x) k)) f xs)
      ∙ total-swap (λ k x. cond (is_eq (R (key x) k)) (f x) (pos 0)) ks xs
      ∙ total-same (λ x. total (λ k. cond (is_eq (R (key x) k)) (f x) (pos 0)) ks) f xs (λ x i. total_pick o ks (key x) (f x) a (h x i))

-- a sum over the terminal histories by nodes is the sum over them all
pub ends_total : (g : GameModel) (f : History → ℤ) → total f (ends_by_nodes g) ≡ total f (terminal_histories g)
ends_total g f =
    total_grouped list_cmp list_total (public_list g) f (nodes g) (terminal_histories g) (nodes_ascending g)
    (λ z i. node_has g z (in_from_filter (is_terminal g) (histories g) z i).0)

-- a terminal history is among those by nodes
pub ends_has : (g : GameModel) (h : History) → In h (terminal_histories g) → In h (ends_by_nodes g)
ends_has g h i =
    in_flat_map (node_ends g) (nodes g) (public_list g h) h (node_has g h (in_from_filter (is_terminal g) (histories g) h i).0)
    (in_filter (λ k. is_eq (list_cmp (public_list g k) (public_list g h))) (terminal_histories g) h i (ap is_eq (tied_itself list_total (public_list g h))))

-- what is among those by nodes is a terminal history
pub ends_from : (g : GameModel) (h : History) → In h (ends_by_nodes g) → In h (terminal_histories g)
ends_from g h i =
    let r = in_from_flat_map (node_ends g) (nodes g) h i in
    (in_from_filter (λ k. is_eq (list_cmp (public_list g k) r.0)) (terminal_histories g) h r.2).0

-- ones sum to the length
total_ones : {X : Type 0} (xs : List X) → total (λ x. pos 1) xs ≡ pos (length xs)
total_ones [] = refl
total_ones (x ∷ xs) = let rest = total_ones xs in omega (arith, ints)

-- those by nodes are as many
pub ends_length : (g : GameModel) → length (ends_by_nodes g) ≡ length (terminal_histories g)
ends_length g =
    let e : pos (length (ends_by_nodes g)) ≡ pos (length (terminal_histories g)) = sym (total_ones (ends_by_nodes g)) ∙ ends_total g (λ h. pos 1) ∙ total_ones (terminal_histories g) in
    omega (arith, ints)

-- the law of the terminal histories by nodes
pub node_end_law : NodeEndLaw
node_end_law g = (
  λ h. (
    λ c. contains_from_in (terminal_histories g) h (ends_from g h (in_from_contains (ends_by_nodes g) h c)),
    λ c. contains_from_in (ends_by_nodes g) h (ends_has g h (in_from_contains (terminal_histories g) h c)),
  ),
  ends_length g,
  ends_total g,
)
