-- Nodes: parents, and the keys that a key begins.
use Rattle.std.proofs.Common.{◌≡◌, ℕ, suc, ◌+◌, ◌<◌, ◌≤◌, List, [], ◌∷◌, ◌++◌, true, false, ◌||◌, length, get_or, map, take, Option, Some, refl, sym, ap, ◌∙◌, subst, arith, inl, inr, ◌⊎◌, ◌↔◌}
use Rattle.std.specs.Ordering.{is_lt}
use Rattle.std.specs.List.Sorted.{IsStrictlySortedBy}
use Rattle.std.proofs.lemmas.Bool.{cases_lt}
use Rattle.std.proofs.lemmas.List.{get_or-map, map-append}
use Rattle.std.proofs.Math.Seq.{take-suc}
use Rattle.lab_defs_text.specs.Games.{GameModel}
use Rattle.lab_defs_game.specs.Keys.{list_cmp}
use Rattle.lab_defs_game.specs.Nodes.{begins, node_number}
use Rattle.lab_defs_game.proofs.KeyLemmas.{Ascending, ascending_from_sorted}
use Rattle.lab_defs_game.proofs.NumberLemmas.{number_at, within_at, count_le_length, count_or}
use Rattle.lab_defs_game.proofs.Orders.{list_total}
use Rattle.lab_defs_game.proofs.Spans.{list_before_holds, list_within_holds, apart}
use Rattle.lab_tree.specs.declared.info.NodeId.{NodeId}
use Rattle.lab_tree.specs.NodeValues.{without_last, parent_node, end_among, keys_in}
use Rattle.lab_tree.specs.Trees.{node_id}
use Rattle.lab_tree.proofs.Begins.{begins_itself}

-- ---- lists

-- what was made of the first of some entries, and of one more
made_more : {X Y Z : Type 0} (f : Y → Z) (h : X → Y) (xs : List X) (i : ℕ) (x : X) → i < length xs → x ≡ get_or xs i x
    → map f (map h (take (i + 1) xs)) ≡ map f (map h (take i xs)) ++ f (h x) ∷ []
made_more f h xs i x l e =
    ap (λ n. map f (map h (take n xs))) more ∙ ap (λ ys. map f (map h ys)) (take-suc xs i x l)
    ∙ ap (map f) (map-append h (take i xs) (get_or xs i x ∷ [])) ∙ map-append f (map h (take i xs)) (h (get_or xs i x) ∷ [])
    ∙ ap (λ y. map f (map h (take i xs)) ++ f (h y) ∷ []) (sym e)
  where
    more : i + 1 ≡ suc i
    more = omega arith

-- the key of an entry
pub key_at : {K : Type 0} (order : List (K × ℕ)) (i : ℕ) (p : K × ℕ) (d : K) → i < length order → get_or (keys_in order) i d ≡ (get_or order i p).0
key_at order i p d l = get_or-map (λ q. q.0) order i p d l

-- ---- parents

-- a list with one more token, without it
without_push : (ts : List ℕ) (t : ℕ) → without_last (ts ++ t ∷ []) ≡ ts
without_push [] t = refl
without_push (u ∷ []) t = refl
without_push (u ∷ v ∷ ts) t = ap (λ r. u ∷ r) (without_push (v ∷ ts) t)

-- the parent of a node whose list has one more token
pub parent_node_push : (g : GameModel) (ts : List ℕ) (t : ℕ) → parent_node g (ts ++ t ∷ []) ≡ Some (node_id (node_number g ts))
parent_node_push g [] t = refl
parent_node_push g (u ∷ ts) t = ap (λ r. Some (node_id (node_number g r))) (without_push (u ∷ ts) t)

-- the parents of the first nodes, and of one more
pub parents_more : (g : GameModel) (order : List (List ℕ × ℕ)) (i : ℕ) (p : List ℕ × ℕ) (made : List (Option NodeId)) (parent : Option NodeId) → i < length order → p ≡ get_or order i p
    → parent ≡ parent_node g p.0 → made ≡ map (parent_node g) (keys_in (take i order)) → made ++ parent ∷ [] ≡ map (parent_node g) (keys_in (take (i + 1) order))
parents_more g order i p made parent l e n m =
    ap (λ o. made ++ o ∷ []) n ∙ ap (λ os. os ++ parent_node g p.0 ∷ []) m ∙ sym (made_more (parent_node g) (λ (q : List ℕ × ℕ). q.0) order i p l e)

-- ---- subgames

module _ (xs : List (List ℕ)) (n : ℕ) (s : IsStrictlySortedBy list_cmp xs) (ln : n < length xs) where
  -- which keys it begins
  run_is : (i : ℕ) → i < length xs → (begins (get_or xs n []) (get_or xs i []) ≡ true) ↔ ((n ≤ i) × (i < end_among xs (get_or xs n [])))
  run_is i li =
      subst (λ m. (begins (get_or xs n []) (get_or xs i []) ≡ true) ↔ ((m ≤ i) × (i < end_among xs (get_or xs n [])))) (number_at list_cmp list_total xs n [] a ln)
      (within_at list_cmp (λ x. _) (begins (get_or xs n [])) (list_before_holds (get_or xs n [])) (list_within_holds (get_or xs n [])) (apart (get_or xs n [])) xs i [] a li)
    where
      a : Ascending list_cmp xs
      a = ascending_from_sorted list_cmp xs s

  -- it begins itself
  pub run_first : n + 1 ≤ end_among xs (get_or xs n [])
  run_first = let r = (run_is n ln).0 (begins_itself (get_or xs n [])) in omega (arith, r.1)

  -- a key that it begins is within
  pub run_more : (i : ℕ) → i < length xs → begins (get_or xs n []) (get_or xs i []) ≡ true → i + 1 ≤ end_among xs (get_or xs n [])
  run_more i li b = let r = (run_is i li).0 b in omega (arith, r.1)

  -- a later key that it does not begin is behind the end
  pub run_stop : (i : ℕ) → i < length xs → n < i → begins (get_or xs n []) (get_or xs i []) ≡ false → end_among xs (get_or xs n []) ≤ i
  run_stop i li lt b = at (cases_lt i (end_among xs (get_or xs n [])))
    where
      never : false ≡ true → ⊥
      never e = cc

      at : (i < end_among xs (get_or xs n [])) ⊎ (end_among xs (get_or xs n []) ≤ i) → end_among xs (get_or xs n []) ≤ i
      at (inl l) = absurd (never (sym b ∙ (run_is i li).1 ((omega (arith, lt), l))))
      at (inr g) = g

-- the end is not behind that of all keys
pub end_within : (xs : List (List ℕ)) (k : List ℕ) → end_among xs k ≤ length xs
end_within xs k =
    let both = count_or (λ x. is_lt (list_cmp x k)) (begins k) xs (apart k) in
    subst (λ m. m ≤ length xs) both (count_le_length (λ x. is_lt (list_cmp x k) || begins k x) xs)

-- ---- parents and lists

-- a list that is not empty is the one without its last token, with that token
pub last_split : (t : ℕ) (ts : List ℕ) → (x : ℕ) × (t ∷ ts ≡ without_last (t ∷ ts) ++ x ∷ [])
last_split t [] = (t, refl)
last_split t (u ∷ ts) = let r = last_split u ts in (r.0, ap (λ l. t ∷ l) r.1)
