-- The ways of a game's tree.
use Rattle.std.proofs.Common.{◌≡◌, ℕ, ◌<◌, ◌≤◌, List, [], ◌∷◌, ◌++◌, length, map, get_or, Option, Some, None, sym, ap, ◌∙◌, subst, arith, inl, inr, ◌⊎◌}
use Rattle.std.specs.Prelude.{nat_lt}
use Rattle.std.proofs.lemmas.Bool.{lt-ltb, ltb-true}
use Rattle.std.proofs.lemmas.List.{get_or_default}
use Rattle.lab_math.proofs.Members.{In, in_get_or, in_from_map}
use Rattle.lab_defs_text.specs.Games.{GameModel}
use Rattle.lab_defs_game.specs.Keys.{list_cmp}
use Rattle.lab_defs_game.specs.Histories.{History, histories, reached, outcome_of}
use Rattle.lab_defs_game.specs.Nodes.{nodes, node_number}
use Rattle.lab_defs_game.specs.Sets.{public_list}
use Rattle.lab_defs_game.proofs.GameLemmas.{Longer, history_cases, public_push, node_has, nodes_ascending}
use Rattle.lab_defs_game.proofs.KeyLemmas.{in_order_from}
use Rattle.lab_defs_game.proofs.NumberLemmas.{count_le_length, number_at, number_lt}
use Rattle.lab_defs_game.proofs.Orders.{list_total, prefix_less}
use Rattle.std.proofs.lemmas.Cmp.{nat_cmp_total}
use Rattle.lab_defs_game.proofs.TreeLaws.{push_parts, push_some}
use Rattle.lab_tree.specs.declared.info.NodeId.{NodeId}
use Rattle.lab_tree.specs.declared.info.SetInfo.{SetInfo}
use Rattle.lab_tree.specs.Ways.{IsBefore}
use Rattle.lab_tree.specs.WayLaws.{tree_sets, IsParentNode, WayLaw}
use Rattle.lab_tree.proofs.StartLemmas.{count_less}

-- the list of a node without its last token is a node
pub shorter_node : (g : GameModel) (p : List ℕ) (x : ℕ) → In (p ++ x ∷ []) (nodes g) → In p (nodes g)
shorter_node g p x i =
    let r = in_from_map (public_list g) (histories g) (p ++ x ∷ []) (in_order_from list_cmp (map (public_list g) (histories g)) (p ++ x ∷ []) i) in
    at r.0 r.2 (history_cases g r.0 r.1)
  where
    at : (h : History) → public_list g h ≡ p ++ x ∷ [] → (h ≡ []) ⊎ Longer g (histories g) h → In p (nodes g)
    at h e (inl n) = absurd (push_some p x (sym e ∙ ap (public_list g) n))
    at h e (inr r) =
        let parts = push_parts (public_list g r.before) p (outcome_of g (reached g g.root r.before) r.step).public x (sym (public_push g g.root r.before r.step) ∙ sym (ap (public_list g) r.made) ∙ e) in
        subst (λ q. In q (nodes g)) parts.0 (node_has g r.before r.there)

-- the node before another has a lower number
pub shorter_before : (g : GameModel) (n : ℕ) (o : Option NodeId) → n < length (nodes g) → IsParentNode g (get_or (nodes g) n []) o → IsBefore n o
shorter_before g n None l e = tt
shorter_before g n (Some q) l e =
    let there = subst (λ k. In k (nodes g)) e.2 (in_get_or (nodes g) n [] l) in
    let less = number_lt list_cmp list_total (nodes g) e.0 (e.0 ++ e.1 ∷ []) (nodes_ascending g) (shorter_node g e.0 e.1 there) (prefix_less nat_cmp_total e.0 e.1 []) in
    let n_is : node_number g (e.0 ++ e.1 ∷ []) ≡ n = ap (node_number g) (sym e.2) ∙ number_at list_cmp list_total (nodes g) n [] (nodes_ascending g) l in
    omega (arith, less, n_is, e.3)

-- the law of ways
pub way_law : WayLaw
way_law g seat starts parents s p = record { long = omega (arith, s.long, p.long); rise = rise; end = end; before = λ n l. shorter_before g n (get_or parents n None) (omega (arith, l, p.long)) (p.is n l) }
  where
    end : (n : ℕ) → n < length starts → get_or starts n 0 ≤ length (tree_sets g seat)
    end n l = omega (arith, s.is n l, count_le_length (λ (t : SetInfo). nat_lt t.node.0 n) (tree_sets g seat))

    rise : (i j d : ℕ) → i ≤ j → j < length starts → get_or starts i d ≤ get_or starts j d
    rise i j d le l =
        let more = count_less (λ (t : SetInfo). nat_lt t.node.0 i) (λ (t : SetInfo). nat_lt t.node.0 j) (tree_sets g seat)
        (λ t e. let b = ltb-true t.node.0 i e in lt-ltb t.node.0 j (omega (arith, b, le))) in
        omega (arith, more, s.is i (omega (arith, le, l)), s.is j l, get_or_default starts i d 0 (omega (arith, le, l)), get_or_default starts j d 0 l)
