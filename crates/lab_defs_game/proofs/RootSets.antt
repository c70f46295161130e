-- Where a seat has a set inside a subgame, each seat has one at its node.
use Rattle.std.proofs.Common.{◌≡◌, ℕ, zero, suc, ◌<◌, ◌≤◌, List, [], ◌∷◌, ◌++◌, true, length, refl, sym, ap, ◌∙◌, subst, arith, inl, inr, ◌⊎◌}
use Rattle.std.specs.Ordering.{is_eq}
use Rattle.std.proofs.lemmas.Cmp.{tied_itself}
use Rattle.lab_math.proofs.Members.{In, in_filter, in_from_filter}
use Rattle.lab_defs_text.specs.Games.{GameModel}
use Rattle.lab_defs_game.specs.Keys.{list_cmp}
use Rattle.lab_defs_game.specs.Histories.{History, histories, inner_histories, reached, outcome_of}
use Rattle.lab_defs_game.specs.Sets.{seen, public_list, publics, sets}
use Rattle.lab_defs_game.specs.Nodes.{begins, node_sets, sets_inside}
use Rattle.lab_defs_game.specs.Laws.{RootLaw}
use Rattle.lab_defs_game.proofs.Orders.{list_total}
use Rattle.lab_defs_game.proofs.Legal.{length_push}
use Rattle.lab_defs_game.proofs.GameLemmas.{Longer, history_cases, before_inner, inner_from, set_has, set_from, publics_seen, public_push}
use Rattle.lab_defs_game.proofs.Ways.{begins_cases}

-- a list with a length has a first item
pub some_member : {X : Type 0} (xs : List X) → 0 < length xs → (x : X) × In x xs
some_member [] l = absurd (omega (arith, l))
some_member (x ∷ xs) l = (x, inl refl)

-- a list with a member has a length
pub some_length : {X : Type 0} (xs : List X) (x : X) → In x xs → 0 < length xs
some_length [] x i = absurd i
some_length (y ∷ xs) x i = omega arith

-- what begins the empty list is it
begins_empty : (node : List ℕ) → begins node [] ≡ true → node ≡ []
begins_empty [] e = refl
begins_empty (x ∷ node) e = absurd cc

-- a history inside a subgame that is not terminal goes through one at its node that isn't either
pub inner_at_node : (g : GameModel) (node : List ℕ) (n : ℕ) (k : History) → length k ≤ n → In k (inner_histories g) → begins node (public_list g k) ≡ true
    → (h : History) × In h (inner_histories g) × (public_list g h ≡ node)
inner_at_node g node zero [] le i b = ([], i, sym (begins_empty node b))
inner_at_node g node zero (s ∷ k) le i b = absurd (omega (arith, le))
inner_at_node g node (suc n) k le i b = at (history_cases g k (inner_from g k i)) (λ h l j c. inner_at_node g node n h l j c)
  where
    at : (k ≡ []) ⊎ Longer g (histories g) k
        → ((h : History) → length h ≤ n → In h (inner_histories g) → begins node (public_list g h) ≡ true → (h : History) × In h (inner_histories g) × (public_list g h ≡ node))
        → (h : History) × In h (inner_histories g) × (public_list g h ≡ node)
    at (inl e) rest = (k, i, ap (public_list g) e ∙ sym (begins_empty node (subst (λ h. begins node (public_list g h) ≡ true) e b)))
    at (inr r) rest = by (begins_cases node (public_list g r.before) (outcome_of g (reached g g.root r.before) r.step).public (subst (λ ns. begins node ns ≡ true) longer b))
      where
        longer : public_list g k ≡ public_list g r.before ++ (outcome_of g (reached g g.root r.before) r.step).public ∷ []
        longer = ap (public_list g) r.made ∙ public_push g g.root r.before r.step

        len : length k ≡ suc (length r.before)
        len = ap length r.made ∙ length_push r.before r.step

        by : (begins node (public_list g r.before) ≡ true) ⊎ (node ≡ public_list g r.before ++ (outcome_of g (reached g g.root r.before) r.step).public ∷ [])
            → (h : History) × In h (inner_histories g) × (public_list g h ≡ node)
        by (inl c) = rest r.before (omega (arith, le, len)) (before_inner g k r) c
        by (inr e) = (k, i, longer ∙ sym e)

-- the law of the sets at the node of a subgame
pub root_law : RootLaw
root_law g seat other node some =
    let s = some_member (sets_inside g seat node) some in
    let inside = in_from_filter (λ s. begins node (publics s)) (sets g seat) s.0 s.1 in
    let k = set_from g seat s.0 inside.0 in
    let begun : begins node (public_list g k.0) ≡ true = ap (begins node) (sym (publics_seen g seat g.root k.0) ∙ ap publics k.2) ∙ inside.1 in
    let h = inner_at_node g node (length k.0) k.0 (omega arith) k.1 begun in
    let here : publics (seen g other h.0) ≡ node = publics_seen g other g.root h.0 ∙ h.2 in
    some_length (node_sets g other node) (seen g other h.0)
    (in_filter (λ s. is_eq (list_cmp (publics s) node)) (sets g other) (seen g other h.0) (set_has g other h.0 h.1) (ap (λ ns. is_eq (list_cmp ns node)) here ∙ ap is_eq (tied_itself list_total node)))
