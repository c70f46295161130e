-- The laws of nodes, sets, spans and paths, in the words of the laws.
use Rattle.std.proofs.Common.{◌≡◌, ℕ, suc, ◌+◌, ◌<◌, ◌≤◌, List, [], ◌∷◌, ◌++◌, true, map, length, get_or, Option, Some, None, refl, sym, ap, ◌∙◌, subst, arith, inl, inr, ◌⊎◌, ◌↔◌}
use Rattle.std.specs.List.{Contains}
use Rattle.std.specs.Ordering.{is_eq}
use Rattle.std.specs.declared.cmp.Ordering.{Ordering}
use Rattle.std.specs.Cmp.{IsTotalOrder}
use Rattle.std.proofs.lemmas.Cmp.{tied_itself}
use Rattle.lab_math.proofs.Members.{In, in_from_map, in_get_or, in_from_contains, contains_from_in}
use Rattle.std.specs.Prelude.{◌==◌}
use Rattle.std.proofs.lemmas.Bool.{and_parts, and_from, eqb-true, eq-eqb}
use Rattle.lab_defs_text.specs.Games.{GameModel}
use Rattle.lab_defs_game.specs.Keys.{count, number_of, list_cmp}
use Rattle.lab_defs_game.specs.Histories.{History, reached, histories, inner_histories, outcome_of}
use Rattle.lab_defs_game.specs.Sets.{Item, item_of, seen, public_list, publics, set_cmp, sets, set_number, public_from}
use Rattle.lab_defs_game.specs.Paths.{SetAction, taken_from, parent}
use Rattle.lab_defs_game.specs.Nodes.{begins, nodes, node_sets, span_from, path}
use Rattle.lab_defs_game.specs.Laws.{SetLaw, SetHistoryLaw, NodeLaw, NodeHistoryLaw, SetNodeLaw, SpanLaw, NodeSetLaw, NodeSpanLaw, ParentLaw, FirstSetLaw, AlongLaw, PathParentLaw, FollowerLaw, DepthLaw, BeginsLaw, InsideLaw}
use Rattle.lab_defs_game.proofs.KeyLemmas.{Ascending, in_order_from}
use Rattle.lab_defs_game.proofs.NumberLemmas.{length-filter, number_at, number_below, at_number}
use Rattle.lab_defs_game.proofs.Orders.{list_total, list_exact, set_total}
use Rattle.lab_defs_game.proofs.GameLemmas.{Follows, set_has, set_from, set_cases, sets_ascending, nodes_ascending, node_has, publics_seen, parent_is, parent_before, taken_push, last_push, seen_push}
use Rattle.lab_defs_game.proofs.Spans.{span_is, node_span_is, node_sets_are, eq_is}
use Rattle.lab_defs_game.proofs.Ways.{path_parent, path_has, follower_places, root_number, inside_follower, parent_number}

-- ---- numbers

-- a key of an ascending list stands at its number, and nowhere else
one_place : {K : Type 0} (R : K → K → Ordering) → IsTotalOrder R → (xs : List K) (k d : K) → Ascending R xs → In k xs
    → (number_of R xs k < length xs) × ((i : ℕ) → i < length xs → (get_or xs i d ≡ k) ↔ (i ≡ number_of R xs k))
one_place R o xs k d a h = (
  number_below R o xs k a h,
  λ i l. (λ e. sym (number_at R o xs i d a l) ∙ ap (number_of R xs) e, λ e. ap (λ n. get_or xs n d) e ∙ at_number R o xs k d a h),
)

-- the law of the set of a history
pub set_law : SetLaw
set_law g seat h c =
    one_place set_cmp set_total (sets g seat) (seen g seat h) [] (sets_ascending g seat) (set_has g seat h (in_from_contains (inner_histories g) h c))

-- the law of the histories of a set
pub set_history_law : SetHistoryLaw
set_history_law g seat i l =
    let r = set_from g seat (get_or (sets g seat) i []) (in_get_or (sets g seat) i [] l) in
    (r.0, contains_from_in (inner_histories g) r.0 r.1, r.2)

-- the law of the node of a history
pub node_law : NodeLaw
node_law g h c = one_place list_cmp list_total (nodes g) (public_list g h) [] (nodes_ascending g) (node_has g h (in_from_contains (histories g) h c))

-- the law of the histories of a node
pub node_history_law : NodeHistoryLaw
node_history_law g i l =
    let r = in_from_map (public_list g) (histories g) (get_or (nodes g) i []) (in_order_from list_cmp (map (public_list g) (histories g)) (get_or (nodes g) i []) (in_get_or (nodes g) i [] l)) in
    (r.0, contains_from_in (histories g) r.0 r.1, r.2)

-- the law of the node of a set
pub set_node_law : SetNodeLaw
set_node_law g seat h = publics_seen g seat g.root h

-- ---- spans

-- the law of spans
pub span_law : SpanLaw
span_law g seat node i l = span_is g seat node i [] l

-- the law of the sets of one node
pub node_set_law : NodeSetLaw
node_set_law g seat node i l = (there, back)
  where
    len : length (node_sets g seat node) ≡ count (λ s. is_eq (list_cmp (publics s) node)) (sets g seat)
    len = length-filter (λ s. is_eq (list_cmp (publics s) node)) (sets g seat)

    there : publics (get_or (sets g seat) i []) ≡ node → (span_from g seat node ≤ i) × (i < span_from g seat node + length (node_sets g seat node))
    there e =
        let r = (node_sets_are g seat node i [] l).0 (ap (λ n. is_eq (list_cmp n node)) e ∙ ap is_eq (tied_itself list_total node)) in
        (r.0, subst (λ n. i < span_from g seat node + n) (sym len) r.1)

    back : (span_from g seat node ≤ i) × (i < span_from g seat node + length (node_sets g seat node)) → publics (get_or (sets g seat) i []) ≡ node
    back r =
        list_exact (publics (get_or (sets g seat) i [])) node
        (eq_is (list_cmp (publics (get_or (sets g seat) i [])) node) ((node_sets_are g seat node i [] l).1 ((r.0, subst (λ n. i < span_from g seat node + n) len r.1))))

-- the law of the nodes of a subgame
pub node_span_law : NodeSpanLaw
node_span_law g node i l = node_span_is g node i [] l

-- ---- parents

-- lists that are equal with one more item each are equal, and so are the items
pub push_parts : {K : Type 0} (xs ys : List K) (x y : K) → xs ++ x ∷ [] ≡ ys ++ y ∷ [] → (xs ≡ ys) × (x ≡ y)
push_parts [] [] x y e = (refl, heads e)
  where
    heads : x ∷ [] ≡ y ∷ [] → x ≡ y
    heads e = cc
push_parts {K = K} [] (w ∷ ys) x y e = absurd (never ys (tails e))
  where
    tails : x ∷ [] ≡ w ∷ (ys ++ y ∷ []) → [] ≡ ys ++ y ∷ []
    tails e = cc

    never : (ys : List K) → [] ≡ ys ++ y ∷ [] → ⊥
    never [] e = cc
    never (z ∷ ys) e = cc
push_parts {K = K} (w ∷ xs) [] x y e = absurd (never xs (tails e))
  where
    tails : w ∷ (xs ++ x ∷ []) ≡ y ∷ [] → xs ++ x ∷ [] ≡ []
    tails e = cc

    never : (xs : List K) → xs ++ x ∷ [] ≡ [] → ⊥
    never [] e = cc
    never (z ∷ xs) e = cc
push_parts (v ∷ xs) (w ∷ ys) x y e = at (heads e) (push_parts xs ys x y (tails e))
  where
    heads : v ∷ (xs ++ x ∷ []) ≡ w ∷ (ys ++ y ∷ []) → v ≡ w
    heads e = cc

    tails : v ∷ (xs ++ x ∷ []) ≡ w ∷ (ys ++ y ∷ []) → xs ++ x ∷ [] ≡ ys ++ y ∷ []
    tails e = cc

    at : v ≡ w → (xs ≡ ys) × (x ≡ y) → (v ∷ xs ≡ w ∷ ys) × (x ≡ y)
    at p r = (ap (λ z. z ∷ xs) p ∙ ap (λ zs. w ∷ zs) r.0, r.1)

-- a list with something behind it is not empty
pub push_some : {K : Type 0} (xs : List K) (x : K) → xs ++ x ∷ [] ≡ [] → ⊥
push_some [] x e = cc
push_some (y ∷ xs) x e = cc

-- the history of a set with a last item, without it
pub follows_push : (g : GameModel) (seat : ℕ) (s : List Item) (x : Item) → In (s ++ x ∷ []) (sets g seat) → (f : Follows g seat (s ++ x ∷ [])) × (seen g seat f.history ≡ s)
follows_push g seat s x i = at (set_cases g seat (s ++ x ∷ []) i)
  where
    at : (s ++ x ∷ [] ≡ []) ⊎ Follows g seat (s ++ x ∷ []) → (f : Follows g seat (s ++ x ∷ [])) × (seen g seat f.history ≡ s)
    at (inl e) = absurd (push_some s x e)
    at (inr f) = (f, sym (push_parts s (seen g seat f.history) x (item_of g seat (reached g g.root f.history) f.step) f.made).0)

-- the parent of a list with a last item
pub parent_push : (g : GameModel) (seat : ℕ) (s : List Item) (x : Item) → parent g seat (s ++ x ∷ []) ≡ Some (record { set = set_number g seat s; action = x.action })
parent_push g seat s x = last_push (set_number g seat) [] s x

-- the law of parents
pub parent_law : ParentLaw
parent_law g seat s x c =
    let r = follows_push g seat s x (in_from_contains (sets g seat) (s ++ x ∷ []) c) in (
      subst (λ t. Contains (sets g seat) t) r.1 (contains_from_in (sets g seat) (seen g seat r.0.history) (set_has g seat r.0.history r.0.there)),
      subst (λ t. set_number g seat t < set_number g seat (s ++ x ∷ [])) r.1 (parent_before g seat (s ++ x ∷ []) r.0),
      parent_push g seat s x,
    )

-- the law of the first set
pub first_set_law : FirstSetLaw
first_set_law g seat s c = (
  (λ e. ap (set_number g seat) e ∙ root_number g seat, λ n. first n (set_cases g seat s i)),
  (λ e. ap (parent g seat) e, λ n. second n (set_cases g seat s i)),
)
  where
    i : In s (sets g seat)
    i = in_from_contains (sets g seat) s c

    first : set_number g seat s ≡ 0 → (s ≡ []) ⊎ Follows g seat s → s ≡ []
    first n (inl e) = e
    first n (inr f) = let l = parent_before g seat s f in absurd (omega (arith, l, n))

    never : (t : SetAction) → ◌≡◌ {A = Option SetAction} (Some t) None → ⊥
    never t e = cc

    second : parent g seat s ≡ None → (s ≡ []) ⊎ Follows g seat s → s ≡ []
    second n (inl e) = e
    second n (inr f) = absurd (never _ (sym (parent_is g seat s f) ∙ n))

-- the law of what stands along a history
pub along_law : AlongLaw
along_law g seat h s = (
  ap (taken_from (set_number g seat) []) (seen_push g seat g.root h s) ∙ taken_push (set_number g seat) [] (seen g seat h) (item_of g seat (reached g g.root h) s),
  ap (parent g seat) (seen_push g seat g.root h s) ∙ parent_push g seat (seen g seat h) (item_of g seat (reached g g.root h) s),
)

-- the law of parents on a path
pub path_law : PathParentLaw
path_law g seat node s x c =
    let i = in_from_contains (path g seat node) (s ++ x ∷ []) c in
    let r = follows_push g seat s x (path_has g seat node (s ++ x ∷ []) i).0 in
    let p = path_parent g seat node (s ++ x ∷ []) i r.0 in (
      subst (λ t. Contains (path g seat node) t) r.1 (contains_from_in (path g seat node) (seen g seat r.0.history) p.0),
      subst (λ t. number_of set_cmp (path g seat node) t < number_of set_cmp (path g seat node) (s ++ x ∷ [])) r.1 p.1,
    )

-- the law of those that follow
pub follower_law : FollowerLaw
follower_law g seat node t = follower_places g seat node t

-- ---- subgames

-- the public tokens are as many as the steps
public_length : (g : GameModel) (n : ℕ) (h : History) → length (public_from g n h) ≡ length h
public_length g n [] = refl
public_length g n (s ∷ h) = ap suc (public_length g (outcome_of g n s).next h)

-- the law of depths
pub depth_law : DepthLaw
depth_law g h = public_length g g.root h

-- what begins a list has the rest of it behind
begun_rest : (xs ys : List ℕ) → begins xs ys ≡ true → (rest : List ℕ) × (ys ≡ xs ++ rest)
begun_rest [] ys e = (ys, refl)
begun_rest (x ∷ xs) [] e = absurd cc
begun_rest (x ∷ xs) (y ∷ ys) e =
    let p = and_parts (x == y) (begins xs ys) e in
    let r = begun_rest xs ys p.1 in
    (r.0, ap (λ z. z ∷ ys) (sym (eqb-true x y p.0)) ∙ ap (λ zs. x ∷ zs) r.1)

-- a list begins itself with something behind
begins_more : (xs rest : List ℕ) → begins xs (xs ++ rest) ≡ true
begins_more [] rest = refl
begins_more (x ∷ xs) rest = and_from (x == x) (begins xs (xs ++ rest)) (eq-eqb x x refl) (begins_more xs rest)

-- the law of beginnings
pub begins_law : BeginsLaw
begins_law xs ys = (begun_rest xs ys, λ r. subst (λ z. begins xs z ≡ true) (sym r.1) (begins_more xs r.0))

-- the law of parents inside
pub inside_law : InsideLaw
inside_law g seat node s x c =
    let i = in_from_contains (sets g seat) (s ++ x ∷ []) c in
    let r = follows_push g seat s x i in (
      λ b. inside_follower g seat node (s ++ x ∷ []) r.0 (subst (λ t. begins node (publics t) ≡ true) (sym r.1) b),
      λ b. subst (λ t. (begins node (publics t) ≡ true) ↔ (span_from g seat node ≤ set_number g seat t)) r.1 (parent_number g seat node (s ++ x ∷ []) i r.0 b),
    )
