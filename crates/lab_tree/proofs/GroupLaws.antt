-- The sets of a game's tree that follow the same step at the same node stand side by side.
use Rattle.std.proofs.Common.{◌≡◌, ℕ, ◌<◌, ◌≤◌, List, [], ◌∷◌, ◌++◌, true, length, get_or, Option, Some, None, refl, sym, ap, ◌∙◌, subst, arith, inl, inr, ◌⊎◌}
use Rattle.std.specs.Option.{option_map}
use Rattle.std.specs.Ordering.{nat_cmp, ordering_then, ordering_reverse}
use Rattle.std.specs.Cmp.{IsTotalOrder}
use Rattle.std.specs.Cmp.Lexicographic.{slice_cmp}
use Rattle.std.specs.declared.cmp.Ordering.{Ordering}
use Rattle.std.specs.declared.cmp.Ordering.TheVariants.{Less, Equal, Greater}
use Rattle.std.proofs.lemmas.Bool.{cases_lt, cases_eq}
use Rattle.std.proofs.lemmas.Cmp.{nat_cmp_total, tied_itself}
use Rattle.std.proofs.lemmas.List.{length-map}
use Rattle.std.proofs.lemmas.Map.Lookups.{CmpEqualImpliesEq, exact_unsigned}
use Rattle.lab_math.proofs.Members.{In, in_get_or}
use Rattle.lab_defs_text.specs.Games.{GameModel}
use Rattle.lab_defs_game.specs.Histories.{reached}
use Rattle.lab_defs_game.specs.Keys.{list_cmp}
use Rattle.lab_defs_game.specs.Nodes.{nodes, node_number}
use Rattle.lab_defs_game.specs.Paths.{parent}
use Rattle.lab_defs_game.specs.Sets.{Item, item_of, publics, seen, item_cmp, set_cmp, sets, set_number}
use Rattle.lab_defs_game.proofs.GameLemmas.{Follows, set_cases, set_has, sets_ascending, nodes_ascending, parent_is}
use Rattle.lab_defs_game.proofs.HistoryOrder.{nat_cmp-less}
use Rattle.lab_defs_game.proofs.NumberLemmas.{no_less, number_same}
use Rattle.lab_defs_game.proofs.Orders.{list_total, item_total, item_exact, set_total, then_less, publics-push}
use Rattle.lab_defs_game.proofs.TreeLaws.{push_parts, push_some}
use Rattle.lab_form.specs.declared.items.SetId.{SetId}
use Rattle.lab_unfold.proofs.CallerLemmas.{at_less}
use Rattle.lab_tree.specs.declared.info.SetInfo.{SetInfo}
use Rattle.lab_tree.specs.Trees.{set_in, taken_in}
use Rattle.lab_tree.specs.Places.{is_kin, set_read}
use Rattle.lab_tree.specs.WayLaws.{tree_sets, GroupedLaw}
use Rattle.lab_tree.proofs.KinLemmas.{kin_self, kin_is, kin_from}
use Rattle.lab_tree.proofs.SpanLemmas.{set_at_node}
use Rattle.lab_tree.proofs.SetLaws.{read_set, set_node_rise}

-- ---- orders

-- what compares as less is less
less_below : (m n : ℕ) → nat_cmp m n ≡ Less → m < n
less_below m n e = at (cases_lt m n)
  where
    never : Greater ≡ Less → ⊥
    never e = cc

    at : (m < n) ⊎ (n ≤ m) → m < n
    at (inl l) = l
    at (inr l) = by (cases_lt n m)
      where
        by : (n < m) ⊎ (m ≤ n) → m < n
        by (inl b) = absurd (never (sym (nat_cmp_total.antisymm m n ∙ ap ordering_reverse (nat_cmp-less n m b)) ∙ e))
        by (inr b) = let q : n ≡ m = omega (arith, l, b) in absurd (no_less e (ap (nat_cmp m) q ∙ tied_itself nat_cmp_total m))

-- what stands before another has no greater action
action_rise : (x y : Item) → item_cmp x y ≡ Less → x.action ≤ y.action
action_rise x y l = at (then_less (nat_cmp x.action y.action) (ordering_then (nat_cmp x.own y.own) (nat_cmp x.public y.public)) l)
  where
    at : (nat_cmp x.action y.action ≡ Less) ⊎ ((nat_cmp x.action y.action ≡ Equal) × (ordering_then (nat_cmp x.own y.own) (nat_cmp x.public y.public) ≡ Less)) → x.action ≤ y.action
    at (inl less) = let b = less_below x.action y.action less in omega (arith, b)
    at (inr both) = let e = exact_unsigned x.action y.action both.0 in omega (arith, e)

module _ {K : Type 0} (R : K → K → Ordering) (total : IsTotalOrder R) (exact : CmpEqualImpliesEq R) where
  -- nothing is before itself
  not_before : (x : K) → R x x ≡ Less → ⊥
  not_before x l = no_less l (tied_itself total x)

  -- a list between two that differ in their last elements at most does so too
  squeezed : (u v : List K) (x y z : K) → length u ≡ length v → slice_cmp R (u ++ x ∷ []) (v ++ y ∷ []) ≡ Less → slice_cmp R (v ++ y ∷ []) (u ++ z ∷ []) ≡ Less
      → (u ≡ v) × (R x y ≡ Less) × (R y z ≡ Less)
  squeezed [] [] x y z n a b = (refl, last x y a, last y z b)
    where
      never : Equal ≡ Less → ⊥
      never e = cc

      last : (p q : K) → slice_cmp R (p ∷ []) (q ∷ []) ≡ Less → R p q ≡ Less
      last p q l = at (then_less (R p q) Equal l)
        where
          at : (R p q ≡ Less) ⊎ ((R p q ≡ Equal) × (Equal ≡ Less)) → R p q ≡ Less
          at (inl less) = less
          at (inr both) = absurd (never both.1)
  squeezed [] (q ∷ v) x y z n a b = absurd (omega (arith, n))
  squeezed (p ∷ u) [] x y z n a b = absurd (omega (arith, n))
  squeezed (p ∷ u) (q ∷ v) x y z n a b =
      at (then_less (R p q) (slice_cmp R (u ++ x ∷ []) (v ++ y ∷ [])) a) (then_less (R q p) (slice_cmp R (v ++ y ∷ []) (u ++ z ∷ [])) b)
      (λ c d. squeezed u v x y z (omega (arith, n)) c d)
    where
      at : (R p q ≡ Less) ⊎ ((R p q ≡ Equal) × (slice_cmp R (u ++ x ∷ []) (v ++ y ∷ []) ≡ Less)) → (R q p ≡ Less) ⊎ ((R q p ≡ Equal) × (slice_cmp R (v ++ y ∷ []) (u ++ z ∷ []) ≡ Less))
          → (slice_cmp R (u ++ x ∷ []) (v ++ y ∷ []) ≡ Less → slice_cmp R (v ++ y ∷ []) (u ++ z ∷ []) ≡ Less → (u ≡ v) × (R x y ≡ Less) × (R y z ≡ Less))
          → (p ∷ u ≡ q ∷ v) × (R x y ≡ Less) × (R y z ≡ Less)
      at (inl l) (inl m) rest = absurd (not_before p (total.trans p q p l m))
      at (inl l) (inr m) rest = absurd (not_before q (subst (λ w. R w q ≡ Less) (sym (exact q p m.0)) l))
      at (inr l) (inl m) rest = absurd (not_before p (subst (λ w. R w p ≡ Less) (sym (exact p q l.0)) m))
      at (inr l) (inr m) rest =
          let r = rest l.1 m.1 in
          (ap (λ w. w ∷ u) (exact p q l.0) ∙ ap (λ ws. q ∷ ws) r.0, r.1, r.2)

-- ---- sets

-- sets of one node in their order differ by what was seen
seen_less : (s t : List Item) → publics s ≡ publics t → set_cmp s t ≡ Less → slice_cmp item_cmp s t ≡ Less
seen_less s t e l = at (then_less (list_cmp (publics s) (publics t)) (slice_cmp item_cmp s t) l)
  where
    at : (list_cmp (publics s) (publics t) ≡ Less) ⊎ ((list_cmp (publics s) (publics t) ≡ Equal) × (slice_cmp item_cmp s t ≡ Less)) → slice_cmp item_cmp s t ≡ Less
    at (inl less) = absurd (no_less less (ap (list_cmp (publics s)) (sym e) ∙ tied_itself list_total (publics s)))
    at (inr both) = both.1

-- the last item that a set follows by
abbrev last_item : (g : GameModel) (seat : ℕ) (s : List Item) → Follows g seat s → Item
last_item g seat s f = item_of g seat (reached g g.root f.history) f.step

-- steps that are one in the tree are one
same_taken : (m n a b : ℕ) → ◌≡◌ {A = Option (SetId × ℕ)} (Some (record { 0 = m }, a)) (Some (record { 0 = n }, b)) → (m ≡ n) × (a ≡ b)
same_taken m n a b e = (of_some (λ t. t.0.0) e, of_some (λ t. t.1) e)
  where
    of_some : (f : SetId × ℕ → ℕ) → ◌≡◌ {A = Option (SetId × ℕ)} (Some (record { 0 = m }, a)) (Some (record { 0 = n }, b)) → f (record { 0 = m }, a) ≡ f (record { 0 = n }, b)
    of_some f e = ap (λ (o : Option (SetId × ℕ)). elim o [ Some t ↦ f t | None ↦ 0 ]) e

module _ (g : GameModel) (seat : ℕ) where
  -- of three sets of one node in their order, the first and last of which follow the same step, the middle one does so too
  middle : (r s t : List Item) → In r (sets g seat) → In s (sets g seat) → In t (sets g seat) → publics r ≡ publics s → publics s ≡ publics t → set_cmp r s ≡ Less → set_cmp s t ≡ Less
      → option_map taken_in (parent g seat r) ≡ option_map taken_in (parent g seat t) → option_map taken_in (parent g seat r) ≡ option_map taken_in (parent g seat s)
  middle r s t ir is it a b l m e = at (set_cases g seat r ir) (set_cases g seat s is) (set_cases g seat t it)
    where
      never : (q : SetId × ℕ) → ◌≡◌ {A = Option (SetId × ℕ)} None (Some q) → ⊥
      never q e = cc

      no_publics : (w : List Item) → publics w ≡ [] → w ≡ []
      no_publics [] e = refl
      no_publics (x ∷ w) e = absurd (push (x.public) (publics w) e)
        where
          push : (n : ℕ) (ns : List ℕ) → n ∷ ns ≡ [] → ⊥
          push n ns e = cc

      at : (r ≡ []) ⊎ Follows g seat r → (s ≡ []) ⊎ Follows g seat s → (t ≡ []) ⊎ Follows g seat t → option_map taken_in (parent g seat r) ≡ option_map taken_in (parent g seat s)
      at (inl n) fs ft = ap (λ w. option_map taken_in (parent g seat w)) (n ∙ sym (no_publics s (sym a ∙ ap publics n)))
      at (inr f) (inl n) ft =
          absurd (push_some (publics (seen g seat f.history)) (last_item g seat r f).public
          (sym (publics-push (seen g seat f.history) (last_item g seat r f)) ∙ sym (ap publics f.made) ∙ a ∙ ap publics n))
      at (inr f) (inr h) (inl n) =
          absurd (never _ (sym (ap (λ w. option_map taken_in (parent g seat w)) n) ∙ sym e ∙ ap (option_map taken_in) (parent_is g seat r f)))
      at (inr f) (inr h) (inr k) =
          let u = seen g seat f.history in
          let v = seen g seat h.history in
          let w = seen g seat k.history in
          let x = last_item g seat r f in
          let y = last_item g seat s h in
          let z = last_item g seat t k in
          let ends = same_taken (set_number g seat u) (set_number g seat w) x.action z.action
          (sym (ap (option_map taken_in) (parent_is g seat r f)) ∙ e ∙ ap (option_map taken_in) (parent_is g seat t k)) in
          let same : u ≡ w = number_same set_cmp set_total (sets g seat) u w (sets_ascending g seat) (set_has g seat f.history f.there) (set_has g seat k.history k.there) ends.0 in
          let lists = push_parts (publics u) (publics v) x.public y.public (sym (publics-push u x) ∙ sym (ap publics f.made) ∙ a ∙ ap publics h.made ∙ publics-push v y) in
          let long : length u ≡ length v = sym (length-map u (λ (q : Item). q.public)) ∙ ap length lists.0 ∙ length-map v (λ (q : Item). q.public) in
          let one : slice_cmp item_cmp (u ++ x ∷ []) (v ++ y ∷ []) ≡ Less =
          ap (λ q. slice_cmp item_cmp q (v ++ y ∷ [])) (sym f.made) ∙ ap (slice_cmp item_cmp r) (sym h.made) ∙ seen_less r s a l in
          let two : slice_cmp item_cmp (v ++ y ∷ []) (u ++ z ∷ []) ≡ Less =
          ap (λ q. slice_cmp item_cmp (v ++ y ∷ []) (q ++ z ∷ [])) same ∙ ap (λ q. slice_cmp item_cmp q (w ++ z ∷ [])) (sym h.made) ∙ ap (slice_cmp item_cmp s) (sym k.made) ∙ seen_less s t b m in
          let between = squeezed item_cmp item_total item_exact u v x y z long one two in
          let action : x.action ≡ y.action = omega (arith, action_rise x y between.1, action_rise y z between.2, ends.1) in
          ap (option_map taken_in) (parent_is g seat r f)
          ∙ ap (λ q. told (set_number g seat q) x.action) between.0 ∙ ap (told (set_number g seat v)) action
          ∙ sym (ap (option_map taken_in) (parent_is g seat s h))
        where
          told : ℕ → ℕ → Option (SetId × ℕ)
          told n q = Some (record { 0 = n }, q)

-- the law of sets that stand side by side
pub grouped_law : GroupedLaw
grouped_law g seat i j k le1 le2 l kin = at (cases_eq i j) (cases_eq j k)
  where
    below : (n : ℕ) → n ≤ k → n < length (sets g seat)
    below n b = omega (arith, b, l, length-map (sets g seat) (set_in g seat))

    at : (i ≡ j) ⊎ (i ≡ j → ⊥) → (j ≡ k) ⊎ (j ≡ k → ⊥) → is_kin (set_read (tree_sets g seat) i) (set_read (tree_sets g seat) j) ≡ true
    at (inl e) b = ap (λ n. is_kin (set_read (tree_sets g seat) i) (set_read (tree_sets g seat) n)) (sym e) ∙ kin_self (set_read (tree_sets g seat) i)
    at (inr n) (inl e) = ap (λ n. is_kin (set_read (tree_sets g seat) i) (set_read (tree_sets g seat) n)) e ∙ kin
    at (inr n) (inr o) =
        let r = get_or (sets g seat) i [] in
        let s = get_or (sets g seat) j [] in
        let t = get_or (sets g seat) k [] in
        let lj = below j le2 in
        let lk = below k (omega arith) in
        let li = below i (omega (arith, le1, le2)) in
        let ir = in_get_or (sets g seat) i [] li in
        let is = in_get_or (sets g seat) j [] lj in
        let it = in_get_or (sets g seat) k [] lk in
        let first = at_less set_cmp (sets g seat) i j [] (sets_ascending g seat) (apart i j le1 n) lj in
        let second = at_less set_cmp (sets g seat) j k [] (sets_ascending g seat) (apart j k le2 o) lk in
        let both = kin_is (set_read (tree_sets g seat) i) (set_read (tree_sets g seat) k) kin in
        let node = sym (ap (λ (q : SetInfo). q.node.0) (read_set g seat i li)) ∙ both.0 ∙ ap (λ (q : SetInfo). q.node.0) (read_set g seat k lk) in
        let par = sym (ap (λ (q : SetInfo). q.parent) (read_set g seat i li)) ∙ both.1 ∙ ap (λ (q : SetInfo). q.parent) (read_set g seat k lk) in
        let up1 = set_node_rise g r s first in
        let up2 = set_node_rise g s t second in
        let same1 : node_number g (publics r) ≡ node_number g (publics s) = omega (arith, node, up1, up2) in
        let same2 : node_number g (publics s) ≡ node_number g (publics t) = omega (arith, node, up1, up2) in
        let lists1 = number_same list_cmp list_total (nodes g) (publics r) (publics s) (nodes_ascending g) (set_at_node g seat r ir) (set_at_node g seat s is) same1 in
        let lists2 = number_same list_cmp list_total (nodes g) (publics s) (publics t) (nodes_ascending g) (set_at_node g seat s is) (set_at_node g seat t it) same2 in
        kin_from (set_read (tree_sets g seat) i) (set_read (tree_sets g seat) j)
        (ap (λ (q : SetInfo). q.node.0) (read_set g seat i li) ∙ same1 ∙ sym (ap (λ (q : SetInfo). q.node.0) (read_set g seat j lj)))
        (ap (λ (q : SetInfo). q.parent) (read_set g seat i li) ∙ middle g seat r s t ir is it lists1 lists2 first second par ∙ sym (ap (λ (q : SetInfo). q.parent) (read_set g seat j lj)))
      where
        apart : (m n : ℕ) → m ≤ n → (m ≡ n → ⊥) → m < n
        apart m n l e = omega (arith, l, e)
