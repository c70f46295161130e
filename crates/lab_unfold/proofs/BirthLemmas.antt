-- Histories in the order of their parents and last steps.
use Rattle.std.proofs.Common.{◌≡◌, ℕ, zero, suc, ◌-◌, ◌<◌, ◌≤◌, List, [], ◌∷◌, ◌++◌, length, get_or, map, flat_map, Option, Some, None, refl, sym, ap, ◌∙◌, subst, arith, inl, inr, ◌⊎◌}
use Rattle.std.specs.List.{HoldsAt}
use Rattle.std.specs.List.Sorted.{IsStrictlySortedBy, IsNonDecreasingBy, IsPartitionPoint}
use Rattle.std.specs.Option.{option_cmp}
use Rattle.std.specs.Ordering.{nat_cmp, ordering_then, ordering_index, ordering_reverse}
use Rattle.std.specs.declared.cmp.Ordering.{Ordering}
use Rattle.std.specs.declared.cmp.Ordering.TheVariants.{Less, Equal, Greater}
use Rattle.std.specs.Cmp.{IsTotalOrder}
use Rattle.std.specs.Cmp.Lexicographic.{options_total}
use Rattle.std.proofs.lemmas.Cmp.{then_total, on_total, nat_cmp_total, tied_itself}
use Rattle.std.proofs.lemmas.Bool.{cases_lt}
use Rattle.std.proofs.lemmas.Option.{slice_get_within, slice_get-get_or, get_or_from_slice_get}
use Rattle.std.proofs.lemmas.Grind.{flat_map-append}
use Rattle.std.proofs.lemmas.Simd.{map-map}
use Rattle.std.proofs.lemmas.Map.Lookups.{exact_unsigned}
use Rattle.lab_math.proofs.Members.{In, all_in, all_from_in, in_append_left, in_from_map, in_from_flat_map, in_get_or}
use Rattle.lab_defs_text.specs.Games.{GameModel}
use Rattle.lab_defs_game.specs.Histories as model
use Rattle.lab_defs_game.specs.Laws.{history_cmp, step_cmp}
use Rattle.lab_defs_game.proofs.HistoryOrder.{history_total, nat_cmp-less, steps_ascending, ascending_map, ascending_flat_map}
use Rattle.lab_defs_game.proofs.KeyLemmas.{Ascending, sorted_from_ascending, ascending_from_sorted}
use Rattle.lab_defs_game.proofs.NumberLemmas.{number_lt, no_less}
use Rattle.lab_defs_game.proofs.Orders.{then_equal}
use Rattle.lab_unfold.specs.declared.history.HistoryId.{HistoryId}
use Rattle.lab_unfold.specs.declared.history.History.{History}
use Rattle.lab_unfold.specs.declared.history.Step.{Step}
use Rattle.lab_unfold.specs.Births.{id_cmp, place_cmp, birth_cmp, IsChild}
use Rattle.lab_unfold.specs.Levels.{histories_to}
use Rattle.lab_unfold.specs.Values.{step_in, last_step, history_number, parent_in, history_in}
use Rattle.lab_unfold.proofs.ChildLemmas.{map_flat}
use Rattle.lab_unfold.proofs.LevelLemmas.{ascending, last_is, parent_push, prefix}

-- ---- the order of the histories of a game

-- the longer ones of histories and of longer ones
longer_swap : (g : GameModel) (n : ℕ) (hs : List model.History) → model.with_longer g n (flat_map (model.longer g) hs) ≡ flat_map (model.longer g) (model.with_longer g n hs)
longer_swap g zero hs = refl
longer_swap g (suc n) hs =
    ap (λ t. flat_map (model.longer g) hs ++ t) (longer_swap g n (flat_map (model.longer g) hs))
    ∙ sym (flat_map-append (model.longer g) hs (model.with_longer g n (flat_map (model.longer g) hs)))

-- what is in order in front of more
ascending_front : {K : Type 0} (R : K → K → Ordering) (xs ys : List K) → Ascending R (xs ++ ys) → Ascending R xs
ascending_front R [] ys a = tt
ascending_front R (x ∷ xs) ys a = (all_from_in (λ y. R x y ≡ Less) xs (λ y i. all_in (λ y. R x y ≡ Less) (xs ++ ys) y a.0 (in_append_left xs ys y i)), ascending_front R xs ys a.1)

-- the children of a history
abbrev born : GameModel → model.History → List History
born g h = map (history_in g) (model.longer g h)

-- with the same parent the last steps tell the order
by_step : (g : GameModel) (h : model.History) (s t : model.Step) → step_cmp s t ≡ Less → birth_cmp (history_in g (h ++ s ∷ [])) (history_in g (h ++ t ∷ [])) ≡ Less
by_step g h s t l =
    ap (λ p. ordering_then (option_cmp id_cmp p (parent_in g (h ++ t ∷ []))) (option_cmp place_cmp (last_step (h ++ s ∷ [])) (last_step (h ++ t ∷ [])))) (parent_push g h s)
    ∙ ap (λ p. ordering_then (option_cmp id_cmp (Some (record { 0 = history_number g h })) p) (option_cmp place_cmp (last_step (h ++ s ∷ [])) (last_step (h ++ t ∷ [])))) (parent_push g h t)
    ∙ ap (λ c. ordering_then c (option_cmp place_cmp (last_step (h ++ s ∷ [])) (last_step (h ++ t ∷ [])))) (tied_itself nat_cmp_total (history_number g h))
    ∙ ap (λ x. option_cmp place_cmp x (last_step (h ++ t ∷ []))) (last_is h s)
    ∙ ap (λ x. option_cmp place_cmp (Some (step_in s)) x) (last_is h t)
    ∙ l

-- else the parents do
by_parent : (g : GameModel) (h k : model.History) (s t : model.Step) → history_number g h < history_number g k → birth_cmp (history_in g (h ++ s ∷ [])) (history_in g (k ++ t ∷ [])) ≡ Less
by_parent g h k s t l =
    ap (λ p. ordering_then (option_cmp id_cmp p (parent_in g (k ++ t ∷ []))) (option_cmp place_cmp (last_step (h ++ s ∷ [])) (last_step (k ++ t ∷ [])))) (parent_push g h s)
    ∙ ap (λ p. ordering_then (option_cmp id_cmp (Some (record { 0 = history_number g h })) p) (option_cmp place_cmp (last_step (h ++ s ∷ [])) (last_step (k ++ t ∷ [])))) (parent_push g k t)
    ∙ ap (λ c. ordering_then c (option_cmp place_cmp (last_step (h ++ s ∷ [])) (last_step (k ++ t ∷ [])))) (nat_cmp-less (history_number g h) (history_number g k) l)

-- a child is a history with one more step
born_is : (g : GameModel) (h : model.History) (u : History) → In u (born g h) → (s : model.Step) × (history_in g (h ++ s ∷ []) ≡ u)
born_is g h u i =
    let k = in_from_map (history_in g) (model.longer g h) u i in
    let s = in_from_map (λ s. h ++ s ∷ []) (model.steps_of (model.place_of g h)) k.0 k.1 in
    (s.0, ap (history_in g) s.2 ∙ k.2)

-- the children of one history stand in order
born_ascending : (g : GameModel) (h : model.History) → Ascending birth_cmp (born g h)
born_ascending g h =
    subst (Ascending birth_cmp) (sym (map-map (history_in g) (λ s. h ++ s ∷ []) (model.steps_of (model.place_of g h))))
    (ascending_map step_cmp birth_cmp (λ s. history_in g (h ++ s ∷ [])) (model.steps_of (model.place_of g h)) (steps_ascending (model.place_of g h)) (by_step g h))

-- so do those of all histories of fewer steps than the horizon
births_ascending : (g : GameModel) (n : ℕ) → n ≤ g.horizon → Ascending birth_cmp (flat_map (born g) (histories_to g n))
births_ascending g n l =
    ascending_flat_map history_cmp birth_cmp (born g) hs front (λ h i. born_ascending g h)
    (λ h k i j less u v iu iv. at h k (number_lt history_cmp history_total (model.histories g) h k (ascending g) (there h i) less) u v (born_is g h u iu) (born_is g k v iv))
  where
    hs : List model.History
    hs = histories_to g n

    front : Ascending history_cmp hs
    front = let p = prefix g n l in ascending_front history_cmp hs p.0 (subst (Ascending history_cmp) p.1 (ascending g))

    there : (h : model.History) → In h hs → In h (model.histories g)
    there h i = let p = prefix g n l in subst (In h) (sym p.1) (in_append_left hs p.0 h i)

    at : (h k : model.History) → history_number g h < history_number g k → (u v : History) → (s : model.Step) × (history_in g (h ++ s ∷ []) ≡ u)
        → (t : model.Step) × (history_in g (k ++ t ∷ []) ≡ v) → birth_cmp u v ≡ Less
    at h k less u v s t = subst (λ u. birth_cmp u v ≡ Less) s.1 (subst (λ v. birth_cmp (history_in g (h ++ s.0 ∷ [])) v ≡ Less) t.1 (by_parent g h k s.0 t.0 less))

-- the history with no step stands before all others
first_born : (g : GameModel) (hs : List model.History) (v : History) → In v (flat_map (born g) hs) → birth_cmp (history_in g []) v ≡ Less
first_born g hs v i =
    let h = in_from_flat_map (born g) hs v i in
    let s = born_is g h.0 v h.2 in
    subst (λ v. birth_cmp (history_in g []) v ≡ Less) s.1
    (ap (λ p. ordering_then (option_cmp id_cmp None p) (option_cmp place_cmp None (last_step (h.0 ++ s.0 ∷ [])))) (parent_push g h.0 s.0))

-- all histories stand in the order of their parents and last steps
pub births_sorted : (g : GameModel) (items : List History) → 0 < g.horizon → items ≡ map (history_in g) (model.histories g) → IsStrictlySortedBy birth_cmp items
births_sorted g items some e =
    sorted_from_ascending birth_cmp items (subst (Ascending birth_cmp) (sym (e ∙ all)) (all_from_in (λ v. birth_cmp (history_in g []) v ≡ Less) (flat_map (born g) hs) (first_born g hs), births_ascending g n (omega arith)))
  where
    n : ℕ
    n = g.horizon - 1

    hs : List model.History
    hs = histories_to g n

    long : g.horizon ≡ suc n
    long = omega (arith, some)

    all : map (history_in g) (model.histories g) ≡ history_in g [] ∷ flat_map (born g) hs
    all =
        ap (λ k. map (history_in g) (histories_to g k)) long ∙ ap (λ hs. history_in g [] ∷ map (history_in g) hs) (longer_swap g n ([] ∷ []))
        ∙ ap (λ t. history_in g [] ∷ t) (map_flat (history_in g) (model.longer g) hs)

-- ---- a search

-- a parent and a step
abbrev Key : Type 0
Key = Option HistoryId × Option Step

-- their order
abbrev pub key_cmp : Option HistoryId × Option Step → Option HistoryId × Option Step → Ordering
key_cmp x y = ordering_then (option_cmp id_cmp x.0 y.0) (option_cmp place_cmp x.1 y.1)

-- it is total
key_total : IsTotalOrder key_cmp
key_total =
    then_total (on_total (λ (x : Key). x.0) (options_total (on_total (λ (i : HistoryId). i.0) nat_cmp_total)))
    (on_total (λ (x : Key). x.1)
    (options_total (then_total (on_total (λ (s : Step). s.place1) nat_cmp_total) (then_total (on_total (λ (s : Step). s.place2) nat_cmp_total) (on_total (λ (s : Step). s.outcome) nat_cmp_total)))))

-- of items in order each is less than those after it
pub at_less : {K : Type 0} (R : K → K → Ordering) (xs : List K) (i j : ℕ) (d : K) → Ascending R xs → i < j → j < length xs → R (get_or xs i d) (get_or xs j d) ≡ Less
at_less R [] i j d a l h = absurd (omega (arith, h))
at_less R (x ∷ xs) i zero d a l h = absurd (omega (arith, l))
at_less R (x ∷ xs) zero (suc j) d a l h = all_in (λ y. R x y ≡ Less) xs (get_or xs j d) a.0 (in_get_or xs j d (omega (arith, h)))
at_less R (x ∷ xs) (suc i) (suc j) d a l h = at_less R xs i j d a.1 (omega (arith, l)) (omega (arith, h))

-- what stands before another compares to a key no later
index_rises : (x y k : Key) → key_cmp x y ≡ Less → ordering_index (key_cmp x k) ≤ ordering_index (key_cmp y k)
index_rises x y k l = at (key_cmp y k) refl
  where
    most : (o : Ordering) → ordering_index o ≤ 2
    most Less = omega arith
    most Equal = omega arith
    most Greater = omega arith

    at : (o : Ordering) → key_cmp y k ≡ o → ordering_index (key_cmp x k) ≤ ordering_index o
    at Less e = let i = ap ordering_index (key_total.trans x y k l e) in omega (arith, i)
    at Equal e =
        let back : key_cmp k x ≡ Greater = sym (key_total.congr y k x e) ∙ key_total.antisymm y x ∙ ap ordering_reverse l in
        let i = ap ordering_index (key_total.antisymm x k ∙ ap ordering_reverse back) in
        omega (arith, i)
    at Greater e = most (key_cmp x k)

-- along items in order the comparison to a key rises
pub rises : (items : List History) (k : Option HistoryId × Option Step) → IsStrictlySortedBy birth_cmp items → IsNonDecreasingBy (λ (h : History). ordering_index (key_cmp (h.parent, h.step) k)) items
rises items k sorted i j d l h = at (cases_lt i j)
  where
    index : ℕ → ℕ
    index n = ordering_index (key_cmp ((get_or items n d).parent, (get_or items n d).step) k)

    at : (i < j) ⊎ (j ≤ i) → index i ≤ index j
    at (inl less) =
        index_rises ((get_or items i d).parent, (get_or items i d).step) ((get_or items j d).parent, (get_or items j d).step) k
        (at_less birth_cmp items i j d (ascending_from_sorted birth_cmp items sorted) less h)
    at (inr le) = let e : i ≡ j = omega (arith, l, le) in subst (λ n. index n ≤ index j) (sym e) (omega arith)

-- a parent that compares equal is that parent
same_parent : (p : Option HistoryId) (id : HistoryId) → option_cmp id_cmp p (Some id) ≡ Equal → p ≡ Some id
same_parent None id e = absurd (never e)
  where
    never : Less ≡ Equal → ⊥
    never e = cc
same_parent (Some i) id e = ap (λ n. Some (record { 0 = n })) (exact_unsigned i.0 id.0 e)

-- a step that compares equal is that step
same_step : (t : Option Step) (s : Step) → option_cmp place_cmp t (Some s) ≡ Equal → t ≡ Some s
same_step None s e = absurd (never e)
  where
    never : Less ≡ Equal → ⊥
    never e = cc
same_step (Some t) s e =
    let one = then_equal (nat_cmp t.place1 s.place1) (ordering_then (nat_cmp t.place2 s.place2) (nat_cmp t.outcome s.outcome)) e in
    let two = then_equal (nat_cmp t.place2 s.place2) (nat_cmp t.outcome s.outcome) one.1 in
    ap (λ n. Some (record { place1 = n; place2 = t.place2; outcome = t.outcome })) (exact_unsigned t.place1 s.place1 one.0)
    ∙ ap (λ n. Some (record { place1 = s.place1; place2 = n; outcome = t.outcome })) (exact_unsigned t.place2 s.place2 two.0)
    ∙ ap (λ n. Some (record { place1 = s.place1; place2 = s.place2; outcome = n })) (exact_unsigned t.outcome s.outcome two.1)

-- what compares equal is the child
pub child_found : (items : List History) (id : HistoryId) (s : Step) (n : ℕ) → n < length items → HoldsAt (λ (h : History). key_cmp (h.parent, h.step) (Some id, Some s) ≡ Equal) items n → IsChild items id s n
child_found items id s n l e =
    let none : History = record { parent = None; step = None; world = record { 0 = 0 }; depth = 0 } in
    let h : History = get_or items n none in
    let both = then_equal (option_cmp id_cmp h.parent (Some id)) (option_cmp place_cmp h.step (Some s)) (e none) in
    (h, slice_get-get_or items n none l, same_parent h.parent id both.0, same_step h.step s both.1)

-- where all compare less or greater, none is the child
pub no_child : (items : List History) (id : HistoryId) (s : Step) (n : ℕ)
    → IsPartitionPoint (λ (h : History). key_cmp (h.parent, h.step) (Some id, Some s) ≡ Less) (λ (h : History). key_cmp (h.parent, h.step) (Some id, Some s) ≡ Greater) items n
    → (k : ℕ) → IsChild items id s k → ⊥
no_child items id s n apart k c = at (cases_lt k n)
  where
    h : History
    h = c.0

    equal : key_cmp (h.parent, h.step) (Some id, Some s) ≡ Equal
    equal =
        ap (λ p. key_cmp (p, h.step) (Some id, Some s)) c.2 ∙ ap (λ t. key_cmp (Some id, t) (Some id, Some s)) c.3 ∙ tied_itself key_total (Some id, Some s)

    read : get_or items k h ≡ h
    read = get_or_from_slice_get items k h h c.1

    below : k < length items
    below = slice_get_within items k h c.1

    never : Greater ≡ Equal → ⊥
    never e = cc

    at : (k < n) ⊎ (n ≤ k) → ⊥
    at (inl l) = no_less (subst (λ (q : History). key_cmp (q.parent, q.step) (Some id, Some s) ≡ Less) read (apart.0 k h (omega arith) l)) equal
    at (inr l) = never (sym (subst (λ (q : History). key_cmp (q.parent, q.step) (Some id, Some s) ≡ Greater) read (apart.1 k h l below)) ∙ equal)
