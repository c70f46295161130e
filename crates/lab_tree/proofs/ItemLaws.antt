-- The items of the paths of a game's tree.
use Rattle.std.proofs.Common.{◌≡◌, ℕ, zero, suc, ◌+◌, ◌-◌, ◌<◌, ◌≤◌, List, [], ◌∷◌, ◌++◌, Bool, true, false, cond, ◌&&◌, length, map, filter, take, drop, get_or, Option, Some, None, refl, sym, ap, ◌∙◌, subst, arith, inl, inr, ◌⊎◌}
use Rattle.std.specs.Prelude.{◌==◌, slice_index, slice_range}
use Rattle.std.specs.Option.{option_map}
use Rattle.std.specs.Ordering.{is_eq}
use Rattle.std.specs.Cmp.{both_ways}
use Rattle.std.proofs.lemmas.Bool.{cases_lt, and_parts, and_from, eqb-true, eq-eqb}
use Rattle.std.proofs.lemmas.List.{map-append, take-map, drop-map, drop_more, take-append-drop, same_lists, get_or-map, length-map, length-append}
use Rattle.std.proofs.lemmas.List.FromFn.{length-map-range_with_len, get_or-map-range_with_len}
use Rattle.std.proofs.Math.Seq.{take-append_seam, get_or-append_seam}
use Rattle.lab_math.proofs.Members.{In, in_get_or, in_from_filter}
use Rattle.lab_defs_text.specs.Games.{GameModel}
use Rattle.lab_defs_game.specs.Paths.{SetAction, parent, is_taken}
use Rattle.lab_defs_game.specs.Keys.{count, number_of, list_cmp}
use Rattle.lab_defs_game.specs.Nodes as model
use Rattle.lab_defs_game.specs.Sets.{Item, publics, seen, set_cmp, sets, set_number}
use Rattle.lab_defs_game.proofs.GameLemmas.{Follows, set_cases, set_has, sets_ascending, nodes_ascending, parent_is}
use Rattle.lab_defs_game.proofs.KeyLemmas.{filter_ascending}
use Rattle.lab_defs_game.proofs.NumberLemmas.{number_at, at_number, number_below, number_same}
use Rattle.lab_defs_game.proofs.Orders.{list_total, list_exact, set_total}
use Rattle.lab_defs_game.proofs.Spans.{eq_is}
use Rattle.lab_defs_game.proofs.TreeLaws.{begins_law}
use Rattle.lab_form.specs.declared.items.SetId.{SetId}
use Rattle.lab_tree.specs.declared.info.NodeId.{NodeId}
use Rattle.lab_tree.specs.declared.info.SetInfo.{SetInfo}
use Rattle.lab_tree.specs.declared.info.PathItem.{PathItem}
use Rattle.lab_tree.specs.Trees.{set_in, taken_in}
use Rattle.lab_tree.specs.Ways.{built, AreWays, way_before, path_next, all_paths, path_in, bases_of}
use Rattle.lab_tree.specs.Places.{is_kin, set_read, index_of, item_of, items_of}
use Rattle.lab_tree.specs.WayLaws.{tree_sets, AreStarts, AreParents}
use Rattle.lab_tree.proofs.KinLemmas.{kin_is, kin_from}
use Rattle.lab_tree.proofs.SpanLemmas.{set_at_node}
use Rattle.lab_tree.proofs.SetLaws.{read_set}
use Rattle.lab_tree.proofs.WayLemmas.{step_up, no_up, item_here}
use Rattle.lab_tree.proofs.WaySets.{set_ways, sets_at, place_in_range}

-- ---- paths of what is made

module _ {X Y : Type 0} (f : X → Y) (xs : List X) (starts : List ℕ) where
  -- a list of made lists, at a place
  read_made : (ys : List (List X)) (k : ℕ) → get_or (map (map f) ys) k [] ≡ map f (get_or ys k [])
  read_made [] k = refl
  read_made (y ∷ ys) zero = refl
  read_made (y ∷ ys) (suc k) = read_made ys k

  -- the next path of what is made
  next_made : (n : ℕ) (ys : List (List X)) (o : Option NodeId) → path_next (map f xs) starts n (map (map f) ys) o ≡ map f (path_next xs starts n ys o)
  next_made n ys o =
      ap (λ w. w ++ slice_range (map f xs) a b) (up o)
      ∙ ap (λ w. map f (way_before ys o) ++ w) (ap (take (b - a)) (drop-map f a xs) ∙ take-map f (b - a) (drop a xs))
      ∙ sym (map-append f (way_before ys o) (slice_range xs a b))
    where
      a : ℕ
      a = slice_index starts n

      b : ℕ
      b = slice_index starts (n + 1)

      up : (o : Option NodeId) → way_before (map (map f) ys) o ≡ map f (way_before ys o)
      up None = refl
      up (Some q) = read_made ys q.0

  -- all paths of what is made
  built_made : (done : List (List X)) (parents : List (Option NodeId)) → built (path_next (map f xs) starts) (map (map f) done) parents ≡ map (map f) (built (path_next xs starts) done parents)
  built_made done [] = refl
  built_made done (o ∷ parents) =
      let y = path_next xs starts (length done) done o in
      ap (λ n. built (path_next (map f xs) starts) (map (map f) done ++ path_next (map f xs) starts n (map (map f) done) o ∷ []) parents) (length-map done (map f))
      ∙ ap (λ z. built (path_next (map f xs) starts) (map (map f) done ++ z ∷ []) parents) (next_made (length done) done o)
      ∙ ap (λ zs. built (path_next (map f xs) starts) zs parents) (sym (map-append (map f) done (y ∷ []))) ∙ built_made (done ++ y ∷ []) parents

  -- a path of what is made
  pub path_made : (parents : List (Option NodeId)) (n : ℕ) → path_in (map f xs) starts parents n ≡ map f (path_in xs starts parents n)
  path_made parents n = ap (λ ys. get_or ys n []) (built_made [] parents) ∙ read_made (all_paths xs starts parents) n

-- ---- counting what is kept

-- a count of what is kept
pub count-filter : {X : Type 0} (p q : X → Bool) (xs : List X) → count q (filter p xs) ≡ count (λ x. p x && q x) xs
count-filter p q [] = refl
count-filter p q (x ∷ xs) = at (p x) (count-filter p q xs)
  where
    at : (b : Bool) → count q (filter p xs) ≡ count (λ x. p x && q x) xs → count q (cond b (x ∷ filter p xs) (filter p xs)) ≡ cond (b && q x) 1 0 + count (λ x. p x && q x) xs
    at true r = ap (λ n. cond (q x) 1 0 + n) r
    at false r = omega (arith, r)

-- what is kept of two lists
filter-append : {X : Type 0} (p : X → Bool) (xs ys : List X) → filter p (xs ++ ys) ≡ filter p xs ++ filter p ys
filter-append p [] ys = refl
filter-append p (x ∷ xs) ys = at (p x) (filter-append p xs ys)
  where
    at : (b : Bool) → filter p (xs ++ ys) ≡ filter p xs ++ filter p ys → cond b (x ∷ filter p (xs ++ ys)) (filter p (xs ++ ys)) ≡ cond b (x ∷ filter p xs) (filter p xs) ++ filter p ys
    at true r = ap (λ t. x ∷ t) r
    at false r = r

module _ (g : GameModel) (seat : ℕ) (starts : List ℕ) (parents : List (Option NodeId)) (s : AreStarts g (tree_sets g seat) starts) (p : AreParents g parents) where
  -- the bases of the ways
  abbrev pub bases : List ℕ
  bases = bases_of starts parents

  -- a set as an item
  abbrev pub made : List Item → PathItem
  made y = item_of (tree_sets g seat) starts bases (set_number g seat y)

  -- the set of the tree that a set is
  pub read_own : (y : List Item) → In y (sets g seat) → set_read (tree_sets g seat) (set_number g seat y) ≡ set_in g seat y
  read_own y i =
      read_set g seat (set_number g seat y) (number_below set_cmp set_total (sets g seat) y (sets_ascending g seat) i)
      ∙ ap (set_in g seat) (at_number set_cmp set_total (sets g seat) y [] (sets_ascending g seat) i)

  -- all items are those of the sets
  pub items_are : items_of (tree_sets g seat) starts bases ≡ map made (sets g seat)
  items_are =
      same_lists (items_of (tree_sets g seat) starts bases) (map made (sets g seat)) (long ∙ sym (length-map (sets g seat) made))
      (λ k d l.
      let below : k < length (tree_sets g seat) = omega (arith, l, length-map-range_with_len (item_of (tree_sets g seat) starts bases) 0 (length (tree_sets g seat))) in
      let there : k < length (sets g seat) = omega (arith, below, length-map (sets g seat) (set_in g seat)) in
      let none : 0 + k ≡ k = omega arith in
      get_or-map-range_with_len (item_of (tree_sets g seat) starts bases) 0 (length (tree_sets g seat)) k k d below none
      ∙ ap (item_of (tree_sets g seat) starts bases) (sym (number_at set_cmp set_total (sets g seat) k [] (sets_ascending g seat) there))
      ∙ sym (get_or-map made (sets g seat) k [] d there))
    where
      long : length (items_of (tree_sets g seat) starts bases) ≡ length (sets g seat)
      long = length-map-range_with_len (item_of (tree_sets g seat) starts bases) 0 (length (tree_sets g seat)) ∙ length-map (sets g seat) (set_in g seat)

  -- the index of a set is its place on each path
  pub index_is : (m n e : ℕ) → n < m → n < length (model.nodes g) → e < length (path_in (sets g seat) starts parents n)
      → index_of (tree_sets g seat) starts bases (set_number g seat (get_or (path_in (sets g seat) starts parents n) e [])) ≡ e
  index_is zero n e b l h = absurd (omega (arith, b))
  index_is (suc m) n e b l h = at (cases_lt e (slice_index bases n)) (λ k c d. index_is m k e c d)
    where
      w : AreWays (length (sets g seat)) starts parents
      w = set_ways g seat starts parents s p

      below : n < length parents
      below = omega (arith, l, p.long)

      up : (o : Option NodeId) → get_or parents n None ≡ o → e < slice_index bases n
          → ((k : ℕ) → k < m → k < length (model.nodes g) → e < length (path_in (sets g seat) starts parents k) → index_of (tree_sets g seat) starts bases (set_number g seat (get_or (path_in (sets g seat) starts parents k) e [])) ≡ e)
          → index_of (tree_sets g seat) starts bases (set_number g seat (get_or (path_in (sets g seat) starts parents n) e [])) ≡ e
      up None q c rest = absurd (no_up (sets g seat) starts parents w n e below (λ r t. none r (sym q ∙ t)) c)
        where
          none : (r : NodeId) → ◌≡◌ {A = Option NodeId} None (Some r) → ⊥
          none r t = cc
      up (Some r) q c rest =
          let u = step_up (sets g seat) starts parents w n e r [] below q c in
          ap (λ y. index_of (tree_sets g seat) starts bases (set_number g seat y)) u.0 ∙ rest r.0 (omega (arith, b, u.2)) (omega (arith, u.2, l)) u.1

      at : (e < slice_index bases n) ⊎ (slice_index bases n ≤ e)
          → ((k : ℕ) → k < m → k < length (model.nodes g) → e < length (path_in (sets g seat) starts parents k) → index_of (tree_sets g seat) starts bases (set_number g seat (get_or (path_in (sets g seat) starts parents k) e [])) ≡ e)
          → index_of (tree_sets g seat) starts bases (set_number g seat (get_or (path_in (sets g seat) starts parents n) e [])) ≡ e
      at (inl c) rest = up (get_or parents n None) refl c rest
      at (inr c) rest =
          let here = item_here (sets g seat) starts parents w n e [] below c h in
          let i = slice_index starts n + (e - slice_index bases n) in
          let y = get_or (sets g seat) i [] in
          let there = in_get_or (sets g seat) i [] here.1 in
          let inside = subst (In y) (sets_at g seat starts parents s p n l) (place_in_range (sets g seat) (slice_index starts n) (slice_index starts (n + 1)) i [] (omega arith) here.2 here.1) in
          let node = get_or (model.nodes g) n [] in
          let listed = list_exact (publics y) node (eq_is (list_cmp (publics y) node) (in_from_filter (λ z. is_eq (list_cmp (publics z) node)) (sets g seat) y inside).1) in
          let number : set_number g seat y ≡ i = number_at set_cmp set_total (sets g seat) i [] (sets_ascending g seat) here.1 in
          let at_n : (set_read (tree_sets g seat) i).node.0 ≡ n =
          ap (λ (t : SetInfo). t.node.0) (read_set g seat i here.1) ∙ ap (model.node_number g) listed ∙ number_at list_cmp list_total (model.nodes g) n [] (nodes_ascending g) l in
          ap (λ z. index_of (tree_sets g seat) starts bases (set_number g seat z)) here.0 ∙ ap (index_of (tree_sets g seat) starts bases) number
          ∙ ap (λ k. slice_index bases k + (i - slice_index starts k)) at_n ∙ back (slice_index bases n) (slice_index starts n) c
        where
          back : (c a : ℕ) → c ≤ e → c + (a + (e - c) - a) ≡ e
          back c a l = omega (arith, l)

-- ---- those that follow a step on a path

-- lists of one length that begin another are one
begun_same : (a b P : List ℕ) → model.begins a P ≡ true → model.begins b P ≡ true → length a ≡ length b → a ≡ b
begun_same a b P e f n =
    let r = (begins_law a P).0 e in
    let q = (begins_law b P).0 f in
    sym (take-append_seam a r.0) ∙ ap (take (length a)) (sym r.1) ∙ ap (λ k. take k P) n ∙ ap (take (length b)) q.1 ∙ take-append_seam b q.0

-- what is found to be a step is that step
taken_is : (t : SetAction) (o : Option SetAction) → is_taken t o ≡ true → o ≡ Some t
taken_is t None e = absurd (never e)
  where
    never : false ≡ true → ⊥
    never e = cc
taken_is t (Some u) e =
    let b = and_parts (u.set == t.set) (u.action == t.action) e in
    ap (λ n. told n u.action) (eqb-true u.set t.set b.0) ∙ ap (told t.set) (eqb-true u.action t.action b.1)
  where
    told : ℕ → ℕ → Option SetAction
    told n a = Some (record { set = n; action = a })

-- a step is found to be itself, also as the program has it
taken_from_told : (t : SetAction) (o : Option SetAction) → Some (taken_in t) ≡ option_map taken_in o → is_taken t o ≡ true
taken_from_told t None e = absurd (never (taken_in t) e)
  where
    never : (q : SetId × ℕ) → ◌≡◌ {A = Option (SetId × ℕ)} (Some q) None → ⊥
    never q e = cc
taken_from_told t (Some u) e =
    and_from (u.set == t.set) (u.action == t.action) (eq-eqb u.set t.set (sym (of_some (λ q. q.0.0) e))) (eq-eqb u.action t.action (sym (of_some (λ q. q.1) e)))
  where
    of_some : (f : SetId × ℕ → ℕ) → ◌≡◌ {A = Option (SetId × ℕ)} (Some (taken_in t)) (Some (taken_in u)) → f (taken_in t) ≡ f (taken_in u)
    of_some f e = ap (λ (o : Option (SetId × ℕ)). elim o [ Some q ↦ f q | None ↦ 0 ]) e

module _ (g : GameModel) (seat : ℕ) (P : List ℕ) where
  -- how long the list of a set that follows a step is
  follows_long : (y : List Item) (t : SetAction) → parent g seat y ≡ Some t → (f : Follows g seat y) → (set_number g seat (seen g seat f.history) ≡ t.set) × (length (publics y) ≡ length (seen g seat f.history) + 1)
  follows_long y t e f = (of_some (sym (parent_is g seat y f) ∙ e), length-map y (λ (q : Item). q.public) ∙ ap length f.made ∙ length-append (seen g seat f.history) (_ ∷ []))
    where
      of_some : {u v : SetAction} → ◌≡◌ {A = Option SetAction} (Some u) (Some v) → u.set ≡ v.set
      of_some {u} {v} e = ap (λ (o : Option SetAction). elim o [ Some q ↦ q.set | None ↦ 0 ]) e

  -- sets that follow one step have lists of one length
  same_long : (y z : List Item) (t : SetAction) → In y (sets g seat) → In z (sets g seat) → parent g seat y ≡ Some t → parent g seat z ≡ Some t → length (publics y) ≡ length (publics z)
  same_long y z t i j e f = at (set_cases g seat y i) (set_cases g seat z j)
    where
      never : ◌≡◌ {A = Option SetAction} None (Some t) → ⊥
      never q = cc

      at : (y ≡ []) ⊎ Follows g seat y → (z ≡ []) ⊎ Follows g seat z → length (publics y) ≡ length (publics z)
      at (inl n) fz = absurd (never (sym (ap (parent g seat) n) ∙ e))
      at (inr fy) (inl n) = absurd (never (sym (ap (parent g seat) n) ∙ f))
      at (inr fy) (inr fz) =
          let a = follows_long y t e fy in
          let b = follows_long z t f fz in
          let same = number_same set_cmp set_total (sets g seat) (seen g seat fy.history) (seen g seat fz.history) (sets_ascending g seat) (set_has g seat fy.history fy.there) (set_has g seat fz.history fz.there) (a.0 ∙ sym b.0) in
          a.1 ∙ ap (λ q. length q + 1) same ∙ sym b.1

  -- the kin of a set of a path that follows a step are the sets of the path that do so
  pub kin_on_path : (y z : List Item) (t : SetAction) → In y (sets g seat) → model.begins (publics y) P ≡ true → parent g seat y ≡ Some t → In z (sets g seat)
      → is_kin (set_in g seat y) (set_in g seat z) ≡ (model.begins (publics z) P && is_taken t (parent g seat z))
  kin_on_path y z t i b e j = both_ways (is_kin (set_in g seat y) (set_in g seat z)) (model.begins (publics z) P && is_taken t (parent g seat z)) there back
    where
      there : is_kin (set_in g seat y) (set_in g seat z) ≡ true → (model.begins (publics z) P && is_taken t (parent g seat z)) ≡ true
      there k =
          let both = kin_is (set_in g seat y) (set_in g seat z) k in
          let lists = number_same list_cmp list_total (model.nodes g) (publics y) (publics z) (nodes_ascending g) (set_at_node g seat y i) (set_at_node g seat z j) both.0 in
          and_from (model.begins (publics z) P) (is_taken t (parent g seat z)) (ap (λ q. model.begins q P) (sym lists) ∙ b)
          (taken_from_told t (parent g seat z) (sym (ap (option_map taken_in) e) ∙ both.1))

      back : (model.begins (publics z) P && is_taken t (parent g seat z)) ≡ true → is_kin (set_in g seat y) (set_in g seat z) ≡ true
      back k =
          let both = and_parts (model.begins (publics z) P) (is_taken t (parent g seat z)) k in
          let f = taken_is t (parent g seat z) both.1 in
          let lists = begun_same (publics y) (publics z) P b both.0 (same_long y z t i j e f) in
          kin_from (set_in g seat y) (set_in g seat z) (ap (model.node_number g) lists) (ap (option_map taken_in) (e ∙ sym f))

  -- what stands before a set of a path is what is kept of the sets before it
  pub take_path : (k : ℕ) → k < length (model.path g seat P) → In (get_or (model.path g seat P) k []) (sets g seat) → model.begins (publics (get_or (model.path g seat P) k [])) P ≡ true
      → take k (model.path g seat P) ≡ filter (λ z. model.begins (publics z) P) (take (set_number g seat (get_or (model.path g seat P) k [])) (sets g seat))
  take_path k l i b = ap (λ n. take n (model.path g seat P)) (sym place) ∙ ap (take (length front)) split ∙ take-append_seam front (y ∷ rest)
    where
      y : List Item
      y = get_or (model.path g seat P) k []

      j : ℕ
      j = set_number g seat (get_or (model.path g seat P) k [])

      front : List (List Item)
      front = filter (λ z. model.begins (publics z) P) (take (set_number g seat (get_or (model.path g seat P) k [])) (sets g seat))

      rest : List (List Item)
      rest = filter (λ z. model.begins (publics z) P) (drop (set_number g seat (get_or (model.path g seat P) k []) + 1) (sets g seat))

      whole : sets g seat ≡ take (set_number g seat (get_or (model.path g seat P) k [])) (sets g seat) ++ (get_or (model.path g seat P) k [] ∷ drop (set_number g seat (get_or (model.path g seat P) k []) + 1) (sets g seat))
      whole =
          sym (take-append-drop j (sets g seat))
          ∙ ap (λ w. take j (sets g seat) ++ w) (drop_more (sets g seat) j [] (number_below set_cmp set_total (sets g seat) y (sets_ascending g seat) i)
          ∙ ap (λ z. z ∷ drop (j + 1) (sets g seat)) (at_number set_cmp set_total (sets g seat) y [] (sets_ascending g seat) i))

      split : model.path g seat P ≡ filter (λ z. model.begins (publics z) P) (take (set_number g seat (get_or (model.path g seat P) k [])) (sets g seat)) ++ (get_or (model.path g seat P) k [] ∷ filter (λ z. model.begins (publics z) P) (drop (set_number g seat (get_or (model.path g seat P) k []) + 1) (sets g seat)))
      split =
          ap (filter (λ z. model.begins (publics z) P)) whole ∙ filter-append (λ z. model.begins (publics z) P) (take j (sets g seat)) (y ∷ drop (j + 1) (sets g seat))
          ∙ ap (λ c. front ++ cond c (y ∷ rest) rest) b

      place : length (filter (λ z. model.begins (publics z) P) (take (set_number g seat (get_or (model.path g seat P) k [])) (sets g seat))) ≡ k
      place =
          let asc = filter_ascending set_cmp (λ z. model.begins (publics z) P) (sets g seat) (sets_ascending g seat) in
          let long : length front < length (model.path g seat P) = omega (arith, ap length split, length-append front (y ∷ rest)) in
          let read : get_or (model.path g seat P) (length front) [] ≡ y = ap (λ q. get_or q (length front) []) split ∙ get_or-append_seam front y rest [] in
          sym (number_at set_cmp set_total (model.path g seat P) (length front) [] asc long) ∙ ap (number_of set_cmp (model.path g seat P)) read
          ∙ number_at set_cmp set_total (model.path g seat P) k [] asc l
