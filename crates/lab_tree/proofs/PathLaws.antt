-- What stands on the way to a node is the node's path.
use Rattle.std.proofs.Common.{◌≡◌, ℕ, suc, ◌+◌, ◌<◌, List, [], true, ◌&&◌, length, map, take, get_or, Option, Some, None, refl, sym, ap, ◌∙◌, subst, arith}
use Rattle.std.specs.Option.{option_map}
use Rattle.std.proofs.lemmas.List.{take-map, same_lists, get_or-map, get_or_default, length-map}
use Rattle.std.proofs.lemmas.List.FromFn.{length-map-range_with_len, get_or-map-range_with_len}
use Rattle.lab_math.proofs.Members.{In, in_get_or, in_from_filter}
use Rattle.lab_defs_text.specs.Games.{GameModel}
use Rattle.lab_defs_game.specs.Paths.{SetAction, parent, is_taken}
use Rattle.lab_defs_game.specs.Keys.{count}
use Rattle.lab_defs_game.specs.Nodes as model
use Rattle.lab_defs_game.specs.Sets.{Item, publics, sets, set_number}
use Rattle.lab_defs_game.proofs.NumberLemmas.{count_cong, length-filter}
use Rattle.lab_defs_game.proofs.PathItems.{follow_law}
use Rattle.lab_form.specs.declared.items.SetId.{SetId}
use Rattle.lab_tree.specs.declared.info.NodeId.{NodeId}
use Rattle.lab_tree.specs.declared.info.SetInfo.{SetInfo}
use Rattle.lab_tree.specs.declared.info.Follow.{Follow}
use Rattle.lab_tree.specs.declared.info.PathItem.{PathItem}
use Rattle.lab_tree.specs.Trees.{set_id, set_in, taken_in, follow_in, path_item_in, seat_in}
use Rattle.lab_tree.specs.Ways.{all_paths, path_in, path_next, bases_of}
use Rattle.lab_tree.specs.Places.{is_kin, set_read, place_at, kin_count, index_of, follow_of, items_of}
use Rattle.lab_tree.specs.WayLaws.{tree_sets, AreStarts, AreParents, PathsLaw}
use Rattle.lab_tree.proofs.SetLaws.{count-map}
use Rattle.lab_tree.proofs.WayLemmas.{built_length}
use Rattle.lab_tree.proofs.WaySets.{set_paths}
use Rattle.lab_tree.proofs.WaySets.{from_take}
use Rattle.lab_tree.proofs.ItemLaws.{path_made, count-filter, made, read_own, items_are, index_is, kin_on_path, take_path}

module _ (g : GameModel) (seat : ℕ) (starts : List ℕ) (parents : List (Option NodeId)) (s : AreStarts g (tree_sets g seat) starts) (p : AreParents g parents) where
  module _ (n : ℕ) (l : n < length (model.nodes g)) where
    -- the public list of the node
    abbrev node : List ℕ
    node = get_or (model.nodes g) n []

    -- its path
    abbrev way : List (List Item)
    way = model.path g seat node

    -- the path, as what stands on the way
    way_is : path_in (sets g seat) starts parents n ≡ way
    way_is = set_paths g seat starts parents s p (suc n) n (omega arith) l

    -- a set of the path has its place as index
    index_on : (e : ℕ) → e < length way → index_of (tree_sets g seat) starts (bases_of starts parents) (set_number g seat (get_or way e [])) ≡ e
    index_on e h =
        ap (λ w. index_of (tree_sets g seat) starts (bases_of starts parents) (set_number g seat (get_or w e []))) (sym way_is)
        ∙ index_is g seat starts parents s p (suc n) n e (omega arith) l (subst (λ w. e < length w) (sym way_is) h)

    module _ (k : ℕ) (h : k < length (model.path g seat (get_or (model.nodes g) n []))) where
      -- the set at a place of the path
      abbrev y : List Item
      y = get_or way k []

      -- it is a set whose list begins the node's
      on : In y (sets g seat) × (model.begins (publics y) node ≡ true)
      on = in_from_filter (λ z. model.begins (publics z) node) (sets g seat) y (in_get_or way k [] h)

      -- its number
      abbrev j : ℕ
      j = set_number g seat y

      -- how it follows is as the path says
      follow_same : (t : SetAction) → parent g seat y ≡ Some t
          → follow_of (tree_sets g seat) starts (bases_of starts parents) j (Some (taken_in t)) ≡ option_map follow_in (model.follow_at g seat node k (Some t))
      follow_same t e =
          ap (λ m. told m (place_at (tree_sets g seat) j) (kin_count (tree_sets g seat) j)) from
          ∙ ap (λ m. told (model.path_place g seat node t.set) m (kin_count (tree_sets g seat) j)) place
          ∙ ap (told (model.path_place g seat node t.set) (model.following g seat t (take k way))) total
        where
          told : ℕ → ℕ → ℕ → Option Follow
          told a b c = Some (record { from = a; action = t.action; place = b; count = c })

          f : model.Follow
          f = record { before = model.path_place g seat (get_or (model.nodes g) n []) t.set; action = t.action; place = model.following g seat t (take k (model.path g seat (get_or (model.nodes g) n []))); total = model.following g seat t (model.path g seat (get_or (model.nodes g) n [])) }

          of_some : {u v : SetAction} → ◌≡◌ {A = Option SetAction} (Some u) (Some v) → u.set ≡ v.set
          of_some {u} {v} q = ap (λ (o : Option SetAction). elim o [ Some r ↦ r.set | None ↦ 0 ]) q

          from : index_of (tree_sets g seat) starts (bases_of starts parents) t.set ≡ model.path_place g seat (get_or (model.nodes g) n []) t.set
          from =
              let law = follow_law g seat node k f h (ap (model.follow_at g seat node k) e) in
              let number : set_number g seat (get_or way f.before []) ≡ t.set = of_some (sym law.1 ∙ e) in
              ap (index_of (tree_sets g seat) starts (bases_of starts parents)) (sym number) ∙ index_on f.before (omega (arith, law.0, h))

          kin : (z : List Item) → In z (sets g seat) → is_kin (set_read (tree_sets g seat) j) (set_in g seat z) ≡ (model.begins (publics z) node && is_taken t (parent g seat z))
          kin z i = ap (λ w. is_kin w (set_in g seat z)) (read_own g seat starts parents s p y on.0) ∙ kin_on_path g seat node y z t on.0 on.1 e i

          total : kin_count (tree_sets g seat) j ≡ model.following g seat t (model.path g seat (get_or (model.nodes g) n []))
          total =
              count-map (is_kin (set_read (tree_sets g seat) j)) (set_in g seat) (sets g seat)
              ∙ count_cong (λ z. is_kin (set_read (tree_sets g seat) j) (set_in g seat z)) (λ z. model.begins (publics z) node && is_taken t (parent g seat z)) (sets g seat) kin
              ∙ sym (count-filter (λ z. model.begins (publics z) node) (λ z. is_taken t (parent g seat z)) (sets g seat))
              ∙ sym (length-filter (λ z. is_taken t (parent g seat z)) (model.path g seat node))

          place : place_at (tree_sets g seat) j ≡ model.following g seat t (take k (model.path g seat (get_or (model.nodes g) n [])))
          place =
              ap (count (is_kin (set_read (tree_sets g seat) j))) (take-map (set_in g seat) j (sets g seat))
              ∙ count-map (is_kin (set_read (tree_sets g seat) j)) (set_in g seat) (take j (sets g seat))
              ∙ count_cong (λ z. is_kin (set_read (tree_sets g seat) j) (set_in g seat z)) (λ z. model.begins (publics z) node && is_taken t (parent g seat z)) (take j (sets g seat))
              (λ z i. kin z (from_take j (sets g seat) z i))
              ∙ sym (count-filter (λ z. model.begins (publics z) node) (λ z. is_taken t (parent g seat z)) (take j (sets g seat)))
              ∙ ap (count (λ z. is_taken t (parent g seat z))) (sym (take_path g seat node k h on.0 on.1))
              ∙ sym (length-filter (λ z. is_taken t (parent g seat z)) (take k way))

      -- a set of the path is, as an item, what the path says
      item_same : made g seat starts parents s p y ≡ path_item_in (model.path_item g seat node k)
      item_same =
          ap (λ (w : SetInfo). told w.id (follow_of (tree_sets g seat) starts (bases_of starts parents) j w.parent)) (read_own g seat starts parents s p y on.0)
          ∙ ap (told (set_id j)) (at (parent g seat y) refl)
        where
          told : SetId → Option Follow → PathItem
          told i o = record { set = i; follows = o }

          at : (o : Option SetAction) → parent g seat (get_or (model.path g seat (get_or (model.nodes g) n [])) k []) ≡ o
              → follow_of (tree_sets g seat) starts (bases_of starts parents) j (option_map taken_in (parent g seat y)) ≡ option_map follow_in (model.follow_at g seat node k (parent g seat y))
          at None e =
              ap (λ o. follow_of (tree_sets g seat) starts (bases_of starts parents) j (option_map taken_in o)) e ∙ sym (ap (λ o. option_map follow_in (model.follow_at g seat node k o)) e)
          at (Some t) e =
              ap (λ o. follow_of (tree_sets g seat) starts (bases_of starts parents) j (option_map taken_in o)) e ∙ follow_same t e
              ∙ sym (ap (λ o. option_map follow_in (model.follow_at g seat node k o)) e)

    -- what stands on the way to the node are its items
    node_items : path_in (items_of (tree_sets g seat) starts (bases_of starts parents)) starts parents n ≡ map path_item_in (model.path_items g seat node)
    node_items =
        ap (λ xs. path_in xs starts parents n) (items_are g seat starts parents s p) ∙ path_made (made g seat starts parents s p) (sets g seat) starts parents n
        ∙ ap (map (made g seat starts parents s p)) way_is
        ∙ same_lists (map (made g seat starts parents s p) way) (map path_item_in (model.path_items g seat node))
        (length-map way (made g seat starts parents s p) ∙ sym (length-map (model.path_items g seat node) path_item_in ∙ long))
        (λ k d c.
        let h : k < length way = subst (λ m. k < m) (length-map way (made g seat starts parents s p)) c in
        let none : 0 + k ≡ k = omega arith in
        get_or-map (made g seat starts parents s p) way k [] d h ∙ item_same k h
        ∙ sym (get_or-map path_item_in (model.path_items g seat node) k (model.path_item g seat node k) d (subst (λ m. k < m) (sym long) h)
        ∙ ap path_item_in (get_or-map-range_with_len (model.path_item g seat node) 0 (length way) k k (model.path_item g seat node k) h none)))
      where
        long : length (model.path_items g seat (get_or (model.nodes g) n [])) ≡ length (model.path g seat (get_or (model.nodes g) n []))
        long = length-map-range_with_len (model.path_item g seat node) 0 (length way)

-- the law of paths
pub paths_law : PathsLaw
paths_law g seat starts parents s p =
    same_lists (all_paths items starts parents) (seat_in g seat).paths (many ∙ p.long ∙ sym (length-map (model.nodes g) (λ q. map path_item_in (model.path_items g seat q))))
    (λ n d c.
    let l : n < length (model.nodes g) = omega (arith, c, many, p.long) in
    get_or_default (all_paths items starts parents) n d [] c ∙ node_items g seat starts parents s p n l
    ∙ sym (get_or-map (λ q. map path_item_in (model.path_items g seat q)) (model.nodes g) n [] d l))
  where
    items : List PathItem
    items = items_of (tree_sets g seat) starts (bases_of starts parents)

    many : length (all_paths items starts parents) ≡ length parents
    many = omega (arith, built_length (path_next items starts) [] parents)
