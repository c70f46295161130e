-- The form of a subgame of a game's tree is that of the game's subgame.
use Rattle.std.proofs.Common.{◌≡◌, ℕ, ◌+◌, ◌-◌, ◌<◌, ◌≤◌, pos, ℤ, ◌*ℤ◌, List, [], ◌∷◌, ◌++◌, Bool, true, false, cond, map, filter, flat_map, take, drop, length, get_or, Option, Some, None, refl, sym, ap, ◌∙◌, subst, arith, inl, inr, ◌↔◌}
use Rattle.std.specs.Prelude.{slice_range}
use Rattle.std.specs.Option.{option_map, option_and_then}
use Rattle.std.proofs.lemmas.List.{get_or-map, take-map, drop-map}
use Rattle.std.proofs.lemmas.List.Elements.{recursion_from_All, filter-append}
use Rattle.std.proofs.lemmas.List.Folds.{flat_map-map}
use Rattle.std.proofs.lemmas.Simd.{map-map}
use Rattle.std.specs.Ordering.{is_eq}
use Rattle.lab_math.specs.Sums.{product_over}
use Rattle.lab_math.proofs.Members.{In, all_in, in_from_filter, in_map}
use Rattle.lab_defs_text.specs.Games.{GameModel}
use Rattle.lab_defs_game.specs.Accepted.{IsAccepted}
use Rattle.lab_defs_game.specs.Keys.{count, number_of, list_cmp}
use Rattle.lab_defs_game.specs.Histories.{History}
use Rattle.lab_defs_game.specs.Sets.{public_list, seen, sets, most_decisions}
use Rattle.lab_defs_game.specs.Forms as forms
use Rattle.lab_defs_game.specs.Paths.{SetAction, path_along, parent, last_step}
use Rattle.lab_defs_game.specs.Nodes.{begins, nodes, node_ends, ends_by_nodes, span_from, span_to}
use Rattle.lab_defs_game.specs.Laws.{AlikeNames}
use Rattle.lab_defs_game.specs.Seats.{IsSeat}
use Rattle.lab_defs_game.proofs.GameLemmas.{nodes_ascending}
use Rattle.lab_defs_game.proofs.NumberLemmas.{number_at}
use Rattle.lab_defs_game.proofs.Orders.{list_total, list_exact}
use Rattle.lab_defs_game.proofs.RecallLemmas.{recall_law}
use Rattle.lab_defs_game.proofs.Spans.{node_span_is, eq_is}
use Rattle.lab_defs_value.specs.Parents.{IsChain}
use Rattle.lab_defs_value.specs.Tables.{factor}
use Rattle.lab_defs_value.specs.Subgames as value
use Rattle.lab_defs_value.specs.Subgames.{subgame_ends, subgame_form, subgame_row, part_at, span_at}
use Rattle.lab_defs_value.proofs.SubgameForms.{last_inside, subgame_form_law}
use Rattle.lab_form.specs.declared.items.SetId.{SetId}
use Rattle.lab_form.specs.declared.items.Span.{Span}
use Rattle.lab_form.specs.declared.items.FormSet.{FormSet}
use Rattle.lab_form.specs.declared.items.FormRow.{FormRow}
use Rattle.lab_form.specs.Forms.{taken_model, set_model, sets_model, whole_path, row_model}
use Rattle.lab_unfold.proofs.CallerLemmas.{map_flat}
use Rattle.lab_tree.specs.declared.info.SetInfo.{SetInfo}
use Rattle.lab_tree.specs.declared.info.RowInfo.{RowInfo}
use Rattle.lab_tree.specs.NodeValues.{end_among}
use Rattle.lab_tree.specs.Subforms.{is_within, inner_step, inner_set, first_of, inner_sets, span_model, weight_before, decisions_inside, inner_row}
use Rattle.lab_tree.specs.TreeForms.{form_set, form_sets}
use Rattle.lab_tree.specs.TreeSubgames.{span_of, parts_at, rows_inside, SubgameFormLaw}
use Rattle.lab_tree.specs.Trees.{set_id, set_in, span_in, row_in, last_in, seat_in, tree_of}
use Rattle.lab_tree.proofs.FormLaws.{model_sets_are, step_same, end_last, end_path, end_decisions}
use Rattle.lab_tree.proofs.RowLemmas.{end_there}
use Rattle.lab_tree.proofs.SpanLemmas.{filter_between}

-- ---- rows by their nodes

-- where all pass alike, all are kept or none
all_alike : {X : Type 0} (q : X → Bool) (c : Bool) (xs : List X) → ((x : X) → In x xs → q x ≡ c) → filter q xs ≡ cond c xs []
all_alike q true [] h = refl
all_alike q false [] h = refl
all_alike q true (x ∷ xs) h = ap (λ b. cond b (x ∷ filter q xs) (filter q xs)) (h x (inl refl)) ∙ ap (λ ys. x ∷ ys) (all_alike q true xs (λ y i. h y (inr i)))
all_alike q false (x ∷ xs) h = ap (λ b. cond b (x ∷ filter q xs) (filter q xs)) (h x (inl refl)) ∙ all_alike q false xs (λ y i. h y (inr i))

-- lists of which all is kept or nothing, put together
kept_flat : {X Y : Type 0} (q : Y → Bool) (p : X → Bool) (F : X → List Y) (xs : List X) → ((x : X) → filter q (F x) ≡ cond (p x) (F x) []) → filter q (flat_map F xs) ≡ flat_map F (filter p xs)
kept_flat q p F [] h = refl
kept_flat {X = X} q p F (x ∷ xs) h =
    filter-append q (F x) (flat_map F xs) ∙ ap (λ ys. ys ++ filter q (flat_map F xs)) (h x) ∙ ap (λ ys. cond (p x) (F x) [] ++ ys) (kept_flat q p F xs h) ∙ at (p x) (filter p xs)
  where
    at : (b : Bool) (ys : List X) → cond b (F x) [] ++ flat_map F ys ≡ flat_map F (cond b (x ∷ ys) ys)
    at true ys = refl
    at false ys = refl

-- a part of images
slice_map : {X Y : Type 0} (f : X → Y) (xs : List X) (a b : ℕ) → slice_range (map f xs) a b ≡ map f (slice_range xs a b)
slice_map f xs a b = ap (take (b - a)) (drop-map f a xs) ∙ take-map f (b - a) (drop a xs)

module _ (g : GameModel) (n : ℕ) (l : n < length (nodes g)) where
  -- the node with the number
  abbrev node : List ℕ
  node = get_or (nodes g) n []

  -- the nodes inside its subgame
  inside_nodes : filter (begins node) (nodes g) ≡ slice_range (nodes g) n (end_among (nodes g) node)
  inside_nodes =
      let number : number_of list_cmp (nodes g) node ≡ n = number_at list_cmp list_total (nodes g) n [] (nodes_ascending g) l in
      let size : count (begins node) (nodes g) ≡ end_among (nodes g) node - n = omega (arith, number) in
      filter_between (begins node) [] (nodes g) n (count (begins node) (nodes g))
      (λ i m. subst (λ k. (begins node (get_or (nodes g) i []) ≡ true) ↔ ((k ≤ i) × (i < k + count (begins node) (nodes g)))) number (node_span_is g node i [] m))
      ∙ ap (λ k. take k (drop n (nodes g))) size

  -- the terminal histories inside are those of these nodes
  ends_inside : subgame_ends g node ≡ flat_map (node_ends g) (slice_range (nodes g) n (end_among (nodes g) node))
  ends_inside =
      kept_flat (λ h. begins node (public_list g h)) (begins node) (node_ends g) (nodes g)
      (λ p. all_alike (λ h. begins node (public_list g h)) (begins node p) (node_ends g p) (λ h i.
      let tied = (in_from_filter (λ h. is_eq (list_cmp (public_list g h) p)) _ h i).1 in
      ap (begins node) (list_exact (public_list g h) p (eq_is (list_cmp (public_list g h) p) tied))))
      ∙ ap (flat_map (node_ends g)) inside_nodes

  -- the rows inside are theirs
  rows_are_inside : rows_inside (tree_of g) n ≡ map (row_in g) (subgame_ends g node)
  rows_are_inside =
      let part = slice_range (nodes g) n (end_among (nodes g) node) in
      ap (flat_map (λ rows. rows)) (slice_map (λ p. map (row_in g) (node_ends g p)) (nodes g) n (end_among (nodes g) node))
      ∙ flat_map-map (λ (rows : List RowInfo). rows) (λ p. map (row_in g) (node_ends g p)) part
      ∙ sym (map_flat (row_in g) (node_ends g) part) ∙ ap (map (row_in g)) (sym ends_inside)

-- ---- sets

-- a step inside, as the definitions have it
step_model : (ss : List SetInfo) (s : Span) (o : Option (SetId × ℕ)) → option_map taken_model (option_and_then (inner_step s) o) ≡ value.parent_inside (span_model ss s) (option_map taken_model o)
step_model ss s None = refl
step_model ss s (Some t) = at (is_within s t.0.0)
  where
    at : (b : Bool) → option_map taken_model (cond b (Some (set_id (t.0.0 - s.from), t.1)) None) ≡ cond b (Some (value.renumbered_step (span_model ss s) (taken_model t))) None
    at true = refl
    at false = refl

-- the sets of a span, as the definitions have them
inner_model : (ss : List SetInfo) (s : Span) → sets_model (inner_sets ss s) ≡ value.span_sets (span_model ss s)
inner_model ss s =
    let part = slice_range ss s.from s.to in
    each (first_of part) part
    ∙ sym (ap (map (value.inner_set (span_model ss s))) (slice_map set_model (form_sets ss) s.from s.to ∙ ap sets_model (slice_map form_set ss s.from s.to)))
  where
    each : (first : ℕ) (xs : List SetInfo) → map set_model (map (inner_set s first) xs) ≡ map (value.inner_set (span_model ss s)) (map set_model (map form_set xs))
    each first [] = refl
    each first (x ∷ xs) =
        ap (λ o. made o ∷ map set_model (map (inner_set s first) xs)) (step_model ss s x.parent) ∙ ap (λ ys. made (value.parent_inside (span_model ss s) (option_map taken_model x.parent)) ∷ ys) (each first xs)
      where
        made : Option SetAction → forms.FormSet
        made o = record { parent = o; actions = x.actions }

-- ---- the subgame of a node

module _ (g : GameModel) (seat n : ℕ) (l : n < length (nodes g)) where
  -- the sets of the seat in the tree
  abbrev infos : List SetInfo
  infos = map (set_in g seat) (sets g seat)

  -- those inside
  abbrev span : Span
  span = span_of (seat_in g seat) n

  -- the same, as the definitions have it
  abbrev model_span : value.Span
  model_span = span_at g seat (get_or (nodes g) n [])

  -- the span is that of the game
  span_same : span_model infos span ≡ model_span
  span_same =
      let node = get_or (nodes g) n [] in
      ap (span_model infos) (get_or-map (span_in g seat) (nodes g) n [] (record { from = 0; to = 0 }) l)
      ∙ ap (λ ss. record { start = span_from g seat node; end = span_to g seat node; sets = ss }) (model_sets_are g seat)

  -- and so are the sets in it
  sets_same : sets_model (inner_sets infos span) ≡ value.span_sets model_span
  sets_same = inner_model infos span ∙ ap value.span_sets span_same

  module _ (is : IsSeat seat) (alike : AlikeNames g seat) (ok : IsAccepted g) (h : History) (i : In h (ends_by_nodes g)) where
    -- the weights before it on a row
    weights_same : (weights : List ℕ) → weight_before infos span weights (Some (last_in g seat h)) ≡ product_over (factor (forms.actions_in model_span.sets) weights) (value.before model_span (path_along g seat h))
    weights_same weights =
        ap (λ (s : value.Span). product_over (factor (forms.actions_in s.sets) weights) (value.before s (whole_path (form_sets infos) (Some (last_in g seat h))))) span_same
        ∙ ap (λ p. product_over (factor (forms.actions_in model_span.sets) weights) (value.before model_span p)) (end_path g seat is alike ok.good h i)

    -- the decisions inside it
    inside_same : decisions_inside infos span (Some (last_in g seat h)) ≡ forms.deciding (forms.actions_in model_span.sets) (value.inside model_span (path_along g seat h))
    inside_same =
        ap (λ (s : value.Span). forms.deciding (forms.actions_in s.sets) (value.inside s (whole_path (form_sets infos) (Some (last_in g seat h))))) span_same
        ∙ ap (λ p. forms.deciding (forms.actions_in model_span.sets) (value.inside model_span p)) (end_path g seat is alike ok.good h i)

    -- the last step inside it
    last_same : option_map taken_model (inner_step span (last_in g seat h)) ≡ last_step (value.renumbered model_span (value.inside model_span (path_along g seat h)))
    last_same =
        let there = (end_there g h i).0 in
        step_model infos span (Some (last_in g seat h))
        ∙ ap (λ s. value.parent_inside s (Some (taken_model (last_in g seat h)))) span_same
        ∙ ap (value.parent_inside model_span) (sym (ap (option_map taken_model) (end_last g seat is alike ok.good h i)) ∙ step_same (parent g seat (seen g seat h)))
        ∙ sym (last_inside g seat (get_or (nodes g) n []) h there)

    -- so the path inside it is that which ends there
    path_same : IsChain (value.span_sets model_span) (value.renumbered model_span (value.inside model_span (path_along g seat h)))
        → whole_path (inner_sets infos span) (inner_step span (last_in g seat h)) ≡ value.renumbered model_span (value.inside model_span (path_along g seat h))
    path_same chained =
        ap (λ ss. forms.chain ss (option_map taken_model (inner_step span (last_in g seat h)))) sets_same
        ∙ ap (forms.chain (value.span_sets model_span)) last_same ∙ sym chained.parents

-- ---- rows

module _ (g : GameModel) (ok : IsAccepted g) (n : ℕ) (l : n < length (nodes g)) (weights : List ℕ) (h : History) (i : In h (subgame_ends g (get_or (nodes g) n []))) where
  -- the sets of each seat inside
  abbrev s1 : List FormSet
  s1 = inner_sets (infos g 1 n l) (span g 1 n l)

  abbrev s2 : List FormSet
  s2 = inner_sets (infos g 2 n l) (span g 2 n l)

  -- the row of the history, and what it is by the tree and by the game
  abbrev IsSameRow : ℕ → Type 0
  IsSameRow keeper = row_model s1 s2 (inner_row (parts_at (tree_of g) keeper n weights) (row_in g h)) ≡ subgame_row (part_at g keeper (get_or (nodes g) n []) weights) (forms.row_along g h)

  -- the history is terminal
  ends : In h (ends_by_nodes g)
  ends = (in_from_filter (λ h. begins (get_or (nodes g) n []) (public_list g h)) (ends_by_nodes g) h i).0

  -- a row of its parts
  abbrev told : ℤ → List SetAction → List SetAction → ℕ → ℕ → forms.Row
  told w p q a b = record { worth = w; path1 = p; path2 = q; pad1 = a; pad2 = b }

  -- the paths inside are chains
  chained : (keeper : ℕ) → IsChain (value.span_sets (model_span g 1 n l)) (value.renumbered (model_span g 1 n l) (value.inside (model_span g 1 n l) (path_along g 1 h)))
      × IsChain (value.span_sets (model_span g 2 n l)) (value.renumbered (model_span g 2 n l) (value.inside (model_span g 2 n l) (path_along g 2 h)))
  chained keeper =
      let node = get_or (nodes g) n [] in
      let f = subgame_form g keeper node weights in
      let made = λ (k : History). subgame_row (part_at g keeper node weights) (forms.row_along g k) in
      let form = subgame_form_law g keeper node weights ok.good ok.recalls in
      let row = in_map made (subgame_ends g node) h i in (
        all_in (λ (z : forms.Row). IsChain f.sets1 z.path1) f.rows (made h) (recursion_from_All (λ (z : forms.Row). IsChain f.sets1 z.path1) f.rows form.0.paths) row,
        all_in (λ (z : forms.Row). IsChain f.sets2 z.path2) f.rows (made h) (recursion_from_All (λ (z : forms.Row). IsChain f.sets2 z.path2) f.rows form.1.paths) row,
      )

  -- a row of the subgame is that of the game, for each keeper
  row_of_one : IsSameRow 1
  row_of_one =
      let alike = (recall_law g).0 ok.recalls in
      let w = weights_same g 1 n l (inl refl) alike.0 ok h ends weights in
      let p1 = path_same g 1 n l (inl refl) alike.0 ok h ends (chained 1).0 in
      let p2 = path_same g 2 n l (inr refl) alike.1 ok h ends (chained 1).1 in
      let d1 = end_decisions g 1 (inl refl) alike.0 ok.good h ends in
      let d2 = inside_same g 2 n l (inr refl) alike.1 ok h ends in
      λ k. told ((row_in g h).worth.0 *ℤ pos (w k)) (p1 k) (p2 k) (most_decisions g 1 - d1 k) (most_decisions g 2 - d2 k)

  row_of_two : IsSameRow 2
  row_of_two =
      let alike = (recall_law g).0 ok.recalls in
      let w = weights_same g 2 n l (inr refl) alike.1 ok h ends weights in
      let p1 = path_same g 1 n l (inl refl) alike.0 ok h ends (chained 2).0 in
      let p2 = path_same g 2 n l (inr refl) alike.1 ok h ends (chained 2).1 in
      let d1 = inside_same g 1 n l (inl refl) alike.0 ok h ends in
      let d2 = end_decisions g 2 (inr refl) alike.1 ok.good h ends in
      λ k. told ((row_in g h).worth.0 *ℤ pos (w k)) (p1 k) (p2 k) (most_decisions g 1 - d1 k) (most_decisions g 2 - d2 k)

  row_same : (keeper : ℕ) → IsSeat keeper → IsSameRow keeper
  row_same keeper (inl one) = subst IsSameRow (sym one) row_of_one
  row_same keeper (inr two) = subst IsSameRow (sym two) row_of_two

-- ---- the law

-- two lists made of the same members are one
map_alike : {X Y : Type 0} (f h : X → Y) (xs : List X) → ((x : X) → In x xs → f x ≡ h x) → map f xs ≡ map h xs
map_alike f h [] e = refl
map_alike f h (x ∷ xs) e = ap (λ y. y ∷ map f xs) (e x (inl refl)) ∙ ap (λ ys. h x ∷ ys) (map_alike f h xs (λ y i. e y (inr i)))

-- the law of the form of a subgame
pub tree_subgame_law : SubgameFormLaw
tree_subgame_law g ok keeper is n l weights set_room row_room =
    ap (λ ss. told ss (sets_model two) rows) (sets_same g 1 n l) ∙ ap (λ ss. told (value.span_sets (model_span g 1 n l)) ss rows) (sets_same g 2 n l)
    ∙ ap (told (value.span_sets (model_span g 1 n l)) (value.span_sets (model_span g 2 n l))) rows_same
  where
    one : List FormSet
    one = inner_sets (infos g 1 n l) (span g 1 n l)

    two : List FormSet
    two = inner_sets (infos g 2 n l) (span g 2 n l)

    made : RowInfo → FormRow
    made = inner_row (parts_at (tree_of g) keeper n weights)

    rows : List forms.Row
    rows = map (row_model one two) (map made (rows_inside (tree_of g) n))

    told : List forms.FormSet → List forms.FormSet → List forms.Row → forms.Form
    told a b zs = record { sets1 = a; sets2 = b; rows = zs }

    rows_same : rows ≡ map (λ h. subgame_row (part_at g keeper (get_or (nodes g) n []) weights) (forms.row_along g h)) (subgame_ends g (get_or (nodes g) n []))
    rows_same =
        let hs = subgame_ends g (get_or (nodes g) n []) in
        ap (λ rs. map (row_model one two) (map made rs)) (rows_are_inside g n l)
        ∙ ap (map (row_model one two)) (map-map made (row_in g) hs) ∙ map-map (row_model one two) (λ h. made (row_in g h)) hs
        ∙ map_alike (λ h. row_model one two (made (row_in g h))) (λ h. subgame_row (part_at g keeper (get_or (nodes g) n []) weights) (forms.row_along g h)) hs
        (λ h i. row_same g ok n l weights h i keeper is)
