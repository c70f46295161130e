-- The form of a game's tree is the game's form.
use Rattle.std.proofs.Common.{◌≡◌, ℕ, ◌-◌, ◌<◌, ◌≤◌, List, [], ◌∷◌, true, map, take, length, get_or, Option, Some, None, refl, sym, ap, ◌∙◌, subst, arith, inl, inr, ◌⊎◌}
use Rattle.std.specs.Option.{option_map}
use Rattle.std.proofs.lemmas.List.{get_or-map, length-map, take-map, length-take-le, get_or-take}
use Rattle.std.proofs.lemmas.List.Folds.{flat_map-map}
use Rattle.std.proofs.lemmas.Simd.{map-map}
use Rattle.std.proofs.Math.Seq.{take-length}
use Rattle.lab_math.specs.Sums.{sum_over}
use Rattle.lab_math.proofs.Members.{In, in_get_or}
use Rattle.lab_defs_text.specs.Games.{GameModel}
use Rattle.lab_defs_text.specs.Texts.{game_ok}
use Rattle.lab_defs_text.proofs.GameLemmas.{game_fine}
use Rattle.lab_defs_game.specs.Histories as model
use Rattle.lab_defs_game.specs.Forms as forms
use Rattle.lab_defs_game.specs.Laws.{AlikeNames}
use Rattle.lab_defs_game.specs.Seats.{IsSeat}
use Rattle.lab_defs_game.specs.Nodes.{nodes, node_ends, ends_by_nodes}
use Rattle.lab_defs_game.specs.Paths.{SetAction, path_along, parent}
use Rattle.lab_defs_game.specs.Sets.{Item, seen, set_cmp, sets, set_actions, most_decisions}
use Rattle.lab_defs_game.proofs.FormLemmas.{game_actions_length, game_actions_at, game_parents_at}
use Rattle.lab_defs_game.proofs.GameLemmas.{Longer, history_cases, sets_ascending}
use Rattle.lab_defs_game.proofs.NumberLemmas.{number_at}
use Rattle.lab_defs_game.proofs.Orders.{set_total}
use Rattle.lab_defs_game.proofs.RecallLemmas.{recall_law}
use Rattle.lab_defs_game.proofs.TreeLaws.{along_law}
use Rattle.lab_defs_value.specs.Parents as parents
use Rattle.lab_defs_value.specs.Parents.{IsChain}
use Rattle.lab_defs_value.specs.Tables.{weights_of}
use Rattle.lab_defs_value.proofs.Chains.{chain_of_path}
use Rattle.lab_defs_value.proofs.GameForms.{last_is, sets_below, path_ok, sets_some}
use Rattle.lab_form.specs.declared.items.FormSet.{FormSet}
use Rattle.lab_form.specs.declared.items.FormRow.{FormRow}
use Rattle.lab_form.specs.Forms.{actions_in, taken_model, set_model, sets_model, whole_path, row_model, IsStepBelow, IsNextSet, IsNextRow, AreSets, AreRows}
use Rattle.lab_form.proofs.CallerLemmas.{model_length, model_actions, parents_below}
use Rattle.lab_unfold.proofs.CallerLemmas.{map_flat}
use Rattle.lab_tree.specs.declared.info.RowInfo.{RowInfo}
use Rattle.lab_tree.specs.Trees.{taken_in, set_in, row_in, last_in, tree_of}
use Rattle.lab_tree.specs.TreeForms.{form_set, form_sets, form_row, all_rows, FormPartsLaw, FormLaw}
use Rattle.lab_tree.proofs.TreeFormLemmas.{decisions_of}
use Rattle.lab_tree.proofs.RowLemmas.{end_there, terminal_long}

-- two lists made of the same members are one
map_same : {X Y : Type 0} (f h : X → Y) (xs : List X) → ((x : X) → In x xs → f x ≡ h x) → map f xs ≡ map h xs
map_same f h [] e = refl
map_same f h (x ∷ xs) e = ap (λ y. y ∷ map f xs) (e x (inl refl)) ∙ ap (λ ys. h x ∷ ys) (map_same f h xs (λ y i. e y (inr i)))

-- the sets of a seat of a game's tree as those of a form
abbrev pub formed_sets : GameModel → ℕ → List FormSet
formed_sets g seat = form_sets (map (set_in g seat) (sets g seat))

-- one of them
abbrev set_of : GameModel → ℕ → List Item → FormSet
set_of g seat s = form_set (set_in g seat s)

-- they are those of the seat's sets
formed_sets_are : (g : GameModel) (seat : ℕ) → formed_sets g seat ≡ map (set_of g seat) (sets g seat)
formed_sets_are g seat = map-map form_set (set_in g seat) (sets g seat)

-- as many
sets_count : (g : GameModel) (seat : ℕ) → length (formed_sets g seat) ≡ length (sets g seat)
sets_count g seat = ap length (formed_sets_are g seat) ∙ length-map (sets g seat) (set_of g seat)

-- the one with a number
sets_read : (g : GameModel) (seat i : ℕ) (d : FormSet) → i < length (sets g seat) → get_or (formed_sets g seat) i d ≡ set_of g seat (get_or (sets g seat) i [])
sets_read g seat i d l = ap (λ ss. get_or ss i d) (formed_sets_are g seat) ∙ get_or-map (set_of g seat) (sets g seat) i [] d l

-- a step is what it becomes and was
pub step_same : (o : Option SetAction) → option_map taken_model (option_map taken_in o) ≡ o
step_same None = refl
step_same (Some t) = refl

-- they are the sets of the game's form
pub model_sets_are : (g : GameModel) (seat : ℕ) → sets_model (formed_sets g seat) ≡ forms.game_sets g seat
model_sets_are g seat =
    ap sets_model (formed_sets_are g seat) ∙ map-map set_model (set_of g seat) (sets g seat) ∙ map_same (λ s. set_model (set_of g seat s)) (forms.game_set g seat) (sets g seat) (λ s i. each s)
  where
    each : (s : List Item) → set_model (set_of g seat s) ≡ forms.game_set g seat s
    each s = ap (λ o. with_parent o (set_actions g seat s)) (step_same (parent g seat s))
      where
        with_parent : Option SetAction → ℕ → forms.FormSet
        with_parent o n = record { parent = o; actions = n }

-- their numbers of actions are those of the game
pub actions_are : (g : GameModel) (seat : ℕ) → actions_in (formed_sets g seat) ≡ forms.game_actions g seat
actions_are g seat = sym (model_actions (formed_sets g seat)) ∙ ap forms.actions_in (model_sets_are g seat)

module _ (g : GameModel) (seat : ℕ) (is : IsSeat seat) (alike : AlikeNames g seat) where
  -- the numbers of actions of the first sets
  first_actions : (i : ℕ) → actions_in (take i (formed_sets g seat)) ≡ take i (forms.game_actions g seat)
  first_actions i = sym (take-map (λ (s : FormSet). s.actions) i (formed_sets g seat)) ∙ ap (take i) (actions_are g seat)

  -- a step below a number is one at a set of the first ones
  step_among : (i : ℕ) (o : Option SetAction) → i ≤ length (sets g seat) → parents.IsStepBelow (forms.game_actions g seat) i o → IsStepBelow (take i (formed_sets g seat)) (option_map taken_in o)
  step_among i None le h = tt
  step_among i (Some t) le h = (
    subst (λ n. t.set < n) (sym (length-take-le i (formed_sets g seat) (omega (arith, le, sets_count g seat)))) h.0,
    subst (λ ns. t.action < get_or ns t.set 0) (sym (first_actions i)) (subst (λ n. t.action < n) (sym (get_or-take i (forms.game_actions g seat) t.set 0 h.0)) h.1),
  )

  -- the sets of a game may stand in a form
  pub sets_stand : game_ok g ≡ true → AreSets (formed_sets g seat)
  sets_stand ok i d l =
      let below : i < length (sets g seat) = subst (λ n. i < n) (sets_count g seat) l in
      let low : i < length (forms.game_actions g seat) = omega (arith, below, game_actions_length g seat) in
      let n_is = number_at set_cmp set_total (sets g seat) i [] (sets_ascending g seat) below in
      let parent_below = subst (parents.IsStepBelow (forms.game_actions g seat) i) (game_parents_at g seat i below) (sets_below g seat alike is i low) in
      subst (IsNextSet (take i (formed_sets g seat))) (sym (sets_read g seat i d below)) (record {
        some = omega (arith, sets_some g seat ok alike i low, game_actions_at g seat i below);
        parent = step_among i (parent g seat (get_or (sets g seat) i [])) (omega (arith, below)) parent_below;
        first = ap (λ n. sum_over weights_of (take n (forms.game_actions g seat))) n_is ∙ sym (ap (sum_over weights_of) (first_actions i));
      })

  -- the path of a history is the chain of parents that ends with its last step
  path_chain : (h : model.History) → In h (model.histories g) → IsChain (forms.game_sets g seat) (path_along g seat h)
  path_chain h i = chain_of_path (forms.game_sets g seat) (sets_below g seat alike is) (path_along g seat h) (path_ok g seat alike is (length h) h (omega arith) i)

  -- the last step of a history leads on from a set
  pub last_below : (h : model.History) → In h (model.histories g) → IsStepBelow (formed_sets g seat) (option_map taken_in (parent g seat (seen g seat h)))
  last_below h i =
      let many : length (forms.game_sets g seat) ≡ length (sets g seat) = length-map (sets g seat) (forms.game_set g seat) in
      let there = subst (parents.IsStepBelow (forms.game_actions g seat) (length (forms.game_sets g seat))) (last_is g seat h i) (path_chain h i).there in
      subst (λ ss. IsStepBelow ss (option_map taken_in (parent g seat (seen g seat h)))) (take_all (formed_sets g seat) (length (sets g seat)) (sets_count g seat))
      (step_among (length (sets g seat)) (parent g seat (seen g seat h)) (omega arith) (subst (λ n. parents.IsStepBelow (forms.game_actions g seat) n (parent g seat (seen g seat h))) many there))
    where
      take_all : (ss : List FormSet) (n : ℕ) → length ss ≡ n → take n ss ≡ ss
      take_all ss n e = ap (λ k. take k ss) (sym e) ∙ take-length ss

  -- of a terminal history the last set is that which it follows
  pub end_last : game_ok g ≡ true → (h : model.History) → In h (ends_by_nodes g) → option_map taken_in (parent g seat (seen g seat h)) ≡ Some (last_in g seat h)
  end_last ok h i = at (history_cases g h (end_there g h i).0)
    where
      at : (h ≡ []) ⊎ Longer g (model.histories g) h → option_map taken_in (parent g seat (seen g seat h)) ≡ Some (last_in g seat h)
      at (inl e) = absurd (terminal_long g h (game_fine g ok).root (end_there g h i).1 e)
      at (inr r) =
          let p = ap (λ k. parent g seat (seen g seat k)) r.made ∙ (along_law g seat r.before r.step).1 in
          ap (option_map taken_in) p ∙ sym (ap (λ o. Some (taken_in (elim o [ Some t ↦ t | None ↦ record { set = 0; action = 0 } ]))) p)

  -- the whole path to it is that of the history
  pub end_path : game_ok g ≡ true → (h : model.History) → In h (ends_by_nodes g) → whole_path (formed_sets g seat) (Some (last_in g seat h)) ≡ path_along g seat h
  end_path ok h i =
      ap (whole_path (formed_sets g seat)) (sym (end_last ok h i))
      ∙ ap (λ ss. forms.chain ss (option_map taken_model (option_map taken_in (parent g seat (seen g seat h))))) (model_sets_are g seat)
      ∙ ap (forms.chain (forms.game_sets g seat)) (step_same (parent g seat (seen g seat h)))
      ∙ ap (forms.chain (forms.game_sets g seat)) (sym (last_is g seat h (end_there g h i).0))
      ∙ sym (path_chain h (end_there g h i).0).parents

  -- it is one of the sets, with one of its actions
  pub end_below : game_ok g ≡ true → (h : model.History) → In h (ends_by_nodes g) → IsStepBelow (formed_sets g seat) (Some (last_in g seat h))
  end_below ok h i = subst (IsStepBelow (formed_sets g seat)) (end_last ok h i) (last_below h (end_there g h i).0)

  -- and its decisions are those of the history
  pub end_decisions : game_ok g ≡ true → (h : model.History) → In h (ends_by_nodes g)
      → forms.decisions_to (sets_model (formed_sets g seat)) (last_in g seat h).0.0 ≡ forms.deciding (forms.game_actions g seat) (path_along g seat h)
  end_decisions ok h i =
      sym (decisions_of (sets_model (formed_sets g seat)) (taken_model (last_in g seat h)) (parents_below (formed_sets g seat) (sets_stand ok)) (omega (arith, (end_below ok h i).0, model_length (formed_sets g seat))))
      ∙ ap (λ ss. forms.deciding (forms.actions_in ss) (whole_path (formed_sets g seat) (Some (last_in g seat h)))) (model_sets_are g seat)
      ∙ ap (forms.deciding (forms.game_actions g seat)) (end_path ok h i)

-- ---- the tree

-- all rows of the tree are those of the terminal histories by their nodes
pub rows_are : (g : GameModel) → all_rows (tree_of g) ≡ map (row_in g) (ends_by_nodes g)
rows_are g = flat_map-map (λ (rows : List RowInfo). rows) (λ p. map (row_in g) (node_ends g p)) (nodes g) ∙ sym (map_flat (row_in g) (node_ends g) (nodes g))

-- the law of the parts of a game's form
pub form_parts_law : FormPartsLaw
form_parts_law g ok =
    let alike = (recall_law g).0 ok.recalls in
    record { sets1 = sets_stand g 1 (inl refl) alike.0 ok.good; sets2 = sets_stand g 2 (inr refl) alike.1 ok.good; last = last }
  where
    s1 : List FormSet
    s1 = formed_sets g 1

    s2 : List FormSet
    s2 = formed_sets g 2

    last : AreRows (formed_sets g 1) (formed_sets g 2) (map (form_row (formed_sets g 1) (formed_sets g 2) 0 0) (all_rows (tree_of g)))
    last = subst (λ rows. AreRows s1 s2 (map (form_row s1 s2 0 0) rows)) (sym (rows_are g)) (subst (AreRows s1 s2) (sym (map-map (form_row s1 s2 0 0) (row_in g) (ends_by_nodes g))) each)
      where
        each : AreRows s1 s2 (map (λ h. form_row s1 s2 0 0 (row_in g h)) (ends_by_nodes g))
        each i d l =
            let alike = (recall_law g).0 ok.recalls in
            let below : i < length (ends_by_nodes g) = subst (λ n. i < n) (length-map (ends_by_nodes g) (λ h. form_row s1 s2 0 0 (row_in g h))) l in
            let h = get_or (ends_by_nodes g) i [] in
            let there = in_get_or (ends_by_nodes g) i [] below in
            subst (IsNextRow s1 s2) (sym (get_or-map (λ h. form_row s1 s2 0 0 (row_in g h)) (ends_by_nodes g) i [] d below))
            (record { one = end_below g 1 (inl refl) alike.0 ok.good h there; two = end_below g 2 (inr refl) alike.1 ok.good h there })

-- the law of a game's form
pub form_law : FormLaw
form_law g ok =
    ap (λ ss. told ss (sets_model s2) rows) (model_sets_are g 1) ∙ ap (λ ss. told (forms.game_sets g 1) ss rows) (model_sets_are g 2)
    ∙ ap (told (forms.game_sets g 1) (forms.game_sets g 2)) rows_same
  where
    s1 : List FormSet
    s1 = formed_sets g 1

    s2 : List FormSet
    s2 = formed_sets g 2

    made : RowInfo → FormRow
    made = form_row (formed_sets g 1) (formed_sets g 2) (most_decisions g 1) (most_decisions g 2)

    rows : List forms.Row
    rows = map (row_model (formed_sets g 1) (formed_sets g 2)) (map made (all_rows (tree_of g)))

    told : List forms.FormSet → List forms.FormSet → List forms.Row → forms.Form
    told a b zs = record { sets1 = a; sets2 = b; rows = zs }

    row_same : (h : model.History) → In h (ends_by_nodes g) → row_model s1 s2 (made (row_in g h)) ≡ forms.row_along g h
    row_same h i =
        let alike = (recall_law g).0 ok.recalls in
        ap (λ p. row p (whole_path s2 (Some (last_in g 2 h))) (forms.decisions_to (sets_model s1) (last_in g 1 h).0.0) (forms.decisions_to (sets_model s2) (last_in g 2 h).0.0)) (end_path g 1 (inl refl) alike.0 ok.good h i)
        ∙ ap (λ p. row (path_along g 1 h) p (forms.decisions_to (sets_model s1) (last_in g 1 h).0.0) (forms.decisions_to (sets_model s2) (last_in g 2 h).0.0)) (end_path g 2 (inr refl) alike.1 ok.good h i)
        ∙ ap (λ n. row (path_along g 1 h) (path_along g 2 h) n (forms.decisions_to (sets_model s2) (last_in g 2 h).0.0)) (end_decisions g 1 (inl refl) alike.0 ok.good h i)
        ∙ ap (row (path_along g 1 h) (path_along g 2 h) (forms.deciding (forms.game_actions g 1) (path_along g 1 h))) (end_decisions g 2 (inr refl) alike.1 ok.good h i)
      where
        row : List SetAction → List SetAction → ℕ → ℕ → forms.Row
        row p q m n = record { worth = (row_in g h).worth.0; path1 = p; path2 = q; pad1 = most_decisions g 1 - m; pad2 = most_decisions g 2 - n }

    rows_same : map (row_model (formed_sets g 1) (formed_sets g 2)) (map made (all_rows (tree_of g))) ≡ map (forms.row_along g) (ends_by_nodes g)
    rows_same =
        ap (λ zs. map (row_model s1 s2) (map made zs)) (rows_are g) ∙ ap (map (row_model s1 s2)) (map-map made (row_in g) (ends_by_nodes g))
        ∙ map-map (row_model s1 s2) (λ h. made (row_in g h)) (ends_by_nodes g) ∙ map_same (λ h. row_model s1 s2 (made (row_in g h))) (forms.row_along g) (ends_by_nodes g) row_same
