-- An accepted game is a form: each set comes after its parent, and along each history the sets of a seat go from parents to children.
use Rattle.std.proofs.Common.{◌≡◌, ℕ, zero, suc, ◌+◌, ◌<◌, ◌≤◌, List, [], ◌∷◌, ◌++◌, length, get_or, true, Some, None, refl, sym, ap, ◌∙◌, subst, arith, inl, inr, ◌⊎◌}
use Rattle.std.specs.Prelude.{slice_index, ◌==◌, if◌then◌else◌}
use Rattle.std.specs.List.{All}
use Rattle.std.proofs.lemmas.List.{length_push}
use Rattle.std.proofs.lemmas.List.Elements.{All-from_recursion}
use Rattle.lab_math.proofs.Elements.{all_map}
use Rattle.lab_math.proofs.Members.{In, all_from_in, in_get_or, in_from_filter}
use Rattle.lab_defs_text.specs.Games.{GameModel}
use Rattle.lab_defs_text.specs.Texts.{game_ok}
use Rattle.lab_defs_game.specs.Seats.{IsSeat}
use Rattle.lab_defs_game.specs.Histories.{History, Step, place_of, reached, actions_at, histories, inner_histories, is_terminal, steps_of}
use Rattle.lab_defs_game.specs.Sets.{Item, seen, sets, set_cmp, set_number}
use Rattle.lab_defs_game.specs.Forms.{Row, game_sets, game_actions, parent_at, row_along, form_of}
use Rattle.lab_defs_game.specs.Paths.{SetAction, path_along, parent, last_step}
use Rattle.lab_defs_game.specs.Nodes.{ends_by_nodes}
use Rattle.lab_defs_game.specs.Laws.{AlikeNames}
use Rattle.lab_defs_game.proofs.NumberLemmas.{at_number, number_at}
use Rattle.lab_defs_game.proofs.Orders.{set_total}
use Rattle.lab_defs_game.proofs.GameLemmas.{Longer, Follows, history_cases, before_inner, seen_cases, set_cases, parent_is, parent_before, set_has, set_from, sets_ascending, last_after_push}
use Rattle.lab_defs_game.proofs.Groups.{ends_from}
use Rattle.lab_defs_game.proofs.Legal.{step_from}
use Rattle.lab_defs_game.proofs.TreeLaws.{along_law}
use Rattle.lab_defs_game.proofs.RecallLemmas.{recall_law, inner_world}
use Rattle.lab_defs_game.proofs.FormLemmas.{game_actions_length, game_parents_at, actions_of_set, set_below, world_ok, some_action}
use Rattle.lab_defs_value.specs.Parents.{IsStepBelow}
use Rattle.lab_defs_value.specs.MatchingLaws.{GameFormLaw}
use Rattle.lab_defs_value.proofs.Chains.{ComesAfter, IsPath, AreBelow, path_push, form_from}

module _ (g : GameModel) (seat : ℕ) where
  -- the step of a seat from a history on
  abbrev pub taken_at : History → Step → SetAction
  taken_at k s = record { set = set_number g seat (seen g seat k); action = if seat == 1 then s.action1 else s.action2 }

  -- the last step along a history is the parent of what has been seen
  pub last_is : (h : History) → In h (histories g) → last_step (path_along g seat h) ≡ parent g seat (seen g seat h)
  last_is h i = at (history_cases g h i)
    where
      at : (h ≡ []) ⊎ Longer g (histories g) h → last_step (path_along g seat h) ≡ parent g seat (seen g seat h)
      at (inl e) = subst (λ k. last_step (path_along g seat k) ≡ parent g seat (seen g seat k)) (sym e) refl
      at (inr r) =
          let t = taken_at r.before r.step in
          subst (λ k. last_step (path_along g seat k) ≡ parent g seat (seen g seat k)) (sym r.made)
          (ap last_step (along_law g seat r.before r.step).0 ∙ last_after_push None (path_along g seat r.before) t ∙ sym (along_law g seat r.before r.step).1)

  -- one step further along a history
  pub longer_path : (h : History) (r : Longer g (histories g) h) → path_along g seat h ≡ path_along g seat r.before ++ taken_at r.before r.step ∷ []
  longer_path h r = ap (path_along g seat) r.made ∙ (along_law g seat r.before r.step).0

  pub shorter : (n : ℕ) (h : History) (r : Longer g (histories g) h) → length h ≤ suc n → length r.before ≤ n
  shorter n h r le = let len : length h ≡ length r.before + 1 = ap length r.made ∙ length_push r.before r.step in omega (arith, le, len)

  -- a parent has the lower number
  parent_after : (k : History) → In k (inner_histories g) → ComesAfter (parent g seat (seen g seat k)) (set_number g seat (seen g seat k))
  parent_after k j = at (seen_cases g seat k (inner_world g k j).0)
    where
      at : (seen g seat k ≡ []) ⊎ Follows g seat (seen g seat k) → ComesAfter (parent g seat (seen g seat k)) (set_number g seat (seen g seat k))
      at (inl e) = subst (λ s. ComesAfter (parent g seat s) (set_number g seat s)) (sym e) tt
      at (inr f) = subst (λ o. ComesAfter o (set_number g seat (seen g seat k))) (sym (parent_is g seat (seen g seat k) f)) (parent_before g seat (seen g seat k) f)

  -- the parent of a history's set
  pub parent_at_set : (k : History) → In k (inner_histories g) → parent_at (game_sets g seat) (set_number g seat (seen g seat k)) ≡ parent g seat (seen g seat k)
  parent_at_set k j =
      game_parents_at g seat (set_number g seat (seen g seat k)) (set_below g seat k j)
      ∙ ap (parent g seat) (at_number set_cmp set_total (sets g seat) (seen g seat k) [] (sets_ascending g seat) (set_has g seat k j))

  -- a step from a history on is an action of its set
  taken_there : AlikeNames g seat → IsSeat seat → (k : History) → In k (inner_histories g) → (s : Step) → In s (steps_of (place_of g k))
      → IsStepBelow (game_actions g seat) (length (game_actions g seat)) (Some (taken_at k s))
  taken_there alike is k j s i = (
    subst (λ n. set_number g seat (seen g seat k) < n) (sym (game_actions_length g seat)) (set_below g seat k j),
    subst (λ n. (taken_at k s).action < n) (sym (actions_of_set g seat alike k j)) (by is),
  )
    where
      by : IsSeat seat → (taken_at k s).action < actions_at seat (place_of g k)
      by (inl e) = subst (λ x. (if x == 1 then s.action1 else s.action2) < actions_at x (place_of g k)) (sym e) (step_from (place_of g k) s i).0
      by (inr e) = subst (λ x. (if x == 1 then s.action1 else s.action2) < actions_at x (place_of g k)) (sym e) (step_from (place_of g k) s i).1

  -- parents come before children
  pub sets_below : AlikeNames g seat → IsSeat seat → AreBelow (game_sets g seat)
  sets_below alike is J l = subst (IsStepBelow (game_actions g seat) J) (sym (game_parents_at g seat J low)) (at (set_cases g seat s (in_get_or (sets g seat) J [] low)))
    where
      low : J < length (sets g seat)
      low = subst (λ n. J < n) (game_actions_length g seat) l

      s : List Item
      s = get_or (sets g seat) J []

      at : (s ≡ []) ⊎ Follows g seat s → IsStepBelow (game_actions g seat) J (parent g seat s)
      at (inl e) = subst (λ u. IsStepBelow (game_actions g seat) J (parent g seat u)) (sym e) tt
      at (inr f) =
          subst (IsStepBelow (game_actions g seat) J) (sym (parent_is g seat s f)) (
            subst (λ n. set_number g seat (seen g seat f.history) < n) (number_at set_cmp set_total (sets g seat) J [] (sets_ascending g seat) low) (parent_before g seat s f),
            (taken_there alike is f.history f.there f.step f.legal).1,
          )

  -- the path of a history goes from parents to children
  pub path_ok : AlikeNames g seat → IsSeat seat → (n : ℕ) (h : History) → length h ≤ n → In h (histories g) → IsPath (game_actions g seat) (parent_at (game_sets g seat)) None (path_along g seat h)
  path_ok alike is zero [] le i = tt
  path_ok alike is zero (s ∷ h) le i = absurd (omega (arith, le))
  path_ok alike is (suc n) h le i = at (history_cases g h i) (λ h l i. path_ok alike is n h l i)
    where
      IsGood : History → Type 0
      IsGood h = IsPath (game_actions g seat) (parent_at (game_sets g seat)) None (path_along g seat h)

      at : (h ≡ []) ⊎ Longer g (histories g) h → ((h : History) → length h ≤ n → In h (histories g) → IsGood h) → IsGood h
      at (inl q) rest = subst IsGood (sym q) tt
      at (inr r) rest =
          let k = r.before in
          let t = taken_at k r.step in
          let inner = before_inner g h r in
          subst (IsPath (game_actions g seat) (parent_at (game_sets g seat)) None) (sym (longer_path h r))
          (path_push (game_actions g seat) (parent_at (game_sets g seat)) None (path_along g seat k) t (rest k (shorter n h r le) r.there)
          (parent_at_set k inner ∙ sym (last_is k r.there)) (subst (λ o. ComesAfter o t.set) (sym (last_is k r.there)) (parent_after k inner)) (taken_there alike is k inner r.step r.legal))

  -- each set has an action
  pub sets_some : game_ok g ≡ true → AlikeNames g seat → (J : ℕ) → J < length (game_actions g seat) → 1 ≤ slice_index (game_actions g seat) J
  sets_some ok alike J l =
      let low : J < length (sets g seat) = subst (λ n. J < n) (game_actions_length g seat) l in
      let s = get_or (sets g seat) J [] in
      let k = set_from g seat s (in_get_or (sets g seat) J [] low) in
      let world = (inner_world g k.0 k.1).1 in
      let same : set_number g seat (seen g seat k.0) ≡ J = ap (set_number g seat) k.2 ∙ number_at set_cmp set_total (sets g seat) J [] (sets_ascending g seat) low in
      subst (λ n. 1 ≤ n) (sym (ap (slice_index (game_actions g seat)) (sym same) ∙ actions_of_set g seat alike k.0 k.1))
      (some_action g seat (place_of g k.0) (world_ok g (reached g g.root k.0) ok world) world)

-- the terminal histories, node by node, are histories
pub ends_there : (g : GameModel) (h : History) → In h (ends_by_nodes g) → In h (histories g)
ends_there g h i = (in_from_filter (is_terminal g) (histories g) h (ends_from g h i)).0

-- the law of games as forms
pub game_form_law : GameFormLaw
game_form_law g ok recalls =
    let alike = (recall_law g).0 recalls in (
      form_from (form_of g) 1 (sets_some g 1 ok alike.0) (sets_below g 1 alike.0 (inl refl)) (rows 1 (λ z. z.path1) (λ h. refl) alike.0 (inl refl)),
      form_from (form_of g) 2 (sets_some g 2 ok alike.1) (sets_below g 2 alike.1 (inr refl)) (rows 2 (λ z. z.path2) (λ h. refl) alike.1 (inr refl)),
    )
  where
    rows : (seat : ℕ) (seen : Row → List SetAction) → ((h : History) → path_along g seat h ≡ seen (row_along g h)) → AlikeNames g seat → IsSeat seat
        → All (λ (z : Row). IsPath (game_actions g seat) (parent_at (game_sets g seat)) None (seen z)) (form_of g).rows
    rows seat seen e alike is =
        let IsGood = IsPath (game_actions g seat) (parent_at (game_sets g seat)) None in
        All-from_recursion (λ (z : Row). IsGood (seen z)) (form_of g).rows
        (all_map (λ h. IsGood (path_along g seat h)) (λ (z : Row). IsGood (seen z)) (row_along g) (ends_by_nodes g) (λ h k. subst IsGood (e h) k)
        (all_from_in (λ h. IsGood (path_along g seat h)) (ends_by_nodes g) (λ h i. path_ok g seat alike is (length h) h (omega arith) (ends_there g h i))))
