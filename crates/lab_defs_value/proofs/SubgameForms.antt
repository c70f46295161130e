-- In an accepted game a subgame is a form.
use Rattle.std.proofs.Common.{◌≡◌, ℕ, zero, suc, ◌+◌, ◌-◌, ◌<◌, ◌≤◌, List, [], ◌∷◌, ◌++◌, length, map, filter, drop, get_or, Bool, true, false, cond, ◌&&◌, Option, Some, None, refl, sym, ap, ◌∙◌, subst, arith, inl, inr, ◌⊎◌}
use Rattle.std.specs.Prelude.{slice_index, slice_range, nat_le, nat_lt}
use Rattle.std.specs.List.{All}
use Rattle.std.proofs.lemmas.Bool.{and_parts, leb-true, ltb-true, le-leb, lt-ltb, cases_lt}
use Rattle.std.proofs.lemmas.List.{append-nil, map-append, length-map, length-take, length-drop, get_or-take, get_or-drop}
use Rattle.std.proofs.Math.ListN.{get_or-map}
use Rattle.std.proofs.lemmas.List.Elements.{All-from_recursion, filter-append}
use Rattle.lab_math.proofs.Elements.{all_map}
use Rattle.lab_math.proofs.Members.{In, all_from_in, in_get_or, in_from_filter}
use Rattle.lab_defs_text.specs.Games.{GameModel}
use Rattle.lab_defs_game.specs.Seats.{IsSeat}
use Rattle.lab_defs_game.specs.Histories.{History, Step, reached, outcome_of, histories, inner_histories}
use Rattle.lab_defs_game.specs.Sets.{Item, item_of, seen, sets, set_cmp, set_number, public_list, publics}
use Rattle.lab_defs_game.specs.Forms.{FormSet, Row, actions_in, parent_at, row_along}
use Rattle.lab_defs_game.specs.Paths.{SetAction, path_along, parent, last_step}
use Rattle.lab_defs_game.specs.Nodes.{begins, ends_by_nodes}
use Rattle.lab_defs_game.specs.Laws.{AlikeNames}
use Rattle.lab_defs_game.proofs.NumberLemmas.{at_number}
use Rattle.lab_defs_game.proofs.Orders.{set_total}
use Rattle.lab_defs_game.proofs.Spans.{span_is}
use Rattle.lab_defs_game.proofs.SetNumbers.{tests_same}
use Rattle.lab_defs_game.proofs.Ways.{begins_longer, inside_follower}
use Rattle.lab_defs_game.proofs.GameLemmas.{Longer, Follows, history_cases, before_inner, set_cases, set_has, sets_ascending, publics_seen, public_push, parent_is, last_after_push}
use Rattle.lab_defs_game.proofs.TreeLaws.{along_law}
use Rattle.lab_defs_game.proofs.RecallLemmas.{recall_law}
use Rattle.lab_defs_game.proofs.FormLemmas.{game_actions_length, game_parents_at, set_below}
use Rattle.lab_defs_value.specs.Parents.{IsStepBelow}
use Rattle.lab_defs_value.specs.Subgames.{Span, span_at, is_inside, inside, renumbered_step, renumbered, parent_inside, inner_set, span_sets, span_actions, part_at, subgame_row, subgame_ends, subgame_form}
use Rattle.lab_defs_value.specs.MatchingLaws.{SubgameFormLaw}
use Rattle.lab_defs_value.proofs.Chains.{ComesAfter, IsPath, AreBelow, form_from}
use Rattle.lab_defs_value.proofs.SubgameRows.{actions_inside}
use Rattle.lab_defs_value.proofs.GameForms.{taken_at, longer_path, shorter, sets_some, sets_below, path_ok, ends_there}

-- ---- spans

-- the part of a path in a span
abbrev pub inner : Span → List SetAction → List SetAction
inner s p = renumbered s (inside s p)

-- one more step at the end of a path
inner_push : (s : Span) (p : List SetAction) (t : SetAction) → inner s (p ++ t ∷ []) ≡ inner s p ++ cond (is_inside s t) (renumbered_step s t ∷ []) []
inner_push s p t =
    ap (map (renumbered_step s)) (filter-append (is_inside s) p (t ∷ []))
    ∙ map-append (renumbered_step s) (inside s p) (filter (is_inside s) (t ∷ []))
    ∙ ap (λ q. inner s p ++ q) (at (is_inside s t))
  where
    at : (b : Bool) → map (renumbered_step s) (cond b (t ∷ []) []) ≡ cond b (renumbered_step s t ∷ []) []
    at true = refl
    at false = refl

-- where it is inside it is there at the end, and else nothing is
pub push_inside : (s : Span) (p : List SetAction) (t : SetAction) → is_inside s t ≡ true → inner s (p ++ t ∷ []) ≡ inner s p ++ renumbered_step s t ∷ []
push_inside s p t e = inner_push s p t ∙ ap (λ b. inner s p ++ cond b (renumbered_step s t ∷ []) []) e

pub push_outside : (s : Span) (p : List SetAction) (t : SetAction) → is_inside s t ≡ false → inner s (p ++ t ∷ []) ≡ inner s p
push_outside s p t e = inner_push s p t ∙ ap (λ b. inner s p ++ cond b (renumbered_step s t ∷ []) []) e ∙ append-nil (inner s p)

-- what is inside lies between the ends
pub inside_range : (s : Span) (t : SetAction) → is_inside s t ≡ true → (s.start ≤ t.set) × (t.set < s.end)
inside_range s t e = let both = and_parts (nat_le s.start t.set) (nat_lt t.set s.end) e in (leb-true s.start t.set both.0, ltb-true t.set s.end both.1)

-- and the other way round
pub inside_between : (s : Span) (t : SetAction) → s.start ≤ t.set → t.set < s.end → is_inside s t ≡ true
inside_between s t ge l = ap (λ b. b && nat_lt t.set s.end) (le-leb s.start t.set ge) ∙ lt-ltb t.set s.end l

-- a set inside has a place among those of the span
pub place_below : (s : Span) (J : ℕ) → s.start ≤ J → J < s.end → J < length (actions_in s.sets) → J - s.start < length (span_actions s)
place_below s J ge l h =
    omega (arith, ge, l, h, length-map s.sets (λ x. x.actions), length-map (span_sets s) (λ x. x.actions), length-map (slice_range s.sets s.start s.end) (inner_set s), length-take (s.end - s.start) (drop s.start s.sets), length-drop s.start s.sets)

-- and a place there is that of a set
pub place_within : (s : Span) (J : ℕ) → J < length (span_actions s) → (s.start + J < s.end) × (s.start + J < length (actions_in s.sets))
place_within s J l =
    let long = length-take (s.end - s.start) (drop s.start s.sets) in
    let rest = length-drop s.start s.sets in
    let all = length-map s.sets (λ x. x.actions) in
    let some = length-map (span_sets s) (λ x. x.actions) in
    let part = length-map (slice_range s.sets s.start s.end) (inner_set s) in
    (omega (arith, l, long, rest, all, some, part), omega (arith, l, long, rest, all, some, part))

-- the parent of a set of a span is the parent that it has, where that is inside
pub parent_span : (s : Span) (J : ℕ) → J < length (span_actions s) → parent_at (span_sets s) J ≡ parent_inside s (parent_at s.sets (s.start + J))
parent_span s J l =
    let none : FormSet = record { parent = None; actions = 0 } in
    let part = slice_range s.sets s.start s.end in
    get_or-map (λ (x : FormSet). x.parent) (span_sets s) J none
    ∙ ap (λ (x : FormSet). x.parent) (get_or-map (inner_set s) part J none)
    ∙ ap (λ (x : FormSet). parent_inside s x.parent) (get_or-take (s.end - s.start) (drop s.start s.sets) J none (omega (arith, (place_within s J l).0)) ∙ get_or-drop s.start s.sets J none)
    ∙ sym (ap (parent_inside s) (get_or-map (λ (x : FormSet). x.parent) s.sets (s.start + J) none))

-- a parent has the lower number inside too
inside_after : (s : Span) (o : Option SetAction) (J : ℕ) → s.start ≤ J → ComesAfter o J → ComesAfter (parent_inside s o) (J - s.start)
inside_after s None J ge h = tt
inside_after s (Some t) J ge h = at (is_inside s t) refl
  where
    at : (b : Bool) → is_inside s t ≡ b → ComesAfter (cond b (Some (renumbered_step s t)) None) (J - s.start)
    at true e = let range = inside_range s t e in omega (arith, h, ge, range.0)
    at false e = tt

-- a step that is there and inside is an action of a set of the span
step_inside : (s : Span) (t : SetAction) → is_inside s t ≡ true → IsStepBelow (actions_in s.sets) (length (actions_in s.sets)) (Some t)
    → IsStepBelow (span_actions s) (length (span_actions s)) (Some (renumbered_step s t))
step_inside s t e h =
    let range = inside_range s t e in
    (place_below s t.set range.0 range.1 h.0, subst (λ n. t.action < n) (sym (actions_inside s t.set range.0 range.1)) h.1)

-- each set of a span has an action where each set has
span_some : (s : Span) → ((J : ℕ) → J < length (actions_in s.sets) → 1 ≤ slice_index (actions_in s.sets) J) → (J : ℕ) → J < length (span_actions s) → 1 ≤ slice_index (span_actions s) J
span_some s some J l =
    let within = place_within s J l in
    let place : (s.start + J) - s.start ≡ J = omega arith in
    subst (λ n. 1 ≤ n) (sym (actions_inside s (s.start + J) (omega arith) within.0) ∙ ap (slice_index (span_actions s)) place) (some (s.start + J) within.1)

-- parents come before children in a span where they do
pub span_below : (s : Span) → AreBelow s.sets → AreBelow (span_sets s)
span_below s below J l = subst (IsStepBelow (span_actions s) J) (sym (parent_span s J l)) (by (parent_at s.sets (s.start + J)) (below (s.start + J) (place_within s J l).1))
  where
    by : (o : Option SetAction) → IsStepBelow (actions_in s.sets) (s.start + J) o → IsStepBelow (span_actions s) J (parent_inside s o)
    by None h = tt
    by (Some t) h = at (is_inside s t) refl
      where
        at : (b : Bool) → is_inside s t ≡ b → IsStepBelow (span_actions s) J (cond b (Some (renumbered_step s t)) None)
        at true e = let range = inside_range s t e in (omega (arith, h.0, range.0), subst (λ n. t.action < n) (sym (actions_inside s t.set range.0 range.1)) h.1)
        at false e = tt

-- what follows a set inside is inside: a set after the span has no parent there
abbrev IsClosed : Span → Type 0
IsClosed s = (J : ℕ) → s.end ≤ J → J < length (actions_in s.sets) → parent_inside s (parent_at s.sets J) ≡ None

-- the part of a path in such a span goes from parents to children where the path does
inner_path_ok : (s : Span) → IsClosed s → (before : Option SetAction) (path : List SetAction) → IsPath (actions_in s.sets) (parent_at s.sets) before path
    → IsPath (span_actions s) (parent_at (span_sets s)) (parent_inside s before) (inner s path)
inner_path_ok s closed before [] h = tt
inner_path_ok s closed before (t ∷ ts) h = at (is_inside s t) refl (inner_path_ok s closed (Some t) ts h.3)
  where
    IsRest : Option SetAction → List SetAction → Type 0
    IsRest = IsPath (span_actions s) (parent_at (span_sets s))

    -- the step before a step that is not inside is not inside
    outside : is_inside s t ≡ false → (o : Option SetAction) → parent_at s.sets t.set ≡ o → ComesAfter o t.set → parent_inside s o ≡ None
    outside out None e l = refl
    outside out (Some u) e l = by (is_inside s u) refl
      where
        clash : true ≡ false → ⊥
        clash e = cc

        by : (b : Bool) → is_inside s u ≡ b → cond b (Some (renumbered_step s u)) None ≡ None
        by false q = refl
        by true q = elim (cases_lt t.set s.end) [
          | inl lt ↦ let range = inside_range s u q in absurd (clash (sym (inside_between s t (omega (arith, range.0, l)) lt) ∙ out))
          | inr ge ↦ sym (ap (λ b. cond b (Some (renumbered_step s u)) None) q) ∙ sym (ap (parent_inside s) e) ∙ closed t.set ge h.2.0
        ]

    at : (b : Bool) → is_inside s t ≡ b → IsRest (cond (is_inside s t) (Some (renumbered_step s t)) None) (inner s ts) → IsRest (parent_inside s before) (map (renumbered_step s) (cond b (t ∷ inside s ts) (inside s ts)))
    at true e rest =
        let range = inside_range s t e in
        let place : s.start + (t.set - s.start) ≡ t.set = omega (arith, range.0) in
        let there = step_inside s t e h.2 in (
          parent_span s (t.set - s.start) there.0 ∙ ap (λ J. parent_inside s (parent_at s.sets J)) place ∙ ap (parent_inside s) h.0,
          inside_after s before t.set range.0 h.1,
          there,
          subst (λ b. IsRest (cond b (Some (renumbered_step s t)) None) (inner s ts)) e rest,
        )
    at false e rest = subst (λ o. IsRest o (inner s ts)) (ap (λ b. cond b (Some (renumbered_step s t)) None) e ∙ sym (outside e before h.0 h.1)) rest

-- ---- the subgame of a node

module _ (g : GameModel) (seat : ℕ) (node : List ℕ) where
  -- the span of the subgame
  abbrev pub span : Span
  span = span_at g seat node

  -- the part of a history's path in it
  abbrev pub inner_along : History → List SetAction
  inner_along h = inner span (path_along g seat h)

  -- a number is that of a set inside exactly where the node begins the public list of a history of the set
  pub inside_set : (k : History) (action : ℕ) → In k (inner_histories g) → is_inside span (record { set = set_number g seat (seen g seat k); action = action }) ≡ begins node (public_list g k)
  inside_set k action j =
      let number = set_number g seat (seen g seat k) in
      let there = span_is g seat node number [] (set_below g seat k j) in
      let same : publics (get_or (sets g seat) number []) ≡ public_list g k =
      ap publics (at_number set_cmp set_total (sets g seat) (seen g seat k) [] (sets_ascending g seat) (set_has g seat k j)) ∙ publics_seen g seat g.root k in
      tests_same (is_inside span (record { set = number; action = action })) (begins node (public_list g k))
      (λ e. sym (ap (begins node) same) ∙ there.1 (inside_range span (record { set = number; action = action }) e))
      (λ e. let range = there.0 (ap (begins node) same ∙ e) in inside_between span (record { set = number; action = action }) range.0 range.1)

  -- so a step from a history on is inside where the node begins its public list
  pub inside_is : (k : History) (s : Step) → In k (inner_histories g) → is_inside span (taken_at g seat k s) ≡ begins node (public_list g k)
  inside_is k s j = inside_set k (taken_at g seat k s).action j

  -- where the node does not begin the public list of a history, nothing of its path is inside
  pub none_inside : (n : ℕ) (h : History) → length h ≤ n → In h (histories g) → begins node (public_list g h) ≡ false → inner_along h ≡ []
  none_inside zero [] le i e = refl
  none_inside zero (s ∷ h) le i e = absurd (omega (arith, le))
  none_inside (suc n) h le i e = at (history_cases g h i) (λ h l i e. none_inside n h l i e)
    where
      at : (h ≡ []) ⊎ Longer g (histories g) h → ((h : History) → length h ≤ n → In h (histories g) → begins node (public_list g h) ≡ false → inner_along h ≡ []) → inner_along h ≡ []
      at (inl q) rest = ap inner_along q
      at (inr r) rest =
          let k = r.before in
          let longer : public_list g h ≡ public_list g k ++ (outcome_of g (reached g g.root k) r.step).public ∷ [] = ap (public_list g) r.made ∙ public_push g g.root k r.step in
          let before : begins node (public_list g k) ≡ false = by (begins node (public_list g k)) refl (sym (ap (begins node) longer) ∙ e) in
          ap (inner span) (longer_path g seat h r) ∙ push_outside span (path_along g seat k) (taken_at g seat k r.step) (inside_is k r.step (before_inner g h r) ∙ before) ∙ rest k (shorter g seat n h r le) r.there before
        where
          by : (b : Bool) → begins node (public_list g r.before) ≡ b → begins node (public_list g r.before ++ (outcome_of g (reached g g.root r.before) r.step).public ∷ []) ≡ false → b ≡ false
          by true q f = sym (begins_longer node (public_list g r.before) (outcome_of g (reached g g.root r.before) r.step).public q) ∙ f
          by false q f = refl

  -- the last step inside along a history is the parent of what has been seen, where that is inside
  pub last_inside : (h : History) → In h (histories g) → last_step (inner_along h) ≡ parent_inside span (parent g seat (seen g seat h))
  last_inside h i = at (history_cases g h i)
    where
      at : (h ≡ []) ⊎ Longer g (histories g) h → last_step (inner_along h) ≡ parent_inside span (parent g seat (seen g seat h))
      at (inl q) = subst (λ k. last_step (inner_along k) ≡ parent_inside span (parent g seat (seen g seat k))) (sym q) refl
      at (inr r) =
          ap (λ p. last_step (inner span p)) (longer_path g seat h r) ∙ by (is_inside span (taken_at g seat r.before r.step)) refl
          ∙ sym (ap (λ k. parent_inside span (parent g seat (seen g seat k))) r.made ∙ ap (parent_inside span) (along_law g seat r.before r.step).1)
        where
          by : (b : Bool) → is_inside span (taken_at g seat r.before r.step) ≡ b
              → last_step (inner span (path_along g seat r.before ++ taken_at g seat r.before r.step ∷ []))
              ≡ cond (is_inside span (taken_at g seat r.before r.step)) (Some (renumbered_step span (taken_at g seat r.before r.step))) None
          by true e =
              ap last_step (push_inside span (path_along g seat r.before) (taken_at g seat r.before r.step) e)
              ∙ last_after_push None (inner_along r.before) (renumbered_step span (taken_at g seat r.before r.step))
              ∙ sym (ap (λ b. cond b (Some (renumbered_step span (taken_at g seat r.before r.step))) None) e)
          by false e =
              ap last_step (push_outside span (path_along g seat r.before) (taken_at g seat r.before r.step) e)
              ∙ ap last_step (none_inside (length r.before) r.before (omega arith) r.there (sym (inside_is r.before r.step (before_inner g h r)) ∙ e))
              ∙ sym (ap (λ b. cond b (Some (renumbered_step span (taken_at g seat r.before r.step))) None) e)

  -- the parent of a set that follows a set inside is that set, among those of the span; else it has none there
  pub parent_follows : (s : List Item) (f : Follows g seat s) → let action = (item_of g seat (reached g g.root f.history) f.step).action in
      let number = set_number g seat (seen g seat f.history) in
      parent_inside span (parent g seat s) ≡ cond {A = Option SetAction} (begins node (public_list g f.history)) (Some (record { set = number - span.start; action = action })) None
  parent_follows s f =
      let action = (item_of g seat (reached g g.root f.history) f.step).action in
      let number = set_number g seat (seen g seat f.history) in
      ap (parent_inside span) (parent_is g seat s f) ∙ ap (λ b. cond b (Some (record { set = number - span.start; action = action })) None) (inside_set f.history action f.there)

  -- what follows a set inside is inside
  span_closed : IsClosed span
  span_closed J ge l = ap (parent_inside span) (game_parents_at g seat J low) ∙ at (set_cases g seat s (in_get_or (sets g seat) J [] low))
    where
      low : J < length (sets g seat)
      low = subst (λ n. J < n) (game_actions_length g seat) l

      s : List Item
      s = get_or (sets g seat) J []

      at : (s ≡ []) ⊎ Follows g seat s → parent_inside span (parent g seat s) ≡ None
      at (inl e) = ap (λ u. parent_inside span (parent g seat u)) e
      at (inr f) = parent_follows s f ∙ by (begins node (public_list g f.history)) refl
        where
          by : (b : Bool) → begins node (public_list g f.history) ≡ b
              → cond {A = Option SetAction} b (Some (record { set = set_number g seat (seen g seat f.history) - span.start; action = (item_of g seat (reached g g.root f.history) f.step).action })) None ≡ None
          by false e = refl
          by true e =
              let inside = inside_follower g seat node s f (ap (begins node) (publics_seen g seat g.root f.history) ∙ e) in
              let range = (span_is g seat node J [] low).0 inside in
              absurd (omega (arith, range.1, ge))

-- the law of subgames as forms
pub subgame_form_law : SubgameFormLaw
subgame_form_law g keeper node table ok recalls =
    let alike = (recall_law g).0 recalls in
    let f = subgame_form g keeper node table in (
      form_from f 1 (span_some (span g 1 node) (sets_some g 1 ok alike.0)) (span_below (span g 1 node) (sets_below g 1 alike.0 (inl refl))) (rows 1 (λ z. z.path1) (λ h. refl) alike.0 (inl refl)),
      form_from f 2 (span_some (span g 2 node) (sets_some g 2 ok alike.1)) (span_below (span g 2 node) (sets_below g 2 alike.1 (inr refl))) (rows 2 (λ z. z.path2) (λ h. refl) alike.1 (inr refl)),
    )
  where
    row : History → Row
    row h = subgame_row (part_at g keeper node table) (row_along g h)

    rows : (seat : ℕ) (seen : Row → List SetAction) → ((h : History) → inner_along g seat node h ≡ seen (row h)) → AlikeNames g seat → IsSeat seat
        → All (λ (z : Row). IsPath (span_actions (span g seat node)) (parent_at (span_sets (span g seat node))) None (seen z)) (subgame_form g keeper node table).rows
    rows seat seen e alike is =
        let s = span g seat node in
        let IsGood = IsPath (span_actions s) (parent_at (span_sets s)) None in
        let ends = subgame_ends g node in
        let from : (h : History) → In h ends → In h (histories g) = λ h i. ends_there g h (in_from_filter (λ h. begins node (public_list g h)) (ends_by_nodes g) h i).0 in
        All-from_recursion (λ (z : Row). IsGood (seen z)) (subgame_form g keeper node table).rows
        (all_map (λ h. IsGood (inner_along g seat node h)) (λ (z : Row). IsGood (seen z)) row ends (λ h k. subst IsGood (e h) k)
        (all_from_in (λ h. IsGood (inner_along g seat node h)) ends
        (λ h i. inner_path_ok s (span_closed g seat node) None (path_along g seat h) (path_ok g seat alike is (length h) h (omega arith) (from h i)))))
