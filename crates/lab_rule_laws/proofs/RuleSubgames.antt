-- In an accepted game the best values in a subgame are those of the whole game, where the keeper's table has the weights in it.
use Rattle.std.proofs.Common.{◌≡◌, ℕ, ◌+◌, ◌-◌, ◌<◌, ◌≤◌, ℤ, pos, List, [], Bool, true, false, cond, eqb, ◌&&◌, Option, Some, None, length, drop, get_or, refl, sym, ap, ◌∙◌, subst, arith, inl, inr, ◌⊎◌}
use Rattle.std.specs.Prelude.{slice_index, slice_range, nat_lt, neg_ℤ, min}
use Rattle.std.specs.List.{All}
use Rattle.std.proofs.lemmas.Bool.{le-leb, lt-ltb}
use Rattle.std.proofs.lemmas.List.{length-map, length-take, length-drop}
use Rattle.std.proofs.lemmas.List.Elements.{recursion_from_All}
use Rattle.lab_math.specs.Sums.{total}
use Rattle.lab_math.proofs.BelowLemmas.{eqb_apart}
use Rattle.lab_math.proofs.IntegerSums.{total-same, total-filter}
use Rattle.lab_math.proofs.SumLemmas.{total-map}
use Rattle.lab_math.proofs.Members.{In, all_in, in_get_or, in_map}
use Rattle.lab_math.proofs.Ring.{neg-*ℤ}
use Rattle.lab_defs_text.specs.Games.{GameModel}
use Rattle.lab_defs_text.specs.Texts.{game_ok}
use Rattle.lab_defs_game.specs.Seats.{grid_of, other}
use Rattle.lab_defs_game.specs.Histories.{History, reached}
use Rattle.lab_defs_game.specs.Sets.{Item, seen, sets, set_cmp, set_number, public_list, publics, item_of}
use Rattle.lab_defs_game.specs.Paths.{SetAction, path_along, last_step, is_taken}
use Rattle.lab_defs_game.specs.Paths as paths
use Rattle.lab_defs_game.specs.Forms.{Row, path_of, row_along, form_of, game_set, game_sets, game_actions, sets_of, actions_in, actions_of, parent_at}
use Rattle.lab_defs_game.specs.Nodes.{begins, ends_by_nodes, span_from, span_to}
use Rattle.lab_defs_game.specs.Recall.{recall_fault}
use Rattle.lab_defs_game.proofs.NumberLemmas.{at_number}
use Rattle.lab_defs_game.proofs.Orders.{set_total}
use Rattle.lab_defs_game.proofs.Spans.{span_is}
use Rattle.lab_defs_game.proofs.Ways.{inside_follower}
use Rattle.lab_defs_game.proofs.GameLemmas.{Follows, set_cases, parent_is, set_has, sets_ascending}
use Rattle.lab_defs_game.proofs.FormLemmas.{game_actions_length, game_parents_at, set_below}
use Rattle.lab_defs_value.specs.Tables.{own_weight}
use Rattle.lab_defs_value.specs.Parents.{IsForm}
use Rattle.lab_defs_value.specs.Replies.{Strategy, strategy_of, opponent, reply_sets, worth_against}
use Rattle.lab_defs_value.specs.BestValues.{best_response_value}
use Rattle.lab_defs_value.specs.Bounds.{through_rows}
use Rattle.lab_defs_value.specs.Splices.{FitsSpan, spliced}
use Rattle.lab_defs_value.specs.Subgames.{Span, is_inside, renumbered_step, parent_inside, inner_set, span_sets, span_actions, part_at, subgame_row, subgame_ends, subgame_form}
use Rattle.lab_defs_value.proofs.GameForms.{last_is, ends_there, game_form_law}
use Rattle.lab_defs_value.proofs.Entries.{eqb_raised}
use Rattle.lab_defs_value.proofs.RegretSums.{actions_law}
use Rattle.lab_defs_value.proofs.SubgameRows.{actions_inside, subgame_law}
use Rattle.lab_defs_value.proofs.SubgameForms.{span, inner_along, inside_range, place_within, parent_span, none_inside, last_inside, subgame_form_law}
use Rattle.lab_rule_laws.specs.Rules.{played, SubgameValueLaw}
use Rattle.lab_rule_laws.proofs.RuleParts.{IsInside, best_inside}

-- ---- steps inside a span

-- a step is at a set inside where it is inside and at that set of the span
set_lowered : (s : Span) (t : SetAction) (J : ℕ) → s.start + J < s.end → (b : Bool) → is_inside s t ≡ b → eqb t.set (s.start + J) ≡ (b && eqb (t.set - s.start) J)
set_lowered s t J l true e =
    let range = inside_range s t e in
    let same : t.set ≡ s.start + (t.set - s.start) = omega (arith, range.0) in
    ap (λ x. eqb x (s.start + J)) same ∙ eqb_raised s.start (t.set - s.start) J
set_lowered s t J l false e = eqb_apart t.set (s.start + J) (λ q. clash (sym (ap (λ b. b && nat_lt t.set s.end) (le-leb s.start t.set (omega (arith, q))) ∙ lt-ltb t.set s.end (omega (arith, q, l))) ∙ e))
  where
    clash : true ≡ false → ⊥
    clash e = cc

-- a step that is kept is what it was
kept_step : (s : Span) (o : Option SetAction) (J a : ℕ) → s.start + J < s.end → is_taken (record { set = J; action = a }) (parent_inside s o) ≡ is_taken (record { set = (s.start + J); action = a }) o
kept_step s None J a l = refl
kept_step s (Some t) J a l = at (is_inside s t) refl
  where
    at : (b : Bool) → is_inside s t ≡ b → is_taken (record { set = J; action = a }) (cond b (Some (renumbered_step s t)) None) ≡ (eqb t.set (s.start + J) && eqb t.action a)
    at true e = sym (ap (λ c. c && eqb t.action a) (set_lowered s t J l true e))
    at false e = sym (ap (λ c. c && eqb t.action a) (set_lowered s t J l false e))

-- ---- a seat in a subgame

module _ (g : GameModel) (seat : ℕ) (node : List ℕ) where
  -- the sets inside
  abbrev s : Span
  s = span g seat node

  -- a place there is that of a set inside
  span_many : (J : ℕ) → J < length (span_actions s) → (s.start + J < s.end) × (s.start + J < length (sets g seat))
  span_many J l = let within = place_within s J l in (within.0, subst (λ n. s.start + J < n) (game_actions_length g seat) within.1)

  -- the span has the sets up to its end
  pub span_long : length (span_actions s) ≡ min (s.end - s.start) (length (sets g seat) - s.start)
  span_long =
      omega (arith, length-map (span_sets s) (λ x. x.actions), length-map (slice_range s.sets s.start s.end) (inner_set s), length-take (s.end - s.start) (drop s.start s.sets), length-drop s.start s.sets, length-map (sets g seat) (game_set g seat))

  -- sets inside follow each other as in the game
  steps_agree : (J a K : ℕ) → J < length (span_actions s) → K < length (span_actions s)
      → is_taken (record { set = J; action = a }) (parent_at (span_sets s) K) ≡ is_taken (record { set = (s.start + J); action = a }) (parent_at (game_sets g seat) (s.start + K))
  steps_agree J a K l m = ap (is_taken (record { set = J; action = a })) (parent_span s K m) ∙ kept_step s (parent_at (game_sets g seat) (s.start + K)) J a (span_many J l).0

  -- and no other set follows them
  others_apart : (J a I : ℕ) → J < length (span_actions s) → I < length (sets g seat) → (I < s.start) ⊎ (s.start + length (span_actions s) ≤ I) → is_taken (record { set = (s.start + J); action = a }) (parent_at (game_sets g seat) I) ≡ false
  others_apart J a I l m out = ap (is_taken t) (game_parents_at g seat I m) ∙ at (set_cases g seat set (in_get_or (sets g seat) I [] m))
    where
      t : SetAction
      t = record { set = s.start + J; action = a }

      set : List Item
      set = get_or (sets g seat) I []

      outside : begins node (publics set) ≡ true → ⊥
      outside b =
          let range = (span_is g seat node I [] m).0 b in
          elim out [
            | inl low ↦ omega (arith, range.0, low)
            | inr high ↦ omega (arith, range.0, range.1, high, m, span_long)
          ]

      at : (set ≡ []) ⊎ Follows g seat set → is_taken t (paths.parent g seat set) ≡ false
      at (inl e) = ap (λ u. is_taken t (paths.parent g seat u)) e
      at (inr f) =
          let number = set_number g seat (seen g seat f.history) in
          ap (is_taken t) (parent_is g seat set f)
          ∙ ap (λ c. c && eqb (item_of g seat (reached g g.root f.history) f.step).action a) (eqb_apart number (s.start + J) (λ q.
          let within = (span_is g seat node number [] (set_below g seat f.history f.there)).1 (omega (arith, q), omega (arith, q, (span_many J l).0)) in
          outside (inside_follower g seat node set f
          (sym (ap (λ x. begins node (publics x)) (at_number set_cmp set_total (sets g seat) (seen g seat f.history) [] (sets_ascending g seat) (set_has g seat f.history f.there))) ∙ within))))

  -- the rows that end with an action inside are those of the subgame
  rows_agree : (W V : History → ℤ) → ((h : History) → In h (ends_by_nodes g) → W h ≡ V h) → (J a : ℕ) → J < length (span_actions s)
      → total (λ h. cond (is_taken (record { set = J; action = a }) (last_step (inner_along g seat node h))) (W h) (pos 0)) (subgame_ends g node)
      ≡ total (λ h. cond (is_taken (record { set = (s.start + J); action = a }) (last_step (path_along g seat h))) (V h) (pos 0)) (ends_by_nodes g)
  rows_agree W V same J a l =
      let test = λ (h : History). begins node (public_list g h) in
      total-filter test (λ h. cond (is_taken (record { set = J; action = a }) (last_step (inner_along g seat node h))) (W h) (pos 0)) (ends_by_nodes g)
      ∙ total-same (λ h. cond (test h) (cond (is_taken (record { set = J; action = a }) (last_step (inner_along g seat node h))) (W h) (pos 0)) (pos 0)) (λ h. cond (is_taken (record { set = (s.start + J); action = a }) (last_step (path_along g seat h))) (V h) (pos 0)) (ends_by_nodes g)
      (λ h i. at h i (begins node (public_list g h)) refl)
    where
      last_agrees : (h : History) → In h (ends_by_nodes g) → is_taken (record { set = J; action = a }) (last_step (inner_along g seat node h)) ≡ is_taken (record { set = (s.start + J); action = a }) (last_step (path_along g seat h))
      last_agrees h i =
          ap (λ q. is_taken (record { set = J; action = a }) q) (last_inside g seat node h (ends_there g h i)) ∙ kept_step s (paths.parent g seat (seen g seat h)) J a (span_many J l).0
          ∙ sym (ap (λ q. is_taken (record { set = (s.start + J); action = a }) q) (last_is g seat h (ends_there g h i)))

      at : (h : History) → In h (ends_by_nodes g) → (b : Bool) → begins node (public_list g h) ≡ b
          → cond b (cond (is_taken (record { set = J; action = a }) (last_step (inner_along g seat node h))) (W h) (pos 0)) (pos 0) ≡ cond (is_taken (record { set = (s.start + J); action = a }) (last_step (path_along g seat h))) (V h) (pos 0)
      at h i true e = ap (λ c. cond c (W h) (pos 0)) (last_agrees h i) ∙ ap (λ x. cond (is_taken (record { set = (s.start + J); action = a }) (last_step (path_along g seat h))) x (pos 0)) (same h i)
      at h i false e = sym (ap (λ c. cond c (V h) (pos 0)) (sym (last_agrees h i) ∙ ap (λ p. is_taken (record { set = J; action = a }) (last_step p)) (none_inside g seat node (length h) h (omega arith) (ends_there g h i) e)))

  -- so two strategies with these sets are one inside the other
  game_inside : (inner whole : Strategy) → sets_of inner.form (opponent inner) ≡ span_sets s → sets_of whole.form (opponent whole) ≡ game_sets g seat
      → ((J a : ℕ) → J < length (span_actions s) → through_rows inner J a ≡ through_rows whole (s.start + J) a) → IsInside inner whole s.start
  game_inside inner whole in_sets all_sets rows =
      let many : length (reply_sets whole) ≡ length (sets g seat) = ap (λ ss. length (actions_in ss)) all_sets ∙ game_actions_length g seat in
      let few : length (reply_sets inner) ≡ length (span_actions s) = ap (λ ss. length (actions_in ss)) in_sets in
      record {
        there = λ J l. let room = span_many J (omega (arith, l, few)) in omega (arith, many, room.1);
        actions = λ J l.
            let room = span_many J (omega (arith, l, few)) in
            let place : s.start + J - s.start ≡ J = omega arith in
            ap (λ ss. slice_index (actions_in ss) J) in_sets ∙ sym (ap (λ ss. slice_index (actions_in ss) (s.start + J)) all_sets
            ∙ sym (actions_inside s (s.start + J) (omega arith) room.0) ∙ ap (slice_index (span_actions s)) place);
        steps = λ J a K l m.
            ap (λ ss. is_taken (record { set = J; action = a }) (parent_at ss K)) in_sets ∙ steps_agree J a K (omega (arith, l, few)) (omega (arith, m, few))
            ∙ sym (ap (λ ss. is_taken (record { set = (s.start + J); action = a }) (parent_at ss (s.start + K))) all_sets);
        others = λ J a I l m out.
            ap (λ ss. is_taken (record { set = (s.start + J); action = a }) (parent_at ss I)) all_sets
            ∙ others_apart J a I (omega (arith, l, few)) (omega (arith, m, many)) (subst (λ n. (I < s.start) ⊎ (s.start + n ≤ I)) few out);
        rows = λ J a l. rows J a (omega (arith, l, few));
      }

-- ---- the law

-- each row of a game has its keeper's actions at sets that have them
actions_there : (g : GameModel) (keeper : ℕ) → IsForm (form_of g) keeper → (h : History) → In h (ends_by_nodes g)
    → All (λ (t : SetAction). t.action < slice_index (actions_of (form_of g) keeper) t.set) (path_of (row_along g h) keeper)
actions_there g keeper ok h i =
    let Has = λ (z : Row). All (λ (t : SetAction). t.action < slice_index (actions_of (form_of g) keeper) t.set) (path_of z keeper) in
    all_in Has (form_of g).rows (row_along g h) (recursion_from_All Has (form_of g).rows (actions_law (form_of g) keeper ok)) (in_map (row_along g) (ends_by_nodes g) h i)

-- where seat 1 keeps
one_keeps : (g : GameModel) (node table weights : List ℕ) → game_ok g ≡ true → recall_fault g ≡ None
    → FitsSpan (game_actions g 1) (span_from g 1 node) (span_to g 1 node) table weights → (J : ℕ) → J < length (span_actions (span g 2 node))
    → best_response_value (played (subgame_form g 1 node table) 1 (grid_of g 1) weights) J ≡ best_response_value (strategy_of g 1 (spliced (game_actions g 1) (span_from g 1 node) (span_to g 1 node) table weights)) (span_from g 2 node + J)
one_keeps g node table weights ok recalls fits J l =
    let f = subgame_form g 1 node table in
    let p = part_at g 1 node table in
    let inside = played f 1 (grid_of g 1) weights in
    let whole = strategy_of g 1 (spliced (game_actions g 1) (span_from g 1 node) (span_to g 1 node) table weights) in
    let row = λ (h : History). subgame_row p (row_along g h) in
    let forms = game_form_law g ok recalls in
    let worth : (h : History) → In h (ends_by_nodes g) → worth_against inside (row h) ≡ worth_against whole (row_along g h) = λ h i.
    neg-*ℤ (row h).worth (pos (own_weight (grid_of g 1) (span_actions (span g 1 node)) weights (row h).path1 (row h).pad1))
    ∙ ap neg_ℤ (subgame_law p (grid_of g 1) weights (row_along g h) (inl refl) fits (actions_there g 1 forms.0 h i))
    ∙ sym (neg-*ℤ (row_along g h).worth (pos (own_weight (grid_of g 1) (game_actions g 1) whole.table (row_along g h).path1 (row_along g h).pad1))) in
    let rows : (J a : ℕ) → J < length (span_actions (span g 2 node)) → through_rows inside J a ≡ through_rows whole (span_from g 2 node + J) a = λ J a l.
    total-map (λ z. cond (is_taken (record { set = J; action = a }) (last_step (path_of z 2))) (worth_against inside z) (pos 0)) row (subgame_ends g node)
    ∙ rows_agree g 2 node (λ h. worth_against inside (row h)) (λ h. worth_against whole (row_along g h)) worth J a l
    ∙ sym (total-map (λ z. cond (is_taken (record { set = (span_from g 2 node + J); action = a }) (last_step (path_of z 2))) (worth_against whole z) (pos 0)) (row_along g) (ends_by_nodes g)) in
    best_inside inside whole (span_from g 2 node) (subgame_form_law g 1 node table ok recalls).1 forms.1
    (game_inside g 2 node inside whole refl refl rows)
    J l

-- where seat 2 keeps
two_keeps : (g : GameModel) (node table weights : List ℕ) → game_ok g ≡ true → recall_fault g ≡ None
    → FitsSpan (game_actions g 2) (span_from g 2 node) (span_to g 2 node) table weights → (J : ℕ) → J < length (span_actions (span g 1 node))
    → best_response_value (played (subgame_form g 2 node table) 2 (grid_of g 2) weights) J ≡ best_response_value (strategy_of g 2 (spliced (game_actions g 2) (span_from g 2 node) (span_to g 2 node) table weights)) (span_from g 1 node + J)
two_keeps g node table weights ok recalls fits J l =
    let f = subgame_form g 2 node table in
    let p = part_at g 2 node table in
    let inside = played f 2 (grid_of g 2) weights in
    let whole = strategy_of g 2 (spliced (game_actions g 2) (span_from g 2 node) (span_to g 2 node) table weights) in
    let row = λ (h : History). subgame_row p (row_along g h) in
    let forms = game_form_law g ok recalls in
    let worth : (h : History) → In h (ends_by_nodes g) → worth_against inside (row h) ≡ worth_against whole (row_along g h) = λ h i.
    subgame_law p (grid_of g 2) weights (row_along g h) (inr refl) fits (actions_there g 2 forms.1 h i) in
    let rows : (J a : ℕ) → J < length (span_actions (span g 1 node)) → through_rows inside J a ≡ through_rows whole (span_from g 1 node + J) a = λ J a l.
    total-map (λ z. cond (is_taken (record { set = J; action = a }) (last_step (path_of z 1))) (worth_against inside z) (pos 0)) row (subgame_ends g node)
    ∙ rows_agree g 1 node (λ h. worth_against inside (row h)) (λ h. worth_against whole (row_along g h)) worth J a l
    ∙ sym (total-map (λ z. cond (is_taken (record { set = (span_from g 1 node + J); action = a }) (last_step (path_of z 1))) (worth_against whole z) (pos 0)) (row_along g) (ends_by_nodes g)) in
    best_inside inside whole (span_from g 1 node) (subgame_form_law g 2 node table ok recalls).0 forms.0
    (game_inside g 1 node inside whole refl refl rows)
    J l

-- the law of the values of a subgame
pub subgame_value_law : SubgameValueLaw
subgame_value_law g keeper node table weights ok recalls (inl e) =
    subst (λ k. FitsSpan (game_actions g k) (span_from g k node) (span_to g k node) table weights → (J : ℕ) → J < length (reply_sets (played (subgame_form g k node table) k (grid_of g k) weights))
    → best_response_value (played (subgame_form g k node table) k (grid_of g k) weights) J ≡ best_response_value (strategy_of g k (spliced (game_actions g k) (span_from g k node) (span_to g k node) table weights)) (span_from g (other k) node + J))
    (sym e) (one_keeps g node table weights ok recalls)
subgame_value_law g keeper node table weights ok recalls (inr e) =
    subst (λ k. FitsSpan (game_actions g k) (span_from g k node) (span_to g k node) table weights → (J : ℕ) → J < length (reply_sets (played (subgame_form g k node table) k (grid_of g k) weights))
    → best_response_value (played (subgame_form g k node table) k (grid_of g k) weights) J ≡ best_response_value (strategy_of g k (spliced (game_actions g k) (span_from g k node) (span_to g k node) table weights)) (span_from g (other k) node + J))
    (sym e) (two_keeps g node table weights ok recalls)
