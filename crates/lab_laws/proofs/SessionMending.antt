-- A proposal in place changes no best-response value but those inside its subgame and on the path to it, so settled bounds are tight.
use Rattle.std.proofs.Common.{◌≡◌, ℕ, zero, suc, ◌+◌, ◌<◌, ◌≤◌, ℤ, pos, List, [], ◌∷◌, ◌++◌, true, false, eqb, ◌&&◌, ◌||◌, length, refl, sym, ap, ◌∙◌, subst, arith, inl, inr, ◌⊎◌, eqb-true}
use Rattle.std.specs.Prelude.{not}
use Rattle.std.specs.List.{All}
use Rattle.std.proofs.lemmas.Bool.{or_cases, both_ways, false_from_ne_true}
use Rattle.std.proofs.lemmas.List.FromFn.{get_or-map-range_with_len}
use Rattle.std.proofs.lemmas.List.Elements.{All-from_recursion}
use Rattle.lab_math.specs.Greatest.{greatest_of}
use Rattle.lab_math.proofs.Ranges.{map_range_same}
use Rattle.lab_math.proofs.Members.{In, all_from_in, in_from_map}
use Rattle.lab_defs_text.specs.Games.{GameModel}
use Rattle.lab_defs_text.specs.Texts.{one_of}
use Rattle.lab_defs_game.specs.Accepted.{IsAccepted}
use Rattle.lab_defs_game.specs.Histories.{History, outcome_of, reached, histories}
use Rattle.lab_defs_game.specs.Sets.{sets, public_list}
use Rattle.lab_defs_game.specs.Seats.{other, IsSeat}
use Rattle.lab_defs_game.specs.Nodes.{begins, span_from, span_to, path_sets, subgame_sets, public_of, ends_by_nodes}
use Rattle.lab_defs_game.specs.Forms.{Row, form_of, path_of, row_along}
use Rattle.lab_defs_game.specs.Paths.{path_along}
use Rattle.lab_defs_game.proofs.NumberLemmas.{map_same}
use Rattle.lab_defs_game.proofs.GameLemmas.{Longer, history_cases, before_inner}
use Rattle.lab_defs_game.proofs.SetNumbers.{begins_itself, path_sets_are, subgame_sets_are}
use Rattle.lab_defs_game.proofs.Ways.{begins_shorter, begins_cases}
use Rattle.lab_defs_value.specs.Parents.{passes_through}
use Rattle.lab_defs_value.specs.Tables.{weight_count}
use Rattle.lab_defs_value.specs.Replies.{Reply, Strategy, strategy_of, reply_sets, earned}
use Rattle.lab_defs_value.specs.BestValues.{IsBest, choices, pure_reply, best_response_value}
use Rattle.lab_defs_value.specs.Bounds.{at}
use Rattle.lab_defs_value.specs.Settling.{settled, sets_above, settled_bounds}
use Rattle.lab_defs_value.specs.Splices.{spliced, replaced, with_table, stays_outside, FitsSpan}
use Rattle.lab_defs_value.specs.Subgames.{span_at, weights_inside}
use Rattle.lab_defs_value.proofs.BestLaws.{best_unique}
use Rattle.lab_defs_value.proofs.Lying.{lies_below, lies_filter}
use Rattle.lab_defs_value.proofs.WholePaths.{passes_push}
use Rattle.lab_defs_value.proofs.GameForms.{ends_there, longer_path, shorter, taken_at}
use Rattle.lab_defs_value.proofs.SubgameForms.{none_inside}
use Rattle.lab_defs_value.proofs.Splicing.{stay_law}
use Rattle.lab_defs_value.proofs.GameValues.{row_path, form_for}
use Rattle.lab_defs_value.proofs.GameSplices.{fits_span}
use Rattle.lab_defs_value.proofs.GameSettling.{game_settled_law}
use Rattle.lab_defs_report.specs.States.{table_of, bounds_of, proposed_table, node_list}
use Rattle.lab_laws.specs.Sessions.{MendedLaw}
use Rattle.lab_laws.proofs.SessionWays.{public_at, longer_list, none_out}
use Rattle.lab_defs_value.proofs.GameStrategies.{other_seat, actions_there, reply_count, best_is, at_tight}

-- ---- public lists off a node

-- a public list that neither begins the node's nor has it at its beginning
abbrev pub IsOff : List ℕ → List ℕ → Type 0
IsOff node P = (begins node P ≡ false) × (begins P node ≡ false)

-- nor does a longer one then
off_push : (node P : List ℕ) (x : ℕ) → IsOff node P → IsOff node (P ++ x ∷ [])
off_push node P x off = (
  false_from_ne_true (begins node (P ++ x ∷ [])) (λ e. by (begins_cases node P x e)),
  false_from_ne_true (begins (P ++ x ∷ []) node) (λ e. both_ways (begins P node) off.1 (begins_shorter P x node e)),
)
  where
    by : (begins node P ≡ true) ⊎ (node ≡ P ++ x ∷ []) → ⊥
    by (inl e) = both_ways (begins node P) off.0 e
    by (inr q) = both_ways (begins P node) off.1 (begins_shorter P x node (subst (λ p. begins (P ++ x ∷ []) p ≡ true) (sym q) (begins_itself (P ++ x ∷ []))))

-- so a history is off the node that passes through a set off it
through_off : (g : GameModel) (seat : ℕ) (node : List ℕ) (I : ℕ) → IsOff node (public_of g seat I) → (n : ℕ) (h : History) → length h ≤ n → In h (histories g)
    → passes_through I (path_along g seat h) ≡ true → IsOff node (public_list g h)
through_off g seat node I off zero [] le i e = absurd (both_ways false refl e)
through_off g seat node I off zero (s ∷ h) le i e = absurd (omega (arith, le))
through_off g seat node I off (suc n) h le i e = by (history_cases g h i) (λ h l i e. through_off g seat node I off n h l i e)
  where
    by : (h ≡ []) ⊎ Longer g (histories g) h → ((h : History) → length h ≤ n → In h (histories g) → passes_through I (path_along g seat h) ≡ true → IsOff node (public_list g h)) → IsOff node (public_list g h)
    by (inl q) rest = absurd (both_ways false refl (subst (λ x. passes_through I (path_along g seat x) ≡ true) q e))
    by (inr r) rest =
        let k = r.before in
        let t = taken_at g seat k r.step in
        let x : ℕ = (outcome_of g (reached g g.root k) r.step).public in
        let passes : (eqb t.set I || passes_through I (path_along g seat k)) ≡ true = sym (passes_push I (path_along g seat k) t) ∙ sym (ap (passes_through I) (longer_path g seat h r)) ∙ e in
        let here : IsOff node (public_list g k) = elim (or_cases (eqb t.set I) (passes_through I (path_along g seat k)) passes) [
          | inl now ↦ subst (IsOff node) (ap (public_of g seat) (sym (eqb-true t.set I now)) ∙ public_at g seat k (before_inner g h r)) off
          | inr before ↦ rest k (shorter g seat n h r le) r.there before
        ] in
        subst (IsOff node) (sym (longer_list g seat node h r)) (off_push node (public_list g k) x here)

-- ---- values off a node

-- a set that is neither inside a subgame nor above it is off its node
off_from : (g : GameModel) (seat : ℕ) (node : List ℕ) (J : ℕ) → J < length (sets g seat) → one_of (subgame_sets g seat node) J ≡ false → one_of (sets_above g seat node) J ≡ false → IsOff node (public_of g seat J)
off_from g seat node J l inside above = (
  sym (ap (λ xs. one_of xs J) (subgame_sets_are g seat node) ∙ lies_below (λ I. begins node (public_of g seat I)) (length (sets g seat)) J l) ∙ inside,
  sym (ap (λ xs. one_of xs J) (path_sets_are g seat node) ∙ lies_below (λ I. begins (public_of g seat I) node) (length (sets g seat)) J l)
      ∙ sym (ap (λ b. not b && one_of (path_sets g seat node) J) inside) ∙ sym (lies_filter (λ I. not (one_of (subgame_sets g seat node) I)) (path_sets g seat node) J) ∙ above,
)

module _ (g : GameModel) (ok : IsAccepted g) (seat : ℕ) (is : IsSeat seat) (node table weights : List ℕ) (whole : length table ≡ weight_count g seat) (long : length weights ≡ weights_inside g seat node) where
  -- rows through a set off the node stay outside the span
  rows_outside : (I : ℕ) → IsOff node (public_of g (other seat) I)
      → All (λ (z : Row). passes_through I (path_of z (other seat)) ≡ true → stays_outside (span_from g seat node) (span_to g seat node) (path_of z seat) ≡ true) (form_of g).rows
  rows_outside I off = All-from_recursion Stays (form_of g).rows (all_from_in Stays (form_of g).rows (λ z i.
      let r = in_from_map (row_along g) (ends_by_nodes g) z i in
      subst Stays r.2 (row_stays r.0 (ends_there g r.0 r.1))))
    where
      Stays : Row → Type 0
      Stays z = passes_through I (path_of z (other seat)) ≡ true → stays_outside (span_from g seat node) (span_to g seat node) (path_of z seat) ≡ true

      row_stays : (h : History) → In h (histories g) → Stays (row_along g h)
      row_stays h i e =
          let there = through_off g (other seat) node I off (length h) h (omega arith) i (sym (ap (passes_through I) (row_path g (other seat) (other_seat seat is) h)) ∙ e) in
          ap (stays_outside (span_from g seat node) (span_to g seat node)) (row_path g seat is h)
          ∙ none_out (span_at g seat node) (path_along g seat h) (none_inside g seat node (length h) h (omega arith) i there.0)

  -- so replies earn there what they earned
  earned_same : (I : ℕ) → IsOff node (public_of g (other seat) I) → (r : Reply) → earned (strategy_of g seat (replaced g seat node table weights)) r I ≡ earned (strategy_of g seat table) r I
  earned_same I off r =
      let s = strategy_of g seat table in
      let start = span_from g seat node in
      let end = span_to g seat node in
      let acts = actions_there g seat is in
      subst (λ a. earned (with_table s (spliced a start end table weights)) r I ≡ earned s r I) acts
      (stay_law s (form_for g ok seat is) start end weights (subst (λ a. FitsSpan a start end table weights) (sym acts) (fits_span g seat node table weights whole long)) I (rows_outside I off) r)

  -- and the best-response value there is the same
  pub best_same : (I : ℕ) → IsOff node (public_of g (other seat) I) → best_response_value (strategy_of g seat (replaced g seat node table weights)) I ≡ best_response_value (strategy_of g seat table) I
  best_same I off =
      ap greatest_of (map_same (λ c. earned (strategy_of g seat (replaced g seat node table weights)) (pure_reply c) I) (λ c. earned (strategy_of g seat table) (pure_reply c) I)
      (λ c. earned_same I off (pure_reply c)) (choices (reply_sets (strategy_of g seat table))))

-- the law of settled bounds
pub mended_law : MendedLaw
mended_law g ok p q f tight = map_range_same C best 0 0 n (λ k l. sym (same (0 + k) (omega (arith, l))) ∙ value (0 + k) (omega (arith, l)))
  where
    node : List ℕ
    node = node_list g q

    n : ℕ
    n = length (sets g (other q.seat))

    after : Strategy
    after = strategy_of g q.seat (proposed_table g p q)

    best : ℕ → ℤ
    best = best_response_value after

    C : ℕ → ℤ
    C = settled after (sets_above g (other q.seat) node) (subgame_sets g (other q.seat) node) (at (bounds_of p q.seat))

    -- off the node the bounds are still best-response values
    off : (J : ℕ) → J < n → IsOff node (public_of g (other q.seat) J) → IsBest after J (at (bounds_of p q.seat) J)
    off J l away =
        let stays = best_same g ok q.seat f.seat node (table_of p q.seat) q.weights f.table f.weights J away in
        subst (IsBest after J) (stays ∙ sym (ap (λ b. at b J) tight ∙ at_tight g ok q.seat f.seat (table_of p q.seat) J l)) (best_is g ok q.seat f.seat (proposed_table g p q) J l)

    same : (J : ℕ) → J < n → at (settled_bounds g q.seat node (proposed_table g p q) (bounds_of p q.seat)) J ≡ C J
    same J l = get_or-map-range_with_len C 0 n J J (pos 0) l (omega arith)

    -- so all settled bounds are
    value : (J : ℕ) → J < n → at (settled_bounds g q.seat node (proposed_table g p q) (bounds_of p q.seat)) J ≡ best J
    value J l =
        let law = (game_settled_law g ok q.seat f.seat node (proposed_table g p q) (bounds_of p q.seat)).4 (λ J o. off J o.0 (off_from g (other q.seat) node J o.0 o.1 o.2)) in
        best_unique after J (at (settled_bounds g q.seat node (proposed_table g p q) (bounds_of p q.seat)) J) (best J)
        (law J (subst (λ k. J < k) (sym (reply_count g ok q.seat f.seat)) l)) (best_is g ok q.seat f.seat (proposed_table g p q) J l)
