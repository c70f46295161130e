-- In an accepted game each history that is not terminal goes on to a terminal one, so each set has a row.
use Rattle.std.proofs.Common.{◌≡◌, ℕ, zero, suc, ◌+◌, ◌<◌, ◌≤◌, List, [], ◌∷◌, ◌++◌, Bool, true, false, map, length, get_or, refl, sym, ap, ◌∙◌, subst, arith, inl, inr, ◌⊎◌}
use Rattle.std.specs.Prelude.{not, ◌==◌, if◌then◌else◌}
use Rattle.std.proofs.lemmas.List.{append_assoc, append-nil}
use Rattle.std.proofs.lemmas.Bool.{cases_lt}
use Rattle.lab_math.proofs.Members.{In, in_get_or, in_filter, in_map, in_append_right, contains_from_in}
use Rattle.lab_defs_text.specs.Games.{GameModel}
use Rattle.lab_defs_text.specs.Texts.{is_world}
use Rattle.lab_defs_game.specs.Histories.{History, Step, place_of, reached, outcome_of, histories, inner_histories, terminal_histories, is_terminal}
use Rattle.lab_defs_game.specs.Sets.{Item, item_of, seen, seen_from, set_cmp, sets, set_number}
use Rattle.lab_defs_game.specs.Paths.{SetAction, taken_from, path_along}
use Rattle.lab_defs_game.specs.Nodes.{ends_by_nodes}
use Rattle.lab_defs_game.specs.Accepted.{IsAccepted}
use Rattle.lab_defs_game.specs.Laws.{IsStep, SetRowLaw}
use Rattle.lab_defs_game.proofs.Legal.{history_legal, legal_history, legal_push, length_push}
use Rattle.lab_defs_game.proofs.NumberLemmas.{number_at}
use Rattle.lab_defs_game.proofs.Orders.{set_total}
use Rattle.lab_defs_game.proofs.GameLemmas.{inner_has, set_from, sets_ascending}
use Rattle.lab_defs_game.proofs.RecallLemmas.{inner_world, not_both}
use Rattle.lab_defs_game.proofs.FormLemmas.{ends_within, world_ok, some_step}
use Rattle.lab_defs_game.proofs.Groups.{ends_has}

-- ---- on to an end

-- a terminal history that a history begins, with the next step and the others
pub record RowThrough (g : GameModel) (k : History) : Type 0 where
  pub row : History
  pub there : In row (terminal_histories g)
  pub step : Step
  pub rest : History
  pub made : row ≡ k ++ step ∷ rest

-- what leads to no world is terminal
terminal_has : (g : GameModel) (h : History) → In h (histories g) → is_world (place_of g h) ≡ false → In h (terminal_histories g)
terminal_has g h i e = in_filter (is_terminal g) (histories g) h i (ap not e)

-- a history of an accepted game that is not terminal begins a terminal one, n steps being left at most
row_within : (g : GameModel) → IsAccepted g → (n : ℕ) (k : History) → In k (inner_histories g) → g.horizon ≤ length k + n → RowThrough g k
row_within g ok zero k i le =
    let w = inner_world g k i in
    let l = (history_legal g k w.0).1 in
    absurd (not_both w.1 (ends_within g ok.unfolds k w.0 (omega (arith, le, l))))
row_within g ok (suc n) k i le = at (some_step g (place_of g k) (world_ok g (reached g g.root k) ok.good (inner_world g k i).1) (inner_world g k i).1) (λ h j l. row_within g ok n h j l)
  where
    -- a further step leads to a history
    longer : (s : Step) → IsStep (place_of g k) s → In (k ++ s ∷ []) (histories g)
    longer s legal =
        let w = inner_world g k i in
        let h = history_legal g k w.0 in
        legal_history g (k ++ s ∷ []) (legal_push g g.root k s h.0 legal) (before_horizon w.0 w.1 h.1 (length_push k s))
      where
        before_horizon : In k (histories g) → is_world (place_of g k) ≡ true → length k ≤ g.horizon → length (k ++ s ∷ []) ≡ suc (length k) → length (k ++ s ∷ []) ≤ g.horizon
        before_horizon j w l e = by (cases_lt (length k) g.horizon)
          where
            by : (length k < g.horizon) ⊎ (g.horizon ≤ length k) → length (k ++ s ∷ []) ≤ g.horizon
            by (inl lt) = omega (arith, lt, e)
            by (inr ge) = absurd (not_both w (ends_within g ok.unfolds k j (omega (arith, l, ge))))

    at : (s : Step) × IsStep (place_of g k) s → ((h : History) → In h (inner_histories g) → g.horizon ≤ length h + n → RowThrough g h) → RowThrough g k
    at s rest = by (is_world (place_of g (k ++ s.0 ∷ []))) refl
      where
        wider : RowThrough g (k ++ s.0 ∷ []) → RowThrough g k
        wider r = record { row = r.row; there = r.there; step = s.0; rest = r.step ∷ r.rest; made = r.made ∙ append_assoc k (s.0 ∷ []) (r.step ∷ r.rest) }

        by : (b : Bool) → is_world (place_of g (k ++ s.0 ∷ [])) ≡ b → RowThrough g k
        by true e = let len = length_push k s.0 in wider (rest (k ++ s.0 ∷ []) (inner_has g (k ++ s.0 ∷ []) (longer s.0 s.1) e) (omega (arith, le, len)))
        by false e = record { row = k ++ s.0 ∷ []; there = terminal_has g (k ++ s.0 ∷ []) (longer s.0 s.1) e; step = s.0; rest = []; made = refl }

-- a history of an accepted game that is not terminal begins a terminal one
pub row_through : (g : GameModel) → IsAccepted g → (k : History) → In k (inner_histories g) → RowThrough g k
row_through g ok k i = row_within g ok g.horizon k i (omega arith)

-- ---- the path along it

-- what is seen along two parts of a history
pub seen_append : (g : GameModel) (seat n : ℕ) (h k : History) → seen_from g seat n (h ++ k) ≡ seen_from g seat n h ++ seen_from g seat (reached g n h) k
seen_append g seat n [] k = refl
seen_append g seat n (s ∷ h) k = ap (λ xs. item_of g seat n s ∷ xs) (seen_append g seat (outcome_of g n s).next h k)

-- the sets and actions along two parts of what is seen
pub taken_append : (number : List Item → ℕ) (done xs ys : List Item) → taken_from number done (xs ++ ys) ≡ taken_from number done xs ++ taken_from number (done ++ xs) ys
taken_append number done [] ys = ap (λ d. taken_from number d ys) (sym (append-nil done))
taken_append number done (x ∷ xs) ys =
    ap (λ ts. record { set = number done; action = x.action } ∷ ts)
    (taken_append number (done ++ x ∷ []) xs ys ∙ ap (λ d. taken_from number (done ++ x ∷ []) xs ++ taken_from number d ys) (append_assoc done (x ∷ []) xs))

-- the set and action of a seat where a longer history goes on are on its path
pub on_path : (g : GameModel) (seat : ℕ) (k : History) (s : Step) (rest : History)
    → In (record { set = set_number g seat (seen g seat k); action = if seat == 1 then s.action1 else s.action2 }) (path_along g seat (k ++ s ∷ rest))
on_path g seat k s rest =
    let t : SetAction = record { set = set_number g seat (seen g seat k); action = if seat == 1 then s.action1 else s.action2 } in
    subst (In t) (sym (ap (taken_from (set_number g seat) []) (seen_append g seat g.root k (s ∷ rest)) ∙ taken_append (set_number g seat) [] (seen g seat k) (seen_from g seat (reached g g.root k) (s ∷ rest))))
    (in_append_right (taken_from (set_number g seat) [] (seen g seat k)) (taken_from (set_number g seat) (seen g seat k) (seen_from g seat (reached g g.root k) (s ∷ rest))) t (inl refl))

-- the law of rows of sets
pub set_row_law : SetRowLaw
set_row_law g ok seat is i l =
    let s = get_or (sets g seat) i [] in
    let k = set_from g seat s (in_get_or (sets g seat) i [] l) in
    let r = row_through g ok k.0 k.1 in
    let number : set_number g seat (seen g seat k.0) ≡ i = ap (set_number g seat) k.2 ∙ number_at set_cmp set_total (sets g seat) i [] (sets_ascending g seat) l in
    let t : SetAction = record { set = set_number g seat (seen g seat k.0); action = if seat == 1 then r.step.action1 else r.step.action2 } in
    let on = in_map (λ (t : SetAction). t.set) (path_along g seat r.row) t (subst (λ h. In t (path_along g seat h)) (sym r.made) (on_path g seat k.0 r.step r.rest)) in (
      r.row,
      contains_from_in (ends_by_nodes g) r.row (ends_has g r.row r.there),
      contains_from_in (map (λ (t : SetAction). t.set) (path_along g seat r.row)) i (subst (λ n. In n (map (λ (t : SetAction). t.set) (path_along g seat r.row))) number on),
    )
