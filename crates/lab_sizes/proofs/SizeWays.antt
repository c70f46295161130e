-- How many deciding sets lead up to a set of a game, of a subgame and of a gadget.
use Rattle.std.proofs.Common.{◌≡◌, ℕ, map, length-append, zero, suc, ◌+◌, ◌*◌, ◌-◌, ◌^◌, ◌<◌, ◌≤◌, List, [], ◌∷◌, ◌++◌, Bool, true, false, cond, eqb, ◌||◌, Option, Some, None, length, refl, sym, ap, ◌∙◌, subst, arith, inl, inr, ◌⊎◌, eqb-true}
use native.Mathlib.Nat.{pow-zero}
use Rattle.std.proofs.Math.Nat.{pow-le-pow_right}
use Rattle.std.specs.Prelude.{nat_le}
use Rattle.std.proofs.lemmas.Bool.{both_ways, cases_lt}
use Rattle.std.proofs.lemmas.List.Elements.{recursion_from_All}
use Rattle.std.proofs.lemmas.List.{length-map}
use Rattle.lab_math.proofs.BelowLemmas.{eqb_self}
use Rattle.lab_math.proofs.Members.{In, all_in, in_map, in_from_map, in_from_contains}
use Rattle.lab_defs_text.specs.Games.{GameModel}
use Rattle.lab_defs_game.specs.Seats.{IsSeat, grid_of}
use Rattle.lab_defs_game.specs.Accepted.{IsAccepted}
use Rattle.lab_defs_game.specs.Sets.{sets, most_decisions}
use Rattle.lab_defs_game.specs.Nodes.{ends_by_nodes}
use Rattle.lab_defs_game.specs.Paths.{SetAction, path_along}
use Rattle.lab_defs_game.specs.Forms.{FormSet, Row, Form, form_of, row_along, game_set, game_sets, sets_of, actions_in, actions_of, parent_at, path_of, decides, deciding, chain_within, chain, decisions_to}
use Rattle.lab_defs_game.proofs.FormLemmas.{count_push}
use Rattle.lab_defs_game.proofs.RowsThrough.{set_row_law}
use Rattle.lab_defs_value.specs.Parents.{passes_through, path_from, IsStepBelow, IsForm}
use Rattle.lab_defs_value.specs.Matching.{path_before}
use Rattle.lab_defs_value.specs.Allowances.{Rule}
use Rattle.lab_defs_value.specs.Smallness.{factors_at, HasReach}
use Rattle.lab_defs_value.specs.Subgames.{Span, is_inside, renumbered_step, parent_inside, span_sets, span_actions}
use Rattle.lab_defs_value.specs.Gadgets.{gadget_sets, follow_step, raised, entered_parent, sets_entered}
use Rattle.lab_defs_value.proofs.Chains.{AreBelow, sets_length, chain_push, chain_law}
use Rattle.lab_defs_value.proofs.Earnings.{deciding_splits}
use Rattle.lab_defs_value.proofs.Entries.{entry_low, actions_entered, parent_low, parent_raised}
use Rattle.lab_defs_value.proofs.SubgameRows.{actions_inside}
use Rattle.lab_defs_value.proofs.SubgameForms.{inside_range, inside_between, place_below, place_within, parent_span}
use Rattle.lab_defs_value.proofs.GameValues.{form_for, form_sets, row_path}
use Rattle.lab_defs_game.proofs.GridSizes.{some_grid}
use Rattle.lab_sizes.proofs.SizeRows.{row_factors}
use Rattle.lab_sizes.proofs.SizeUnits.{power_most}
use Rattle.lab_sizes.proofs.SizeGadgets.{one_most, deciding_raised, power_more}

-- the step to a set whose action does not matter
abbrev at_set : ℕ → SetAction
at_set I = record { set = I; action = 0 }

-- one more step has its decision more
one_more : (ns : List ℕ) (path : List SetAction) (t : SetAction) → deciding ns (path ++ t ∷ []) ≡ deciding ns path + cond (decides ns t.set) 1 0
one_more ns path t = count_push (λ (t : SetAction). decides ns t.set) path t

-- the chain that ends with no step has no decisions
chain_none : (ns : List ℕ) (sets : List FormSet) (n : ℕ) → deciding ns (chain_within sets n None) ≡ 0
chain_none ns sets zero = refl
chain_none ns sets (suc n) = refl

-- ---- a set on a row

-- a path that comes to a set has its decision from it on
decides_from : (ns : List ℕ) (I : ℕ) (path : List SetAction) → passes_through I path ≡ true → cond (decides ns I) 1 0 ≤ deciding ns (path_from I path)
decides_from ns I [] on = absurd (both_ways false refl on)
decides_from ns I (t ∷ ts) on = at (eqb t.set I) refl on (decides_from ns I ts)
  where
    at : (b : Bool) → eqb t.set I ≡ b → (b || passes_through I ts) ≡ true → (passes_through I ts ≡ true → cond (decides ns I) 1 0 ≤ deciding ns (path_from I ts))
        → cond (decides ns I) 1 0 ≤ deciding ns (cond b (t ∷ ts) (path_from I ts))
    at true e on rest = subst (λ J. cond (decides ns J) 1 0 ≤ deciding ns (t ∷ ts)) (eqb-true t.set I e) (omega arith)
    at false e on rest = rest on

-- the deciding sets up to a set are those of the chain that ends with its parent, and itself
pub decisions_up : (f : Form) (seat : ℕ) → IsForm f seat → (I : ℕ) → I < length (sets_of f seat)
    → decisions_to (sets_of f seat) I ≡ deciding (actions_of f seat) (chain (sets_of f seat) (parent_at (sets_of f seat) I)) + cond (decides (actions_of f seat) I) 1 0
decisions_up f seat ok I l =
    let sets = sets_of f seat in
    ap (deciding (actions_in sets)) (chain_push sets ok.parents (at_set I) l) ∙ one_more (actions_in sets) (chain sets (parent_at sets I)) (at_set I)

-- a row that passes through a set has at least as many
decisions_on : (f : Form) (seat : ℕ) → IsForm f seat → (z : Row) → In z f.rows → (I : ℕ) → I < length (sets_of f seat) → passes_through I (path_of z seat) ≡ true
    → decisions_to (sets_of f seat) I ≤ deciding (actions_of f seat) (path_of z seat)
decisions_on f seat ok z i I l on =
    let ns = actions_of f seat in
    let path = path_of z seat in
    let P = λ (z : Row). (I : ℕ) → passes_through I (path_of z seat) ≡ true → path_before I (path_of z seat) ≡ chain (sets_of f seat) (parent_at (sets_of f seat) I) in
    let chain_is : path_before I path ≡ chain (sets_of f seat) (parent_at (sets_of f seat) I) = all_in P f.rows z (recursion_from_All P f.rows (chain_law f seat ok)) i I on in
    let before : deciding ns (path_before I path) ≡ deciding ns (chain (sets_of f seat) (parent_at (sets_of f seat) I)) = ap (deciding ns) chain_is in
    let whole = decisions_up f seat ok I l in
    let parts = deciding_splits ns I path in
    let from = decides_from ns I path on in
    omega (arith, before, whole, parts, from)

-- ---- a game

-- a path passes through the sets of its steps
passes_at : (I : ℕ) (path : List SetAction) (t : SetAction) → In t path → t.set ≡ I → passes_through I path ≡ true
passes_at I [] t i e = absurd i
passes_at I (u ∷ us) t (inl q) e =
    let here : eqb u.set I ≡ true = subst (λ J. eqb u.set J ≡ true) (ap (λ (t : SetAction). t.set) q ∙ e) (eqb_self u.set) in
    ap (λ b. b || passes_through I us) here
passes_at I (u ∷ us) t (inr i) e = at (eqb u.set I) (passes_at I us t i e)
  where
    at : (b : Bool) → passes_through I us ≡ true → (b || passes_through I us) ≡ true
    at true rest = refl
    at false rest = rest

-- no set of an accepted game has more deciding sets up to it than its seat's most decisions
decisions_most : (g : GameModel) → IsAccepted g → (seat : ℕ) → IsSeat seat → (I : ℕ) → I < length (game_sets g seat) → decisions_to (game_sets g seat) I ≤ most_decisions g seat
decisions_most g ok seat is I l =
    let f = form_of g in
    let row = set_row_law g ok seat is I (omega (arith, l, length-map (sets g seat) (game_set g seat))) in
    let h = row.0 in
    let i = in_from_contains (ends_by_nodes g) h row.1 in
    let step = in_from_map (λ (t : SetAction). t.set) (path_along g seat h) I (in_from_contains (map (λ (t : SetAction). t.set) (path_along g seat h)) I row.2) in
    let on : passes_through I (path_of (row_along g h) seat) ≡ true = ap (passes_through I) (row_path g seat is h) ∙ passes_at I (path_along g seat h) step.0 step.1 step.2 in
    let there : I < length (sets_of f seat) = subst (λ ss. I < length ss) (sym (form_sets g seat is)) l in
    let le : decisions_to (sets_of f seat) I ≤ deciding (actions_of f seat) (path_of (row_along g h) seat) =
    decisions_on f seat (form_for g ok seat is) (row_along g h) (in_map (row_along g) (ends_by_nodes g) h i) I there on in
    let most : factors_at f seat (row_along g h) ≡ most_decisions g seat = row_factors g ok seat is h i in
    let same : decisions_to (sets_of f seat) I ≡ decisions_to (game_sets g seat) I = ap (λ ss. decisions_to ss I) (form_sets g seat is) in
    omega (arith, le, most, same)

-- the grid for each comes to no more than 2^64
pub game_reach : (g : GameModel) → IsAccepted g → (seat : ℕ) → IsSeat seat → HasReach (grid_of g seat) (game_sets g seat) (2 ^ 64)
game_reach g ok seat is I l =
    let more : grid_of g seat ^ decisions_to (game_sets g seat) I ≤ grid_of g seat ^ most_decisions g seat = pow-le-pow_right (some_grid g ok.good) (decisions_most g ok seat is I l) in
    omega (arith, more, power_most g ok seat is)

-- ---- a subgame

-- the chain of a set of a span has no more decisions than that of the set that it is
span_chain : (s : Span) → AreBelow s.sets → (n m : ℕ) (t : SetAction) → is_inside s t ≡ true → t.set < m → m ≤ length (actions_in s.sets)
    → deciding (span_actions s) (chain_within (span_sets s) n (Some (renumbered_step s t))) ≤ deciding (actions_in s.sets) (chain_within s.sets m (Some t))
span_chain s below zero m t e l le = omega arith
span_chain s below (suc n) zero t e l le = absurd (omega (arith, l))
span_chain s below (suc n) (suc m) t e l le =
    let ns = actions_in s.sets in
    let range = inside_range s t e in
    let there = place_below s t.set range.0 range.1 (omega (arith, l, le)) in
    let place : s.start + (t.set - s.start) ≡ t.set = omega (arith, range.0) in
    let parent : parent_at (span_sets s) (t.set - s.start) ≡ parent_inside s (parent_at s.sets t.set) = parent_span s (t.set - s.start) there ∙ ap (λ J. parent_inside s (parent_at s.sets J)) place in
    let rest = by (parent_at s.sets t.set) (below t.set (omega (arith, l, le))) (λ u e k. span_chain s below n m u e k (omega (arith, le))) in
    let rest' = subst (λ o. deciding (span_actions s) (chain_within (span_sets s) n o) ≤ deciding ns (chain_within s.sets m (parent_at s.sets t.set))) (sym parent) rest in
    let mine = one_more (span_actions s) (chain_within (span_sets s) n (parent_at (span_sets s) (t.set - s.start))) (renumbered_step s t) in
    let whole = one_more ns (chain_within s.sets m (parent_at s.sets t.set)) t in
    let same : deciding (span_actions s) (renumbered_step s t ∷ []) ≡ deciding ns (t ∷ []) = ap (λ k. cond (nat_le 2 k) 1 0 + 0) (actions_inside s t.set range.0 range.1) in
    omega (arith, rest', mine, whole, same)
  where
    by : (o : Option SetAction) → IsStepBelow (actions_in s.sets) t.set o
        → ((u : SetAction) → is_inside s u ≡ true → u.set < m → deciding (span_actions s) (chain_within (span_sets s) n (Some (renumbered_step s u))) ≤ deciding (actions_in s.sets) (chain_within s.sets m (Some u)))
        → deciding (span_actions s) (chain_within (span_sets s) n (parent_inside s o)) ≤ deciding (actions_in s.sets) (chain_within s.sets m o)
    by None h rest = let none = chain_none (span_actions s) (span_sets s) n in omega (arith, none)
    by (Some u) h rest = at (is_inside s u) refl
      where
        at : (b : Bool) → is_inside s u ≡ b → deciding (span_actions s) (chain_within (span_sets s) n (cond b (Some (renumbered_step s u)) None)) ≤ deciding (actions_in s.sets) (chain_within s.sets m (Some u))
        at true e = rest u e (omega (arith, h.0, l))
        at false e = let none = chain_none (span_actions s) (span_sets s) n in omega (arith, none)

-- so no more comes to a set of a span than to one of all sets
pub span_reach : (grid : ℕ) → 1 ≤ grid → (s : Span) → AreBelow s.sets → (n : ℕ) → HasReach grid s.sets n → HasReach grid (span_sets s) n
span_reach grid some s below n all I l =
    let t : SetAction = at_set (s.start + I) in
    let within = place_within s I (omega (arith, l, sets_length (span_sets s))) in
    let place : (s.start + I) - s.start ≡ I = omega arith in
    let long = sets_length s.sets in
    let le = span_chain s below (length (span_sets s)) (length s.sets) t (inside_between s t (omega arith) within.0) (omega (arith, within.1, long)) (omega (arith, long)) in
    let mine = subst (λ J. deciding (span_actions s) (chain_within (span_sets s) (length (span_sets s)) (Some (at_set J))) ≤ decisions_to s.sets (s.start + I)) place le in
    let more : grid ^ decisions_to (span_sets s) I ≤ grid ^ decisions_to s.sets (s.start + I) = pow-le-pow_right some mine in
    let most = all (s.start + I) (omega (arith, within.1, long)) in
    omega (arith, more, most)

-- ---- a gadget

module _ (rule : Rule) (roots : ℕ) (sets : List FormSet) where
  abbrev further : ℕ
  further = length (gadget_sets rule roots)

  abbrev entered : List FormSet
  entered = sets_entered rule roots sets

  -- the chain of a gadget set has at most one decision
  first_chain : (m : ℕ) (t : SetAction) → t.set < further → deciding (actions_in entered) (chain_within entered m (Some t)) ≤ 1
  first_chain zero t l = omega arith
  first_chain (suc m) t l =
      let before = ap (λ o. deciding (actions_in entered) (chain_within entered m o)) (parent_low rule roots t.set sets l) ∙ chain_none (actions_in entered) entered m in
      let mine = one_more (actions_in entered) (chain_within entered m (parent_at entered t.set)) t in
      let one = one_most (decides (actions_in entered) t.set) in
      omega (arith, before, mine, one)

  -- that of a set of the subgame has at most one more than there
  entered_chain : AreBelow sets → ((I : ℕ) → I < length sets → parent_at sets I ≡ None → I < roots) → (m n : ℕ) (t : SetAction) → t.set < n → n ≤ length sets
      → deciding (actions_in entered) (chain_within entered m (Some (raised further t))) ≤ 1 + deciding (actions_in sets) (chain_within sets n (Some t))
  entered_chain below first zero n t l le = omega arith
  entered_chain below first (suc m) zero t l le = absurd (omega (arith, l))
  entered_chain below first (suc m) (suc n) t l le =
      let ns = actions_in sets in
      let there : t.set < length sets = omega (arith, l, le) in
      let parent = parent_raised rule roots t.set sets there in
      let rest = by (parent_at sets t.set) refl (below t.set (omega (arith, there, sets_length sets))) (λ u k. entered_chain below first m n u k (omega (arith, le))) in
      let rest' = subst (λ o. deciding (actions_in entered) (chain_within entered m o) ≤ 1 + deciding ns (chain_within sets n (parent_at sets t.set))) (sym parent) rest in
      let mine = one_more (actions_in entered) (chain_within entered m (parent_at entered (further + t.set))) (raised further t) in
      let whole = one_more ns (chain_within sets n (parent_at sets t.set)) t in
      let same : deciding (actions_in entered) (raised further t ∷ []) ≡ deciding ns (t ∷ []) =
      ap (λ xs. deciding xs (raised further t ∷ [])) (actions_entered rule roots sets) ∙ deciding_raised (actions_in (gadget_sets rule roots)) ns further (sym (sets_length (gadget_sets rule roots))) (t ∷ []) in
      omega (arith, rest', mine, whole, same)
    where
      by : (o : Option SetAction) → parent_at sets t.set ≡ o → IsStepBelow (actions_in sets) t.set o
          → ((u : SetAction) → u.set < n → deciding (actions_in entered) (chain_within entered m (Some (raised further u))) ≤ 1 + deciding (actions_in sets) (chain_within sets n (Some u)))
          → deciding (actions_in entered) (chain_within entered m (entered_parent rule further t.set o)) ≤ 1 + deciding (actions_in sets) (chain_within sets n o)
      by None e h rest = let one = first_chain m (follow_step rule t.set) (entry_low rule roots t.set (first t.set (omega (arith, l, le)) e)) in omega (arith, one)
      by (Some u) e h rest = rest u (omega (arith, h.0, l))

  -- so to a set of a gadget comes no more than to one of the subgame, by one grid
  pub entered_reach : (grid : ℕ) → 1 ≤ grid → grid ≤ 4096 → AreBelow sets → ((I : ℕ) → I < length sets → parent_at sets I ≡ None → I < roots) → (n : ℕ) → 1 ≤ n → HasReach grid sets n → HasReach grid entered (4096 * n)
  entered_reach grid some few below first n one all I l = by (cases_lt I further)
    where
      by : (I < further) ⊎ (further ≤ I) → grid ^ decisions_to entered I ≤ 4096 * n
      by (inl low) =
          let most = power_more grid 0 (decisions_to entered I) some few (first_chain (length entered) (at_set I) low) in
          omega (arith, most, pow-zero grid, one)
      by (inr high) =
          let J : ℕ = I - further in
          let whole : further + J ≡ I = omega (arith, high) in
          let count : length entered ≡ further + length sets =
          sym (sets_length entered) ∙ ap length (actions_entered rule roots sets) ∙ length-append (actions_in (gadget_sets rule roots)) (actions_in sets) ∙ ap (λ k. k + length (actions_in sets)) (sets_length (gadget_sets rule roots)) ∙ ap (λ k. further + k) (sets_length sets) in
          let low : J < length sets = omega (arith, l, count, whole) in
          let le = entered_chain below first (length entered) (length sets) (at_set J) low (omega arith) in
          let mine = subst (λ K. deciding (actions_in entered) (chain_within entered (length entered) (Some (at_set K))) ≤ 1 + decisions_to sets J) whole le in
          let most = power_more grid (decisions_to sets J) (decisions_to entered I) some few mine in
          let rest = all J low in
          omega (arith, most, rest)
