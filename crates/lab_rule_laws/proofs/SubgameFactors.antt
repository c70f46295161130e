-- The rows of the subgame of a game: there is one, and the seat that does not keep brings its most decisions to each.
use Rattle.std.proofs.Common.{◌≡◌, ℕ, suc, ◌+◌, ◌-◌, ◌≤◌, List, [], ◌∷◌, ◌++◌, Bool, true, false, cond, length, refl, sym, ap, ◌∙◌, subst, arith, inl, inr, leb-true}
use Rattle.std.specs.Prelude.{nat_le}
use Rattle.std.specs.List.{All}
use Rattle.std.proofs.lemmas.Bool.{and_parts}
use Rattle.std.proofs.lemmas.List.{map-append}
use Rattle.std.proofs.lemmas.List.Elements.{All-from_recursion}
use Rattle.lab_math.specs.Sums.{greatest_over}
use Rattle.lab_math.proofs.Members.{In, all_from_in, in_from_map, in_map, in_filter, in_from_filter}
use Rattle.lab_math.proofs.NaturalSums.{greatest_over-least}
use Rattle.lab_defs_text.specs.Games.{GameModel}
use Rattle.lab_defs_text.specs.Texts.{is_within, place_at}
use Rattle.lab_defs_game.specs.Seats.{IsSeat, other}
use Rattle.lab_defs_game.specs.Accepted.{IsAccepted}
use Rattle.lab_defs_game.specs.Histories.{History, actions_at, outcome_of, reached, histories, inner_histories}
use Rattle.lab_defs_game.specs.Sets.{seen, seen_from, public_list, publics, decisions_from, most_decisions}
use Rattle.lab_defs_game.specs.Paths.{SetAction, path_along}
use Rattle.lab_defs_game.specs.Forms.{Row, actions_in, decides, deciding, row_along}
use Rattle.lab_defs_game.specs.Nodes.{begins, ends_by_nodes}
use Rattle.lab_defs_game.proofs.GameLemmas.{publics_seen}
use Rattle.lab_defs_game.proofs.Legal.{history_legal}
use Rattle.lab_defs_game.proofs.TreeLaws.{begins_law}
use Rattle.lab_defs_game.proofs.FormLemmas.{deciding_most}
use Rattle.lab_defs_game.proofs.RowsThrough.{row_through, seen_append}
use Rattle.lab_defs_game.proofs.Groups.{ends_has}
use Rattle.lab_defs_value.specs.Subgames.{Span, is_inside, inside, renumbered, span_actions, part_at, subgame_row, subgame_ends, subgame_form}
use Rattle.lab_defs_value.specs.Replies.{factors_in}
use Rattle.lab_defs_value.specs.Smallness.{factors_at}
use Rattle.lab_defs_value.proofs.SubgameForms.{span}
use Rattle.lab_defs_value.proofs.GameForms.{ends_there}
use Rattle.lab_defs_value.proofs.GameValues.{alike_for}
use Rattle.lab_sizes.proofs.SizeRows.{deciding_inside}

-- ---- decisions inside

-- of the sets inside no more decide than of all
inside_few : (s : Span) (ns : List ℕ) (path : List SetAction) → deciding ns (inside s path) ≤ deciding ns path
inside_few s ns [] = omega arith
inside_few s ns (t ∷ ts) = at (is_inside s t) (inside_few s ns ts)
  where
    at : (b : Bool) → deciding ns (inside s ts) ≤ deciding ns ts → deciding ns (cond b (t ∷ inside s ts) (inside s ts)) ≤ cond (decides ns t.set) 1 0 + deciding ns ts
    at true le = omega (arith, le)
    at false le = omega (arith, le)

-- those inside and what they lack of a number that is at least all are the number
inside_made_up : (s : Span) (path : List SetAction) (most : ℕ) → deciding (actions_in s.sets) path ≤ most
    → deciding (span_actions s) (renumbered s (inside s path)) + (most - deciding (actions_in s.sets) (inside s path)) ≡ most
inside_made_up s path most le = let few = inside_few s (actions_in s.sets) path in let same = deciding_inside s path in omega (arith, le, few, same)

-- ---- the most decisions

-- no history has more decisions than steps
decisions_few : (g : GameModel) (seat n : ℕ) (h : History) → decisions_from g seat n h ≤ length h
decisions_few g seat n [] = omega arith
decisions_few g seat n (s ∷ h) = at (nat_le 2 (actions_at seat (place_at g n))) (decisions_few g seat (outcome_of g n s).next h)
  where
    at : (b : Bool) → decisions_from g seat (outcome_of g n s).next h ≤ length h → cond b 1 0 + decisions_from g seat (outcome_of g n s).next h ≤ suc (length h)
    at true le = omega (arith, le)
    at false le = omega (arith, le)

-- the greatest of numbers that are at most one
greatest_within : {X : Type 0} (f : X → ℕ) (most : ℕ) (xs : List X) → ((x : X) → In x xs → f x ≤ most) → greatest_over f xs ≤ most
greatest_within f most [] le = omega arith
greatest_within f most (x ∷ xs) le = let rest = greatest_within f most xs (λ y i. le y (inr i)) in let one = le x (inl refl) in omega (arith, one, rest)

-- a history of an accepted game has at most 32 steps
pub horizon_small : (g : GameModel) → IsAccepted g → g.horizon ≤ 32
horizon_small g ok =
    let a = and_parts (is_within 1 4096 g.grid) _ ok.good in
    let b = and_parts (is_within 1 32 g.horizon) _ a.1 in
    leb-true g.horizon 32 (and_parts (nat_le 1 g.horizon) (nat_le g.horizon 32) b.0).1

-- so no seat has more decisions
pub decisions_small : (g : GameModel) → IsAccepted g → (seat : ℕ) → most_decisions g seat ≤ 32
decisions_small g ok seat =
    greatest_within (decisions_from g seat g.root) 32 (histories g)
    (λ h i. let few = decisions_few g seat g.root h in let short = (history_legal g h i).1 in let small = horizon_small g ok in omega (arith, few, short, small))

-- ---- rows

-- a history at the node goes on to a row of the subgame
pub row_inside : (g : GameModel) → IsAccepted g → (node : List ℕ) (k : History) → In k (inner_histories g) → public_list g k ≡ node → (h : History) × In h (subgame_ends g node)
row_inside g ok node k i here =
    let r = row_through g ok k i in
    let rest = seen_from g 1 (reached g g.root k) (r.step ∷ r.rest) in
    let public : public_list g r.row ≡ node ++ publics rest =
    ap (public_list g) r.made ∙ sym (publics_seen g 1 g.root (k ++ r.step ∷ r.rest)) ∙ ap publics (seen_append g 1 g.root k (r.step ∷ r.rest))
    ∙ map-append (λ x. x.public) (seen g 1 k) rest ∙ ap (λ ns. ns ++ publics rest) (publics_seen g 1 g.root k ∙ here) in
    (r.row, in_filter (λ h. begins node (public_list g h)) (ends_by_nodes g) r.row (ends_has g r.row r.there) ((begins_law node (public_list g r.row)).1 (publics rest, public)))

module _ (g : GameModel) (ok : IsAccepted g) (node table : List ℕ) where
  -- a row of the subgame
  abbrev row : (keeper : ℕ) → History → Row
  row keeper h = subgame_row (part_at g keeper node table) (row_along g h)

  -- a row is that of a history
  ends_are : (h : History) → In h (subgame_ends g node) → In h (histories g)
  ends_are h i = ends_there g h (in_from_filter (λ h. begins node (public_list g h)) (ends_by_nodes g) h i).0

  -- the other seat brings its most decisions to each row
  one_row : (keeper : ℕ) → IsSeat keeper → (h : History) → In h (subgame_ends g node) → factors_at (subgame_form g keeper node table) (other keeper) (row keeper h) ≡ most_decisions g (other keeper)
  one_row keeper is h i = by is
    where
      Factors : ℕ → Type 0
      Factors k = factors_at (subgame_form g k node table) (other k) (row k h) ≡ most_decisions g (other k)

      by : IsSeat keeper → Factors keeper
      by (inl e) = subst Factors (sym e) (inside_made_up (span g 2 node) (path_along g 2 h) (most_decisions g 2) (deciding_most g 2 (alike_for g ok 2 (inr refl)) h (ends_are h i)))
      by (inr e) = subst Factors (sym e) (inside_made_up (span g 1 node) (path_along g 1 h) (most_decisions g 1) (deciding_most g 1 (alike_for g ok 1 (inl refl)) h (ends_are h i)))

  each_row : (keeper : ℕ) → IsSeat keeper → (z : Row) → In z (subgame_form g keeper node table).rows → factors_at (subgame_form g keeper node table) (other keeper) z ≡ most_decisions g (other keeper)
  each_row keeper is z i =
      let f = subgame_form g keeper node table in
      let r = in_from_map (row keeper) (subgame_ends g node) z i in
      subst (λ z. factors_at f (other keeper) z ≡ most_decisions g (other keeper)) r.2 (one_row keeper is r.0 r.1)

  -- so many in all, where there is a row
  pub subgame_factors : (keeper : ℕ) → IsSeat keeper → (h : History) → In h (subgame_ends g node) → factors_in (subgame_form g keeper node table) (other keeper) ≡ most_decisions g (other keeper)
  subgame_factors keeper is h i =
      let f = subgame_form g keeper node table in
      let z = row keeper h in
      let on = in_map (row keeper) (subgame_ends g node) h i in
      let up = greatest_over-least (factors_at f (other keeper)) f.rows z on in
      let same = each_row keeper is z on in
      let down = greatest_within (factors_at f (other keeper)) (most_decisions g (other keeper)) f.rows (λ y j. let e = each_row keeper is y j in omega (arith, e)) in
      omega (arith, up, same, down)

  -- and each row has as many
  pub subgame_rows : (keeper : ℕ) → IsSeat keeper → (h : History) → In h (subgame_ends g node) →
      let f = subgame_form g keeper node table in
      All (λ z. factors_at f (other keeper) z ≡ factors_in f (other keeper)) f.rows
  subgame_rows keeper is h i =
      let f = subgame_form g keeper node table in
      All-from_recursion (λ z. factors_at f (other keeper) z ≡ factors_in f (other keeper)) f.rows
      (all_from_in (λ z. factors_at f (other keeper) z ≡ factors_in f (other keeper)) f.rows (λ z j. each_row keeper is z j ∙ sym (subgame_factors keeper is h i)))
