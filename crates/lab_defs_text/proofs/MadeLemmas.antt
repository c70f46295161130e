-- The parts of a game are assembled to that game.
use Rattle.std.proofs.Common.{◌≡◌, ℕ, suc, ◌+◌, ◌*◌, ◌/◌, ◌%◌, ◌<◌, true, false, not, eqb, List, [], ◌∷◌, ◌++◌, length, map, Option, Some, Ok, refl, ap, subst, ◌∙◌, arith, inl, inr}
use Rattle.std.specs.Prelude.{nat_lt, slice_index_or}
use Rattle.std.specs.List.{list_all, range_with_len}
use Rattle.std.proofs.lemmas.Bool.{and_parts, cases_Bool, eqb-true, not-true, ltb-true}
use Rattle.std.proofs.lemmas.Nat.{div_below, mod_below, div-add-mod'}
use Rattle.std.proofs.lemmas.List.Recursion.{and_at}
use Rattle.lab_defs_text.specs.Faults.{unknown_name}
use Rattle.lab_defs_text.specs.Steps.{each}
use Rattle.lab_defs_text.specs.Words.{Bytes, apart_after}
use Rattle.lab_defs_text.specs.Games.{GameModel, Place, a_world, an_end, World, Outcome}
use Rattle.lab_defs_text.specs.Texts.{name_of, outcome_ok, row_ok, place_ok, game_ok, IsOrderOf, AreOrders, one_of, numbers_apart}
use Rattle.lab_defs_text.specs.Drafts.{Draft, place_name}
use Rattle.lab_defs_text.specs.Assembly.{or_fault, name_number, known, known_outcome, KnownRow, KnownPlace, known_world, known_end, known_row, known_place, PlacedRow, taken, action_of, place_rows, PlacedPlace, placed_world, placed_end, placed, row_numbered, row_at, ordered, is_world_at, assembled}
use Rattle.lab_defs_text.proofs.PositionLemmas.{name_position}
use Rattle.lab_defs_text.proofs.GameLemmas.{names_fine, game_fine, WorldFine, world_fine, outcome_fine, root_below}
use Rattle.lab_defs_text.proofs.LeadLemmas.{after, part_outcomes, row_at_number, first_of, second_of, part_rows, part_place, part_places, place_after, part_place_name, IsDraftOf}

-- ---- names to numbers

-- the name with a number has that number
known_back : (ns : List Bytes) (line place k : ℕ) → apart_after [] ns ≡ true → k < length ns → known ns line place (name_of ns k) ≡ Ok k
known_back ns line place k e h = ap (or_fault (unknown_name line place)) (name_position ns k e h)

-- the names of a game stand apart
record ApartNames (g : GameModel) : Type 0 where
  pub names : apart_after [] g.names ≡ true
  pub tokens : apart_after [] g.tokens ≡ true

-- outcomes by names are the outcomes
outcomes_made : (g : GameModel) (n : ℕ) (os : List Outcome) → ApartNames g → list_all (outcome_ok g) os ≡ true → each (known_outcome g.names g.tokens) (part_outcomes g n os) ≡ Ok os
outcomes_made g n [] h e = refl
outcomes_made g n (o ∷ os) h e =
    let a = and_parts (outcome_ok g o) (list_all (outcome_ok g) os) e in
    let b = outcome_fine g o a.0 in
    rw (known_back g.names n 3 o.next h.names b.next, known_back g.tokens n 4 o.own1 h.tokens b.own1, known_back g.tokens n 5 o.own2 h.tokens b.own2, known_back g.tokens n 6 o.public h.tokens b.public, outcomes_made g (n + 1) os h a.1) refl

-- row k in line n, its outcomes by numbers
abbrev known_row_of : World → ℕ → ℕ → KnownRow
known_row_of w n k = record { line = n; first = first_of w k; second = second_of w k; outcomes = row_at_number w k }

-- likewise rows
abbrev known_rows : World → ℕ → List ℕ → List KnownRow
known_rows w n [] = []
known_rows w n (k ∷ ks) = known_row_of w n k ∷ known_rows w (after (n + 1) (row_at_number w k)) ks

-- the outcomes of each row of a world
row_outcomes : (g : GameModel) (w : World) (k : ℕ) → WorldFine g w → k < length w.rows → list_all (outcome_ok g) (row_at_number w k) ≡ true
row_outcomes g w k v lt =
    (and_parts (nat_lt 0 (length (row_at_number w k))) (list_all (outcome_ok g) (row_at_number w k)) (and_at (list_all (row_ok g)) (row_ok g) refl (λ _ _. refl) w.rows k [] lt v.rows)).1

-- rows by names are the rows
rows_made : (g : GameModel) (w : World) (n : ℕ) (ks : List ℕ) → ApartNames g → WorldFine g w → list_all (λ k. nat_lt k (length w.rows)) ks ≡ true → each (known_row g.names g.tokens) (part_rows g w n ks) ≡ Ok (known_rows w n ks)
rows_made g w n [] h v e = refl
rows_made g w n (k ∷ ks) h v e =
    let a = and_parts (nat_lt k (length w.rows)) (list_all (λ i. nat_lt i (length w.rows)) ks) e in
    let os = row_at_number w k in
    rw (outcomes_made g (n + 1) os h (row_outcomes g w k v (ltb-true k (length w.rows) a.0)), rows_made g w (after (n + 1) os) ks h v a.1) refl

-- ---- rows to joint actions

-- row k with its number
abbrev placed_row : World → ℕ → PlacedRow
placed_row w k = record { number = k; outcomes = row_at_number w k }

-- likewise rows
abbrev placed_rows : World → List ℕ → List PlacedRow
placed_rows w [] = []
placed_rows w (k ∷ ks) = placed_row w k ∷ placed_rows w ks

-- a number is taken where it is one of the numbers
taken_is : (w : World) (k : ℕ) (ks : List ℕ) → taken k (placed_rows w ks) ≡ one_of ks k
taken_is w k [] = refl
taken_is w k (i ∷ is) = rw (taken_is w k is) refl

-- one more row
placed_push : (w : World) (ks : List ℕ) (k : ℕ) → placed_rows w (ks ++ k ∷ []) ≡ placed_rows w ks ++ placed_row w k ∷ []
placed_push w [] k = refl
placed_push w (i ∷ is) k = ap (λ (ps : List PlacedRow). placed_row w i ∷ ps) (placed_push w is k)

-- two numbers that are found
both_found : (one two : List Bytes) (r : KnownRow) (i j k : ℕ) → name_number one r.first ≡ Some i → name_number two r.second ≡ Some j → i * length two + j ≡ k → action_of one two r ≡ Ok k
both_found one two r i j k p q s = rw (p, q, s) refl

-- the joint action of row k has the number k
action_back : (g : GameModel) (w : World) (n k : ℕ) → WorldFine g w → k < length w.rows → action_of w.one w.two (known_row_of w n k) ≡ Ok k
action_back g w n k v lt =
    let one = names_fine w.one v.one in
    let two = names_fine w.two v.two in
    let below : k < length w.one * length w.two = subst (λ (m : ℕ). k < m) v.count lt in
    both_found w.one w.two (known_row_of w n k) (k / length w.two) (k % length w.two) k
    (name_position w.one (k / length w.two) one.apart (div_below k (length w.two) (length w.one) two.some below))
    (name_position w.two (k % length w.two) two.apart (mod_below k (length w.two) two.some))
    (div-add-mod' k (length w.two))

-- rows that differ have their joint actions
placed_made : (g : GameModel) (w : World) (n : ℕ) (before ks : List ℕ) → WorldFine g w → list_all (λ k. nat_lt k (length w.rows)) ks ≡ true → numbers_apart before ks ≡ true
    → place_rows w.one w.two (placed_rows w before) (known_rows w n ks) ≡ Ok (placed_rows w ks)
placed_made g w n before [] v e s = refl
placed_made g w n before (k ∷ ks) v e s =
    let a = and_parts (nat_lt k (length w.rows)) (list_all (λ i. nat_lt i (length w.rows)) ks) e in
    let b = and_parts (not (one_of before k)) (numbers_apart (before ++ k ∷ []) ks) s in
    let new : taken k (placed_rows w before) ≡ false = taken_is w k before ∙ not-true (one_of before k) b.0 in
    let num = action_back g w n k v (ltb-true k (length w.rows) a.0) in
    let m = after (n + 1) (row_at_number w k) in
    let others = placed_made g w m (before ++ k ∷ []) ks v a.1 b.1 in
    let others1 : place_rows w.one w.two (placed_rows w before ++ placed_row w k ∷ []) (known_rows w m ks) ≡ Ok (placed_rows w ks) =
    subst (λ (ps : List PlacedRow). place_rows w.one w.two ps (known_rows w m ks) ≡ Ok (placed_rows w ks)) (placed_push w before k) others in
    rw (num, new, others1) refl

-- ---- rows in order

-- the outcomes of row k
abbrev the_row : World → ℕ → Option (List Outcome)
the_row w k = Some (row_at_number w k)

-- the row of a number that stands in an order
row_back : (w : World) (k : ℕ) (ks : List ℕ) → one_of ks k ≡ true → row_numbered k (placed_rows w ks) ≡ the_row w k
row_back w k [] e = absurd cc
row_back w k (i ∷ is) e = elim (cases_Bool (eqb i k)) [
  | inl t ↦ rw t (ap (λ (j : ℕ). the_row w j) (eqb-true i k t))
  | inr t ↦ (let f : one_of is k ≡ true = rw t at e in rw t (row_back w k is f))
]

-- the rows from number i on, in order
suffix_made : (w : World) (line m i : ℕ) (ks : List ℕ) (rows : List (List Outcome)) → ((j : ℕ) → j < length rows → row_numbered (i + j) (placed_rows w ks) ≡ Some (slice_index_or rows j []))
    → each (row_at line m (placed_rows w ks)) (range_with_len i (length rows)) ≡ Ok rows
suffix_made w line m i ks [] h = refl
suffix_made w line m i ks (r ∷ rs) h =
    let first : row_numbered i (placed_rows w ks) ≡ Some r = subst (λ (n : ℕ). row_numbered n (placed_rows w ks) ≡ Some r) (omega arith) (h 0 (omega arith)) in
    let others = suffix_made w line m (i + 1) ks rs (λ j lt. subst (λ (n : ℕ). row_numbered n (placed_rows w ks) ≡ Some (slice_index_or rs j [])) (omega arith) (h (suc j) (omega arith))) in
    rw (first, others) refl

-- ---- places

-- a place in line n, its outcomes by numbers
abbrev known_of : ℕ → Place → List ℕ → KnownPlace
known_of n (a_world w) ks = known_world n w.one w.two (known_rows w (n + 1 + 1 + 1) ks)
known_of n (an_end z) ks = known_end z

-- a place in line n, its rows by joint actions
abbrev placed_of : ℕ → Place → List ℕ → PlacedPlace
placed_of n (a_world w) ks = placed_world n w.one w.two (placed_rows w ks)
placed_of n (an_end z) ks = placed_end z

-- likewise places, the first of them in line n
abbrev knowns : ℕ → List Place → List (List ℕ) → List KnownPlace
knowns n (p ∷ ps) (ks ∷ kss) = known_of n p ks ∷ knowns (place_after n p ks) ps kss
knowns n _ _ = []

-- likewise
abbrev placeds : ℕ → List Place → List (List ℕ) → List PlacedPlace
placeds n (p ∷ ps) (ks ∷ kss) = placed_of n p ks ∷ placeds (place_after n p ks) ps kss
placeds n _ _ = []

-- a place by names is the place by numbers
place_known : (g : GameModel) (n : ℕ) (nm : Bytes) (p : Place) (ks : List ℕ) → ApartNames g → place_ok g p ≡ true → IsOrderOf p ks → known_place g.names g.tokens (part_place g n nm p ks) ≡ Ok (known_of n p ks)
place_known g n nm (a_world w) ks h e o = rw (rows_made g w (n + 1 + 1 + 1) ks h (world_fine g w e) o.below) refl
place_known g n nm (an_end z) ks h e o = refl

-- its rows have their joint actions
place_placed : (g : GameModel) (n : ℕ) (p : Place) (ks : List ℕ) → place_ok g p ≡ true → IsOrderOf p ks → placed (known_of n p ks) ≡ Ok (placed_of n p ks)
place_placed g n (a_world w) ks e o = rw (placed_made g w (n + 1 + 1 + 1) [] ks (world_fine g w e) o.below o.once) refl
place_placed g n (an_end z) ks e o = refl

-- its rows in order are those of the place
place_ordered : (g : GameModel) (n : ℕ) (p : Place) (ks : List ℕ) → place_ok g p ≡ true → IsOrderOf p ks → ordered (placed_of n p ks) ≡ Ok p
place_ordered g n (a_world w) ks e o =
    let v = world_fine g w e in
    let r = suffix_made w n (length w.two) 0 ks w.rows (λ j lt. subst (λ (m : ℕ). row_numbered m (placed_rows w ks) ≡ Some (slice_index_or w.rows j [])) (omega arith) (row_back w j ks (o.whole j lt))) in
    let r1 : each (row_at n (length w.two) (placed_rows w ks)) (range_with_len 0 (length w.one * length w.two)) ≡ Ok w.rows = subst (λ (m : ℕ). each (row_at n (length w.two) (placed_rows w ks)) (range_with_len 0 m) ≡ Ok w.rows) v.count r in
    rw r1 refl
place_ordered g n (an_end z) ks e o = refl

-- a first name and others for the same
names_same : (a b : Bytes) (xs bs : List Bytes) → a ≡ b → xs ≡ bs → a ∷ xs ≡ b ∷ bs
names_same a b xs bs p q = cc

-- what the three passes make of the parts of places
record PlacesMade (g : GameModel) (n : ℕ) (nms : List Bytes) (ps : List Place) (kss : List (List ℕ)) : Type 0 where
  pub names : map place_name (part_places g n nms ps kss) ≡ nms
  pub known : each (known_place g.names g.tokens) (part_places g n nms ps kss) ≡ Ok (knowns n ps kss)
  pub placed_all : each placed (knowns n ps kss) ≡ Ok (placeds n ps kss)
  pub ordered_all : each ordered (placeds n ps kss) ≡ Ok ps

-- they make the places
places_made : (g : GameModel) (n : ℕ) (nms : List Bytes) (ps : List Place) (kss : List (List ℕ)) → ApartNames g → length ps ≡ length nms → list_all (place_ok g) ps ≡ true → AreOrders ps kss → PlacesMade g n nms ps kss
places_made g n [] [] [] h len e o = record { names = refl; known = refl; placed_all = refl; ordered_all = refl }
places_made g n [] [] (ks ∷ kss) h len e o = absurd o
places_made g n [] (p ∷ ps) kss h len e o = absurd (omega (arith, len))
places_made g n (nm ∷ nms) [] kss h len e o = absurd (omega (arith, len))
places_made g n (nm ∷ nms) (p ∷ ps) [] h len e o = absurd o
places_made g n (nm ∷ nms) (p ∷ ps) (ks ∷ kss) h len e o =
    let a = and_parts (place_ok g p) (list_all (place_ok g) ps) e in
    let r = places_made g (place_after n p ks) nms ps kss h (omega (arith, len)) a.1 o.1 in
    record {
      names = names_same (place_name (part_place g n nm p ks)) nm (map place_name (part_places g (place_after n p ks) nms ps kss)) nms (part_place_name g n nm p ks) r.names;
      known = rw (place_known g n nm p ks h a.0 o.0, r.known) refl;
      placed_all = rw (place_placed g n p ks a.0 o.0, r.placed_all) refl;
      ordered_all = rw (place_ordered g n p ks a.0 o.0, r.ordered_all) refl;
    }

-- ---- the game

-- what the passes make of all parts
made_from : (g : GameModel) (n : ℕ) (orders : List (List ℕ)) (d : Draft) (names : List Bytes) (ks : List KnownPlace) (ps : List PlacedPlace) → map place_name d.places ≡ names → names ≡ g.names → IsDraftOf g n orders d
    → each (known_place g.names g.tokens) d.places ≡ Ok ks → known g.names d.root_line 2 d.root ≡ Ok g.root → each placed ks ≡ Ok ps → each ordered ps ≡ Ok g.places → is_world_at g.root g.places ≡ true → assembled d ≡ Ok g
made_from g n orders d names ks ps nd ng i a b c e f = rw (nd ∙ ng, i.tokens, a, b, c, e, f, i.grid, i.horizon, i.recall) refl

-- the parts of a game are assembled to it
pub game_made : (g : GameModel) (n : ℕ) (orders : List (List ℕ)) (d : Draft) → game_ok g ≡ true → AreOrders g.places orders → IsDraftOf g n orders d → assembled d ≡ Ok g
game_made g n orders d e o i =
    let f = game_fine g e in
    let h : ApartNames g = record { names = (names_fine g.names f.names).apart; tokens = (names_fine g.tokens f.tokens).apart } in
    let r = places_made g n g.names g.places orders h f.same f.places o in
    let lt = root_below g.root g.places f.root in
    let root = ap (known g.names d.root_line 2) i.root ∙ known_back g.names d.root_line 2 g.root h.names (omega (arith, f.same)) in
    made_from g n orders d (map place_name d.places) (knowns n g.places orders) (placeds n g.places orders) refl (ap (map place_name) i.places ∙ r.names) i
    (ap (each (known_place g.names g.tokens)) i.places ∙ r.known) root r.placed_all r.ordered_all f.root
