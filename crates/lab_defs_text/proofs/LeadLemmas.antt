-- The lines of a game are read to the parts of the game.
use Rattle.std.proofs.Common.{◌≡◌, ℕ, ◌+◌, ◌*◌, ◌/◌, ◌%◌, ◌<◌, true, false, not, List, [], ◌∷◌, ◌++◌, length, map, Ok, refl, sym, ap, subst, ◌∙◌, append_assoc, arith}
use Rattle.std.specs.Prelude.{◌&&◌, ◌==◌, nat_lt, ℤ, slice_index_or}
use Rattle.std.specs.List.{list_all}
use Rattle.std.proofs.Math.Nat.{mul-pos}
use Rattle.std.proofs.lemmas.Bool.{and_parts, and_from, not-true, ltb-true, lt-ltb}
use Rattle.std.proofs.lemmas.Nat.{div_below, mod_below}
use Rattle.std.proofs.lemmas.List.{append-nil, map_push}
use Rattle.std.proofs.lemmas.List.Recursion.{and_at}
use Rattle.lab_math.proofs.ListParts.{split_nonempty}
use Rattle.lab_defs_text.specs.Words.{Bytes, lines, is_name, stands_in, apart_after}
use Rattle.lab_defs_text.specs.Games.{GameModel, Place, a_world, an_end, World, Outcome, Recall}
use Rattle.lab_defs_text.specs.Lines.{Line, head_line, grid_line, horizon_line, memory_line, token_line, world_line, one_line, two_line, row_line, to_line, end_line, root_line, done_line, bytes_of, text_of}
use Rattle.lab_defs_text.specs.Texts.{name_of, outcome_lines, row_lines, place_lines, places_lines, token_lines, game_lines, is_within, is_payoff, outcome_ok, row_ok, place_ok, game_ok, IsOrder, IsOrderOf, AreOrders}
use Rattle.lab_defs_text.specs.Reading.{Kind, start_kind, head_kind, grid_kind, horizon_kind, memory_kind, token_kind, world_kind, one_kind, two_kind, row_kind, to_kind, end_kind, root_kind, kind_of, line_at}
use Rattle.lab_defs_text.specs.Drafts.{Draft, PartPlace, part_world, part_end, PartRow, PartOutcome, place_name, with_rows, with_outcomes, whole_places, whole_rows, cleared_world, cleared_row, first_twice, with_line, empty, is_done, read_from, parts_of}
use Rattle.lab_defs_text.proofs.SplitLemmas.{split_feed}
use Rattle.lab_defs_text.proofs.ReadingLemmas.{is_line, may_follow, line_again, line_no_feed}
use Rattle.lab_defs_text.proofs.GameLemmas.{NamesFine, names_fine, GameFine, game_fine, WorldFine, world_fine, outcome_fine, root_below, name_of_is_name}

-- the number behind one for each item
abbrev pub after : {A : Type 0} → ℕ → List A → ℕ
after n [] = n
after n (x ∷ xs) = after (n + 1) xs

-- ---- the parts of a game

-- outcomes, the first of them in line n
abbrev pub part_outcomes : GameModel → ℕ → List Outcome → List PartOutcome
part_outcomes g n [] = []
part_outcomes g n (o ∷ os) =
    record { line = n; weight = o.weight; next = name_of g.names o.next; own1 = name_of g.tokens o.own1; own2 = name_of g.tokens o.own2; public = name_of g.tokens o.public } ∷ part_outcomes g (n + 1) os

-- the outcomes of row k
abbrev pub row_at_number : World → ℕ → List Outcome
row_at_number w k = slice_index_or w.rows k []

-- the action of seat 1 in row k
abbrev pub first_of : World → ℕ → Bytes
first_of w k = name_of w.one (k / length w.two)

-- the action of seat 2 in row k
abbrev pub second_of : World → ℕ → Bytes
second_of w k = name_of w.two (k % length w.two)

-- row k in line n
abbrev pub part_row : GameModel → World → ℕ → ℕ → PartRow
part_row g w n k = record { line = n; first = first_of w k; second = second_of w k; outcomes = part_outcomes g (n + 1) (row_at_number w k) }

-- the rows with these numbers, the first of them in line n
abbrev pub part_rows : GameModel → World → ℕ → List ℕ → List PartRow
part_rows g w n [] = []
part_rows g w n (k ∷ ks) = part_row g w n k ∷ part_rows g w (after (n + 1) (row_at_number w k)) ks

-- the line behind those rows
abbrev pub rows_after : World → ℕ → List ℕ → ℕ
rows_after w n [] = n
rows_after w n (k ∷ ks) = rows_after w (after (n + 1) (row_at_number w k)) ks

-- a place in line n, its rows in an order
abbrev pub part_place : GameModel → ℕ → Bytes → Place → List ℕ → PartPlace
part_place g n nm (a_world w) ks = part_world (record { name = nm; line = n; one = w.one; two = w.two; rows = part_rows g w (n + 1 + 1 + 1) ks })
part_place g n nm (an_end z) ks = part_end nm n z

-- the line behind that place
abbrev pub place_after : ℕ → Place → List ℕ → ℕ
place_after n (a_world w) ks = rows_after w (n + 1 + 1 + 1) ks
place_after n (an_end z) ks = n + 1

-- places, the first of them in line n
abbrev pub part_places : GameModel → ℕ → List Bytes → List Place → List (List ℕ) → List PartPlace
part_places g n (nm ∷ nms) (p ∷ ps) (ks ∷ kss) = part_place g n nm p ks ∷ part_places g (place_after n p ks) nms ps kss
part_places g n _ _ _ = []

-- the line behind those places
abbrev pub places_after : ℕ → List Place → List (List ℕ) → ℕ
places_after n (p ∷ ps) (ks ∷ kss) = places_after (place_after n p ks) ps kss
places_after n _ _ = n

-- the name of a place
pub part_place_name : (g : GameModel) (n : ℕ) (nm : Bytes) (p : Place) (ks : List ℕ) → place_name (part_place g n nm p ks) ≡ nm
part_place_name g n nm (a_world w) ks = refl
part_place_name g n nm (an_end z) ks = refl

-- ---- reading on

-- the pieces of the text of lines
abbrev pieces_of : List Line → List Bytes
pieces_of ls = lines (text_of ls)

-- lines lead from one state of reading to another, whatever follows
abbrev Leads : ℕ → Kind → Draft → List Line → ℕ → Kind → Draft → Type 0
Leads n last d ls m k e = (rest : List Line) → read_from n last d (pieces_of (ls ++ rest)) ≡ read_from m k e (pieces_of rest)

-- first some lines, then others
leads_then : (n m p : ℕ) (i j k : Kind) (d e f : Draft) (xs bs : List Line) → Leads n i d xs m j e → Leads m j e bs p k f → Leads n i d (xs ++ bs) p k f
leads_then n m p i j k d e f xs bs x y rest = ap (λ (ls : List Line). read_from n i d (pieces_of ls)) (append_assoc xs bs rest) ∙ x (bs ++ rest) ∙ y rest

-- no line leads nowhere
leads_none : (n : ℕ) (k : Kind) (d : Draft) → Leads n k d [] n k d
leads_none n k d rest = refl

-- a line before some pieces
one_step : (n : ℕ) (last : Kind) (d e : Draft) (l : Line) (xs : List Bytes) → (xs ≡ [] → ⊥) → line_at last (bytes_of l) ≡ Ok l → with_line n last d l ≡ Ok e → is_done (kind_of l) ≡ false
    → read_from n last d (bytes_of l ∷ xs) ≡ read_from (n + 1) (kind_of l) e xs
one_step n last d e l [] some p q r = absurd (some refl)
one_step n last d e l (m ∷ ms) some p q r = rw (p, q, r) refl

-- the first piece is the first line
pieces_first : (l : Line) (rest : List Line) → is_line l ≡ true → pieces_of (l ∷ rest) ≡ bytes_of l ∷ pieces_of rest
pieces_first l rest f = split_feed (bytes_of l) (text_of rest) (line_no_feed l f)

-- one line
leads_one : (n : ℕ) (last : Kind) (d e : Draft) (l : Line) → is_line l ≡ true → may_follow last (kind_of l) ≡ true → is_done (kind_of l) ≡ false → with_line n last d l ≡ Ok e → Leads n last d (l ∷ []) (n + 1) (kind_of l) e
leads_one n last d e l f g h q rest = ap (read_from n last d) (pieces_first l rest f) ∙ one_step n last d e l (pieces_of rest) (split_nonempty (λ c. c == 10) (text_of rest)) (line_again last l f g) q h

-- ---- outcomes

-- the open row with outcomes
abbrev outcomes_added : Draft → List PartOutcome → Draft
outcomes_added d os = record d { open_row = with_outcomes d.open_row os }

-- the line of an outcome
abbrev outcome_line : GameModel → Outcome → Line
outcome_line g o = to_line o.weight (name_of g.names o.next) (name_of g.tokens o.own1) (name_of g.tokens o.own2) (name_of g.tokens o.public)

-- the names of an outcome are names
outcome_line_fine : (g : GameModel) (o : Outcome) → GameFine g → outcome_ok g o ≡ true → is_line (outcome_line g o) ≡ true
outcome_line_fine g o h e =
    let a = outcome_fine g o e in
    let names = (names_fine g.names h.names).names in
    let tokens = (names_fine g.tokens h.tokens).names in
    let n = name_of g.names o.next in
    let x = name_of g.tokens o.own1 in
    let y = name_of g.tokens o.own2 in
    let p = name_of g.tokens o.public in
    and_from (is_within 1 1048576 o.weight) (is_name n && (is_name x && (is_name y && is_name p))) a.weight
    (and_from (is_name n) (is_name x && (is_name y && is_name p)) (name_of_is_name g.names o.next names a.next)
    (and_from (is_name x) (is_name y && is_name p) (name_of_is_name g.tokens o.own1 tokens a.own1)
    (and_from (is_name y) (is_name p) (name_of_is_name g.tokens o.own2 tokens a.own2) (name_of_is_name g.tokens o.public tokens a.public))))

-- the lines of outcomes
outcomes_lead : (g : GameModel) (n : ℕ) (d : Draft) (os : List Outcome) → GameFine g → list_all (outcome_ok g) os ≡ true
    → Leads n to_kind d (outcome_lines g os) (after n os) to_kind (outcomes_added d (d.open_row.outcomes ++ part_outcomes g n os))
outcomes_lead g n d [] h e = subst (λ (os : List PartOutcome). Leads n to_kind d [] n to_kind (outcomes_added d os)) (sym (append-nil d.open_row.outcomes)) (leads_none n to_kind d)
outcomes_lead g n d (o ∷ os) h e =
    let a = and_parts (outcome_ok g o) (list_all (outcome_ok g) os) e in
    let l : Line = outcome_line g o in
    let p : PartOutcome = record { line = n; weight = o.weight; next = name_of g.names o.next; own1 = name_of g.tokens o.own1; own2 = name_of g.tokens o.own2; public = name_of g.tokens o.public } in
    let d1 : Draft = outcomes_added d (d.open_row.outcomes ++ p ∷ []) in
    let one_more = leads_one n to_kind d d1 l (outcome_line_fine g o h a.0) refl refl refl in
    let others = outcomes_lead g (n + 1) d1 os h a.1 in
    leads_then n (n + 1) (after (n + 1) os) to_kind to_kind to_kind d d1 (outcomes_added d (d.open_row.outcomes ++ p ∷ part_outcomes g (n + 1) os)) (l ∷ []) (outcome_lines g os) one_more
    (subst (λ (x : List PartOutcome). Leads (n + 1) to_kind d1 (outcome_lines g os) (after (n + 1) os) to_kind (outcomes_added d x)) (append_assoc d.open_row.outcomes (p ∷ []) (part_outcomes g (n + 1) os)) others)

-- ---- rows

-- the open world with rows, and the open row
abbrev rows_added : Draft → List PartRow → PartRow → Draft
rows_added d rs r = record d { open_world = with_rows d.open_world rs; open_row = r }

-- the lines of a row
row_lead : (g : GameModel) (n : ℕ) (last : Kind) (d : Draft) (a b : Bytes) (os : List Outcome) → GameFine g → is_name a ≡ true → is_name b ≡ true → row_ok g os ≡ true → may_follow last row_kind ≡ true
    → Leads n last d (row_line a b ∷ outcome_lines g os) (after (n + 1) os) to_kind (rows_added d (whole_rows last d) (record { line = n; first = a; second = b; outcomes = part_outcomes g (n + 1) os }))
row_lead g n last d a b [] h na nb e f = absurd cc
row_lead g n last d a b (o ∷ os) h na nb e f =
    let v = and_parts (nat_lt 0 (length (o ∷ os))) (list_all (outcome_ok g) (o ∷ os)) e in
    let c = and_parts (outcome_ok g o) (list_all (outcome_ok g) os) v.1 in
    let l : Line = outcome_line g o in
    let p : PartOutcome = record { line = n + 1; weight = o.weight; next = name_of g.names o.next; own1 = name_of g.tokens o.own1; own2 = name_of g.tokens o.own2; public = name_of g.tokens o.public } in
    let d1 : Draft = rows_added d (whole_rows last d) (record { line = n; first = a; second = b; outcomes = [] }) in
    let d2 : Draft = rows_added d (whole_rows last d) (record { line = n; first = a; second = b; outcomes = p ∷ [] }) in
    let d3 : Draft = rows_added d (whole_rows last d) (record { line = n; first = a; second = b; outcomes = p ∷ part_outcomes g (n + 1 + 1) os }) in
    let first = leads_one n last d d1 (row_line a b) (and_from (is_name a) (is_name b) na nb) f refl refl in
    let second = leads_one (n + 1) row_kind d1 d2 l (outcome_line_fine g o h c.0) refl refl refl in
    let others : Leads (n + 1 + 1) to_kind d2 (outcome_lines g os) (after (n + 1 + 1) os) to_kind d3 = outcomes_lead g (n + 1 + 1) d2 os h c.1 in
    leads_then n (n + 1) (after (n + 1 + 1) os) last row_kind to_kind d d1 d3 (row_line a b ∷ []) (l ∷ outcome_lines g os) first
    (leads_then (n + 1) (n + 1 + 1) (after (n + 1 + 1) os) row_kind to_kind to_kind d1 d2 d3 (l ∷ []) (outcome_lines g os) second others)

-- what holds of row k
record RowFine (g : GameModel) (w : World) (k : ℕ) : Type 0 where
  pub first : is_name (first_of w k) ≡ true
  pub second : is_name (second_of w k) ≡ true
  pub outcomes : row_ok g (row_at_number w k) ≡ true

-- each row of a world is such
row_fine : (g : GameModel) (w : World) (k : ℕ) → WorldFine g w → nat_lt k (length w.rows) ≡ true → RowFine g w k
row_fine g w k v e =
    let lt = ltb-true k (length w.rows) e in
    let one = names_fine w.one v.one in
    let two = names_fine w.two v.two in
    let below : k < length w.one * length w.two = subst (λ (n : ℕ). k < n) v.count lt in
    record {
      first = name_of_is_name w.one (k / length w.two) one.names (div_below k (length w.two) (length w.one) two.some below);
      second = name_of_is_name w.two (k % length w.two) two.names (mod_below k (length w.two) two.some);
      outcomes = and_at (list_all (row_ok g)) (row_ok g) refl (λ _ _. refl) w.rows k [] lt v.rows;
    }

-- lines lead to an open world whose rows, with the open one, are those before and some more
record RowsLead (n m : ℕ) (last : Kind) (d : Draft) (ls : List Line) (rs : List PartRow) : Type 0 where
  pub rows : List PartRow
  pub open_row : PartRow
  pub leads : Leads n last d ls m to_kind (rows_added d rows open_row)
  pub all : rows ++ open_row ∷ [] ≡ rs

-- the lines of rows behind a row
rows_lead : (g : GameModel) (w : World) (n : ℕ) (d : Draft) (ks : List ℕ) → GameFine g → WorldFine g w → list_all (λ k. nat_lt k (length w.rows)) ks ≡ true
    → RowsLead n (rows_after w n ks) to_kind d (row_lines g w ks) (whole_rows to_kind d ++ part_rows g w n ks)
rows_lead g w n d [] h f e = record { rows = d.open_world.rows; open_row = d.open_row; leads = leads_none n to_kind d; all = sym (append-nil (d.open_world.rows ++ d.open_row ∷ [])) }
rows_lead g w n d (k ∷ ks) h f e =
    let a = and_parts (nat_lt k (length w.rows)) (list_all (λ i. nat_lt i (length w.rows)) ks) e in
    let v = row_fine g w k f a.0 in
    let os = row_at_number w k in
    let r : PartRow = part_row g w n k in
    let d1 = rows_added d (whole_rows to_kind d) r in
    let m = after (n + 1) os in
    let first = row_lead g n to_kind d (first_of w k) (second_of w k) os h v.first v.second v.outcomes refl in
    let others = rows_lead g w m d1 ks h f a.1 in
    record {
      rows = others.rows;
      open_row = others.open_row;
      leads = leads_then n m (rows_after w m ks) to_kind to_kind to_kind d d1 (rows_added d others.rows others.open_row) (row_line (first_of w k) (second_of w k) ∷ outcome_lines g os) (row_lines g w ks) first others.leads;
      all = others.all ∙ append_assoc (whole_rows to_kind d) (r ∷ []) (part_rows g w m ks);
    }

-- ---- a place

-- two drafts have the same before their places
record SameFront (d e : Draft) : Type 0 where
  pub grid : d.grid ≡ e.grid
  pub horizon : d.horizon ≡ e.horizon
  pub recall : d.recall ≡ e.recall
  pub tokens : d.tokens ≡ e.tokens

-- likewise of three
same_then : (d e f : Draft) → SameFront d e → SameFront e f → SameFront d f
same_then d e f x y = record { grid = x.grid ∙ y.grid; horizon = x.horizon ∙ y.horizon; recall = x.recall ∙ y.recall; tokens = x.tokens ∙ y.tokens }

-- lines lead to a draft with some more places
record PlacesLead (n m : ℕ) (last : Kind) (d : Draft) (ls : List Line) (ps : List PartPlace) : Type 0 where
  pub kind : Kind
  pub end : Draft
  pub leads : Leads n last d ls m kind end
  pub worlds : may_follow kind world_kind ≡ true
  pub ends : may_follow kind end_kind ≡ true
  pub roots : may_follow kind root_kind ≡ true
  pub places : whole_places kind end ≡ whole_places last d ++ ps
  pub same : SameFront end d

-- where no name stands before, no place of one is found
not_first : (p : ℕ) (before ns : List Bytes) → apart_after before ns ≡ true → first_twice p before ns ≡ 0
not_first p before [] e = refl
not_first p before (n ∷ ns) e =
    let a = and_parts (not (stands_in n before)) (apart_after (before ++ n ∷ []) ns) e in
    rw (not-true (stands_in n before) a.0) (not_first (p + 1) (before ++ n ∷ []) ns a.1)

-- a list of actions is a line
actions_line : (ns : List Bytes) → NamesFine ns → (nat_lt 0 (length ns) && list_all is_name ns) ≡ true
actions_line ns f = and_from (nat_lt 0 (length ns)) (list_all is_name ns) (lt-ltb 0 (length ns) f.some) f.names

-- a world has a row
rows_some : (g : GameModel) (w : World) → WorldFine g w → 0 < length w.rows
rows_some g w v = subst (λ (n : ℕ). 0 < n) (sym v.count) (mul-pos (names_fine w.one v.one).some (names_fine w.two v.two).some)

-- the lines of a world
world_lead : (g : GameModel) (n : ℕ) (last : Kind) (d : Draft) (nm : Bytes) (w : World) (ks : List ℕ) → GameFine g → WorldFine g w → is_name nm ≡ true → stands_in nm (map place_name (whole_places last d)) ≡ false
    → IsOrder (length w.rows) ks → may_follow last world_kind ≡ true
    → PlacesLead n (rows_after w (n + 1 + 1 + 1) ks) last d (place_lines g nm (a_world w) ks) (part_place g n nm (a_world w) ks ∷ [])
world_lead g n last d nm w [] h v f new order follows = let bad : false ≡ true = order.whole 0 (rows_some g w v) in absurd cc
world_lead g n last d nm w (k ∷ ks) h v f new order follows =
    let one = names_fine w.one v.one in
    let two = names_fine w.two v.two in
    let b = and_parts (nat_lt k (length w.rows)) (list_all (λ i. nat_lt i (length w.rows)) ks) order.below in
    let u = row_fine g w k v b.0 in
    let os = row_at_number w k in
    let n1 = n + 1 in
    let n2 = n + 1 + 1 in
    let n3 = n + 1 + 1 + 1 in
    let d1 : Draft = record d { places = whole_places last d; open_world = record { name = nm; line = n; one = []; two = []; rows = [] }; open_row = cleared_row last d } in
    let d2 : Draft = record d1 { open_world = record { name = nm; line = n; one = w.one; two = []; rows = [] } } in
    let d3 : Draft = record d1 { open_world = record { name = nm; line = n; one = w.one; two = w.two; rows = [] } } in
    let r : PartRow = part_row g w n3 k in
    let d4 : Draft = rows_added d3 [] r in
    let m = after (n3 + 1) os in
    let s1 = leads_one n last d d1 (world_line nm) f follows refl (rw new refl) in
    let s2 = leads_one n1 world_kind d1 d2 (one_line w.one) (actions_line w.one one) refl refl (rw (not_first 2 [] w.one one.apart) refl) in
    let s3 = leads_one n2 one_kind d2 d3 (two_line w.two) (actions_line w.two two) refl refl (rw (not_first 2 [] w.two two.apart) refl) in
    let s4 = row_lead g n3 two_kind d3 (first_of w k) (second_of w k) os h u.first u.second u.outcomes refl in
    let s5 = rows_lead g w m d4 ks h v b.1 in
    let e = rows_added d4 s5.rows s5.open_row in
    let end_line_number = rows_after w m ks in
    record {
      kind = to_kind;
      end = e;
      leads = leads_then n n1 end_line_number last world_kind to_kind d d1 e (world_line nm ∷ []) (one_line w.one ∷ two_line w.two ∷ row_lines g w (k ∷ ks)) s1
          (leads_then n1 n2 end_line_number world_kind one_kind to_kind d1 d2 e (one_line w.one ∷ []) (two_line w.two ∷ row_lines g w (k ∷ ks)) s2
          (leads_then n2 n3 end_line_number one_kind two_kind to_kind d2 d3 e (two_line w.two ∷ []) (row_lines g w (k ∷ ks)) s3
          (leads_then n3 m end_line_number two_kind to_kind to_kind d3 d4 e (row_line (first_of w k) (second_of w k) ∷ outcome_lines g os) (row_lines g w ks) s4 s5.leads)));
      worlds = refl;
      ends = refl;
      roots = refl;
      places = ap (λ (rs : List PartRow). whole_places last d ++ part_world (record { name = nm; line = n; one = w.one; two = w.two; rows = rs }) ∷ []) s5.all;
      same = record { grid = refl; horizon = refl; recall = refl; tokens = refl };
    }

-- the line of an end
end_lead : (n : ℕ) (last : Kind) (d : Draft) (nm : Bytes) (z : ℤ) → is_name nm ≡ true → is_payoff z ≡ true → stands_in nm (map place_name (whole_places last d)) ≡ false → may_follow last end_kind ≡ true
    → PlacesLead n (n + 1) last d (end_line nm z ∷ []) (part_end nm n z ∷ [])
end_lead n last d nm z f p new follows =
    let e : Draft = record d { places = whole_places last d ++ part_end nm n z ∷ []; open_world = cleared_world last d; open_row = cleared_row last d } in
    record {
      kind = end_kind;
      end = e;
      leads = leads_one n last d e (end_line nm z) (and_from (is_name nm) (is_payoff z) f p) follows refl (rw new refl);
      worlds = refl;
      ends = refl;
      roots = refl;
      places = refl;
      same = record { grid = refl; horizon = refl; recall = refl; tokens = refl };
    }

-- the lines of a place
place_lead : (g : GameModel) (n : ℕ) (last : Kind) (d : Draft) (nm : Bytes) (p : Place) (ks : List ℕ) → GameFine g → is_name nm ≡ true → stands_in nm (map place_name (whole_places last d)) ≡ false
    → place_ok g p ≡ true → IsOrderOf p ks → may_follow last world_kind ≡ true → may_follow last end_kind ≡ true
    → PlacesLead n (place_after n p ks) last d (place_lines g nm p ks) (part_place g n nm p ks ∷ [])
place_lead g n last d nm (a_world w) ks h f new ok order v u = world_lead g n last d nm w ks h (world_fine g w ok) f new order v
place_lead g n last d nm (an_end z) ks h f new ok order v u = end_lead n last d nm z f ok new u

-- ---- all places

-- one place, and then others
both_lead : (n m k : ℕ) (last : Kind) (d : Draft) (ls ms : List Line) (ps qs : List PartPlace) (first : PlacesLead n m last d ls ps) → PlacesLead m k first.kind first.end ms qs → PlacesLead n k last d (ls ++ ms) (ps ++ qs)
both_lead n m k last d ls ms ps qs x y = record {
  kind = y.kind;
  end = y.end;
  leads = leads_then n m k last x.kind y.kind d x.end y.end ls ms x.leads y.leads;
  worlds = y.worlds;
  ends = y.ends;
  roots = y.roots;
  places = y.places ∙ ap (λ (zs : List PartPlace). zs ++ qs) x.places ∙ append_assoc (whole_places last d) ps qs;
  same = same_then y.end x.end d y.same x.same;
}

-- the lines of places, one at least
places_lead : (g : GameModel) (n : ℕ) (last : Kind) (d : Draft) (nm : Bytes) (nms : List Bytes) (p : Place) (ps : List Place) (ks : List ℕ) (kss : List (List ℕ))
    → GameFine g → list_all is_name (nm ∷ nms) ≡ true → apart_after (map place_name (whole_places last d)) (nm ∷ nms) ≡ true → length ps ≡ length nms → list_all (place_ok g) (p ∷ ps) ≡ true → IsOrderOf p ks → AreOrders ps kss
    → may_follow last world_kind ≡ true → may_follow last end_kind ≡ true
    → PlacesLead n (places_after n (p ∷ ps) (ks ∷ kss)) last d (places_lines g (nm ∷ nms) (p ∷ ps) (ks ∷ kss)) (part_places g n (nm ∷ nms) (p ∷ ps) (ks ∷ kss))
places_lead g n last d nm [] p (r ∷ rs) ks kss h f apart len ok order orders v u = absurd (omega (arith, len))
places_lead g n last d nm (x ∷ xs) p [] ks kss h f apart len ok order orders v u = absurd (omega (arith, len))
places_lead g n last d nm [] p [] ks [] h f apart len ok order orders v u =
    let a = and_parts (is_name nm) true f in
    let b = and_parts (not (stands_in nm (map place_name (whole_places last d)))) true apart in
    let c = and_parts (place_ok g p) true ok in
    let first = place_lead g n last d nm p ks h a.0 (not-true (stands_in nm (map place_name (whole_places last d))) b.0) c.0 order v u in
    subst (λ (ls : List Line). PlacesLead n (place_after n p ks) last d ls (part_place g n nm p ks ∷ [])) (sym (append-nil (place_lines g nm p ks))) first
places_lead g n last d nm [] p [] ks (ys ∷ yss) h f apart len ok order orders v u = absurd orders
places_lead g n last d nm (x ∷ xs) p (r ∷ rs) ks [] h f apart len ok order orders v u = absurd orders
places_lead g n last d nm (x ∷ xs) p (r ∷ rs) ks (ys ∷ yss) h f apart len ok order orders v u =
    let a = and_parts (is_name nm) (list_all is_name (x ∷ xs)) f in
    let b = and_parts (not (stands_in nm (map place_name (whole_places last d)))) (apart_after (map place_name (whole_places last d) ++ nm ∷ []) (x ∷ xs)) apart in
    let c = and_parts (place_ok g p) (list_all (place_ok g) (r ∷ rs)) ok in
    let first = place_lead g n last d nm p ks h a.0 (not-true (stands_in nm (map place_name (whole_places last d))) b.0) c.0 order v u in
    let named : map place_name (whole_places first.kind first.end) ≡ map place_name (whole_places last d) ++ nm ∷ [] =
    ap (map place_name) first.places ∙ map_push place_name (whole_places last d) (part_place g n nm p ks) ∙ ap (λ (z : Bytes). map place_name (whole_places last d) ++ z ∷ []) (part_place_name g n nm p ks) in
    let others = places_lead g (place_after n p ks) first.kind first.end x xs r rs ys yss h a.1 (subst (λ (ns : List Bytes). apart_after ns (x ∷ xs) ≡ true) (sym named) b.1)
    (omega (arith, len)) c.1 orders.0 orders.1 first.worlds first.ends in
    both_lead n (place_after n p ks) (places_after (place_after n p ks) (r ∷ rs) (ys ∷ yss)) last d (place_lines g nm p ks) (places_lines g (x ∷ xs) (r ∷ rs) (ys ∷ yss)) (part_place g n nm p ks ∷ []) (part_places g (place_after n p ks) (x ∷ xs) (r ∷ rs) (ys ∷ yss)) first others

-- the lines of all places behind the tokens
all_places_lead : (g : GameModel) (n : ℕ) (d : Draft) (nms : List Bytes) (ps : List Place) (kss : List (List ℕ)) → GameFine g → NamesFine nms → length ps ≡ length nms → list_all (place_ok g) ps ≡ true → AreOrders ps kss → d.places ≡ []
    → PlacesLead n (places_after n ps kss) token_kind d (places_lines g nms ps kss) (part_places g n nms ps kss)
all_places_lead g n d [] ps kss h f len ok orders none = let lt = f.some in absurd (omega arith)
all_places_lead g n d (nm ∷ nms) [] kss h f len ok orders none = absurd (omega (arith, len))
all_places_lead g n d (nm ∷ nms) (p ∷ ps) [] h f len ok orders none = absurd orders
all_places_lead g n d (nm ∷ nms) (p ∷ ps) (ks ∷ kss) h f len ok orders none =
    places_lead g n token_kind d nm nms p ps ks kss h f.names (subst (λ (xs : List PartPlace). apart_after (map place_name xs) (nm ∷ nms) ≡ true) (sym none) f.apart) (omega (arith, len)) ok orders.0 orders.1 refl refl

-- ---- the whole text

-- the lines of tokens behind a token
tokens_lead : (n : ℕ) (d : Draft) (ts : List Bytes) → list_all is_name ts ≡ true → apart_after d.tokens ts ≡ true → Leads n token_kind d (token_lines ts) (after n ts) token_kind (record d { tokens = d.tokens ++ ts })
tokens_lead n d [] f apart = subst (λ (ts : List Bytes). Leads n token_kind d [] n token_kind (record d { tokens = ts })) (sym (append-nil d.tokens)) (leads_none n token_kind d)
tokens_lead n d (t ∷ ts) f apart =
    let a = and_parts (is_name t) (list_all is_name ts) f in
    let b = and_parts (not (stands_in t d.tokens)) (apart_after (d.tokens ++ t ∷ []) ts) apart in
    let d1 : Draft = record d { tokens = d.tokens ++ t ∷ [] } in
    let first = leads_one n token_kind d d1 (token_line t) a.0 refl refl (rw (not-true (stands_in t d.tokens) b.0) refl) in
    let others = tokens_lead (n + 1) d1 ts a.1 b.1 in
    leads_then n (n + 1) (after (n + 1) ts) token_kind token_kind token_kind d d1 (record d { tokens = d.tokens ++ t ∷ ts }) (token_line t ∷ []) (token_lines ts) first
    (subst (λ (x : List Bytes). Leads (n + 1) token_kind d1 (token_lines ts) (after (n + 1) ts) token_kind (record d { tokens = x })) (append_assoc d.tokens (t ∷ []) ts) others)

-- the parts before the places
abbrev front_draft : ℕ → ℕ → Recall → List Bytes → Draft
front_draft g h r ts = record empty { grid = g; horizon = h; recall = r; tokens = ts }

-- the lines before the places
front_lead : (g h : ℕ) (r : Recall) (ts : List Bytes) → is_within 1 4096 g ≡ true → is_within 1 32 h ≡ true → NamesFine ts
    → Leads 1 start_kind empty (head_line ∷ grid_line g ∷ horizon_line h ∷ memory_line r ∷ token_lines ts) (after 5 ts) token_kind (front_draft g h r ts)
front_lead g h r [] f v e = let lt = e.some in absurd (omega arith)
front_lead g h r (t ∷ ts) f v e =
    let b = and_parts (is_name t) (list_all is_name ts) e.names in
    let d1 : Draft = record empty { grid = g } in
    let d2 : Draft = record empty { grid = g; horizon = h } in
    let d3 : Draft = record empty { grid = g; horizon = h; recall = r } in
    let d4 : Draft = front_draft g h r (t ∷ []) in
    let d5 : Draft = front_draft g h r (t ∷ ts) in
    let m = after 6 ts in
    let s1 = leads_one 1 start_kind empty empty head_line refl refl refl refl in
    let s2 = leads_one 2 head_kind empty d1 (grid_line g) f refl refl refl in
    let s3 = leads_one 3 grid_kind d1 d2 (horizon_line h) v refl refl refl in
    let s4 = leads_one 4 horizon_kind d2 d3 (memory_line r) refl refl refl refl in
    let s5 = leads_one 5 memory_kind d3 d4 (token_line t) b.0 refl refl refl in
    let s6 : Leads 6 token_kind d4 (token_lines ts) m token_kind d5 = tokens_lead 6 d4 ts b.1 e.apart in
    leads_then 1 2 m start_kind head_kind token_kind empty empty d5 (head_line ∷ []) (grid_line g ∷ horizon_line h ∷ memory_line r ∷ token_lines (t ∷ ts)) s1
    (leads_then 2 3 m head_kind grid_kind token_kind empty d1 d5 (grid_line g ∷ []) (horizon_line h ∷ memory_line r ∷ token_lines (t ∷ ts)) s2
    (leads_then 3 4 m grid_kind horizon_kind token_kind d1 d2 d5 (horizon_line h ∷ []) (memory_line r ∷ token_lines (t ∷ ts)) s3
    (leads_then 4 5 m horizon_kind memory_kind token_kind d2 d3 d5 (memory_line r ∷ []) (token_lines (t ∷ ts)) s4
    (leads_then 5 6 m memory_kind token_kind token_kind d3 d4 d5 (token_line t ∷ []) (token_lines ts) s5 s6))))

-- the parts are those of the game, its first place in line n and its rows in these orders
pub record IsDraftOf (g : GameModel) (n : ℕ) (orders : List (List ℕ)) (d : Draft) : Type 0 where
  pub grid : d.grid ≡ g.grid
  pub horizon : d.horizon ≡ g.horizon
  pub recall : d.recall ≡ g.recall
  pub tokens : d.tokens ≡ g.tokens
  pub places : d.places ≡ part_places g n g.names g.places orders
  pub root : d.root ≡ name_of g.names g.root

-- the lines of the game are read to its parts
pub record ReadsDraft (g : GameModel) (orders : List (List ℕ)) : Type 0 where
  pub from : ℕ
  pub draft : Draft
  pub of : IsDraftOf g from orders draft
  pub reads : parts_of (text_of (game_lines g orders)) ≡ Ok draft

-- the last line
done_read : (n : ℕ) (d : Draft) → read_from n root_kind d (pieces_of (done_line ∷ [])) ≡ Ok d
done_read n d = ap (read_from n root_kind d) (pieces_first done_line [] refl)

-- the lines behind the places
at_end : (g : GameModel) (orders : List (List ℕ)) (n m : ℕ) (d : Draft) → is_name (name_of g.names g.root) ≡ true
    → (q : PlacesLead n m token_kind d (places_lines g g.names g.places orders) (part_places g n g.names g.places orders)) → d ≡ front_draft g.grid g.horizon g.recall g.tokens
    → Leads 1 start_kind empty (head_line ∷ grid_line g.grid ∷ horizon_line g.horizon ∷ memory_line g.recall ∷ token_lines g.tokens) n token_kind d → ReadsDraft g orders
at_end g orders n m d f q same fl =
    let nm = name_of g.names g.root in
    let ls = places_lines g g.names g.places orders in
    let d1 : Draft = record q.end { places = whole_places q.kind q.end; open_world = cleared_world q.kind q.end; open_row = cleared_row q.kind q.end; root = nm; root_line = m } in
    let s = leads_one m q.kind q.end d1 (root_line nm) f q.roots refl refl in
    let t = leads_then n m (m + 1) token_kind q.kind root_kind d q.end d1 ls (root_line nm ∷ []) q.leads s in
    record {
      from = n;
      draft = d1;
      of = record {
        grid = q.same.grid ∙ ap (λ (x : Draft). x.grid) same;
        horizon = q.same.horizon ∙ ap (λ (x : Draft). x.horizon) same;
        recall = q.same.recall ∙ ap (λ (x : Draft). x.recall) same;
        tokens = q.same.tokens ∙ ap (λ (x : Draft). x.tokens) same;
        places = q.places ∙ ap (λ (x : Draft). x.places ++ part_places g n g.names g.places orders) same;
        root = refl;
      };
      reads = fl (ls ++ (root_line nm ∷ done_line ∷ []))
          ∙ ap (λ (xs : List Line). read_from n token_kind d (pieces_of xs)) (sym (append_assoc ls (root_line nm ∷ []) (done_line ∷ [])))
          ∙ t (done_line ∷ []) ∙ done_read (m + 1) d1;
    }

-- the lines of a game, its rows in some order, are read to its parts
pub game_reads : (g : GameModel) (orders : List (List ℕ)) → game_ok g ≡ true → AreOrders g.places orders → ReadsDraft g orders
game_reads g orders e o =
    let f = game_fine g e in
    let names = names_fine g.names f.names in
    let lt = root_below g.root g.places f.root in
    let d : Draft = front_draft g.grid g.horizon g.recall g.tokens in
    let n = after 5 g.tokens in
    let q = all_places_lead g n d g.names g.places orders f names f.same f.places o refl in
    at_end g orders n (places_after n g.places orders) d (name_of_is_name g.names g.root names.names (omega (arith, f.same))) q refl (front_lead g.grid g.horizon g.recall g.tokens f.grid f.horizon (names_fine g.tokens f.tokens))
