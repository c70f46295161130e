-- The lines that were read so far are those of the parts so far.
use Rattle.std.proofs.Common.{◌≡◌, ℕ, ◌+◌, ◌<◌, Bool, true, false, not, List, [], ◌∷◌, ◌++◌, length, map, Result, Ok, refl, sym, ap, subst, ◌∙◌, append_assoc, arith, inl, inr}
use Rattle.std.specs.Prelude.{◌&&◌, nat_lt, ◌==◌, ℤ}
use Rattle.std.specs.List.{list_all}
use Rattle.std.proofs.lemmas.Bool.{and_parts, and_from, not_from_false, cases_Bool, eqb-true}
use Rattle.std.proofs.lemmas.List.{append-nil, map_push}
use Rattle.lab_math.proofs.ListTests.{all_push, some_push}
use Rattle.lab_defs_text.specs.Faults.{LineFault, twice_at}
use Rattle.lab_defs_text.specs.Words.{Bytes, is_name, stands_in, apart_after, are_names}
use Rattle.lab_defs_text.specs.Lines.{Line, head_line, grid_line, horizon_line, memory_line, token_line, world_line, one_line, two_line, row_line, to_line, end_line, root_line, done_line}
use Rattle.lab_defs_text.specs.Texts.{token_lines, is_within, is_payoff}
use Rattle.lab_defs_text.specs.Reading.{Kind, start_kind, head_kind, grid_kind, horizon_kind, memory_kind, token_kind, world_kind, one_kind, two_kind, row_kind, to_kind, end_kind, root_kind, done_kind, kind_of}
use Rattle.lab_defs_text.specs.Drafts.{Draft, PartPlace, part_world, part_end, PartWorld, PartRow, PartOutcome, place_name, with_rows, with_outcomes, whole_places, whole_rows, cleared_world, cleared_row, first_twice, unless_twice, unless_repeated, with_line}
use Rattle.lab_defs_text.specs.Parts.{part_outcome_ok, part_row_ok, part_ok}
use Rattle.lab_defs_text.proofs.StepLemmas.{ok_is, ok_carries, passed}
use Rattle.lab_defs_text.proofs.ReadingLemmas.{is_line, may_follow}

-- ---- the lines of parts

-- the lines of outcomes
abbrev pub outcomes_lines : List PartOutcome → List Line
outcomes_lines [] = []
outcomes_lines (o ∷ os) = to_line o.weight o.next o.own1 o.own2 o.public ∷ outcomes_lines os

-- the lines of rows
abbrev pub rows_lines : List PartRow → List Line
rows_lines [] = []
rows_lines (r ∷ rs) = row_line r.first r.second ∷ (outcomes_lines r.outcomes ++ rows_lines rs)

-- the lines of a place
abbrev pub part_lines : PartPlace → List Line
part_lines (part_world w) = world_line w.name ∷ one_line w.one ∷ two_line w.two ∷ rows_lines w.rows
part_lines (part_end n line z) = end_line n z ∷ []

-- the lines of places
abbrev pub parts_lines : List PartPlace → List Line
parts_lines [] = []
parts_lines (p ∷ ps) = part_lines p ++ parts_lines ps

-- the lines before the places
abbrev pub front : Draft → List Line
front d = head_line ∷ grid_line d.grid ∷ horizon_line d.horizon ∷ memory_line d.recall ∷ token_lines d.tokens

-- lines behind the places
abbrev pub behind : Draft → List Line → List Line
behind d ls = front d ++ (parts_lines d.places ++ ls)

-- lines behind the actions of the open world
abbrev pub within_world : Draft → List Line → List Line
within_world d ls = behind d (world_line d.open_world.name ∷ one_line d.open_world.one ∷ two_line d.open_world.two ∷ ls)

-- the lines that were read, the last one of a kind
abbrev pub so_far : Kind → Draft → List Line
so_far start_kind d = []
so_far head_kind d = head_line ∷ []
so_far grid_kind d = head_line ∷ grid_line d.grid ∷ []
so_far horizon_kind d = head_line ∷ grid_line d.grid ∷ horizon_line d.horizon ∷ []
so_far memory_kind d = head_line ∷ grid_line d.grid ∷ horizon_line d.horizon ∷ memory_line d.recall ∷ []
so_far token_kind d = front d
so_far world_kind d = behind d (world_line d.open_world.name ∷ [])
so_far one_kind d = behind d (world_line d.open_world.name ∷ one_line d.open_world.one ∷ [])
so_far two_kind d = within_world d []
so_far row_kind d = within_world d (rows_lines d.open_world.rows ++ row_line d.open_row.first d.open_row.second ∷ [])
so_far to_kind d = within_world d (rows_lines d.open_world.rows ++ row_line d.open_row.first d.open_row.second ∷ outcomes_lines d.open_row.outcomes)
so_far end_kind d = front d ++ parts_lines d.places
so_far root_kind d = behind d (root_line d.root ∷ [])
so_far done_kind d = behind d (root_line d.root ∷ done_line ∷ [])

-- ---- what holds of the parts

-- names, none twice
abbrev pub apart_names : List Bytes → Bool
apart_names ns = list_all is_name ns && apart_after [] ns

-- what stands before the places
pub record FrontFine (grid horizon : ℕ) (tokens : List Bytes) : Type 0 where
  pub grid_fine : is_within 1 4096 grid ≡ true
  pub horizon_fine : is_within 1 32 horizon ≡ true
  pub tokens_fine : are_names tokens ≡ true

-- and places that are whole
pub record Closed (grid horizon : ℕ) (tokens : List Bytes) (ps : List PartPlace) : Type 0 where
  pub front_fine : FrontFine grid horizon tokens
  pub names : apart_names (map place_name ps) ≡ true
  pub places : list_all part_ok ps ≡ true

-- and the name of a world
pub record Opened (grid horizon : ℕ) (tokens : List Bytes) (ps : List PartPlace) (name : Bytes) : Type 0 where
  pub closed : Closed grid horizon tokens ps
  pub names : apart_names (map place_name ps ++ name ∷ []) ≡ true

-- and its actions and rows
pub record HasRows (grid horizon : ℕ) (tokens : List Bytes) (ps : List PartPlace) (name : Bytes) (one two : List Bytes) (rows : List PartRow) : Type 0 where
  pub opened : Opened grid horizon tokens ps name
  pub one_fine : are_names one ≡ true
  pub two_fine : are_names two ≡ true
  pub rows_fine : list_all part_row_ok rows ≡ true

-- what stands before the places of a draft
abbrev pub FrontOf : Draft → List Bytes → Type 0
FrontOf d ts = FrontFine d.grid d.horizon ts

-- a draft with these places
abbrev pub ClosedOf : Draft → List PartPlace → Type 0
ClosedOf d ps = Closed d.grid d.horizon d.tokens ps

-- a draft whose world is open
abbrev pub OpenedOf : Draft → Type 0
OpenedOf d = Opened d.grid d.horizon d.tokens d.places d.open_world.name

-- a draft whose world has these rows
abbrev pub RowsOf : Draft → List PartRow → Type 0
RowsOf d rs = HasRows d.grid d.horizon d.tokens d.places d.open_world.name d.open_world.one d.open_world.two rs

-- what holds of the parts behind a line of a kind
abbrev pub IsDraft : Kind → Draft → Type 0
IsDraft start_kind d = (d.tokens ≡ []) × (d.places ≡ [])
IsDraft head_kind d = (d.tokens ≡ []) × (d.places ≡ [])
IsDraft grid_kind d = (is_within 1 4096 d.grid ≡ true) × (d.tokens ≡ []) × (d.places ≡ [])
IsDraft horizon_kind d = (is_within 1 4096 d.grid ≡ true) × (is_within 1 32 d.horizon ≡ true) × (d.tokens ≡ []) × (d.places ≡ [])
IsDraft memory_kind d = (is_within 1 4096 d.grid ≡ true) × (is_within 1 32 d.horizon ≡ true) × (d.tokens ≡ []) × (d.places ≡ [])
IsDraft token_kind d = FrontOf d d.tokens × (d.places ≡ [])
IsDraft world_kind d = OpenedOf d × (d.open_world.rows ≡ [])
IsDraft one_kind d = OpenedOf d × (d.open_world.rows ≡ []) × (are_names d.open_world.one ≡ true)
IsDraft two_kind d = RowsOf d d.open_world.rows × (d.open_world.rows ≡ [])
IsDraft row_kind d = RowsOf d d.open_world.rows × (d.open_row.outcomes ≡ [])
IsDraft to_kind d = RowsOf d d.open_world.rows × (part_row_ok d.open_row ≡ true)
IsDraft end_kind d = ClosedOf d d.places × (nat_lt 0 (length d.places) ≡ true)
IsDraft root_kind d = ClosedOf d d.places × (nat_lt 0 (length d.places) ≡ true)
IsDraft done_kind d = ClosedOf d d.places × (nat_lt 0 (length d.places) ≡ true)

-- ---- one more at the end

-- the lines of outcomes and one more
outcomes_push : (os : List PartOutcome) (o : PartOutcome) → outcomes_lines (os ++ o ∷ []) ≡ outcomes_lines os ++ to_line o.weight o.next o.own1 o.own2 o.public ∷ []
outcomes_push [] o = refl
outcomes_push (x ∷ xs) o = ap (λ (ls : List Line). to_line x.weight x.next x.own1 x.own2 x.public ∷ ls) (outcomes_push xs o)

-- the lines of rows and one more
rows_push : (rs : List PartRow) (r : PartRow) → rows_lines (rs ++ r ∷ []) ≡ rows_lines rs ++ row_line r.first r.second ∷ outcomes_lines r.outcomes
rows_push [] r = ap (λ (ls : List Line). row_line r.first r.second ∷ ls) (append-nil (outcomes_lines r.outcomes))
rows_push (x ∷ xs) r =
    ap (λ (ls : List Line). row_line x.first x.second ∷ (outcomes_lines x.outcomes ++ ls)) (rows_push xs r)
    ∙ ap (λ (ls : List Line). row_line x.first x.second ∷ ls) (sym (append_assoc (outcomes_lines x.outcomes) (rows_lines xs) (row_line r.first r.second ∷ outcomes_lines r.outcomes)))

-- the lines of places and one more
parts_push : (ps : List PartPlace) (p : PartPlace) → parts_lines (ps ++ p ∷ []) ≡ parts_lines ps ++ part_lines p
parts_push [] p = append-nil (part_lines p)
parts_push (x ∷ xs) p = ap (λ (ls : List Line). part_lines x ++ ls) (parts_push xs p) ∙ sym (append_assoc (part_lines x) (parts_lines xs) (part_lines p))

-- the lines of tokens and one more
tokens_push : (ts : List Bytes) (t : Bytes) → token_lines (ts ++ t ∷ []) ≡ token_lines ts ++ token_line t ∷ []
tokens_push [] t = refl
tokens_push (x ∷ xs) t = ap (λ (ls : List Line). token_line x ∷ ls) (tokens_push xs t)

-- names apart and one more that is new
apart_push : (before ns : List Bytes) (n : Bytes) → apart_after before ns ≡ true → stands_in n (before ++ ns) ≡ false → apart_after before (ns ++ n ∷ []) ≡ true
apart_push before [] n e f =
    and_from (not (stands_in n before)) true (not_from_false (stands_in n before) (subst (λ (x : List Bytes). stands_in n x ≡ false) (append-nil before) f)) refl
apart_push before (x ∷ xs) n e f =
    let a = and_parts (not (stands_in x before)) (apart_after (before ++ x ∷ []) xs) e in
    and_from (not (stands_in x before)) (apart_after (before ++ x ∷ []) (xs ++ n ∷ [])) a.0
    (apart_push (before ++ x ∷ []) xs n a.1 (subst (λ (y : List Bytes). stands_in n y ≡ false) (sym (append_assoc before (x ∷ []) xs)) f))

-- names and one more name that is new
names_push : (ns : List Bytes) (n : Bytes) → apart_names ns ≡ true → is_name n ≡ true → stands_in n ns ≡ false → apart_names (ns ++ n ∷ []) ≡ true
names_push ns n e f g =
    let a = and_parts (list_all is_name ns) (apart_after [] ns) e in
    and_from (list_all is_name (ns ++ n ∷ [])) (apart_after [] (ns ++ n ∷ [])) (all_push is_name ns n a.0 f) (apart_push [] ns n a.1 g)

-- a name that was not refused is new
not_twice : {A : Type 0} (b : Bool) (x y : A) → unless_twice b x ≡ Ok y → (b ≡ false) × (x ≡ y)
not_twice true x y e = absurd cc
not_twice false x y e = (refl, cc)

-- where no place of a name that stands before is found, there is none
first_not : (p : ℕ) (before ns : List Bytes) → 0 < p → first_twice p before ns ≡ 0 → apart_after before ns ≡ true
first_not p before [] h e = refl
first_not p before (n ∷ ns) h e = elim (cases_Bool (stands_in n before)) [
  | inl t ↦ (let f : p ≡ 0 = rw t at e in absurd (omega (arith, f)))
  | inr t ↦ (let f : first_twice (p + 1) (before ++ n ∷ []) ns ≡ 0 = rw t at e in
      and_from (not (stands_in n before)) (apart_after (before ++ n ∷ []) ns) (not_from_false (stands_in n before) t) (first_not (p + 1) (before ++ n ∷ []) ns (omega arith) f))
]

-- names that were not refused stand apart
not_repeated : {A : Type 0} (ns : List Bytes) (x y : A) → unless_repeated ns x ≡ Ok y → (apart_after [] ns ≡ true) × (x ≡ y)
not_repeated ns x y e =
    let t = passed (first_twice 2 [] ns == 0) (Ok x) (twice_at (first_twice 2 [] ns)) y e in
    (first_not 2 [] ns (omega arith) (eqb-true (first_twice 2 [] ns) 0 t.0), ok_is x y t.1)

-- ---- one more line

-- the parts behind a line of a kind have these lines
pub record GoesOn (k : Kind) (e : Draft) (ls : List Line) : Type 0 where
  pub draft : IsDraft k e
  pub lines : so_far k e ≡ ls

-- a line that is refused nowhere
on : (k : Kind) (d e : Draft) (ls : List Line) → ◌≡◌ {A = Result Draft LineFault} (Ok d) (Ok e) → IsDraft k d → so_far k d ≡ ls → GoesOn k e ls
on k d e ls q i s = ok_carries (λ (x : Draft). GoesOn k x ls) d e q (record { draft = i; lines = s })

-- a draft to which another place or the root may be added
record Closing (last : Kind) (d : Draft) : Type 0 where
  pub closed : ClosedOf d (whole_places last d)
  pub lines : so_far last d ≡ front d ++ parts_lines (whole_places last d)

-- behind a token
closing_token : (d : Draft) → IsDraft token_kind d → Closing token_kind d
closing_token d i = record {
  closed = subst (λ (ps : List PartPlace). ClosedOf d ps) (sym i.1) (record { front_fine = i.0; names = refl; places = refl });
  lines = subst (λ (ps : List PartPlace). front d ≡ front d ++ parts_lines ps) (sym i.1) (sym (append-nil (front d)));
}

-- behind an end
closing_end : (d : Draft) → IsDraft end_kind d → Closing end_kind d
closing_end d i = record { closed = i.0; lines = refl }

-- the rows behind an outcome
rows_closed : (d : Draft) → IsDraft to_kind d → list_all part_row_ok (whole_rows to_kind d) ≡ true
rows_closed d i = all_push part_row_ok d.open_world.rows d.open_row i.0.rows_fine i.1

-- behind an outcome
closing_to : (d : Draft) → IsDraft to_kind d → Closing to_kind d
closing_to d i =
    let o = i.0.opened in
    let w : PartWorld = with_rows d.open_world (d.open_world.rows ++ d.open_row ∷ []) in
    record {
      closed = record {
        front_fine = o.closed.front_fine;
        names = subst (λ (ns : List Bytes). apart_names ns ≡ true) (sym (map_push place_name d.places (part_world w))) o.names;
        places = all_push part_ok d.places (part_world w) o.closed.places
            (and_from (are_names d.open_world.one) (are_names d.open_world.two && list_all part_row_ok (whole_rows to_kind d)) i.0.one_fine
            (and_from (are_names d.open_world.two) (list_all part_row_ok (whole_rows to_kind d)) i.0.two_fine (rows_closed d i)));
      };
      lines = ap (λ (ls : List Line). within_world d ls) (sym (rows_push d.open_world.rows d.open_row))
          ∙ ap (λ (ls : List Line). front d ++ ls) (sym (parts_push d.places (part_world w)));
    }

-- one more line behind two runs
two_more_assoc : (a b : List Line) (l : Line) → a ++ (b ++ l ∷ []) ≡ (a ++ b) ++ l ∷ []
two_more_assoc a b l = sym (append_assoc a b (l ∷ []))

-- the line of a world
on_world : (n : ℕ) (last : Kind) (d e : Draft) (w : Bytes) → Closing last d → is_name w ≡ true → with_line n last d (world_line w) ≡ Ok e → GoesOn world_kind e (so_far last d ++ world_line w ∷ [])
on_world n last d e w c f q =
    let added : Draft = record d { places = whole_places last d; open_world = record { name = w; line = n; one = []; two = []; rows = [] }; open_row = cleared_row last d } in
    let t = not_twice (stands_in w (map place_name (whole_places last d))) added e q in
    subst (λ (x : Draft). GoesOn world_kind x (so_far last d ++ world_line w ∷ [])) t.1 (record {
      draft = (record { closed = c.closed; names = names_push (map place_name (whole_places last d)) w c.closed.names f t.0 }, refl);
      lines = two_more_assoc (front d) (parts_lines (whole_places last d)) (world_line w) ∙ ap (λ (ls : List Line). ls ++ world_line w ∷ []) (sym c.lines);
    })

-- the line of an end
on_end : (n : ℕ) (last : Kind) (d e : Draft) (w : Bytes) (z : ℤ) → Closing last d → is_name w ≡ true → is_payoff z ≡ true → with_line n last d (end_line w z) ≡ Ok e → GoesOn end_kind e (so_far last d ++ end_line w z ∷ [])
on_end n last d e w z c f g q =
    let ps = whole_places last d in
    let added : Draft = record d { places = ps ++ part_end w n z ∷ []; open_world = cleared_world last d; open_row = cleared_row last d } in
    let t = not_twice (stands_in w (map place_name ps)) added e q in
    subst (λ (x : Draft). GoesOn end_kind x (so_far last d ++ end_line w z ∷ [])) t.1 (record {
      draft = (
        record {
          front_fine = c.closed.front_fine;
          names = subst (λ (ns : List Bytes). apart_names ns ≡ true) (sym (map_push place_name ps (part_end w n z))) (names_push (map place_name ps) w c.closed.names f t.0);
          places = all_push part_ok ps (part_end w n z) c.closed.places g;
        },
        some_push ps (part_end w n z),
      );
      lines = ap (λ (ls : List Line). front d ++ ls) (parts_push ps (part_end w n z)) ∙ two_more_assoc (front d) (parts_lines ps) (end_line w z) ∙ ap (λ (ls : List Line). ls ++ end_line w z ∷ []) (sym c.lines);
    })

-- the line of the root
on_root : (n : ℕ) (last : Kind) (d e : Draft) (w : Bytes) → Closing last d → nat_lt 0 (length (whole_places last d)) ≡ true → with_line n last d (root_line w) ≡ Ok e → GoesOn root_kind e (so_far last d ++ root_line w ∷ [])
on_root n last d e w c some q =
    on root_kind (record d { places = whole_places last d; open_world = cleared_world last d; open_row = cleared_row last d; root = w; root_line = n }) e (so_far last d ++ root_line w ∷ []) q (c.closed, some)
    (two_more_assoc (front d) (parts_lines (whole_places last d)) (root_line w) ∙ ap (λ (ls : List Line). ls ++ root_line w ∷ []) (sym c.lines))

-- the line of a row
on_row : (n : ℕ) (last : Kind) (d e : Draft) (a b : Bytes) → RowsOf d (whole_rows last d) → so_far last d ≡ within_world d (rows_lines (whole_rows last d))
    → with_line n last d (row_line a b) ≡ Ok e → GoesOn row_kind e (so_far last d ++ row_line a b ∷ [])
on_row n last d e a b r lines q =
    on row_kind (record d { open_world = with_rows d.open_world (whole_rows last d); open_row = record { line = n; first = a; second = b; outcomes = [] } })
    e (so_far last d ++ row_line a b ∷ []) q (r, refl) (rw lines (simp append_assoc))

-- the line of an outcome
on_to : (n : ℕ) (last : Kind) (d e : Draft) (w : ℕ) (m x y p : Bytes) → RowsOf d d.open_world.rows → list_all part_outcome_ok d.open_row.outcomes ≡ true → is_within 1 1048576 w ≡ true
    → so_far last d ≡ so_far to_kind d → with_line n last d (to_line w m x y p) ≡ Ok e → GoesOn to_kind e (so_far last d ++ to_line w m x y p ∷ [])
on_to n last d e w m x y p r fine f lines q =
    let o : PartOutcome = record { line = n; weight = w; next = m; own1 = x; own2 = y; public = p } in
    on to_kind (record d { open_row = with_outcomes d.open_row (d.open_row.outcomes ++ o ∷ []) })
    e (so_far last d ++ to_line w m x y p ∷ []) q
    (r, and_from (nat_lt 0 (length (d.open_row.outcomes ++ o ∷ []))) (list_all part_outcome_ok (d.open_row.outcomes ++ o ∷ [])) (some_push d.open_row.outcomes o) (all_push part_outcome_ok d.open_row.outcomes o fine f))
    (rw (lines, outcomes_push d.open_row.outcomes o) (simp append_assoc))

-- the line of a token
on_token : (n : ℕ) (last : Kind) (d e : Draft) (t : Bytes) → is_within 1 4096 d.grid ≡ true → is_within 1 32 d.horizon ≡ true → apart_names d.tokens ≡ true → d.places ≡ [] → is_name t ≡ true → so_far last d ≡ front d
    → with_line n last d (token_line t) ≡ Ok e → GoesOn token_kind e (so_far last d ++ token_line t ∷ [])
on_token n last d e t grid horizon fine none f lines q =
    let r = not_twice (stands_in t d.tokens) (record d { tokens = d.tokens ++ t ∷ [] }) e q in
    subst (λ (x : Draft). GoesOn token_kind x (so_far last d ++ token_line t ∷ [])) r.1 (record {
      draft = (record { grid_fine = grid; horizon_fine = horizon; tokens_fine = and_from (nat_lt 0 (length (d.tokens ++ t ∷ []))) (apart_names (d.tokens ++ t ∷ [])) (some_push d.tokens t) (names_push d.tokens t fine f r.0) }, none);
      lines = ap (λ (ls : List Line). head_line ∷ grid_line d.grid ∷ horizon_line d.horizon ∷ memory_line d.recall ∷ ls) (tokens_push d.tokens t) ∙ ap (λ (ls : List Line). ls ++ token_line t ∷ []) (sym lines);
    })

-- the actions of a list that was not refused
actions_fine : (ns : List Bytes) → (nat_lt 0 (length ns) && list_all is_name ns) ≡ true → apart_after [] ns ≡ true → are_names ns ≡ true
actions_fine ns f h =
    let a = and_parts (nat_lt 0 (length ns)) (list_all is_name ns) f in
    and_from (nat_lt 0 (length ns)) (apart_names ns) a.0 (and_from (list_all is_name ns) (apart_after [] ns) a.1 h)

-- the line of seat 1's actions
on_one : (n : ℕ) (d e : Draft) (ns : List Bytes) → IsDraft world_kind d → is_line (one_line ns) ≡ true → with_line n world_kind d (one_line ns) ≡ Ok e → GoesOn one_kind e (so_far world_kind d ++ one_line ns ∷ [])
on_one n d e ns i f q =
    let added : Draft = record d { open_world = record { name = d.open_world.name; line = d.open_world.line; one = ns; two = d.open_world.two; rows = d.open_world.rows } } in
    let t = not_repeated ns added e q in
    subst (λ (x : Draft). GoesOn one_kind x (so_far world_kind d ++ one_line ns ∷ [])) t.1
    (record { draft = (i.0, i.1, actions_fine ns f t.0); lines = simp append_assoc })

-- the line of seat 2's actions
on_two : (n : ℕ) (d e : Draft) (ns : List Bytes) → IsDraft one_kind d → is_line (two_line ns) ≡ true → with_line n one_kind d (two_line ns) ≡ Ok e → GoesOn two_kind e (so_far one_kind d ++ two_line ns ∷ [])
on_two n d e ns i f q =
    let added : Draft = record d { open_world = record { name = d.open_world.name; line = d.open_world.line; one = d.open_world.one; two = ns; rows = d.open_world.rows } } in
    let t = not_repeated ns added e q in
    let fine : list_all part_row_ok d.open_world.rows ≡ true = subst (λ (rs : List PartRow). list_all part_row_ok rs ≡ true) (sym i.1) refl in
    subst (λ (x : Draft). GoesOn two_kind x (so_far one_kind d ++ two_line ns ∷ [])) t.1
    (record { draft = (record { opened = i.0; one_fine = i.2; two_fine = actions_fine ns f t.0; rows_fine = fine }, i.1); lines = simp append_assoc })

-- the parts that one more line leads to have one more line
pub goes_on : (n : ℕ) (last : Kind) (d e : Draft) (l : Line) → IsDraft last d → is_line l ≡ true → may_follow last (kind_of l) ≡ true → with_line n last d l ≡ Ok e → GoesOn (kind_of l) e (so_far last d ++ l ∷ [])
goes_on n start_kind d e head_line i f g q = on head_kind d e (head_line ∷ []) q i refl
goes_on n head_kind d e (grid_line x) i f g q = on grid_kind (record d { grid = x }) e (head_line ∷ grid_line x ∷ []) q (f, i.0, i.1) refl
goes_on n grid_kind d e (horizon_line x) i f g q = on horizon_kind (record d { horizon = x }) e (head_line ∷ grid_line d.grid ∷ horizon_line x ∷ []) q (i.0, f, i.1, i.2) refl
goes_on n horizon_kind d e (memory_line r) i f g q = on memory_kind (record d { recall = r }) e (head_line ∷ grid_line d.grid ∷ horizon_line d.horizon ∷ memory_line r ∷ []) q i refl
goes_on n memory_kind d e (token_line t) i f g q =
    on_token n memory_kind d e t i.0 i.1 (subst (λ (ts : List Bytes). apart_names ts ≡ true) (sym i.2) refl) i.3 f
    (ap (λ (ts : List Bytes). head_line ∷ grid_line d.grid ∷ horizon_line d.horizon ∷ memory_line d.recall ∷ token_lines ts) (sym i.2)) q
goes_on n token_kind d e (token_line t) i f g q =
    on_token n token_kind d e t i.0.grid_fine i.0.horizon_fine (and_parts (nat_lt 0 (length d.tokens)) (apart_names d.tokens) i.0.tokens_fine).1 i.1 f refl q
goes_on n token_kind d e (world_line w) i f g q = on_world n token_kind d e w (closing_token d i) f q
goes_on n token_kind d e (end_line w z) i f g q = let a = and_parts (is_name w) (is_payoff z) f in on_end n token_kind d e w z (closing_token d i) a.0 a.1 q
goes_on n world_kind d e (one_line ns) i f g q = on_one n d e ns i f q
goes_on n one_kind d e (two_line ns) i f g q = on_two n d e ns i f q
goes_on n two_kind d e (row_line a b) i f g q = on_row n two_kind d e a b i.0 (ap (λ (rs : List PartRow). within_world d (rows_lines rs)) (sym i.1)) q
goes_on n row_kind d e (to_line w m x y p) i f g q =
    on_to n row_kind d e w m x y p i.0 (subst (λ (os : List PartOutcome). list_all part_outcome_ok os ≡ true) (sym i.1) refl)
    (and_parts (is_within 1 1048576 w) (is_name m && (is_name x && (is_name y && is_name p))) f).0
    (ap (λ (os : List PartOutcome). within_world d (rows_lines d.open_world.rows ++ row_line d.open_row.first d.open_row.second ∷ outcomes_lines os)) (sym i.1)) q
goes_on n to_kind d e (to_line w m x y p) i f g q =
    on_to n to_kind d e w m x y p i.0 (and_parts (nat_lt 0 (length d.open_row.outcomes)) (list_all part_outcome_ok d.open_row.outcomes) i.1).1
    (and_parts (is_within 1 1048576 w) (is_name m && (is_name x && (is_name y && is_name p))) f).0 refl q
goes_on n to_kind d e (row_line a b) i f g q =
    on_row n to_kind d e a b (record { opened = i.0.opened; one_fine = i.0.one_fine; two_fine = i.0.two_fine; rows_fine = rows_closed d i })
    (ap (λ (ls : List Line). within_world d ls) (sym (rows_push d.open_world.rows d.open_row))) q
goes_on n to_kind d e (world_line w) i f g q = on_world n to_kind d e w (closing_to d i) f q
goes_on n to_kind d e (end_line w z) i f g q = let a = and_parts (is_name w) (is_payoff z) f in on_end n to_kind d e w z (closing_to d i) a.0 a.1 q
goes_on n to_kind d e (root_line w) i f g q = on_root n to_kind d e w (closing_to d i) (some_push d.places (part_world (with_rows d.open_world (d.open_world.rows ++ d.open_row ∷ [])))) q
goes_on n end_kind d e (world_line w) i f g q = on_world n end_kind d e w (closing_end d i) f q
goes_on n end_kind d e (end_line w z) i f g q = let a = and_parts (is_name w) (is_payoff z) f in on_end n end_kind d e w z (closing_end d i) a.0 a.1 q
goes_on n end_kind d e (root_line w) i f g q = on_root n end_kind d e w (closing_end d i) i.1 q
goes_on n root_kind d e done_line i f g q = on done_kind d e (so_far root_kind d ++ done_line ∷ []) q i (simp append_assoc)
goes_on n last d e l i f g q = absurd cc
