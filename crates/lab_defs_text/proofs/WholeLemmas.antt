-- Parts that are assembled are those of the game, its rows in some order.
use Rattle.std.proofs.Common.{◌≡◌, ℕ, zero, suc, ◌+◌, ◌*◌, ◌/◌, ◌%◌, ◌<◌, ◌≤◌, Bool, true, false, cond, not, eqb, List, [], ◌∷◌, ◌++◌, length, map, Option, Some, None, Result, Ok, Err, refl, sym, ap, subst, ◌∙◌, append_assoc, arith, inl, inr}
use Rattle.std.specs.Prelude.{◌&&◌, ◌==◌, nat_lt, slice_index_or}
use Rattle.std.specs.List.{list_all, range_with_len, position_from}
use Rattle.std.specs.Str.{bytes_eq}
use Rattle.std.proofs.Math.Nat.{mul_comm, le-mul_of_pos_right}
use Rattle.std.proofs.lemmas.Bool.{and_parts, and_from, not_from_false, cases_Bool, not-true, ltb-true, lt-ltb, or_parts, or_left, or_right, eq-eqb}
use Rattle.std.proofs.lemmas.Nat.{mul-add-lt, div-mul-add, mod-mul-add}
use Rattle.std.proofs.lemmas.Iterator.Adapters.{position_from-zero}
use Rattle.lab_math.proofs.ListTests.{all_from_each}
use Rattle.lab_defs_text.specs.Faults.{TextFault, unknown_name, extra_row, missing_row, no_root}
use Rattle.lab_defs_text.specs.Steps.{◌>>=◌, each}
use Rattle.lab_defs_text.specs.Words.{Bytes, are_names}
use Rattle.lab_defs_text.specs.Games.{GameModel, Place, a_world, an_end, World, Outcome}
use Rattle.lab_defs_text.specs.Lines.{Line, world_line, one_line, two_line, row_line, to_line, root_line, done_line}
use Rattle.lab_defs_text.specs.Texts.{name_of, outcome_lines, row_lines, place_lines, places_lines, game_lines, is_within, outcome_ok, row_ok, place_ok, is_world, game_ok, one_of, numbers_apart, IsOrderOf, AreOrders}
use Rattle.lab_defs_text.specs.Reading.{done_kind}
use Rattle.lab_defs_text.specs.Drafts.{Draft, PartPlace, part_world, part_end, PartWorld, PartRow, PartOutcome, place_name}
use Rattle.lab_defs_text.specs.Assembly.{or_fault, name_number, known, known_outcome, KnownRow, KnownPlace, known_world, known_end, known_row, known_place, PlacedRow, taken, unless_taken, action_of, place_rows, PlacedPlace, placed_world, placed_end, placed, row_numbered, row_at, ordered, is_world_at, assembled}
use Rattle.lab_defs_text.proofs.StepLemmas.{bind_ok, passed, ok_is, ok_carries, ok_carried, some_is}
use Rattle.lab_defs_text.proofs.GameLemmas.{names_fine, world_fine, outcome_fine}
use Rattle.lab_defs_text.proofs.SplitLemmas.{bytes_eq_is}
use Rattle.lab_defs_text.specs.Parts.{part_ok, part_row_ok, part_outcome_ok}
use Rattle.lab_defs_text.proofs.SoFarLemmas.{outcomes_lines, rows_lines, part_lines, parts_lines, apart_names, front, so_far, IsDraft}

-- ---- names

-- a name has a number, counted from i
record IsNumber (ns : List Bytes) (n : Bytes) (i j : ℕ) : Type 0 where
  pub number : ℕ
  pub below : number < length ns
  pub name : n ≡ name_of ns number
  pub at : j ≡ i + number

-- a number that is found
position_is : (ns : List Bytes) (n : Bytes) (i j : ℕ) → position_from (bytes_eq n) i ns ≡ Some j → IsNumber ns n i j
position_is [] n i j e = absurd cc
position_is (x ∷ xs) n i j e = elim (cases_Bool (bytes_eq n x)) [
  | inl t ↦ (let f : ◌≡◌ {A = Option ℕ} (Some i) (Some j) = rw t at e in
      let g : i ≡ j = some_is i j f in
      record { number = 0; below = omega arith; name = bytes_eq_is n x t; at = omega (arith, g) })
  | inr t ↦ (let f : position_from (bytes_eq n) (i + 1) xs ≡ Some j = rw t at e in
      let r = position_is xs n (i + 1) j f in
      record { number = suc r.number; below = omega (arith, r.below); name = r.name; at = omega (arith, r.at) })
]

-- a name has a number
record IsKnown (ns : List Bytes) (n : Bytes) (k : ℕ) : Type 0 where
  pub name : n ≡ name_of ns k
  pub below : k < length ns

-- what was found is there
found : {A : Type 0} (o : Option A) (e : TextFault) (x : A) → or_fault e o ≡ Ok x → o ≡ Some x
found None e x q = absurd cc
found (Some y) e x q = cc

-- a number among names
number_is : (ns : List Bytes) (n : Bytes) (k : ℕ) → name_number ns n ≡ Some k → IsKnown ns n k
number_is ns n k e =
    let r = position_is ns n 0 k (sym (position_from-zero (bytes_eq n) ns) ∙ e) in
    let same : r.number ≡ k = omega (arith, r.at) in
    subst (λ (j : ℕ). IsKnown ns n j) same (record { name = r.name; below = r.below })

-- a name that is known
known_is : (ns : List Bytes) (line place : ℕ) (n : Bytes) (k : ℕ) → known ns line place n ≡ Ok k → IsKnown ns n k
known_is ns line place n k e = number_is ns n k (found (name_number ns n) (unknown_name line place) k e)

-- ---- outcomes

-- the parts of outcomes have their lines
record OutcomesAre (g : GameModel) (ps : List PartOutcome) (os : List Outcome) : Type 0 where
  pub lines : outcomes_lines ps ≡ outcome_lines g os
  pub fine : list_all (outcome_ok g) os ≡ true
  pub same : length ps ≡ length os

-- the line of an outcome, with names for names
to_same : (w : ℕ) (a v b x c y d z : Bytes) (ls ms : List Line) → a ≡ v → b ≡ x → c ≡ y → d ≡ z → ls ≡ ms → to_line w a b c d ∷ ls ≡ to_line w v x y z ∷ ms
to_same w a v b x c y d z ls ms p q r s t = cc

-- one outcome and others
outcome_is : (g : GameModel) (p : PartOutcome) (ps : List PartOutcome) (o : Outcome) (os : List Outcome) → part_outcome_ok p ≡ true → known_outcome g.names g.tokens p ≡ Ok o → OutcomesAre g ps os → OutcomesAre g (p ∷ ps) (o ∷ os)
outcome_is g p ps o os f e r =
    let a = bind_ok (known g.names p.line 3 p.next) (λ n. known g.tokens p.line 4 p.own1 >>= λ x. known g.tokens p.line 5 p.own2 >>= λ y. known g.tokens p.line 6 p.public >>= λ z. Ok (record { weight = p.weight; next = n; own1 = x; own2 = y; public = z })) o e in
    let b = bind_ok (known g.tokens p.line 4 p.own1) (λ x. known g.tokens p.line 5 p.own2 >>= λ y. known g.tokens p.line 6 p.public >>= λ z. Ok (record { weight = p.weight; next = a.0; own1 = x; own2 = y; public = z })) o a.2 in
    let c = bind_ok (known g.tokens p.line 5 p.own2) (λ y. known g.tokens p.line 6 p.public >>= λ z. Ok (record { weight = p.weight; next = a.0; own1 = b.0; own2 = y; public = z })) o b.2 in
    let d = bind_ok (known g.tokens p.line 6 p.public) (λ z. Ok (record { weight = p.weight; next = a.0; own1 = b.0; own2 = c.0; public = z })) o c.2 in
    let n = known_is g.names p.line 3 p.next a.0 a.1 in
    let x = known_is g.tokens p.line 4 p.own1 b.0 b.1 in
    let y = known_is g.tokens p.line 5 p.own2 c.0 c.1 in
    let z = known_is g.tokens p.line 6 p.public d.0 d.1 in
    let made : Outcome = record { weight = p.weight; next = a.0; own1 = b.0; own2 = c.0; public = d.0 } in
    let names = length g.names in
    let tokens = length g.tokens in
    ok_carries (λ (v : Outcome). OutcomesAre g (p ∷ ps) (v ∷ os)) made o d.2 (record {
      lines = to_same p.weight p.next (name_of g.names a.0) p.own1 (name_of g.tokens b.0) p.own2 (name_of g.tokens c.0) p.public (name_of g.tokens d.0) (outcomes_lines ps) (outcome_lines g os) n.name x.name y.name z.name r.lines;
      fine = and_from (outcome_ok g made) (list_all (outcome_ok g) os)
          (and_from (is_within 1 1048576 p.weight) (nat_lt a.0 names && (nat_lt b.0 tokens && (nat_lt c.0 tokens && nat_lt d.0 tokens))) f
          (and_from (nat_lt a.0 names) (nat_lt b.0 tokens && (nat_lt c.0 tokens && nat_lt d.0 tokens)) (lt-ltb a.0 names n.below)
          (and_from (nat_lt b.0 tokens) (nat_lt c.0 tokens && nat_lt d.0 tokens) (lt-ltb b.0 tokens x.below)
          (and_from (nat_lt c.0 tokens) (nat_lt d.0 tokens) (lt-ltb c.0 tokens y.below) (lt-ltb d.0 tokens z.below))))) r.fine;
      same = omega (arith, r.same);
    })

-- outcomes that are known have their lines
outcomes_are : (g : GameModel) (ps : List PartOutcome) (os : List Outcome) → list_all part_outcome_ok ps ≡ true → each (known_outcome g.names g.tokens) ps ≡ Ok os → OutcomesAre g ps os
outcomes_are g [] os f e = ok_carries (λ (z : List Outcome). OutcomesAre g [] z) [] os e (record { lines = refl; fine = refl; same = refl })
outcomes_are g (p ∷ ps) os f e =
    let h = and_parts (part_outcome_ok p) (list_all part_outcome_ok ps) f in
    let a = bind_ok (known_outcome g.names g.tokens p) (λ y. each (known_outcome g.names g.tokens) ps >>= λ ys. Ok (y ∷ ys)) os e in
    let b = bind_ok (each (known_outcome g.names g.tokens) ps) (λ ys. Ok (a.0 ∷ ys)) os a.2 in
    ok_carries (λ (z : List Outcome). OutcomesAre g (p ∷ ps) z) (a.0 ∷ b.0) os b.2 (outcome_is g p ps a.0 b.0 h.0 a.1 (outcomes_are g ps b.0 h.1 b.1))

-- ---- rows

-- the numbers of rows
abbrev numbers : List PlacedRow → List ℕ
numbers [] = []
numbers (p ∷ ps) = p.number ∷ numbers ps

-- the line of the joint action with a number
abbrev number_line : List Bytes → List Bytes → ℕ → Line
number_line one two k = row_line (name_of one (k / length two)) (name_of two (k % length two))

-- the lines of rows that have their numbers
abbrev placed_lines : GameModel → List Bytes → List Bytes → List PlacedRow → List Line
placed_lines g one two [] = []
placed_lines g one two (p ∷ ps) = (number_line one two p.number ∷ outcome_lines g p.outcomes) ++ placed_lines g one two ps

-- the outcomes of a row
abbrev placed_fine : GameModel → PlacedRow → Bool
placed_fine g p = row_ok g p.outcomes

-- rows have their numbers, each another one
record RowsAre (g : GameModel) (one two : List Bytes) (before : List PlacedRow) (rs : List PartRow) (ps : List PlacedRow) : Type 0 where
  pub lines : rows_lines rs ≡ placed_lines g one two ps
  pub below : list_all (λ k. nat_lt k (length one * length two)) (numbers ps) ≡ true
  pub apart : numbers_apart (numbers before) (numbers ps) ≡ true
  pub fine : list_all (placed_fine g) ps ≡ true

-- a number is taken where it is one of the numbers
taken_numbers : (k : ℕ) (ps : List PlacedRow) → taken k ps ≡ one_of (numbers ps) k
taken_numbers k [] = refl
taken_numbers k (p ∷ ps) = rw (taken_numbers k ps) refl

-- the numbers of rows and one more
numbers_push : (ps : List PlacedRow) (p : PlacedRow) → numbers (ps ++ p ∷ []) ≡ numbers ps ++ p.number ∷ []
numbers_push [] p = refl
numbers_push (x ∷ xs) p = ap (λ (ks : List ℕ). x.number ∷ ks) (numbers_push xs p)

-- a joint action that was not refused is new
not_taken : (line k : ℕ) (before : List PlacedRow) (i : ℕ) → unless_taken line k before ≡ Ok i → taken k before ≡ false
not_taken line k before i e = elim (cases_Bool (taken k before)) [
  | inl t ↦ (let f : ◌≡◌ {A = Result ℕ TextFault} (Err (extra_row line)) (Ok i) = rw t at e in absurd cc)
  | inr t ↦ t
]

-- the actions of a row are those of its number
record IsAction (one two : List Bytes) (first second : Bytes) (k : ℕ) : Type 0 where
  pub first_name : first ≡ name_of one (k / length two)
  pub second_name : second ≡ name_of two (k % length two)
  pub below : nat_lt k (length one * length two) ≡ true

-- of two numbers
pair_is : (one two : List Bytes) (first second : Bytes) (i j : ℕ) → IsKnown one first i → IsKnown two second j → IsAction one two first second (i * length two + j)
pair_is one two first second i j x y =
    let m = length two in
    let lt : i * m + j < m * length one = mul-add-lt i m j (length one) x.below y.below in
    record {
      first_name = x.name ∙ ap (name_of one) (sym (div-mul-add i m j y.below));
      second_name = y.name ∙ ap (name_of two) (sym (mod-mul-add i m j y.below));
      below = lt-ltb (i * m + j) (length one * m) (subst (λ (n : ℕ). i * m + j < n) (mul_comm m (length one)) lt);
    }

-- a joint action that is found
action_is : (one two : List Bytes) (r : KnownRow) (k : ℕ) → action_of one two r ≡ Ok k → IsAction one two r.first r.second k
action_is one two r k e =
    let a = bind_ok (or_fault (extra_row r.line) (name_number one r.first)) (λ i. or_fault (extra_row r.line) (name_number two r.second) >>= λ j. Ok (i * length two + j)) k e in
    let b = bind_ok (or_fault (extra_row r.line) (name_number two r.second)) (λ j. Ok (a.0 * length two + j)) k a.2 in
    let x = number_is one r.first a.0 (found (name_number one r.first) (extra_row r.line) a.0 a.1) in
    let y = number_is two r.second b.0 (found (name_number two r.second) (extra_row r.line) b.0 b.1) in
    ok_carries (λ (n : ℕ). IsAction one two r.first r.second n) (a.0 * length two + b.0) k b.2 (pair_is one two r.first r.second a.0 b.0 x y)

-- the lines of a row and others, with names for names
row_same : (a x b y : Bytes) (os ls ms ns : List Line) → a ≡ x → b ≡ y → os ≡ ls → ms ≡ ns → row_line a b ∷ (os ++ ms) ≡ row_line x y ∷ (ls ++ ns)
row_same a x b y os ls ms ns p q r s = cc

-- one row and others
one_row : (g : GameModel) (one two : List Bytes) (before : List PlacedRow) (r : PartRow) (rs : List PartRow) (os : List Outcome) (krs : List KnownRow) (ps : List PlacedRow) → OutcomesAre g r.outcomes os → nat_lt 0 (length r.outcomes) ≡ true
    → ((before1 ps1 : List PlacedRow) → place_rows one two before1 krs ≡ Ok ps1 → RowsAre g one two before1 rs ps1)
    → place_rows one two before (record { line = r.line; first = r.first; second = r.second; outcomes = os } ∷ krs) ≡ Ok ps → RowsAre g one two before (r ∷ rs) ps
one_row g one two before r rs os krs ps are some others q =
    let kr : KnownRow = record { line = r.line; first = r.first; second = r.second; outcomes = os } in
    let a = bind_ok (action_of one two kr) (λ k. unless_taken r.line k before >>= λ i. place_rows one two (before ++ record { number = k; outcomes = os } ∷ []) krs >>= λ zs. Ok (record { number = k; outcomes = os } ∷ zs)) ps q in
    let k = a.0 in
    let p : PlacedRow = record { number = k; outcomes = os } in
    let b = bind_ok (unless_taken r.line k before) (λ i. place_rows one two (before ++ p ∷ []) krs >>= λ zs. Ok (p ∷ zs)) ps a.2 in
    let c = bind_ok (place_rows one two (before ++ p ∷ []) krs) (λ zs. Ok (p ∷ zs)) ps b.2 in
    let n = action_is one two kr k a.1 in
    let count = length one * length two in
    let new : one_of (numbers before) k ≡ false = sym (taken_numbers k before) ∙ not_taken r.line k before b.0 b.1 in
    let rest = others (before ++ p ∷ []) c.0 c.1 in
    let apart1 : numbers_apart (numbers before ++ k ∷ []) (numbers c.0) ≡ true = subst (λ (ks : List ℕ). numbers_apart ks (numbers c.0) ≡ true) (numbers_push before p) rest.apart in
    let fine1 : row_ok g os ≡ true = and_from (nat_lt 0 (length os)) (list_all (outcome_ok g) os) (subst (λ (m : ℕ). nat_lt 0 m ≡ true) are.same some) are.fine in
    ok_carries (λ (z : List PlacedRow). RowsAre g one two before (r ∷ rs) z) (p ∷ c.0) ps c.2 (record {
      lines = row_same r.first (name_of one (k / length two)) r.second (name_of two (k % length two)) (outcomes_lines r.outcomes) (outcome_lines g os) (rows_lines rs) (placed_lines g one two c.0) n.first_name n.second_name are.lines rest.lines;
      below = and_from (nat_lt k count) (list_all (λ i. nat_lt i count) (numbers c.0)) n.below rest.below;
      apart = and_from (not (one_of (numbers before) k)) (numbers_apart (numbers before ++ k ∷ []) (numbers c.0)) (not_from_false (one_of (numbers before) k) new) apart1;
      fine = and_from (row_ok g os) (list_all (placed_fine g) c.0) fine1 rest.fine;
    })

-- rows that have their joint actions
rows_are : (g : GameModel) (one two : List Bytes) (before : List PlacedRow) (rs : List PartRow) (krs : List KnownRow) (ps : List PlacedRow) → list_all part_row_ok rs ≡ true
    → each (known_row g.names g.tokens) rs ≡ Ok krs → place_rows one two before krs ≡ Ok ps → RowsAre g one two before rs ps
rows_are g one two before [] krs ps f e q =
    let same = ok_is [] krs e in
    let q1 : place_rows one two before [] ≡ Ok ps = subst (λ (z : List KnownRow). place_rows one two before z ≡ Ok ps) (sym same) q in
    ok_carries (λ (z : List PlacedRow). RowsAre g one two before [] z) [] ps q1 (record { lines = refl; below = refl; apart = refl; fine = refl })
rows_are g one two before (r ∷ rs) krs ps f e q =
    let h = and_parts (part_row_ok r) (list_all part_row_ok rs) f in
    let hr = and_parts (nat_lt 0 (length r.outcomes)) (list_all part_outcome_ok r.outcomes) h.0 in
    let a = bind_ok (known_row g.names g.tokens r) (λ y. each (known_row g.names g.tokens) rs >>= λ ys. Ok (y ∷ ys)) krs e in
    let b = bind_ok (each (known_row g.names g.tokens) rs) (λ ys. Ok (a.0 ∷ ys)) krs a.2 in
    let c = bind_ok (each (known_outcome g.names g.tokens) r.outcomes) (λ os. Ok (record { line = r.line; first = r.first; second = r.second; outcomes = os })) a.0 a.1 in
    let kr : KnownRow = record { line = r.line; first = r.first; second = r.second; outcomes = c.0 } in
    let same : kr ∷ b.0 ≡ krs = ap (λ (z : KnownRow). z ∷ b.0) (ok_is kr a.0 c.2) ∙ ok_is (a.0 ∷ b.0) krs b.2 in
    let q1 : place_rows one two before (kr ∷ b.0) ≡ Ok ps = subst (λ (z : List KnownRow). place_rows one two before z ≡ Ok ps) (sym same) q in
    one_row g one two before r rs c.0 b.0 ps (outcomes_are g r.outcomes c.0 hr.1 c.1) hr.0 (λ before1 ps1 q2. rows_are g one two before1 rs b.0 ps1 h.1 b.1 q2) q1

-- ---- rows in order

-- the rows from number i on
record RowsFound (i n : ℕ) (all : List PlacedRow) (rows : List (List Outcome)) : Type 0 where
  pub len : length rows ≡ n
  pub each_one : (j : ℕ) → j < n → row_numbered (i + j) all ≡ Some (slice_index_or rows j [])

-- one row and others
found_each : (i n : ℕ) (all : List PlacedRow) (r : List Outcome) (rs : List (List Outcome)) → row_numbered i all ≡ Some r → ((j : ℕ) → j < n → row_numbered (i + 1 + j) all ≡ Some (slice_index_or rs j []))
    → (j : ℕ) → j < suc n → row_numbered (i + j) all ≡ Some (slice_index_or (r ∷ rs) j [])
found_each i n all r rs e h zero lt = subst (λ (m : ℕ). row_numbered m all ≡ Some r) (omega arith) e
found_each i n all r rs e h (suc j) lt = subst (λ (m : ℕ). row_numbered m all ≡ Some (slice_index_or rs j [])) (omega arith) (h j (omega arith))

-- rows that are found
rows_found : (line m i n : ℕ) (all : List PlacedRow) (rows : List (List Outcome)) → each (row_at line m all) (range_with_len i n) ≡ Ok rows → RowsFound i n all rows
rows_found line m i zero all rows e = ok_carries (λ (z : List (List Outcome)). RowsFound i 0 all z) [] rows e (record { len = refl; each_one = λ j h. absurd (omega arith) })
rows_found line m i (suc n) all rows e =
    let a = bind_ok (row_at line m all i) (λ y. each (row_at line m all) (range_with_len (i + 1) n) >>= λ ys. Ok (y ∷ ys)) rows e in
    let b = bind_ok (each (row_at line m all) (range_with_len (i + 1) n)) (λ ys. Ok (a.0 ∷ ys)) rows a.2 in
    let r = rows_found line m (i + 1) n all b.0 b.1 in
    let first = found (row_numbered i all) (missing_row line (i / m) (i % m)) a.0 a.1 in
    ok_carries (λ (z : List (List Outcome)). RowsFound i (suc n) all z) (a.0 ∷ b.0) rows b.2 (record { len = omega (arith, r.len); each_one = found_each i n all a.0 b.0 first r.each_one })

-- the first row of a number is the row of that number
row_skip : (k : ℕ) (before : List PlacedRow) (p : PlacedRow) (ps : List PlacedRow) → taken k before ≡ false → p.number ≡ k → row_numbered k (before ++ p ∷ ps) ≡ Some p.outcomes
row_skip k [] p ps e s = rw (eq-eqb p.number k s) refl
row_skip k (b ∷ bs) p ps e s = let a = or_parts (eqb b.number k) (taken k bs) e in rw a.0 (row_skip k bs p ps a.1 s)

-- the lines of rows are those of the rows in order, by their numbers
lines_ordered : (g : GameModel) (w : World) (before ps : List PlacedRow) (n : ℕ) → list_all (λ k. nat_lt k n) (numbers ps) ≡ true → numbers_apart (numbers before) (numbers ps) ≡ true
    → ((j : ℕ) → j < n → row_numbered j (before ++ ps) ≡ Some (slice_index_or w.rows j [])) → placed_lines g w.one w.two ps ≡ row_lines g w (numbers ps)
lines_ordered g w before [] n f e h = refl
lines_ordered g w before (p ∷ ps) n f e h =
    let a = and_parts (nat_lt p.number n) (list_all (λ i. nat_lt i n) (numbers ps)) f in
    let b = and_parts (not (one_of (numbers before) p.number)) (numbers_apart (numbers before ++ p.number ∷ []) (numbers ps)) e in
    let new : taken p.number before ≡ false = taken_numbers p.number before ∙ not-true (one_of (numbers before) p.number) b.0 in
    let mine = row_skip p.number before p ps new refl in
    let same : p.outcomes ≡ slice_index_or w.rows p.number [] = some_is p.outcomes (slice_index_or w.rows p.number []) (sym mine ∙ h p.number (ltb-true p.number n a.0)) in
    let others = lines_ordered g w (before ++ p ∷ []) ps n a.1 (subst (λ (ks : List ℕ). numbers_apart ks (numbers ps) ≡ true) (sym (numbers_push before p)) b.1)
    (λ j lt. subst (λ (z : List PlacedRow). row_numbered j z ≡ Some (slice_index_or w.rows j [])) (sym (append_assoc before (p ∷ []) ps)) (h j lt)) in
    let x = name_of w.one (p.number / length w.two) in
    let y = name_of w.two (p.number % length w.two) in
    row_same x x y y (outcome_lines g p.outcomes) (outcome_lines g (slice_index_or w.rows p.number [])) (placed_lines g w.one w.two ps) (row_lines g w (numbers ps)) refl refl (ap (outcome_lines g) same) others

-- a number with a row is one of the numbers
row_there : (k : ℕ) (ps : List PlacedRow) (os : List Outcome) → row_numbered k ps ≡ Some os → one_of (numbers ps) k ≡ true
row_there k [] os e = absurd cc
row_there k (p ∷ ps) os e = elim (cases_Bool (eqb p.number k)) [
  | inl t ↦ or_left (eqb p.number k) (one_of (numbers ps) k) t
  | inr t ↦ (let f : row_numbered k ps ≡ Some os = rw t at e in or_right (eqb p.number k) (one_of (numbers ps) k) (row_there k ps os f))
]

-- the outcomes of the row of a number
row_is_fine : (g : GameModel) (k : ℕ) (ps : List PlacedRow) (os : List Outcome) → list_all (placed_fine g) ps ≡ true → row_numbered k ps ≡ Some os → row_ok g os ≡ true
row_is_fine g k [] os f e = absurd cc
row_is_fine g k (p ∷ ps) os f e =
    let a = and_parts (row_ok g p.outcomes) (list_all (placed_fine g) ps) f in
    elim (cases_Bool (eqb p.number k)) [
      | inl t ↦ (let h : ◌≡◌ {A = Option (List Outcome)} (Some p.outcomes) (Some os) = rw t at e in subst (λ (z : List Outcome). row_ok g z ≡ true) (some_is p.outcomes os h) a.0)
      | inr t ↦ (let h : row_numbered k ps ≡ Some os = rw t at e in row_is_fine g k ps os a.1 h)
    ]

-- ---- places

-- the order of the rows of a place
abbrev order_of : PlacedPlace → List ℕ
order_of (placed_world line one two ps) = numbers ps
order_of (placed_end z) = []

-- the parts of a place have its lines, its rows in some order
record PlaceIs (g : GameModel) (p : PartPlace) (pl : Place) (ks : List ℕ) : Type 0 where
  pub lines : part_lines p ≡ place_lines g (place_name p) pl ks
  pub fine : place_ok g pl ≡ true
  pub order : IsOrderOf pl ks

-- the parts of a world
world_is : (g : GameModel) (w : PartWorld) (krs : List KnownRow) (ps : List PlacedRow) (rows : List (List Outcome)) → part_ok (part_world w) ≡ true → each (known_row g.names g.tokens) w.rows ≡ Ok krs → place_rows w.one w.two [] krs ≡ Ok ps
    → each (row_at w.line (length w.two) ps) (range_with_len 0 (length w.one * length w.two)) ≡ Ok rows → PlaceIs g (part_world w) (a_world (record { one = w.one; two = w.two; rows = rows })) (numbers ps)
world_is g w krs ps rows f a b c =
    let h = and_parts (are_names w.one) (are_names w.two && list_all part_row_ok w.rows) f in
    let h2 = and_parts (are_names w.two) (list_all part_row_ok w.rows) h.1 in
    let count = length w.one * length w.two in
    let r = rows_are g w.one w.two [] w.rows krs ps h2.1 a b in
    let s = rows_found w.line (length w.two) 0 count ps rows c in
    let made : World = record { one = w.one; two = w.two; rows = rows } in
    let at : (j : ℕ) → j < count → row_numbered j ps ≡ Some (slice_index_or rows j []) = λ j lt. subst (λ (m : ℕ). row_numbered m ps ≡ Some (slice_index_or rows j [])) (omega arith) (s.each_one j lt) in
    let at_rows : (j : ℕ) → j < length rows → row_numbered j ps ≡ Some (slice_index_or rows j []) = λ j lt. at j (subst (λ (m : ℕ). j < m) s.len lt) in
    record {
      lines = ap (λ (ls : List Line). world_line w.name ∷ one_line w.one ∷ two_line w.two ∷ ls) (r.lines ∙ lines_ordered g made [] ps count r.below r.apart at);
      fine = and_from (are_names w.one) (are_names w.two && ((length rows == count) && list_all (row_ok g) rows)) h.0
          (and_from (are_names w.two) ((length rows == count) && list_all (row_ok g) rows) h2.0
          (and_from (length rows == count) (list_all (row_ok g) rows) (eq-eqb (length rows) count s.len)
          (all_from_each (row_ok g) [] rows (λ j lt. row_is_fine g j ps (slice_index_or rows j []) r.fine (at_rows j lt)))));
      order = record { below = subst (λ (m : ℕ). list_all (λ k. nat_lt k m) (numbers ps) ≡ true) (sym s.len) r.below; once = r.apart; whole = λ k lt. row_there k ps (slice_index_or rows k []) (at_rows k lt) };
    }

-- the parts of a place that went through the passes
place_is : (g : GameModel) (p : PartPlace) (k : KnownPlace) (q : PlacedPlace) (pl : Place) → part_ok p ≡ true → known_place g.names g.tokens p ≡ Ok k → placed k ≡ Ok q → ordered q ≡ Ok pl → PlaceIs g p pl (order_of q)
place_is g (part_end n line z) k q pl f a b c =
    let b1 : placed (known_end z) ≡ Ok q = ok_carried (λ (x : KnownPlace). placed x ≡ Ok q) (known_end z) k a b in
    let c1 : ordered (placed_end z) ≡ Ok pl = ok_carried (λ (x : PlacedPlace). ordered x ≡ Ok pl) (placed_end z) q b1 c in
    let base : PlaceIs g (part_end n line z) (an_end z) [] = record { lines = refl; fine = f; order = refl } in
    ok_carries (λ (x : PlacedPlace). PlaceIs g (part_end n line z) pl (order_of x)) (placed_end z) q b1 (ok_carries (λ (x : Place). PlaceIs g (part_end n line z) x []) (an_end z) pl c1 base)
place_is g (part_world w) k q pl f a b c =
    let x = bind_ok (each (known_row g.names g.tokens) w.rows) (λ rs. Ok (known_world w.line w.one w.two rs)) k a in
    let b1 : placed (known_world w.line w.one w.two x.0) ≡ Ok q = ok_carried (λ (z : KnownPlace). placed z ≡ Ok q) (known_world w.line w.one w.two x.0) k x.2 b in
    let y = bind_ok (place_rows w.one w.two [] x.0) (λ ps. Ok (placed_world w.line w.one w.two ps)) q b1 in
    let made_rows : PlacedPlace = placed_world w.line w.one w.two y.0 in
    let c1 : ordered (placed_world w.line w.one w.two y.0) ≡ Ok pl = ok_carried (λ (z : PlacedPlace). ordered z ≡ Ok pl) made_rows q y.2 c in
    let z = bind_ok (each (row_at w.line (length w.two) y.0) (range_with_len 0 (length w.one * length w.two))) (λ rows. Ok (a_world (record { one = w.one; two = w.two; rows = rows }))) pl c1 in
    let made : Place = a_world (record { one = w.one; two = w.two; rows = z.0 }) in
    ok_carries (λ (u : PlacedPlace). PlaceIs g (part_world w) pl (order_of u)) made_rows q y.2
    (ok_carries (λ (u : Place). PlaceIs g (part_world w) u (numbers y.0)) made pl z.2 (world_is g w x.0 y.0 z.0 f x.1 y.1 z.1))

-- the orders of the rows of places
abbrev orders_of : List PlacedPlace → List (List ℕ)
orders_of [] = []
orders_of (q ∷ qs) = order_of q ∷ orders_of qs

-- the parts of places have their lines, their rows in some orders
record PlacesAre (g : GameModel) (ps : List PartPlace) (pls : List Place) (orders : List (List ℕ)) : Type 0 where
  pub lines : parts_lines ps ≡ places_lines g (map place_name ps) pls orders
  pub fine : list_all (place_ok g) pls ≡ true
  pub all_orders : AreOrders pls orders
  pub same : length pls ≡ length (map place_name ps)

-- one place and others
more_places : (g : GameModel) (p : PartPlace) (ps : List PartPlace) (pl : Place) (pls : List Place) (ks : List ℕ) (kss : List (List ℕ)) → PlaceIs g p pl ks → PlacesAre g ps pls kss → PlacesAre g (p ∷ ps) (pl ∷ pls) (ks ∷ kss)
more_places g p ps pl pls ks kss x y = record {
  lines = ap (λ (ls : List Line). ls ++ parts_lines ps) x.lines ∙ ap (λ (ls : List Line). place_lines g (place_name p) pl ks ++ ls) y.lines;
  fine = and_from (place_ok g pl) (list_all (place_ok g) pls) x.fine y.fine;
  all_orders = (x.order, y.all_orders);
  same = omega (arith, y.same);
}

-- the parts of places that went through the passes
places_are : (g : GameModel) (ps : List PartPlace) (ks : List KnownPlace) (qs : List PlacedPlace) (pls : List Place) → list_all part_ok ps ≡ true → each (known_place g.names g.tokens) ps ≡ Ok ks → each placed ks ≡ Ok qs → each ordered qs ≡ Ok pls
    → PlacesAre g ps pls (orders_of qs)
places_are g [] ks qs pls f a b c =
    let b1 : each placed [] ≡ Ok qs = ok_carried (λ (x : List KnownPlace). each placed x ≡ Ok qs) [] ks a b in
    let c1 : each ordered [] ≡ Ok pls = ok_carried (λ (x : List PlacedPlace). each ordered x ≡ Ok pls) [] qs b1 c in
    let base : PlacesAre g [] [] [] = record { lines = refl; fine = refl; all_orders = tt; same = refl } in
    ok_carries (λ (x : List PlacedPlace). PlacesAre g [] pls (orders_of x)) [] qs b1 (ok_carries (λ (x : List Place). PlacesAre g [] x []) [] pls c1 base)
places_are g (p ∷ ps) ks qs pls f a b c =
    let h = and_parts (part_ok p) (list_all part_ok ps) f in
    let a1 = bind_ok (known_place g.names g.tokens p) (λ y. each (known_place g.names g.tokens) ps >>= λ ys. Ok (y ∷ ys)) ks a in
    let a2 = bind_ok (each (known_place g.names g.tokens) ps) (λ ys. Ok (a1.0 ∷ ys)) ks a1.2 in
    let b0 : each placed (a1.0 ∷ a2.0) ≡ Ok qs = ok_carried (λ (x : List KnownPlace). each placed x ≡ Ok qs) (a1.0 ∷ a2.0) ks a2.2 b in
    let b1 = bind_ok (placed a1.0) (λ y. each placed a2.0 >>= λ ys. Ok (y ∷ ys)) qs b0 in
    let b2 = bind_ok (each placed a2.0) (λ ys. Ok (b1.0 ∷ ys)) qs b1.2 in
    let c0 : each ordered (b1.0 ∷ b2.0) ≡ Ok pls = ok_carried (λ (x : List PlacedPlace). each ordered x ≡ Ok pls) (b1.0 ∷ b2.0) qs b2.2 c in
    let c1 = bind_ok (ordered b1.0) (λ y. each ordered b2.0 >>= λ ys. Ok (y ∷ ys)) pls c0 in
    let c2 = bind_ok (each ordered b2.0) (λ ys. Ok (c1.0 ∷ ys)) pls c1.2 in
    ok_carries (λ (x : List PlacedPlace). PlacesAre g (p ∷ ps) pls (orders_of x)) (b1.0 ∷ b2.0) qs b2.2
    (ok_carries (λ (x : List Place). PlacesAre g (p ∷ ps) x (order_of b1.0 ∷ orders_of b2.0)) (c1.0 ∷ c2.0) pls c2.2
    (more_places g p ps c1.0 c2.0 (order_of b1.0) (orders_of b2.0) (place_is g p a1.0 b1.0 c1.0 h.0 a1.1 b1.1 c1.1) (places_are g ps a2.0 b2.0 c2.0 h.1 a2.1 b2.1 c2.1)))

-- ---- the game

-- the parts have the lines of the game, its rows in some orders
pub record GameIs (d : Draft) (g : GameModel) : Type 0 where
  pub fine : game_ok g ≡ true
  pub orders : List (List ℕ)
  pub all_orders : AreOrders g.places orders
  pub lines : so_far done_kind d ≡ game_lines g orders

-- lines behind the front and before the last ones, with a name for the root's name
root_same : (before xs ys : List Line) (m n : Bytes) → xs ≡ ys → m ≡ n → before ++ (xs ++ (root_line m ∷ done_line ∷ [])) ≡ before ++ (ys ++ (root_line n ∷ done_line ∷ []))
root_same before xs ys m n p q = cc

-- places have names
some_names : (ps : List PartPlace) → nat_lt 0 (length ps) ≡ true → nat_lt 0 (length (map place_name ps)) ≡ true
some_names [] e = absurd cc
some_names (p ∷ ps) e = lt-ltb 0 (length (map place_name (p ∷ ps))) (omega arith)

-- the game of parts with these places and this root
abbrev game_with : Draft → List Place → ℕ → GameModel
game_with d places r = record { grid = d.grid; horizon = d.horizon; recall = d.recall; tokens = d.tokens; names = map place_name d.places; places = places; root = r }

-- that game passes the test
game_with_fine : (d : Draft) (places : List Place) (r : ℕ) → IsDraft done_kind d → length places ≡ length (map place_name d.places) → list_all (place_ok (game_with d places r)) places ≡ true → is_world_at r places ≡ true → game_ok (game_with d places r) ≡ true
game_with_fine d places r i same fine world =
    let names = map place_name d.places in
    let made = game_with d places r in
    let rest1 = list_all (place_ok made) places && is_world_at r places in
    let rest2 = (length places == length names) && rest1 in
    and_from (is_within 1 4096 d.grid) (is_within 1 32 d.horizon && (are_names d.tokens && (are_names names && rest2))) i.0.front_fine.grid_fine
    (and_from (is_within 1 32 d.horizon) (are_names d.tokens && (are_names names && rest2)) i.0.front_fine.horizon_fine
    (and_from (are_names d.tokens) (are_names names && rest2) i.0.front_fine.tokens_fine
    (and_from (are_names names) rest2 (and_from (nat_lt 0 (length names)) (apart_names names) (some_names d.places i.1) i.0.names)
    (and_from (length places == length names) rest1 (eq-eqb (length places) (length names) same)
    (and_from (list_all (place_ok made) places) (is_world_at r places) fine world)))))

-- the steps that make a game of parts whose places are in order
record PartsMade (d : Draft) (g : GameModel) : Type 0 where
  pub places : List Place
  pub root : ℕ
  pub orders : List (List ℕ)
  pub is_game : ◌≡◌ {A = Result GameModel TextFault} (Ok (game_with d places root)) (Ok g)
  pub world : is_world_at root places ≡ true
  pub name : IsKnown (map place_name d.places) d.root root
  pub parts : PlacesAre (game_with d places root) d.places places orders

-- parts that are assembled went through these steps
parts_made : (d : Draft) (g : GameModel) → list_all part_ok d.places ≡ true → assembled d ≡ Ok g → PartsMade d g
parts_made d g ok e =
    let names = map place_name d.places in
    let a = bind_ok (each (known_place names d.tokens) d.places) (λ ks. known names d.root_line 2 d.root >>= λ r. each placed ks >>= λ ps. each ordered ps >>= λ places.
    cond (is_world_at r places) (Ok (game_with d places r)) (Err (no_root d.root_line))) g e in
    let b = bind_ok (known names d.root_line 2 d.root) (λ r. each placed a.0 >>= λ ps. each ordered ps >>= λ places.
    cond (is_world_at r places) (Ok (game_with d places r)) (Err (no_root d.root_line))) g a.2 in
    let c = bind_ok (each placed a.0) (λ ps. each ordered ps >>= λ places.
    cond (is_world_at b.0 places) (Ok (game_with d places b.0)) (Err (no_root d.root_line))) g b.2 in
    let f = bind_ok (each ordered c.0) (λ places. cond (is_world_at b.0 places) (Ok (game_with d places b.0)) (Err (no_root d.root_line))) g c.2 in
    let made : GameModel = game_with d f.0 b.0 in
    let t = passed (is_world_at b.0 f.0) (Ok made) (no_root d.root_line) g f.2 in
    record {
      places = f.0;
      root = b.0;
      orders = orders_of c.0;
      is_game = t.1;
      world = t.0;
      name = known_is names d.root_line 2 d.root b.0 b.1;
      parts = places_are made d.places a.0 c.0 f.0 ok a.1 c.1 f.1;
    }

-- parts that are assembled have the lines of the game
pub game_is : (d : Draft) (g : GameModel) → IsDraft done_kind d → assembled d ≡ Ok g → GameIs d g
game_is d g i e =
    let names = map place_name d.places in
    let m = parts_made d g i.0.places e in
    let made : GameModel = game_with d m.places m.root in
    ok_carries (λ (x : GameModel). GameIs d x) made g m.is_game (record {
      fine = game_with_fine d m.places m.root i m.parts.same m.parts.fine m.world;
      orders = m.orders;
      all_orders = m.parts.all_orders;
      lines = root_same (front d) (parts_lines d.places) (places_lines made names m.places m.orders) d.root (name_of names m.root) m.parts.lines m.name.name;
    })

-- ---- parts that make a game have tokens and places

-- a row that passes the test has a token
row_token : (g : GameModel) (os : List Outcome) → row_ok g os ≡ true → 0 < length g.tokens
row_token g [] e = absurd cc
row_token g (o ∷ os) e =
    let a = and_parts (nat_lt 0 (length (o ∷ os))) (list_all (outcome_ok g) (o ∷ os)) e in
    let f = outcome_fine g o (and_parts (outcome_ok g o) (list_all (outcome_ok g) os) a.1).0 in
    omega (arith, f.own1)

-- likewise one or more rows
rows_token : (g : GameModel) (rows : List (List Outcome)) → list_all (row_ok g) rows ≡ true → 0 < length rows → 0 < length g.tokens
rows_token g [] e h = absurd (omega (arith, h))
rows_token g (r ∷ rs) e h = row_token g r (and_parts (row_ok g r) (list_all (row_ok g) rs) e).0

-- likewise a world
world_token : (g : GameModel) (p : Place) → place_ok g p ≡ true → is_world p ≡ true → 0 < length g.tokens
world_token g (a_world w) e t =
    let f = world_fine g w e in
    let one = names_fine w.one f.one in
    let two = names_fine w.two f.two in
    let some : length w.one ≤ length w.one * length w.two = le-mul_of_pos_right (length w.one) two.some in
    rows_token g w.rows f.rows (omega (arith, some, f.count, one.some))
world_token g (an_end z) e t = absurd cc

-- likewise places of which one is a world
places_token : (g : GameModel) (ps : List Place) (n : ℕ) → list_all (place_ok g) ps ≡ true → is_world_at n ps ≡ true → 0 < length g.tokens
places_token g [] n e t = absurd cc
places_token g (p ∷ ps) zero e t = world_token g p (and_parts (place_ok g p) (list_all (place_ok g) ps) e).0 t
places_token g (p ∷ ps) (suc n) e t = places_token g ps n (and_parts (place_ok g p) (list_all (place_ok g) ps) e).1 t

-- parts that make a game
pub record SomeParts (d : Draft) : Type 0 where
  pub tokens : 0 < length d.tokens
  pub places : 0 < length (map place_name d.places)

-- parts that are assembled have a token and a place
pub some_parts : (d : Draft) (g : GameModel) → list_all part_ok d.places ≡ true → assembled d ≡ Ok g → SomeParts d
some_parts d g ok e =
    let m = parts_made d g ok e in
    record { tokens = places_token (game_with d m.places m.root) m.places m.root m.parts.fine m.world; places = omega (arith, m.name.below) }
