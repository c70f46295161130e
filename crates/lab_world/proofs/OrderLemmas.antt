-- Rows taken by their numbers, in order.
use Rattle.std.proofs.Common.{◌≡◌, ◌≢◌, ℕ, zero, suc, ◌+◌, ◌-◌, ◌<◌, ◌≤◌, ◌/◌, ◌%◌, true, false, nat_eq, List, [], ◌∷◌, ◌++◌, Option, Some, None, position, length, map, Result, Ok, Err, refl, sym, ap, subst, ◌∙◌, arith, inl, inr}
use Rattle.std.specs.Prelude.{◌==◌, IfSome, slice_get, slice_set}
use Rattle.std.specs.Option.{option_map}
use Rattle.std.specs.List.{list_all, position_from, range_with_len}
use Rattle.std.proofs.lemmas.Bool.{cases_Bool, eqb-true, eq-eqb, ne_eqb, and_parts, and_from}
use Rattle.std.proofs.lemmas.Iterator.Adapters.{position_from-zero}
use Rattle.lab_defs_text.specs.Faults.{TextFault, missing_row}
use Rattle.lab_defs_text.specs.Steps.{◌>>=◌, each}
use Rattle.lab_defs_text.specs.Games as model
use Rattle.lab_defs_text.specs.Assembly.{PlacedRow, or_fault, row_numbered, row_at}
use Rattle.lab_world.specs.declared.place.Row.{Row}
use Rattle.lab_world.specs.Models.{row_model}
use Rattle.lab_world.specs.Stages.{numbered_rows, total_fits}
use Rattle.lab_world.proofs.EachLemmas.{each_on, each_next}
use Rattle.lab_world.proofs.RowLemmas.{eqb_turned}

-- ---- the row of a number

-- the row of number k stands at a place, where places are counted from i, and no other changes where another row is put there
record RowStands (k i j : ℕ) (ks : List ℕ) (rs : List Row) : Type 0 where
  pub place : ℕ
  pub counted : j ≡ i + place
  pub taken : option_map row_model (slice_get rs place) ≡ row_numbered k (numbered_rows ks rs)
  pub others : (n : ℕ) (other : Row) → n ≢ k → row_numbered n (numbered_rows ks (slice_set rs place other)) ≡ row_numbered n (numbered_rows ks rs)

-- one row before others, which has the number
row_here : (k i j x : ℕ) (ks : List ℕ) (row : Row) (rs : List Row) → i ≡ j → (x == k) ≡ true → RowStands k i j (x ∷ ks) (row ∷ rs)
row_here k i j x ks row rs same t = record {
  place = 0;
  counted = omega (arith, same);
  taken = rw t refl;
  others = λ n other ne. elim (cases_Bool (x == n)) [
    | inl u ↦ absurd (ne (sym (eqb-true x n u) ∙ eqb-true x k t))
    | inr u ↦ rw u refl
  ];
}

-- one row before others, which has another number
row_later : (k i j x : ℕ) (ks : List ℕ) (row : Row) (rs : List Row) → (x == k) ≡ false → RowStands k (i + 1) j ks rs → RowStands k i j (x ∷ ks) (row ∷ rs)
row_later k i j x ks row rs f r = record {
  place = suc r.place;
  counted = omega (arith, r.counted);
  taken = rw f r.taken;
  others = λ n other ne. elim (cases_Bool (x == n)) [
    | inl u ↦ rw u refl
    | inr u ↦ rw u (r.others n other ne)
  ];
}

-- a number that is found has a row there
row_from : (k i j : ℕ) (ks : List ℕ) (rs : List Row) → position_from (nat_eq k) i ks ≡ Some j → RowStands k i j ks rs
row_from k i j [] rs e = absurd cc
row_from k i j (x ∷ ks) [] e = elim (cases_Bool (k == x)) [
  | inl t ↦ (let found : Some i ≡ Some j = rw t at e in let same : i ≡ j = cc in record { place = 0; counted = omega (arith, same); taken = refl; others = λ n other ne. refl })
  | inr f ↦ (let r = row_from k (i + 1) j ks [] (rw f at e) in record { place = suc r.place; counted = omega (arith, r.counted); taken = refl; others = λ n other ne. refl })
]
row_from k i j (x ∷ ks) (row ∷ rs) e = elim (cases_Bool (k == x)) [
  | inl t ↦ (let found : Some i ≡ Some j = rw t at e in let same : i ≡ j = cc in row_here k i j x ks row rs same (eqb_turned x k ∙ t))
  | inr f ↦ row_later k i j x ks row rs (eqb_turned x k ∙ f) (row_from k (i + 1) j ks rs (rw f at e))
]

-- a number that is not found has no row
none_from : (k i : ℕ) (ks : List ℕ) (rs : List Row) → position_from (nat_eq k) i ks ≡ None → row_numbered k (numbered_rows ks rs) ≡ None
none_from k i [] rs e = refl
none_from k i (x ∷ ks) [] e = refl
none_from k i (x ∷ ks) (row ∷ rs) e = elim (cases_Bool (k == x)) [
  | inl t ↦ (let found : ◌≡◌ {A = Option ℕ} (Some i) None = rw t at e in absurd cc)
  | inr f ↦ (let g : (x == k) ≡ false = eqb_turned x k ∙ f in rw g (none_from k (i + 1) ks rs (rw f at e)))
]

-- what is known where number k stands at place j
pub record RowTaken (k j : ℕ) (ks : List ℕ) (rs : List Row) : Type 0 where
  pub taken : option_map row_model (slice_get rs j) ≡ row_numbered k (numbered_rows ks rs)
  pub others : (n : ℕ) (other : Row) → n ≢ k → row_numbered n (numbered_rows ks (slice_set rs j other)) ≡ row_numbered n (numbered_rows ks rs)

-- the row beside a number is that of the number
pub row_taken : (k j : ℕ) (ks : List ℕ) (rs : List Row) → position (nat_eq k) ks ≡ Some j → RowTaken k j ks rs
row_taken k j ks rs e =
    let r = row_from k 0 j ks rs (sym (position_from-zero (nat_eq k) ks) ∙ e) in
    let same : r.place ≡ j = omega (arith, r.counted) in
    subst (λ (p : ℕ). RowTaken k p ks rs) same (record { taken = r.taken; others = r.others })

-- a number that does not stand there has no row
pub row_none : (k : ℕ) (ks : List ℕ) (rs : List Row) → position (nat_eq k) ks ≡ None → row_numbered k (numbered_rows ks rs) ≡ None
row_none k ks rs e = none_from k 0 ks rs (sym (position_from-zero (nat_eq k) ks) ∙ e)

-- ---- one row after another

-- the rows from number i on are row i and those from i + 1 on
next_number : (line m : ℕ) (rows : List PlacedRow) (found : List (List model.Outcome)) (i n : ℕ) (all : Result (List (List model.Outcome)) TextFault) → i < n
    → each_on (row_at line m rows) found (range_with_len i (n - i)) ≡ all → each_on (row_at line m rows) found (i ∷ range_with_len (i + 1) (n - (i + 1))) ≡ all
next_number line m rows found i n all lt e =
    let left : n - i ≡ suc (n - (i + 1)) = omega (arith, lt) in
    subst (λ (k : ℕ). each_on (row_at line m rows) found (range_with_len i k) ≡ all) left e

-- a row that is there is the next one
pub row_next : (line m : ℕ) (rows : List PlacedRow) (found after : List (List model.Outcome)) (i n : ℕ) (os : List model.Outcome) (all : Result (List (List model.Outcome)) TextFault) → i < n
    → row_numbered i rows ≡ Some os → after ≡ found ++ os ∷ [] → each_on (row_at line m rows) found (range_with_len i (n - i)) ≡ all → each_on (row_at line m rows) after (range_with_len (i + 1) (n - (i + 1))) ≡ all
row_next line m rows found after i n os all lt there made e =
    each_next (row_at line m rows) found after i (range_with_len (i + 1) (n - (i + 1))) os all (ap (or_fault (missing_row line (i / m) (i % m))) there) made (next_number line m rows found i n all lt e)

-- one that is missing is a fault
pub row_missing : (line m : ℕ) (rows : List PlacedRow) (found : List (List model.Outcome)) (i n : ℕ) (all : Result (List (List model.Outcome)) TextFault) → i < n
    → row_numbered i rows ≡ None → each_on (row_at line m rows) found (range_with_len i (n - i)) ≡ all → all ≡ Err (missing_row line (i / m) (i % m))
row_missing line m rows found i n all lt none e =
    sym (next_number line m rows found i n all lt e) ∙ ap (λ o. or_fault (missing_row line (i / m) (i % m)) o >>= λ os. each_on (row_at line m rows) (found ++ os ∷ []) (range_with_len (i + 1) (n - (i + 1)))) none

-- ---- rows that stand in order

-- rows that stand in order from number a on, among rows that are those from there on
in_order_from : (line m a : ℕ) (ps : List PlacedRow) (rs : List Row) → ((k : ℕ) → a ≤ k → row_numbered k ps ≡ row_numbered k (numbered_rows (range_with_len a (length rs)) rs))
    → each (row_at line m ps) (range_with_len a (length rs)) ≡ Ok (map row_model rs)
in_order_from line m a ps [] h = refl
in_order_from line m a ps (r ∷ rs) h =
    let same : (a == a) ≡ true = eq-eqb a a refl in
    let here : row_numbered a ps ≡ Some (row_model r) = h a (omega arith) ∙ rw same refl in
    let later : (k : ℕ) → a + 1 ≤ k → row_numbered k ps ≡ row_numbered k (numbered_rows (range_with_len (a + 1) (length rs)) rs) =
    λ k le. (let other : (a == k) ≡ false = ne_eqb a k (λ e. absurd (omega (arith, le, e))) in h k (omega (arith, le)) ∙ rw other refl) in
    ap (λ o. or_fault (missing_row line (a / m) (a % m)) o >>= λ y. each (row_at line m ps) (range_with_len (a + 1) (length rs)) >>= λ ys. Ok (y ∷ ys)) here
    ∙ ap (λ q. q >>= λ ys. Ok (row_model r ∷ ys)) (in_order_from line m (a + 1) ps rs later)

-- rows beside the numbers 0, 1, .. are all rows in order
pub rows_in_order : (line m : ℕ) (ks : List ℕ) (rs : List Row) → length ks ≡ length rs → ks ≡ range_with_len 0 (length ks) → each (row_at line m (numbered_rows ks rs)) (range_with_len 0 (length rs)) ≡ Ok (map row_model rs)
rows_in_order line m ks rs even run =
    let numbers : ks ≡ range_with_len 0 (length rs) = run ∙ ap (range_with_len 0) even in
    subst (λ (xs : List ℕ). each (row_at line m (numbered_rows xs rs)) (range_with_len 0 (length rs)) ≡ Ok (map row_model rs)) (sym numbers)
    (in_order_from line m 0 (numbered_rows (range_with_len 0 (length rs)) rs) rs (λ k le. refl))

-- ---- totals of rows that are taken

-- a row of rows with their totals has its total
pub total_at : (rs : List Row) (i : ℕ) → list_all total_fits rs ≡ true → IfSome (slice_get rs i) (λ r. total_fits r ≡ true)
total_at [] i e = tt
total_at (x ∷ xs) zero e = (and_parts (total_fits x) (list_all total_fits xs) e).0
total_at (x ∷ xs) (suc i) e = total_at xs i (and_parts (total_fits x) (list_all total_fits xs) e).1

-- with another row that has its total all have
pub totals_set : (rs : List Row) (i : ℕ) (r : Row) → list_all total_fits rs ≡ true → total_fits r ≡ true → list_all total_fits (slice_set rs i r) ≡ true
totals_set [] i r e fit = refl
totals_set (x ∷ xs) zero r e fit = and_from (total_fits r) (list_all total_fits xs) fit (and_parts (total_fits x) (list_all total_fits xs) e).1
totals_set (x ∷ xs) (suc i) r e fit =
    let a = and_parts (total_fits x) (list_all total_fits xs) e in and_from (total_fits x) (list_all total_fits (slice_set xs i r)) a.0 (totals_set xs i r a.1 fit)
