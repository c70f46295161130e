-- Rows by the numbers of their joint actions.
use Rattle.std.proofs.Common.{◌≡◌, ℕ, Bool, true, false, nat_eq, List, [], ◌∷◌, ◌++◌, length, Result, Ok, Err, refl, sym, ap, ◌∙◌, append_assoc, append-nil, length-append, arith, inl, inr, cond}
use Rattle.std.specs.Prelude.{◌==◌, ◌&&◌}
use Rattle.std.specs.List.{list_any, list_all}
use Rattle.std.proofs.lemmas.Bool.{cases_Bool, both_ways, eq-eqb, eqb-true, and_parts, and_from}
use Rattle.lab_math.proofs.ListTests.{all_push}
use Rattle.lab_defs_text.specs.Faults.{TextFault, extra_row}
use Rattle.lab_defs_text.specs.Steps.{◌>>=◌}
use Rattle.lab_defs_text.specs.Words.{Bytes}
use Rattle.lab_defs_text.specs.Assembly.{KnownRow, PlacedRow, taken, unless_taken, action_of, place_rows}
use Rattle.lab_world.specs.declared.place.Row.{Row}
use Rattle.lab_world.specs.Models.{row_model}
use Rattle.lab_world.specs.Stages.{numbered_rows, total_fits, with_row}

-- ---- rows one after another

-- the rows so far, with what becomes of the rest
abbrev pub rows_on : List Bytes → List Bytes → List PlacedRow → List KnownRow → Result (List PlacedRow) TextFault
rows_on one two before [] = Ok before
rows_on one two before (r ∷ rs) = with_row one two before r >>= λ after. rows_on one two after rs

-- the rows so far stand before the rest
before_rows : (before : List PlacedRow) (p : PlacedRow) (r : Result (List PlacedRow) TextFault) → (r >>= λ ps. Ok ((before ++ p ∷ []) ++ ps)) ≡ ((r >>= λ ps. Ok (p ∷ ps)) >>= λ ps. Ok (before ++ ps))
before_rows before p (Ok ps) = ap Ok (append_assoc before (p ∷ []) ps)
before_rows before p (Err e) = refl

-- likewise where the joint action of the first of the rest may be taken
before_new : (one two : List Bytes) (before : List PlacedRow) (r : KnownRow) (rs : List KnownRow) (k : ℕ) (u : Result ℕ TextFault)
    → (rows_on one two (before ++ record { number = k; outcomes = r.outcomes } ∷ []) rs ≡ (place_rows one two (before ++ record { number = k; outcomes = r.outcomes } ∷ []) rs >>= λ ps. Ok ((before ++ record { number = k; outcomes = r.outcomes } ∷ []) ++ ps)))
    → ((u >>= λ i. Ok (before ++ record { number = k; outcomes = r.outcomes } ∷ [])) >>= λ after. rows_on one two after rs)
    ≡ ((u >>= λ i. place_rows one two (before ++ record { number = k; outcomes = r.outcomes } ∷ []) rs >>= λ ps. Ok (record { number = k; outcomes = r.outcomes } ∷ ps)) >>= λ ps. Ok (before ++ ps))
before_new one two before r rs k (Err e) h = refl
before_new one two before r rs k (Ok i) h = h ∙ before_rows before (record { number = k; outcomes = r.outcomes }) (place_rows one two (before ++ record { number = k; outcomes = r.outcomes } ∷ []) rs)

-- likewise where it may be unknown
before_known : (one two : List Bytes) (before : List PlacedRow) (r : KnownRow) (rs : List KnownRow) (a : Result ℕ TextFault)
    → ((after : List PlacedRow) → rows_on one two after rs ≡ (place_rows one two after rs >>= λ ps. Ok (after ++ ps)))
    → ((a >>= λ k. unless_taken r.line k before >>= λ i. Ok (before ++ record { number = k; outcomes = r.outcomes } ∷ [])) >>= λ after. rows_on one two after rs)
    ≡ ((a >>= λ k. unless_taken r.line k before >>= λ i. place_rows one two (before ++ record { number = k; outcomes = r.outcomes } ∷ []) rs >>= λ ps. Ok (record { number = k; outcomes = r.outcomes } ∷ ps)) >>= λ ps. Ok (before ++ ps))
before_known one two before r rs (Err e) h = refl
before_known one two before r rs (Ok k) h = before_new one two before r rs k (unless_taken r.line k before) (h (before ++ record { number = k; outcomes = r.outcomes } ∷ []))

-- the rows so far stand before those that the rest gives
rows_behind : (one two : List Bytes) (before : List PlacedRow) (rs : List KnownRow) → rows_on one two before rs ≡ (place_rows one two before rs >>= λ ps. Ok (before ++ ps))
rows_behind one two before [] = ap Ok (sym (append-nil before))
rows_behind one two before (r ∷ rs) = before_known one two before r rs (action_of one two r) (λ after. rows_behind one two after rs)

-- nothing stands before the first row
nothing_before : (r : Result (List PlacedRow) TextFault) → (r >>= λ ps. Ok ([] ++ ps)) ≡ r
nothing_before (Ok ps) = refl
nothing_before (Err e) = refl

-- where there are no rows so far, all are placed
pub rows_first : (one two : List Bytes) (rs : List KnownRow) → rows_on one two [] rs ≡ place_rows one two [] rs
rows_first one two rs = rows_behind one two [] rs ∙ nothing_before (place_rows one two [] rs)

-- ---- numbers beside outcomes

-- the test of two numbers, turned round
pub eqb_turned : (i k : ℕ) → (i == k) ≡ (k == i)
eqb_turned i k = elim (cases_Bool (i == k)) [
  | inl t ↦ t ∙ sym (eq-eqb k i (sym (eqb-true i k t)))
  | inr f ↦ f ∙ sym (elim (cases_Bool (k == i)) [
    | inl t ↦ absurd (both_ways (i == k) f (eq-eqb i k (sym (eqb-true k i t))))
    | inr g ↦ g
  ])
]

-- a joint action has a row where its number stands
pub taken_number : (k : ℕ) (ks : List ℕ) (rs : List Row) → length ks ≡ length rs → taken k (numbered_rows ks rs) ≡ list_any (nat_eq k) ks
taken_number k [] [] e = refl
taken_number k [] (r ∷ rs) e = refl
taken_number k (i ∷ ks) [] e = absurd (omega (arith, e))
taken_number k (i ∷ ks) (r ∷ rs) e = rw (eqb_turned i k, taken_number k ks rs (omega (arith, e))) refl

-- one number more, with its row
pub numbered_push : (ks : List ℕ) (rs : List Row) (k : ℕ) (r : Row) → length ks ≡ length rs → numbered_rows (ks ++ k ∷ []) (rs ++ r ∷ []) ≡ numbered_rows ks rs ++ record { number = k; outcomes = row_model r } ∷ []
numbered_push [] [] k r e = refl
numbered_push [] (x ∷ xs) k r e = absurd (omega (arith, e))
numbered_push (i ∷ ks) [] k r e = absurd (omega (arith, e))
numbered_push (i ∷ ks) (x ∷ xs) k r e = ap (λ (ps : List PlacedRow). record { number = i; outcomes = row_model x } ∷ ps) (numbered_push ks xs k r (omega (arith, e)))

-- as many rows as numbers, each with its total
pub record RowsFit (ks : List ℕ) (rs : List Row) : Type 0 where
  pub even : length ks ≡ length rs
  pub totals : list_all total_fits rs ≡ true

-- what the test of them says
pub rows_that_fit : (ks : List ℕ) (rs : List Row) → (length ks == length rs && list_all total_fits rs) ≡ true → RowsFit ks rs
rows_that_fit ks rs e =
    let a = and_parts (length ks == length rs) (list_all total_fits rs) e in
    record { even = eqb-true (length ks) (length rs) a.0; totals = a.1 }

-- one number more, with its row and its total
pub fit_push : (ks : List ℕ) (rs : List Row) (k : ℕ) (r : Row) → RowsFit ks rs → total_fits r ≡ true → (length (ks ++ k ∷ []) == length (rs ++ r ∷ []) && list_all total_fits (rs ++ r ∷ [])) ≡ true
fit_push ks rs k r h e =
    and_from (length (ks ++ k ∷ []) == length (rs ++ r ∷ [])) (list_all total_fits (rs ++ r ∷ []))
    (eq-eqb (length (ks ++ k ∷ [])) (length (rs ++ r ∷ [])) (omega (arith, h.even, length-append ks (k ∷ []), length-append rs (r ∷ [])))) (all_push total_fits rs r h.totals e)

-- ---- one row more

-- what the rows are with one more, where its joint action is known and whether it is new
abbrev added : List PlacedRow → KnownRow → ℕ → Bool → Result (List PlacedRow) TextFault
added before r k b = cond b (Err (extra_row r.line)) (Ok k) >>= λ i. Ok (before ++ record { number = k; outcomes = r.outcomes } ∷ [])

-- by whether the joint action has a row already
with_row_is : (one two : List Bytes) (before : List PlacedRow) (r : KnownRow) (k : ℕ) (b : Bool) → action_of one two r ≡ Ok k → taken k before ≡ b → with_row one two before r ≡ added before r k b
with_row_is one two before r k b known there =
    ap (λ a. a >>= λ i. unless_taken r.line i before >>= λ j. Ok (before ++ record { number = i; outcomes = r.outcomes } ∷ [])) known ∙ ap (added before r k) there

-- a joint action that has a row already
pub row_taken : (one two : List Bytes) (before : List PlacedRow) (r : KnownRow) (k : ℕ) → action_of one two r ≡ Ok k → taken k before ≡ true → with_row one two before r ≡ Err (extra_row r.line)
row_taken one two before r k known there = with_row_is one two before r k true known there

-- a joint action that has none
pub row_new : (one two : List Bytes) (before after : List PlacedRow) (r : KnownRow) (k : ℕ) → action_of one two r ≡ Ok k → taken k before ≡ false → after ≡ before ++ record { number = k; outcomes = r.outcomes } ∷ [] → with_row one two before r ≡ Ok after
row_new one two before after r k known new made = with_row_is one two before r k false known new ∙ ap Ok (sym made)
