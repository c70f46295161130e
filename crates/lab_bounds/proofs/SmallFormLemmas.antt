-- The form of the tests is small.
use Rattle.std.proofs.Common.{◌≡◌, ℕ, zero, suc, ◌^◌, ◌<◌, ◌≤◌, ℤ, pos, negsuc, List, [], ◌∷◌, get_or, Option, Some, None, ap, ◌∙◌, arith}
use Rattle.lab_defs_game.specs.Forms as model
use Rattle.lab_defs_value.specs.Smallness.{IsSmall, row_size}
use Rattle.lab_form.specs.declared.items.SetId.{SetId}
use Rattle.lab_form.specs.declared.items.FormSet.{FormSet}
use Rattle.lab_form.specs.declared.items.FormRow.{FormRow}
use Rattle.lab_form.specs.Forms.{FormValue, empty_form, with_set, with_row, form_model}

-- a step
abbrev step : ℕ → ℕ → Option (SetId × ℕ)
step n a = Some (record { 0 = n }, a)

-- a set of the tests
abbrev set : Option (SetId × ℕ) → ℕ → FormSet
set parent first = record { parent = parent; actions = 2; first_weight = first }

-- a row of the tests
abbrev row : ℤ → Option (SetId × ℕ) → Option (SetId × ℕ) → List ℕ → FormRow
row worth one two pads = record { worth = record { 0 = worth }; last = one ∷ two ∷ []; pads = pads }

-- the rows of the tests
abbrev row1 : FormRow
row1 = row (pos 2) (step 0 0) (step 0 0) (0 ∷ 1 ∷ [])

abbrev row2 : FormRow
row2 = row (pos 1) (step 0 1) (step 0 0) (0 ∷ 1 ∷ [])

abbrev row3 : FormRow
row3 = row (pos 1) None (step 0 1) (1 ∷ 1 ∷ [])

abbrev row4 : FormRow
row4 = row (pos 1) (step 0 0) (step 1 0) (0 ∷ 0 ∷ [])

abbrev row5 : FormRow
row5 = row (negsuc 0) None (step 1 0) (1 ∷ 0 ∷ [])

abbrev row6 : FormRow
row6 = row (negsuc 1) (step 0 1) (step 1 1) (0 ∷ 0 ∷ [])

-- the form of the tests
abbrev pub tested : FormValue
tested = record {
  sets1 = set None 0 ∷ [];
  sets2 = set None 0 ∷ set (step 0 1) 2 ∷ [];
  rows = row1 ∷ row2 ∷ row3 ∷ row4 ∷ row5 ∷ row6 ∷ [];
  set_room = 2;
  row_room = 6;
}

-- it is small
pub tested_small : IsSmall 4 2 (form_model tested)
tested_small = record {
  grids = (omega arith, omega arith, omega arith, omega arith);
  few = omega arith;
  rows = rows;
  actions = (one, two);
  ways = (ways1, ways2);
}
  where
    rows : (k : ℕ) (d : model.Row) → k < 6 → row_size 4 2 (form_model tested) (get_or (form_model tested).rows k d) ≤ 2 ^ 77
    rows zero d l = omega arith
    rows (suc zero) d l = omega arith
    rows (suc (suc zero)) d l = omega arith
    rows (suc (suc (suc zero))) d l = omega arith
    rows (suc (suc (suc (suc zero)))) d l = omega arith
    rows (suc (suc (suc (suc (suc zero))))) d l = omega arith
    rows (suc (suc (suc (suc (suc (suc k)))))) d l = absurd (omega (arith, l))

    one : (k d : ℕ) → k < 1 → get_or (2 ∷ []) k d ≤ 2 ^ 16
    one zero d l = omega arith
    one (suc k) d l = absurd (omega (arith, l))

    two : (k d : ℕ) → k < 2 → get_or (2 ∷ 2 ∷ []) k d ≤ 2 ^ 16
    two zero d l = omega arith
    two (suc zero) d l = omega arith
    two (suc (suc k)) d l = absurd (omega (arith, l))

    ways1 : (I : ℕ) → I < 1 → 4 ^ model.decisions_to (form_model tested).sets1 I ≤ 2 ^ 77
    ways1 zero l = omega arith
    ways1 (suc k) l = absurd (omega (arith, l))

    ways2 : (I : ℕ) → I < 2 → 2 ^ model.decisions_to (form_model tested).sets2 I ≤ 2 ^ 77
    ways2 zero l = omega arith
    ways2 (suc zero) l = omega arith
    ways2 (suc (suc k)) l = absurd (omega (arith, l))

-- it is what the tests make, set by set and row by row
pub tested_made : (a b c d e f g h i j : FormValue) → a ≡ empty_form 2 6 → b ≡ with_set a 1 (set None 0) → c ≡ with_set b 2 (set None 0) → d ≡ with_set c 2 (set (step 0 1) 2)
    → e ≡ with_row d row1 → f ≡ with_row e row2 → g ≡ with_row f row3 → h ≡ with_row g row4 → i ≡ with_row h row5 → j ≡ with_row i row6 → j ≡ tested
tested_made a b c d e f g h i j p0 p1 p2 p3 p4 p5 p6 p7 p8 p9 =
    p9 ∙ ap (λ (x : FormValue). with_row x row6) (p8 ∙ ap (λ (x : FormValue). with_row x row5) (p7 ∙ ap (λ (x : FormValue). with_row x row4) (p6
    ∙ ap (λ (x : FormValue). with_row x row3) (p5 ∙ ap (λ (x : FormValue). with_row x row2) (p4 ∙ ap (λ (x : FormValue). with_row x row1) (p3
    ∙ ap (λ (x : FormValue). with_set x 2 (set (step 0 1) 2)) (p2 ∙ ap (λ (x : FormValue). with_set x 2 (set None 0)) (p1 ∙ ap (λ (x : FormValue). with_set x 1 (set None 0)) p0))))))))
