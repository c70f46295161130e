-- Whole numbers at a place.
use Rattle.std.proofs.Common.{◌≡◌, ℕ, ℤ, Bool, true, false, cond, Ok, Err, refl, ap}
use Rattle.std.specs.Prelude.{◌&&◌, int_le}
use Rattle.lab_defs_text.specs.Faults.{lexical, out_of_range_at, bad_number_at}
use Rattle.lab_defs_text.specs.Words.{Bytes}
use Rattle.lab_defs_text.specs.Numbers.{is_whole, whole_value}
use Rattle.lab_defs_text.specs.Reading.{whole_at}
use Rattle.lab_lex.specs.Faults.{lex_model}
use Rattle.lab_lex.specs.Numbers.{whole_answer}
use Rattle.lab_lex.specs.declared.fault.LexFault.{LexFault}
use Rattle.lab_lex.specs.declared.fault.LexFault.TheVariants.{BadNumber, OutOfRange}

-- a word whose number was read spells it, and it is in range
form_ok : (spelt inside : Bool) (v z : ℤ) (place : ℕ) → cond spelt (cond inside (Ok v) (Err (OutOfRange place))) (Err (BadNumber place)) ≡ Ok z → (spelt ≡ true) × (inside ≡ true) × (v ≡ z)
form_ok true true v z place e = (refl, refl, cc)
form_ok true false v z place e = absurd cc
form_ok false inside v z place e = absurd cc

-- the fault of a word whose number was not read
form_err : (spelt inside : Bool) (v : ℤ) (place : ℕ) (f : LexFault) → cond spelt (cond inside (Ok v) (Err (OutOfRange place))) (Err (BadNumber place)) ≡ Err f
    → cond spelt (cond inside (Ok v) (Err (lexical (out_of_range_at place)))) (Err (lexical (bad_number_at place))) ≡ Err (lexical (lex_model f))
form_err true true v place f e = absurd cc
form_err true false v place f e = let q : OutOfRange place ≡ f = cc in ap (λ x. Err (lexical (lex_model x))) q
form_err false inside v place f e = let q : BadNumber place ≡ f = cc in ap (λ x. Err (lexical (lex_model x))) q

-- a number that is at a place, within its limits
pub record WholeAt (word : Bytes) (place : ℕ) (lo hi z : ℤ) : Type 0 where
  pub value : whole_at place lo hi word ≡ Ok z
  pub within : (int_le lo z && int_le z hi) ≡ true

-- a number that was read is the one at the place
pub whole_ok : (word : Bytes) (place : ℕ) (lo hi z : ℤ) → Ok z ≡ whole_answer word place lo hi → WholeAt word place lo hi z
whole_ok word place lo hi z e =
    let f = form_ok (is_whole word) (int_le lo (whole_value word) && int_le (whole_value word) hi) (whole_value word) z place cc in
    record { value = rw (f.0, f.1, f.2) refl; within = rw (← f.2) f.1 }

-- a number that was not read has its fault
pub whole_err : (word : Bytes) (place : ℕ) (lo hi : ℤ) (f : LexFault) → Err f ≡ whole_answer word place lo hi → whole_at place lo hi word ≡ Err (lexical (lex_model f))
whole_err word place lo hi f e = form_err (is_whole word) (int_le lo (whole_value word) && int_le (whole_value word) hi) (whole_value word) place f cc
