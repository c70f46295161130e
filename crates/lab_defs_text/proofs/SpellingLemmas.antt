-- Numerals are words, and are read as their numbers.
use Rattle.std.proofs.Common.{◌≡◌, ℕ, zero, suc, ◌+◌, ◌^◌, ◌<◌, ◌≤◌, true, false, not, eqb, List, length, get_or, refl, sym, ap, subst, ◌∙◌, arith, inl, inr, ◌⊎◌}
use Rattle.std.specs.Prelude.{◌↔◌, ◌&&◌, ◌||◌, nat_lt, ◌==◌, ℤ, pos, negsuc, neg_ℤ, ◌∷◌, [], slice_index}
use Rattle.std.specs.Int.RustNames.{unsigned_abs}
use Rattle.std.specs.List.{list_all}
use Rattle.std.specs.Char.{is_ascii_digit}
use Rattle.std.specs.Fmt.{decimal, signed_decimal}
use Rattle.std.specs.Str.Parse.{digits_value}
use Rattle.std.proofs.lemmas.Bool.{and_parts, and_from, cases_Bool, ltb-true, lt-ltb, ne_eqb, eq-eqb, eqb-true, eqb-false, not-true, not_from_false, or_cases, or_left, or_right}
use Rattle.std.proofs.lemmas.Fmt.{decimal_digit}
use Rattle.lab_defs_text.specs.Numbers.{is_unsigned, is_whole, whole_value, numeral, signed_numeral}
use Rattle.lab_defs_text.proofs.DecimalLemmas.{decimal_made, decimal_value, decimal_again}
use Rattle.lab_defs_text.proofs.NumeralLemmas.{numeral_is, signed_numeral_is}
use Rattle.lab_defs_text.proofs.SplitLemmas.{is_word, digits_are_word, minus_is_word}

-- digits that begin with no needless 0 spell a number
unsigned_from : (w : List ℕ) → 0 < length w → (length w ≡ 1) ⊎ (get_or w 0 0 ≡ 48 → ⊥) → list_all is_ascii_digit w ≡ true → is_unsigned w ≡ true
unsigned_from w some first digits =
    and_from (nat_lt 0 (length w)) ((length w == 1 || not (slice_index w 0 == 48)) && list_all is_ascii_digit w) (lt-ltb 0 (length w) some)
    (and_from (length w == 1 || not (slice_index w 0 == 48)) (list_all is_ascii_digit w)
    (elim first [
      | inl h ↦ or_left (length w == 1) (not (slice_index w 0 == 48)) (eq-eqb (length w) 1 h)
      | inr h ↦ or_right (length w == 1) (not (slice_index w 0 == 48)) (not_from_false (slice_index w 0 == 48) (ne_eqb (slice_index w 0) 48 h))
    ]) digits)

-- a decimal has one digit, or begins with another than 0
decimal_first : (n : ℕ) → n < 10 ^ 64 → (length (decimal n) ≡ 1) ⊎ (get_or (decimal n) 0 0 ≡ 48 → ⊥)
decimal_first zero h = inl (ap length (decimal_digit 0 (omega arith)))
decimal_first (suc n) h = let f = (decimal_made (suc n) h).first (omega arith) in inr (λ e. omega (arith, e))

-- the first byte of a decimal is a digit
decimal_above : (n : ℕ) → n < 10 ^ 64 → 48 ≤ get_or (decimal n) 0 0
decimal_above zero h = let e : get_or (decimal 0) 0 0 ≡ 48 = ap (λ (x : List ℕ). get_or x 0 0) (decimal_digit 0 (omega arith)) in omega arith
decimal_above (suc n) h = let f = (decimal_made (suc n) h).first (omega arith) in omega arith

-- a decimal spells a number
decimal_unsigned : (n : ℕ) → n < 10 ^ 64 → is_unsigned (decimal n) ≡ true
decimal_unsigned n h = let d = decimal_made n h in unsigned_from (decimal n) d.some (decimal_first n h) d.digits

-- a signed decimal is the spelling of a whole number, and is read as its number
signed_decimal_again : (z : ℤ) → unsigned_abs z < 10 ^ 40 → (is_whole (signed_decimal z) ≡ true) × (whole_value (signed_decimal z) ≡ z)
signed_decimal_again (pos n) h =
    let lt : n < 10 ^ 64 = omega arith in
    let nope : eqb (get_or (decimal n) 0 0) 45 ≡ false = ne_eqb (get_or (decimal n) 0 0) 45 (λ e. let f = decimal_above n lt in absurd (omega (arith, e))) in
    (rw nope (decimal_unsigned n lt), rw (nope, decimal_value n lt) refl)
signed_decimal_again (negsuc n) h =
    let lt : suc n < 10 ^ 64 = omega arith in
    let f = (decimal_made (suc n) lt).first (omega arith) in
    let nope : eqb (get_or (decimal (suc n)) 0 0) 48 ≡ false = ne_eqb (get_or (decimal (suc n)) 0 0) 48 (λ e. absurd (omega (arith, e))) in
    (and_from (is_unsigned (decimal (suc n))) (not (eqb (get_or (decimal (suc n)) 0 0) 48)) (decimal_unsigned (suc n) lt) (rw nope refl), rw (decimal_value (suc n) lt) refl)

-- a signed numeral is a whole number's spelling, and is read as its number
pub signed_again : (z : ℤ) → unsigned_abs z < 10 ^ 40 → (is_whole (signed_numeral z) ≡ true) × (whole_value (signed_numeral z) ≡ z)
signed_again z h =
    let e = signed_numeral_is z (omega arith) in
    let a = signed_decimal_again z h in
    (ap is_whole e ∙ a.0, ap whole_value e ∙ a.1)

-- likewise of a natural number
pub numeral_again : (n : ℕ) → n < 10 ^ 40 → (is_whole (numeral n) ≡ true) × (whole_value (numeral n) ≡ pos n)
numeral_again n h = signed_again (pos n) h

-- a numeral has digits only
pub numeral_digits : (n : ℕ) → n < 10 ^ 40 → list_all is_ascii_digit (numeral n) ≡ true
numeral_digits n h = ap (list_all is_ascii_digit) (numeral_is n (omega arith)) ∙ (decimal_made n (omega (arith, h))).digits

-- a numeral is a word
pub numeral_is_word : (n : ℕ) → n < 10 ^ 40 → is_word (numeral n) ≡ true
numeral_is_word n h =
    let e = numeral_is n (omega arith) in
    digits_are_word (numeral n) (subst (λ (w : List ℕ). 0 < length w) (sym e) (decimal_made n (omega (arith, h))).some) (numeral_digits n h)

-- likewise of an integer
pub signed_is_word : (z : ℤ) → unsigned_abs z < 10 ^ 40 → is_word (signed_numeral z) ≡ true
signed_is_word (pos n) h = numeral_is_word n h
signed_is_word (negsuc n) h = minus_is_word (numeral (n + 1)) (numeral_is_word (n + 1) (omega arith))

-- ---- what is read is spelled so

-- what the test of digits without a needless 0 says
record UnsignedFine (w : List ℕ) : Type 0 where
  pub some : 0 < length w
  pub first : (length w ≡ 1) ⊎ (get_or w 0 0 ≡ 48 → ⊥)
  pub digits : list_all is_ascii_digit w ≡ true

-- digits that pass the test are such
unsigned_fine : (w : List ℕ) → is_unsigned w ≡ true → UnsignedFine w
unsigned_fine w e =
    let a = and_parts (nat_lt 0 (length w)) ((length w == 1 || not (slice_index w 0 == 48)) && list_all is_ascii_digit w) e in
    let b = and_parts (length w == 1 || not (slice_index w 0 == 48)) (list_all is_ascii_digit w) a.1 in
    record {
      some = ltb-true 0 (length w) a.0;
      first = elim (or_cases (length w == 1) (not (slice_index w 0 == 48)) b.0) [
        | inl h ↦ inl (eqb-true (length w) 1 h)
        | inr h ↦ inr (eqb-false (slice_index w 0) 48 (not-true (slice_index w 0 == 48) h))
      ];
      digits = b.1;
    }

-- such digits are the decimal of their number
unsigned_is : (w : List ℕ) → is_unsigned w ≡ true → digits_value 10 w < 10 ^ 64 → decimal (digits_value 10 w) ≡ w
unsigned_is w e lt =
    let p = unsigned_fine w e in
    decimal_again w p.digits p.some (λ z. elim p.first [ inl h ↦ h | inr h ↦ absurd (h z) ]) lt

-- the decimal of a number below zero, by that of its size
negative_decimal : (n : ℕ) (ds : List ℕ) → decimal n ≡ ds → (get_or ds 0 0 ≡ 48 → ⊥) → signed_decimal (neg_ℤ (pos n)) ≡ 45 ∷ ds
negative_decimal zero ds e nope = absurd (nope (ap (λ (x : List ℕ). get_or x 0 0) (sym e ∙ decimal_digit 0 (omega arith))))
negative_decimal (suc n) ds e nope = ap (λ (x : List ℕ). 45 ∷ x) e

-- the size of a number below zero
size_of_negative : (n : ℕ) → unsigned_abs (neg_ℤ (pos n)) ≡ n
size_of_negative zero = refl
size_of_negative (suc n) = refl

-- a word that spells a number is its decimal, with a sign first or without one
by_sign : (c : ℕ) (ds : List ℕ) → (eqb c 45 ≡ true) ⊎ (eqb c 45 ≡ false) → is_whole (c ∷ ds) ≡ true → unsigned_abs (whole_value (c ∷ ds)) < 10 ^ 40 → signed_decimal (whole_value (c ∷ ds)) ≡ c ∷ ds
by_sign c ds (inl m) e lt =
    let e1 : (is_unsigned ds && not (slice_index ds 0 == 48)) ≡ true = rw m at e in
    let lt1 : unsigned_abs (neg_ℤ (pos (digits_value 10 ds))) < 10 ^ 40 = rw m at lt in
    let a = and_parts (is_unsigned ds) (not (slice_index ds 0 == 48)) e1 in
    let nope : get_or ds 0 0 ≡ 48 → ⊥ = eqb-false (slice_index ds 0) 48 (not-true (slice_index ds 0 == 48) a.1) in
    let small : digits_value 10 ds < 10 ^ 64 = omega (arith, size_of_negative (digits_value 10 ds)) in
    let same : c ≡ 45 = eqb-true c 45 m in
    rw m (negative_decimal (digits_value 10 ds) ds (unsigned_is ds a.0 small) nope ∙ ap (λ (x : ℕ). x ∷ ds) (sym same))
by_sign c ds (inr m) e lt =
    let e1 : is_unsigned (c ∷ ds) ≡ true = rw m at e in
    let lt1 : digits_value 10 (c ∷ ds) < 10 ^ 40 = rw m at lt in
    rw m (unsigned_is (c ∷ ds) e1 (omega arith))

-- a word that spells a whole number is the decimal of that number
decimal_is : (w : List ℕ) → is_whole w ≡ true → unsigned_abs (whole_value w) < 10 ^ 40 → signed_decimal (whole_value w) ≡ w
decimal_is [] e lt = absurd cc
decimal_is (c ∷ ds) e lt = by_sign c ds (cases_Bool (eqb c 45)) e lt

-- a word that spells a whole number is the numeral of that number
pub signed_is : (w : List ℕ) → is_whole w ≡ true → unsigned_abs (whole_value w) < 10 ^ 40 → signed_numeral (whole_value w) ≡ w
signed_is w e lt = signed_numeral_is (whole_value w) (omega (arith, lt)) ∙ decimal_is w e lt

-- a word that spells a number is its numeral
spelled_is : (w : List ℕ) (z : ℤ) → unsigned_abs z < 10 ^ 40 → (is_whole w ≡ true) × (whole_value w ≡ z) → w ≡ signed_numeral z
spelled_is w z h s =
    let small : unsigned_abs (whole_value w) < 10 ^ 40 = subst (λ (x : ℤ). unsigned_abs x < 10 ^ 40) (sym s.1) h in
    sym (signed_is w s.0 small) ∙ ap signed_numeral s.1

-- a numeral spells its number
numeral_spells : (w : List ℕ) (z : ℤ) → unsigned_abs z < 10 ^ 40 → w ≡ signed_numeral z → (is_whole w ≡ true) × (whole_value w ≡ z)
numeral_spells w z h e = let a = signed_again z h in (ap is_whole e ∙ a.0, ap whole_value e ∙ a.1)

-- a number has one spelling
pub one_spelling : (w : List ℕ) (z : ℤ) → unsigned_abs z < 10 ^ 40 → ((is_whole w ≡ true) × (whole_value w ≡ z)) ↔ (w ≡ signed_numeral z)
one_spelling w z h = (spelled_is w z h, numeral_spells w z h)
