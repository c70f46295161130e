-- The decimals of numbers below 10 ^ 64: what they are made of, and which digits are one.
use Rattle.std.proofs.Common.{◌≡◌, ℕ, ◌+◌, ◌-◌, ◌*◌, ◌/◌, ◌%◌, ◌^◌, ◌<◌, ◌≤◌, true, List, [], ◌∷◌, ◌++◌, length, get_or, refl, sym, ap, ◌∙◌, subst, arith, zero-add, inl, inr}
use Rattle.std.specs.Char.{is_ascii_digit, digit_value}
use Rattle.std.specs.List.{list_all}
use Rattle.std.specs.Fmt.{decimal}
use Rattle.std.specs.Str.Parse.{digits_value, digits_value_after}
use Rattle.std.proofs.lemmas.Bool.{and_parts, and_from, cases_eq}
use Rattle.std.proofs.lemmas.Bool.Decides.{nat_tests}
use Rattle.std.proofs.lemmas.List.{append_assoc, append-nil}
use Rattle.std.proofs.lemmas.Fmt.{decimal_digit, decimal_step_wide, decimal_by_steps_wide, decimal_is_IsNumeral_wide}
use Rattle.lab_math.proofs.ListTests.{all_push}
use Rattle.lab_defs_text.proofs.DigitLemmas.{digit_in_range, digit_value_is}

-- ---- decimals

-- some digits, the first one not 0 where the number isn't 0
pub record IsDecimal (n : ℕ) (ds : List ℕ) : Type 0 where
  pub digits : list_all is_ascii_digit ds ≡ true
  pub some : 0 < length ds
  pub first : 0 < n → 48 < get_or ds 0 0

-- a digit is one
digit_is : (d : ℕ) → d < 10 → is_ascii_digit (48 + d) ≡ true
digit_is d l = grind (arith, nat_tests)

-- a number of one digit
one_digit : (n : ℕ) → n < 10 → IsDecimal n ((48 + n) ∷ [])
one_digit n l = record { digits = and_from (is_ascii_digit (48 + n)) true (digit_is n l) refl; some = omega arith; first = λ p. omega (arith, p) }

-- one more digit
one_digit_more : (n : ℕ) (ds : List ℕ) → 10 ≤ n → IsDecimal (n / 10) ds → IsDecimal n (ds ++ (48 + n % 10) ∷ [])
one_digit_more n [] l d = let p = d.some in absurd (omega (arith, p))
one_digit_more n (c ∷ ds) l d = record { digits = all_push is_ascii_digit (c ∷ ds) (48 + n % 10) d.digits (digit_is (n % 10) (omega arith)); some = omega arith; first = λ p. d.first (omega (arith, l)) }

-- the decimal of a number is such
pub decimal_made : (n : ℕ) → n < 10 ^ 64 → IsDecimal n (decimal n)
decimal_made n h = decimal_by_steps_wide IsDecimal one_digit one_digit_more n h

-- the number that a decimal spells
pub decimal_value : (n : ℕ) → n < 10 ^ 64 → digits_value 10 (decimal n) ≡ n
decimal_value n h = (decimal_is_IsNumeral_wide n h).1

-- ---- digits

-- further digits make a number no smaller
value_after_le : (n : ℕ) (ds : List ℕ) → n ≤ digits_value_after 10 n ds
value_after_le n [] = omega arith
value_after_le n (c ∷ ds) = omega (arith, value_after_le (n * 10 + digit_value c) ds)

-- the decimal of what is read after a number above 0 is that number's, and the digits after it
decimal_after : (n : ℕ) (ds : List ℕ) → 0 < n → list_all is_ascii_digit ds ≡ true → digits_value_after 10 n ds < 10 ^ 64 → decimal (digits_value_after 10 n ds) ≡ decimal n ++ ds
decimal_after n [] some all small = sym (append-nil (decimal n))
decimal_after n (c ∷ ds) some all small =
    let p = and_parts (is_ascii_digit c) (list_all is_ascii_digit ds) all in
    let r = digit_in_range c p.0 in
    let v : digit_value c ≡ c - 48 = digit_value_is c r.0 r.1 in
    let le : n * 10 + digit_value c ≤ digits_value_after 10 (n * 10 + digit_value c) ds = value_after_le (n * 10 + digit_value c) ds in
    let front : (n * 10 + digit_value c) / 10 ≡ n = omega (arith, r, v) in
    let last : 48 + (n * 10 + digit_value c) % 10 ≡ c = omega (arith, r, v) in
    decimal_after (n * 10 + digit_value c) ds (omega arith) p.1 small
    ∙ ap (λ x. x ++ ds) (decimal_step_wide (n * 10 + digit_value c) (omega arith) (omega (arith, le, small)))
    ∙ ap (λ k. (decimal k ++ (48 + (n * 10 + digit_value c) % 10) ∷ []) ++ ds) front
    ∙ ap (λ d. (decimal n ++ d ∷ []) ++ ds) last
    ∙ append_assoc (decimal n) (c ∷ []) ds

-- one digit is the decimal of its number
decimal_of_digit : (c : ℕ) → is_ascii_digit c ≡ true → decimal (digit_value c) ≡ c ∷ []
decimal_of_digit c d =
    let r = digit_in_range c d in
    let v : digit_value c ≡ c - 48 = digit_value_is c r.0 r.1 in
    let same : 48 + digit_value c ≡ c = omega (arith, r, v) in
    decimal_digit (digit_value c) (omega (arith, r, v)) ∙ ap (λ k. k ∷ []) same

-- reading starts with the first digit
value_first : (c : ℕ) (ds : List ℕ) → digits_value 10 (c ∷ ds) ≡ digits_value_after 10 (digit_value c) ds
value_first c ds = ap (λ n. digits_value_after 10 n ds) (zero-add (digit_value c))

-- digits are the decimal of their number where the first one is not 0 or is the only one
pub decimal_again : (ds : List ℕ) → list_all is_ascii_digit ds ≡ true → 0 < length ds → (get_or ds 0 0 ≡ 48 → length ds ≡ 1) → digits_value 10 ds < 10 ^ 64 → decimal (digits_value 10 ds) ≡ ds
decimal_again [] all some first small = absurd (omega (arith, some))
decimal_again (c ∷ []) all some first small = ap decimal (value_first c []) ∙ decimal_of_digit c (and_parts (is_ascii_digit c) true all).0
decimal_again (c ∷ d ∷ ds) all some first small =
    let p = and_parts (is_ascii_digit c) (list_all is_ascii_digit (d ∷ ds)) all in
    let r = digit_in_range c p.0 in
    let v : digit_value c ≡ c - 48 = digit_value_is c r.0 r.1 in
    let above : 0 < digit_value c = elim (cases_eq c 48) [ inl e ↦ let one = first e in absurd (omega (arith, one)) | inr ne ↦ omega (arith, r, v, ne) ] in
    ap decimal (value_first c (d ∷ ds)) ∙ decimal_after (digit_value c) (d ∷ ds) above p.1 (subst (λ n. n < 10 ^ 64) (value_first c (d ∷ ds)) small) ∙ ap (λ x. x ++ d ∷ ds) (decimal_of_digit c p.0)
