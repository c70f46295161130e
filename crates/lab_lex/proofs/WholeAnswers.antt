-- Which answer a whole number has, from the sign and the clipped size that were read.
use Rattle.std.proofs.Common.{◌≡◌, ℕ, ◌-◌, ◌^◌, min, ℤ, Bool, true, false, ◌&&◌, if◌then◌else◌, Option, Some, None, Ok, Err, int_le, refl, subst, arith, List, ap, ◌∙◌, slice_index, ◌==◌}
use Rattle.std.specs.Int.{w128}
use Rattle.std.specs.Int.RustNames.{FitsSigned}
use Rattle.std.proofs.lemmas.Int.{ints}
use Rattle.lab_defs_text.specs.Numbers.{signed_of, is_whole, whole_size, whole_value}
use Rattle.lab_lex.specs.Numbers.{whole_answer}
use Rattle.lab_lex.specs.declared.fault.LexFault.TheVariants.{OutOfRange}

-- a choice that is a value
chosen : {A : Type 0} (b : Bool) (x y : A) → Some x ≡ (if b then Some y else None) → (b ≡ true) × (x ≡ y)
chosen true x y e = (refl, cc)
chosen false x y e = cc

-- a size that fits was not clipped
not_clipped : (b : Bool) (n : ℕ) → FitsSigned w128 (signed_of b (min n (2 ^ 128 - 1))) → min n (2 ^ 128 - 1) ≡ n
not_clipped true n h = omega (arith, ints)
not_clipped false n h = omega (arith, ints)

-- a number between two numbers of 128 bits is one, and its size is not clipped
pub within_fits : (b : Bool) (n : ℕ) (lo hi : ℤ) → FitsSigned w128 lo → FitsSigned w128 hi → int_le lo (signed_of b n) ≡ true → int_le (signed_of b n) hi ≡ true → FitsSigned w128 (signed_of b (min n (2 ^ 128 - 1)))
within_fits true n lo hi f g l h = omega (arith, ints)
within_fits false n lo hi f g l h = omega (arith, ints)

-- two tests fail together where they don't hold together
pub and_false : (a b : Bool) → (a ≡ true → b ≡ true → ⊥) → (a && b) ≡ false
and_false true true h = absurd (h refl refl)
and_false true false h = refl
and_false false b h = refl

-- likewise where the first fails
pub first_false : (a b : Bool) → a ≡ false → (a && b) ≡ false
first_false a b e = rw e refl

-- likewise the second
pub second_false : (a b : Bool) → b ≡ false → (a && b) ≡ false
second_false true b e = e
second_false false b e = refl

-- the sign and the clipped size of a word that is a whole number
pub record IsParts (word : List ℕ) (b : Bool) (s : ℕ) : Type 0 where
  pub whole : is_whole word ≡ true
  pub sign : b ≡ (slice_index word 0 == 45)
  pub size : s ≡ min (whole_size word) (2 ^ 128 - 1)

-- they are what was read
pub parts_are : (word : List ℕ) (b : Bool) (s : ℕ) → ◌≡◌ {A = Option (Bool × ℕ)} (Some (b, s)) (if is_whole word then Some (slice_index word 0 == 45, min (whole_size word) (2 ^ 128 - 1)) else None) → IsParts word b s
parts_are word b s e =
    let r = chosen (is_whole word) _ _ e in
    record { whole = r.0; sign = ap (λ (p : Bool × ℕ). p.0) r.1; size = ap (λ (p : Bool × ℕ). p.1) r.1 }

-- of them the number is made, where it has 128 bits
pub value_is : (word : List ℕ) (b : Bool) (s : ℕ) (v : ℤ) → IsParts word b s → FitsSigned w128 (signed_of b s) → v ≡ signed_of b s → v ≡ whole_value word
value_is word b s v p f e =
    let g : FitsSigned w128 (signed_of b (min (whole_size word) (2 ^ 128 - 1))) = subst (λ n. FitsSigned w128 (signed_of b n)) p.size f in
    e ∙ ap (signed_of b) (p.size ∙ not_clipped b (whole_size word) g) ∙ ap (λ x. signed_of x (whole_size word)) p.sign

-- a number between the bounds is the answer
pub answer_ok : (word : List ℕ) (place : ℕ) (v lo hi : ℤ) → is_whole word ≡ true → v ≡ whole_value word → int_le lo v ≡ true → int_le v hi ≡ true → Ok v ≡ whole_answer word place lo hi
answer_ok word place v lo hi w e l h =
    let l' : int_le lo (whole_value word) ≡ true = subst (λ z. int_le lo z ≡ true) e l in
    let h' : int_le (whole_value word) hi ≡ true = subst (λ z. int_le z hi ≡ true) e h in
    rw (w, l', h') (ap Ok e)

-- another is out of range
pub answer_out : (word : List ℕ) (place : ℕ) (lo hi : ℤ) → is_whole word ≡ true → (int_le lo (whole_value word) && int_le (whole_value word) hi) ≡ false → Err (OutOfRange place) ≡ whole_answer word place lo hi
answer_out word place lo hi w e = rw (w, e) refl
