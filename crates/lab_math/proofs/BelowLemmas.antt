-- Sums of a function over the numbers below n.
use Rattle.std.proofs.Common.{◌≡◌, ℕ, zero, suc, ◌+◌, ◌*◌, ◌<◌, ◌≤◌, ℤ, pos, ◌+ℤ◌, ◌*ℤ◌, ◌≤ℤ◌, Bool, true, false, cond, eqb, refl, sym, ap, ◌∙◌, subst, arith, inl, inr, eq-eqb, ne_eqb}
use Rattle.std.proofs.lemmas.Int.{ints}
use Rattle.std.proofs.lemmas.Bool.{cases_eq}
use Rattle.lab_math.specs.Below.{sum_below, total_below}
use Rattle.lab_math.proofs.Integers.{mul_add_z, add_mul_z}

-- ---- natural numbers

-- two functions that agree below n have one sum
pub sum_below_cong : (n : ℕ) (f g : ℕ → ℕ) → ((k : ℕ) → k < n → f k ≡ g k) → sum_below n f ≡ sum_below n g
sum_below_cong zero f g e = refl
sum_below_cong (suc n) f g e = omega (arith, sum_below_cong n f g (λ k l. e k (omega arith)), e n (omega arith))

-- a sum of sums
pub sum_below_add : (n : ℕ) (f g : ℕ → ℕ) → sum_below n (λ k. f k + g k) ≡ sum_below n f + sum_below n g
sum_below_add zero f g = refl
sum_below_add (suc n) f g = omega (arith, sum_below_add n f g)

-- a factor goes out of a sum
pub sum_below_mul : (n c : ℕ) (f : ℕ → ℕ) → sum_below n (λ k. c * f k) ≡ c * sum_below n f
sum_below_mul zero c f = omega arith
sum_below_mul (suc n) c f = omega (arith, sum_below_mul n c f)

-- zeros sum to zero
pub sum_below_zero : (n : ℕ) → sum_below n (λ k. 0) ≡ 0
sum_below_zero zero = refl
sum_below_zero (suc n) = omega (arith, sum_below_zero n)

-- a number is equal to itself, by the test too
pub eqb_self : (n : ℕ) → eqb n n ≡ true
eqb_self n = eq-eqb n n refl

-- numbers that differ do so by the test too
pub eqb_apart : (m n : ℕ) → (m ≡ n → ⊥) → eqb m n ≡ false
eqb_apart m n h = ne_eqb m n h

-- where no number passes a test, what passes it sums to zero
pub sum_below_none : (n : ℕ) (p : ℕ → Bool) (f : ℕ → ℕ) → ((k : ℕ) → k < n → p k ≡ false) → sum_below n (λ k. cond (p k) (f k) 0) ≡ 0
sum_below_none n p f h = sum_below_cong n _ (λ k. 0) (λ k l. ap (λ b. cond b (f k) 0) (h k l)) ∙ sum_below_zero n

-- a sum in which only the number j counts
pub sum_below_pick : (n j : ℕ) (f : ℕ → ℕ) → j < n → sum_below n (λ k. cond (eqb j k) (f k) 0) ≡ f j
sum_below_pick zero j f l = absurd (omega arith)
sum_below_pick (suc n) j f l = elim (cases_eq j n) [
  | inl e ↦
      let rest = sum_below_none n (λ k. eqb j k) f (λ k l. eqb_apart j k (λ h. omega arith)) in
      let here : cond (eqb j n) (f n) 0 ≡ f j = subst (λ m. cond (eqb j m) (f m) 0 ≡ f j) e (ap (λ b. cond b (f j) 0) (eqb_self j)) in
      omega arith
  | inr ne ↦
      let rest = sum_below_pick n j f (omega arith) in
      let here : cond (eqb j n) (f n) 0 ≡ 0 = ap (λ b. cond b (f n) 0) (eqb_apart j n ne) in
      omega arith
]

-- a factor goes out under a condition
cond_add : (b : Bool) (c x y : ℕ) → cond b (c * (x + y)) 0 ≡ c * (cond b x 0 + cond b y 0)
cond_add true c x y = refl
cond_add false c x y = omega arith

-- two conditions may be exchanged
cond_swap : (a b : Bool) (x : ℕ) → cond a (cond b x 0) 0 ≡ cond b (cond a x 0) 0
cond_swap true true x = refl
cond_swap true false x = refl
cond_swap false true x = refl
cond_swap false false x = refl

-- what passes a test sums to one term more, where the number j has e more
pub sum_below_one_more : (n j c e : ℕ) (p : ℕ → Bool) (y : ℕ → ℕ) → j < n
    → sum_below n (λ k. cond (p k) (c * (y k + cond (eqb j k) e 0)) 0) ≡ c * (sum_below n (λ k. cond (p k) (y k) 0) + cond (p j) e 0)
sum_below_one_more n j c e p y l =
    sum_below_cong n _ (λ k. c * (cond (p k) (y k) 0 + cond (eqb j k) (cond (p k) e 0) 0)) (λ k l. cond_add (p k) c (y k) (cond (eqb j k) e 0) ∙ ap (λ t. c * (cond (p k) (y k) 0 + t)) (cond_swap (p k) (eqb j k) e))
    ∙ sum_below_mul n c (λ k. cond (p k) (y k) 0 + cond (eqb j k) (cond (p k) e 0) 0)
    ∙ ap (λ t. c * t) (sum_below_add n (λ k. cond (p k) (y k) 0) (λ k. cond (eqb j k) (cond (p k) e 0) 0))
    ∙ ap (λ t. c * (sum_below n (λ k. cond (p k) (y k) 0) + t)) (sum_below_pick n j (λ k. cond (p k) e 0) l)

-- ---- integers

-- two functions that agree below n have one sum
pub total_below_cong : (n : ℕ) (f g : ℕ → ℤ) → ((k : ℕ) → k < n → f k ≡ g k) → total_below n f ≡ total_below n g
total_below_cong zero f g e = refl
total_below_cong (suc n) f g e = omega (arith, ints, total_below_cong n f g (λ k l. e k (omega arith)), e n (omega arith))

-- a function that is at most another has at most its sum
pub total_below_le : (n : ℕ) (f g : ℕ → ℤ) → ((k : ℕ) → k < n → f k ≤ℤ g k) → total_below n f ≤ℤ total_below n g
total_below_le zero f g e = omega (arith, ints)
total_below_le (suc n) f g e = omega (arith, ints, total_below_le n f g (λ k l. e k (omega arith)), e n (omega arith))

-- a sum of sums
pub total_below_add : (n : ℕ) (f g : ℕ → ℤ) → total_below n (λ k. f k +ℤ g k) ≡ total_below n f +ℤ total_below n g
total_below_add zero f g = refl
total_below_add (suc n) f g = omega (arith, ints, total_below_add n f g)

-- a factor goes out of a sum
pub total_below_mul : (n : ℕ) (c : ℤ) (f : ℕ → ℤ) → total_below n (λ k. c *ℤ f k) ≡ c *ℤ total_below n f
total_below_mul zero c f = omega (arith, ints)
total_below_mul (suc n) c f =
    ap (λ t. t +ℤ c *ℤ f n) (total_below_mul n c f) ∙ sym (mul_add_z c (total_below n f) (f n))

-- one number, counted g times at each place
pub total_below_scale : (n : ℕ) (g : ℕ → ℕ) (x : ℤ) → total_below n (λ a. pos (g a) *ℤ x) ≡ pos (sum_below n g) *ℤ x
total_below_scale zero g x = omega (arith, ints)
total_below_scale (suc n) g x = ap (λ t. t +ℤ pos (g n) *ℤ x) (total_below_scale n g x) ∙ sym (add_mul_z (pos (sum_below n g)) (pos (g n)) x)

-- a sum in which only the number j counts, once
pub total_below_pick : (n j : ℕ) (h : ℕ → ℤ) → j < n → total_below n (λ a. pos (cond (eqb j a) 1 0) *ℤ h a) ≡ h j
total_below_pick zero j h l = absurd (omega arith)
total_below_pick (suc n) j h l = elim (cases_eq j n) [
  | inl e ↦
      let rest : total_below n (λ a. pos (cond (eqb j a) 1 0) *ℤ h a) ≡ pos 0 = none n (omega arith) in
      let here : pos (cond (eqb j n) 1 0) *ℤ h n ≡ h j = subst (λ k. pos (cond (eqb j k) 1 0) *ℤ h k ≡ h j) e (ap (λ b. pos (cond b 1 0) *ℤ h j) (eqb_self j) ∙ omega (arith, ints)) in
      omega (arith, ints)
  | inr ne ↦
      let rest = total_below_pick n j h (omega arith) in
      let here : pos (cond (eqb j n) 1 0) *ℤ h n ≡ pos 0 = ap (λ b. pos (cond b 1 0) *ℤ h n) (eqb_apart j n ne) ∙ omega (arith, ints) in
      omega (arith, ints)
]
  where
    none : (k : ℕ) → k ≤ j → total_below k (λ a. pos (cond (eqb j a) 1 0) *ℤ h a) ≡ pos 0
    none zero le = refl
    none (suc k) le =
        let rest = none k (omega arith) in
        let here : pos (cond (eqb j k) 1 0) *ℤ h k ≡ pos 0 = ap (λ b. pos (cond b 1 0) *ℤ h k) (eqb_apart j k (λ e. omega arith)) ∙ omega (arith, ints) in
        omega (arith, ints)

-- natural numbers, summed as integers
pub total_below_pos : (n : ℕ) (h : ℕ → ℕ) → total_below n (λ k. pos (h k)) ≡ pos (sum_below n h)
total_below_pos zero h = refl
total_below_pos (suc n) h = ap (λ t. t +ℤ pos (h n)) (total_below_pos n h)

-- a function that is at most another has at most its sum
pub sum_below_le : (n : ℕ) (f g : ℕ → ℕ) → ((k : ℕ) → k < n → f k ≤ g k) → sum_below n f ≤ sum_below n g
sum_below_le zero f g e = omega arith
sum_below_le (suc n) f g e = omega (arith, sum_below_le n f g (λ k l. e k (omega arith)), e n (omega arith))

-- a term is at most the sum
pub sum_below_term : (n a : ℕ) (w : ℕ → ℕ) → a < n → w a ≤ sum_below n w
sum_below_term zero a w l = absurd (omega (arith, l))
sum_below_term (suc n) a w l = elim (cases_eq a n) [
  | inl e ↦ let same : w a ≡ w n = ap w e in omega (arith, same)
  | inr ne ↦ let le = sum_below_term n a w (omega (arith, l, ne)) in omega (arith, le)
]
