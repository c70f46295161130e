-- Sums of integers over a list.
use Rattle.std.proofs.Common.{◌≡◌, ℕ, zero, suc, ◌+◌, ◌*◌, ◌≤◌, ℤ, pos, ◌+ℤ◌, ◌*ℤ◌, List, [], ◌∷◌, Bool, true, false, cond, refl, sym, ap, ◌∙◌, arith, map, filter}
use Rattle.std.specs.List.{All, AllByRecursion}
use Rattle.std.proofs.lemmas.Int.{ints}
use Rattle.std.proofs.lemmas.List.Elements.{recursion_from_All}
use Rattle.std.specs.Prelude.{unsigned_abs}
use Rattle.lab_math.specs.Sums.{total, sum_over}
use Rattle.lab_math.specs.Below.{sum_below, total_below}
use Rattle.lab_math.proofs.Integers.{mul_add_z, mul_left_comm_z, mul_comm_z, pos-mul}

-- two functions that agree have one sum
pub total_cong : {X : Type 0} (f g : X → ℤ) (xs : List X) → ((x : X) → f x ≡ g x) → total f xs ≡ total g xs
total_cong f g [] e = refl
total_cong f g (x ∷ xs) e = ap (λ t. t +ℤ total f xs) (e x) ∙ ap (λ t. g x +ℤ t) (total_cong f g xs e)

-- it is enough that they agree on the elements, which all have a property
total_cong_by : {X : Type 0} (P : X → Type 0) (f g : X → ℤ) (xs : List X) → AllByRecursion P xs → ((x : X) → P x → f x ≡ g x) → total f xs ≡ total g xs
total_cong_by P f g [] ps e = refl
total_cong_by P f g (x ∷ xs) ps e = ap (λ t. t +ℤ total f xs) (e x ps.0) ∙ ap (λ t. g x +ℤ t) (total_cong_by P f g xs ps.1 e)

-- the same of a property that each element has by its place
pub total_cong_all : {X : Type 0} (P : X → Type 0) (f g : X → ℤ) (xs : List X) → All P xs → ((x : X) → P x → f x ≡ g x) → total f xs ≡ total g xs
total_cong_all P f g xs ps e = total_cong_by P f g xs (recursion_from_All P xs ps) e

-- zeros sum to zero
pub total_zero : {X : Type 0} (xs : List X) → total (λ x. pos 0) xs ≡ pos 0
total_zero [] = refl
total_zero (x ∷ xs) = omega (arith, ints, total_zero xs)

-- a sum of sums
pub total_add : {X : Type 0} (f g : X → ℤ) (xs : List X) → total (λ x. f x +ℤ g x) xs ≡ total f xs +ℤ total g xs
total_add f g [] = refl
total_add f g (x ∷ xs) = omega (arith, ints, total_add f g xs)

-- a factor goes out of a sum
pub total_mul : {X : Type 0} (c : ℤ) (f : X → ℤ) (xs : List X) → total (λ x. c *ℤ f x) xs ≡ c *ℤ total f xs
total_mul c f [] = omega (arith, ints)
total_mul c f (x ∷ xs) = ap (λ t. c *ℤ f x +ℤ t) (total_mul c f xs) ∙ sym (mul_add_z c (f x) (total f xs))

-- a sum over what passes a test is a sum over all, with zeros for the rest
pub total_filter : {X : Type 0} (p : X → Bool) (g : X → ℤ) (xs : List X) → total g (filter p xs) ≡ total (λ x. cond (p x) (g x) (pos 0)) xs
total_filter p g [] = refl
total_filter p g (x ∷ xs) = one (p x) ∙ ap (λ t. cond (p x) (g x) (pos 0) +ℤ t) (total_filter p g xs)
  where
    one : (b : Bool) → total g (cond b (x ∷ filter p xs) (filter p xs)) ≡ cond b (g x) (pos 0) +ℤ total g (filter p xs)
    one true = refl
    one false = omega (arith, ints)

-- the sum of w, each element counted h times
abbrev pub weighed : {X : Type 0} → (X → ℤ) → (X → ℕ) → List X → ℤ
weighed w h xs = total (λ x. w x *ℤ pos (h x)) xs

-- a factor of the count goes out
pub weighed_scale : {X : Type 0} (w : X → ℤ) (c : ℕ) (h : X → ℕ) (xs : List X) → weighed w (λ x. c * h x) xs ≡ pos c *ℤ weighed w h xs
weighed_scale w c h xs =
    total_cong _ (λ x. pos c *ℤ (w x *ℤ pos (h x))) xs (λ x. ap (λ t. w x *ℤ t) (pos-mul c (h x)) ∙ mul_left_comm_z (w x) (pos c) (pos (h x)))
    ∙ total_mul (pos c) (λ x. w x *ℤ pos (h x)) xs

-- counts may be added
pub weighed_add : {X : Type 0} (w : X → ℤ) (h k : X → ℕ) (xs : List X) → weighed w (λ x. h x + k x) xs ≡ weighed w h xs +ℤ weighed w k xs
weighed_add w h k xs =
    total_cong _ (λ x. w x *ℤ pos (h x) +ℤ w x *ℤ pos (k x)) xs (λ x. mul_add_z (w x) (pos (h x)) (pos (k x)))
    ∙ total_add (λ x. w x *ℤ pos (h x)) (λ x. w x *ℤ pos (k x)) xs

-- what is never counted sums to zero
pub weighed_zero : {X : Type 0} (w : X → ℤ) (xs : List X) → weighed w (λ x. 0) xs ≡ pos 0
weighed_zero w xs = total_cong _ (λ x. pos 0) xs (λ x. omega (arith, ints)) ∙ total_zero xs

-- a sum of counts is a sum of sums
pub weighed_sum : {X : Type 0} (w : X → ℤ) (n : ℕ) (h : ℕ → X → ℕ) (xs : List X) → weighed w (λ x. sum_below n (λ k. h k x)) xs ≡ total_below n (λ k. weighed w (h k) xs)
weighed_sum w zero h xs = weighed_zero w xs
weighed_sum w (suc n) h xs =
    weighed_add w (λ x. sum_below n (λ k. h k x)) (h n) xs ∙ ap (λ t. t +ℤ weighed w (h n) xs) (weighed_sum w n h xs)

-- counts under a condition that does not look at the elements
pub weighed_cond : {X : Type 0} (w : X → ℤ) (b : Bool) (h : X → ℕ) (xs : List X) → weighed w (λ x. cond b (h x) 0) xs ≡ cond b (weighed w h xs) (pos 0)
weighed_cond w true h xs = refl
weighed_cond w false h xs = weighed_zero w xs

-- one count for all that pass a test
pub weighed_test : {X : Type 0} (w : X → ℤ) (p : X → Bool) (e : ℕ) (xs : List X) → weighed w (λ x. cond (p x) e 0) xs ≡ pos e *ℤ total (λ x. cond (p x) (w x) (pos 0)) xs
weighed_test w p e xs =
    total_cong _ (λ x. pos e *ℤ cond (p x) (w x) (pos 0)) xs (λ x. one (p x) (w x))
    ∙ total_mul (pos e) (λ x. cond (p x) (w x) (pos 0)) xs
  where
    one : (b : Bool) (v : ℤ) → v *ℤ pos (cond b e 0) ≡ pos e *ℤ cond b v (pos 0)
    one true v = mul_comm_z v (pos e)
    one false v = omega (arith, ints)

-- the same, where each element is the image of one that passes the test with it
total_filter_map_by : {X Y : Type 0} (P : X → Type 0) (h : X → Y) (p : X → Bool) (q : Y → Bool) (F : X → ℤ) (G : Y → ℤ) (xs : List X) → AllByRecursion P xs
    → ((x : X) → P x → q (h x) ≡ p x) → ((x : X) → P x → p x ≡ true → G (h x) ≡ F x) → total G (filter q (map h xs)) ≡ total F (filter p xs)
total_filter_map_by P h p q F G [] ps same eq = refl
total_filter_map_by P h p q F G (x ∷ xs) ps same eq =
    ap (λ b. total G (cond b (h x ∷ filter q (map h xs)) (filter q (map h xs)))) (same x ps.0)
    ∙ at (p x) (eq x ps.0) (total_filter_map_by P h p q F G xs ps.1 same eq)
  where
    at : (b : Bool) → (b ≡ true → G (h x) ≡ F x) → total G (filter q (map h xs)) ≡ total F (filter p xs)
        → total G (cond b (h x ∷ filter q (map h xs)) (filter q (map h xs))) ≡ total F (cond b (x ∷ filter p xs) (filter p xs))
    at true e rest = ap (λ t. t +ℤ total G (filter q (map h xs))) (e refl) ∙ ap (λ t. F x +ℤ t) rest
    at false e rest = rest

-- a sum over images that pass a test is one over the elements that pass the like test
pub total_filter_map : {X Y : Type 0} (P : X → Type 0) (h : X → Y) (p : X → Bool) (q : Y → Bool) (F : X → ℤ) (G : Y → ℤ) (xs : List X) → All P xs
    → ((x : X) → P x → q (h x) ≡ p x) → ((x : X) → P x → p x ≡ true → G (h x) ≡ F x) → total G (filter q (map h xs)) ≡ total F (filter p xs)
total_filter_map P h p q F G xs ps same eq = total_filter_map_by P h p q F G xs (recursion_from_All P xs ps) same eq

-- the size of a sum is at most the sum of sizes, or of numbers that are as great
total_size_by : {X : Type 0} (P : X → Type 0) (f : X → ℤ) (g : X → ℕ) (xs : List X) → AllByRecursion P xs → ((x : X) → P x → unsigned_abs (f x) ≤ g x) → unsigned_abs (total f xs) ≤ sum_over g xs
total_size_by P f g [] ps e = omega arith
total_size_by P f g (x ∷ xs) ps e = omega (arith, ints, e x ps.0, total_size_by P f g xs ps.1 e)

-- the same of a property that each element has by its place
pub total_size : {X : Type 0} (P : X → Type 0) (f : X → ℤ) (g : X → ℕ) (xs : List X) → All P xs → ((x : X) → P x → unsigned_abs (f x) ≤ g x) → unsigned_abs (total f xs) ≤ sum_over g xs
total_size P f g xs ps e = total_size_by P f g xs (recursion_from_All P xs ps) e

-- a factor goes out of a sum of natural numbers
pub sum_over-mul : {X : Type 0} (c : ℕ) (f : X → ℕ) (xs : List X) → sum_over (λ x. c * f x) xs ≡ c * sum_over f xs
sum_over-mul c f [] = omega arith
sum_over-mul c f (x ∷ xs) = omega (arith, sum_over-mul c f xs)
