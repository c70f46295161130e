-- Steps that did not fail.
use Rattle.std.proofs.Common.{◌≡◌, Bool, true, false, cond, Option, Some, Result, Ok, Err, refl, sym, subst, ◌∙◌}
use Rattle.std.proofs.lemmas.Bool.{cond-true, cond-false}
use Rattle.lab_defs_text.specs.Steps.{◌>>=◌}

-- two steps that did not fail
pub bind_ok : {E A B : Type 0} (r : Result A E) (f : A → Result B E) (y : B) → (r >>= f) ≡ Ok y → (x : A) × (r ≡ Ok x) × (f x ≡ Ok y)
bind_ok (Ok x) f y e = (x, refl, e)
bind_ok (Err d) f y e = absurd cc

-- a test that was passed, or that has failed
pub passed : {E A : Type 0} (b : Bool) (r : Result A E) (d : E) (y : A) → cond b r (Err d) ≡ Ok y → (b ≡ true) × (r ≡ Ok y)
passed true r d y e = (refl, e)
passed false r d y e = absurd cc

-- one answer has one value
pub ok_is : {E A : Type 0} (x y : A) → ◌≡◌ {A = Result A E} (Ok x) (Ok y) → x ≡ y
ok_is x y e = cc

-- what holds of the value that was made holds of the answer
pub ok_carries : {E A : Type 0} (P : A → Type 0) (x y : A) → ◌≡◌ {A = Result A E} (Ok x) (Ok y) → P x → P y
ok_carries P x y e p = subst P (ok_is x y e) p

-- what holds of the answer holds of the value that was made
pub ok_carried : {E A : Type 0} (P : A → Type 0) (x y : A) → ◌≡◌ {A = Result A E} (Ok x) (Ok y) → P y → P x
ok_carried P x y e p = subst P (sym (ok_is x y e)) p

-- likewise an option
pub some_is : {A : Type 0} (x y : A) → ◌≡◌ {A = Option A} (Some x) (Some y) → x ≡ y
some_is x y e = cc

-- what a test that holds chooses
pub first_chosen : {A : Type 0} (b : Bool) (x y z : A) → b ≡ true → cond b x y ≡ z → x ≡ z
first_chosen b x y z t e = sym (cond-true b x y t) ∙ e

-- what a test that fails chooses
pub second_chosen : {A : Type 0} (b : Bool) (x y z : A) → b ≡ false → cond b x y ≡ z → y ≡ z
second_chosen b x y z t e = sym (cond-false b x y t) ∙ e
