-- What an action backs up changes with the bound of a set that follows it, and with no other.
use Rattle.std.proofs.Common.{◌≡◌, ℕ, zero, suc, ◌+◌, ◌<◌, ◌≤◌, ℤ, pos, ◌+ℤ◌, ◌-ℤ◌, Bool, true, false, cond, eqb, ltb, Option, Some, None, length, refl, sym, ap, ◌∙◌, subst, arith, inl, inr, ◌⊎◌, ne_eqb, eq-eqb}
use Rattle.std.proofs.lemmas.Int.{ints}
use Rattle.std.proofs.lemmas.Bool.{and_from, ltb-true, ltb-false}
use Rattle.lab_math.specs.Below.{total_below}
use Rattle.lab_math.proofs.BelowLemmas.{eqb_self, total_below_cong}
use Rattle.lab_defs_game.specs.Paths.{SetAction, is_taken}
use Rattle.lab_defs_game.specs.Forms.{parent_of}
use Rattle.lab_defs_value.specs.Replies.{Strategy, opponent, reply_sets}
use Rattle.lab_defs_value.specs.Bounds.{through, through_sets, through_rows}
use Rattle.lab_defs_value.specs.Settling.{with_bound}
use Rattle.lab_defs_value.specs.Laws.{ThroughLaw}
use Rattle.lab_defs_value.proofs.Pools.{step_is}

-- the numbers that pass a test
abbrev kept_if : (ℕ → Bool) → (ℕ → ℤ) → ℕ → ℤ
kept_if p B K = cond (p K) (B K) (pos 0)

-- where another bound is given to a set, the bound of a set with another number stays
other_stays : (B : ℕ → ℤ) (I K : ℕ) (x : ℤ) → (K ≡ I → ⊥) → with_bound B I x K ≡ B K
other_stays B I K x apart = ap (λ b. cond b x (B K)) (ne_eqb K I apart)

-- and its own bound is the new one
own_changes : (B : ℕ → ℤ) (I : ℕ) (x : ℤ) → with_bound B I x I ≡ x
own_changes B I x = ap (λ b. cond b x (B I)) (eqb_self I)

-- a sum over numbers below the changed one stays
below_stays : (p : ℕ → Bool) (B : ℕ → ℤ) (n I : ℕ) (x : ℤ) → n ≤ I → total_below n (kept_if p (with_bound B I x)) ≡ total_below n (kept_if p B)
below_stays p B n I x le =
    total_below_cong n (kept_if p (with_bound B I x)) (kept_if p B) (λ K l. ap (λ v. cond (p K) v (pos 0)) (other_stays B I K x (λ e. absurd (omega (arith, e, l, le)))))

-- a sum over more changes as the changed number does, if it passes
sum_changes : (p : ℕ → Bool) (B : ℕ → ℤ) (n I : ℕ) (x : ℤ) → I < n
    → total_below n (kept_if p (with_bound B I x)) ≡ total_below n (kept_if p B) +ℤ cond (p I) (x -ℤ B I) (pos 0)
sum_changes p B zero I x l = absurd (omega (arith, l))
sum_changes p B (suc n) I x l = at (cases n I l) (λ k. sum_changes p B n I x k)
  where
    cases : (n I : ℕ) → I < suc n → (I ≡ n) ⊎ (I < n)
    cases n I l = by (ltb I n) refl
      where
        by : (b : Bool) → ltb I n ≡ b → (I ≡ n) ⊎ (I < n)
        by true e = inr (ltb-true I n e)
        by false e = let le = ltb-false I n e in inl (omega (arith, l, le))

    one : (b : Bool) (s t c v w : ℤ) → s ≡ t → c ≡ cond b v (pos 0) → s +ℤ c ≡ (t +ℤ cond b w (pos 0)) +ℤ cond b (v -ℤ w) (pos 0)
    one true s t c v w e f = omega (arith, ints, e, f)
    one false s t c v w e f = omega (arith, ints, e, f)

    at : (I ≡ n) ⊎ (I < n) → (I < n → total_below n (kept_if p (with_bound B I x)) ≡ total_below n (kept_if p B) +ℤ cond (p I) (x -ℤ B I) (pos 0))
        → total_below (suc n) (kept_if p (with_bound B I x)) ≡ total_below (suc n) (kept_if p B) +ℤ cond (p I) (x -ℤ B I) (pos 0)
    at (inl e) rest =
        subst (λ k. total_below (suc n) (kept_if p (with_bound B k x)) ≡ total_below (suc n) (kept_if p B) +ℤ cond (p k) (x -ℤ B k) (pos 0)) (sym e)
        (one (p n) (total_below n (kept_if p (with_bound B n x))) (total_below n (kept_if p B)) (kept_if p (with_bound B n x) n) x (B n) (below_stays p B n n x (omega arith))
        (ap (λ v. cond (p n) v (pos 0)) (own_changes B n x)))
    at (inr k) rest =
        let same : kept_if p (with_bound B I x) n ≡ kept_if p B n = ap (λ v. cond (p n) v (pos 0)) (other_stays B I n x (λ e. absurd (omega (arith, e, k)))) in
        omega (arith, ints, rest k, same)

-- a step is the one that is asked for
step_itself : (J a : ℕ) → is_taken (record { set = J; action = a }) (Some (record { set = J; action = a })) ≡ true
step_itself J a = and_from (eqb J J) (eqb a a) (eq-eqb J J refl) (eq-eqb a a refl)

-- a step that is found to be the one is it
step_found : (J a : ℕ) (o : Option SetAction) → is_taken (record { set = J; action = a }) o ≡ true → o ≡ Some (record { set = J; action = a })
step_found J a o e =
    let r = step_is J a o e in
    r.1 ∙ ap (λ k. Some (record { set = k; action = r.0.action })) r.2 ∙ ap (λ k. Some (record { set = J; action = k })) r.3

-- the law of what an action backs up
pub through_law : ThroughLaw
through_law s B J a I bound l = (
  λ e. by (is_taken t (parent_of s.form (opponent s) I)) (ap (is_taken t) e ∙ step_itself J a) change,
  λ apart. off (is_taken t (parent_of s.form (opponent s) I)) refl apart change,
  base,
)
  where
    t : SetAction
    t = record { set = J; action = a }

    change : through_sets s (with_bound B I bound) J a ≡ through_sets s B J a +ℤ cond (is_taken t (parent_of s.form (opponent s) I)) (bound -ℤ B I) (pos 0)
    change = sum_changes (λ K. is_taken t (parent_of s.form (opponent s) K)) B (length (reply_sets s)) I bound l

    by : (b : Bool) → b ≡ true → through_sets s (with_bound B I bound) J a ≡ through_sets s B J a +ℤ cond b (bound -ℤ B I) (pos 0)
        → through s (with_bound B I bound) J a ≡ through s B J a +ℤ (bound -ℤ B I)
    by true e h = omega (arith, ints, h)
    by false e h = cc

    off : (b : Bool) → is_taken t (parent_of s.form (opponent s) I) ≡ b → (parent_of s.form (opponent s) I ≡ Some t → ⊥)
        → through_sets s (with_bound B I bound) J a ≡ through_sets s B J a +ℤ cond b (bound -ℤ B I) (pos 0) → through s (with_bound B I bound) J a ≡ through s B J a
    off true e apart h = absurd (apart (step_found J a (parent_of s.form (opponent s) I) e))
    off false e apart h = omega (arith, ints, h)

    none : (n : ℕ) (p : ℕ → Bool) → total_below n (kept_if p (λ K. pos 0)) ≡ pos 0
    none zero p = refl
    none (suc n) p = nothing (p n) (none n p)
      where
        nothing : (b : Bool) {x : ℤ} → x ≡ pos 0 → x +ℤ cond b (pos 0) (pos 0) ≡ pos 0
        nothing true e = omega (arith, ints, e)
        nothing false e = omega (arith, ints, e)

    base : through s (λ K. pos 0) J a ≡ through_rows s J a
    base = let z = none (length (reply_sets s)) (λ K. is_taken t (parent_of s.form (opponent s) K)) in omega (arith, ints, z)
