-- A table of backed-up numbers exists, and there is only one.
use Rattle.std.proofs.Common.{◌≡◌, ℕ, zero, suc, ◌+◌, ◌-◌, ◌<◌, ◌≤◌, ℤ, pos, ◌+ℤ◌, ◌≤ℤ◌, Bool, true, false, cond, eqb, length, refl, sym, ap, ◌∙◌, subst, arith, inl, inr, ◌⊎◌}
use Rattle.std.proofs.lemmas.Bool.{cases_eq, cases_lt}
use Rattle.lab_math.specs.Sums.{total}
use Rattle.lab_math.proofs.Integers.{le_antisym_z}
use Rattle.lab_math.proofs.BelowLemmas.{eqb_self, eqb_apart, total_below_cong}
use Rattle.lab_math.proofs.Elements.{greatest_below}
use Rattle.lab_defs_game.specs.Paths.{is_taken}
use Rattle.lab_defs_value.proofs.StepForms.{StepForm, Ending, actions_at, AtMostDecisions, backed, IsStepForm, BackedUp, BackedAt, BestBack}
use Rattle.lab_defs_value.proofs.Bests.{follows_after, backed_up-BestBack, BestBack-unique}

-- what an action backs up depends on the sets after it alone
pub backed_cong : (v : StepForm) → IsStepForm v → (B C : ℕ → ℤ) (J a : ℕ) → ((K : ℕ) → J < K → K < length v.actions → B K ≡ C K) → backed v B J a ≡ backed v C J a
backed_cong v ok B C J a same =
    ap (λ t. t +ℤ total (λ (z : Ending). cond (is_taken (record { set = J; action = a }) z.last) z.worth (pos 0)) v.rows)
    (total_below_cong (length v.actions) _ _ (λ K l. at K l (is_taken (record { set = J; action = a }) (v.parent K)) refl))
  where
    at : (K : ℕ) → K < length v.actions → (b : Bool) → is_taken (record { set = J; action = a }) (v.parent K) ≡ b → cond b (B K) (pos 0) ≡ cond b (C K) (pos 0)
    at K l true e = same K (follows_after v.actions K J a (v.parent K) (ok.parents K l) e) l
    at K l false e = refl

-- a table that is backed up at each set is backed up
pub all-BackedUp : (v : StepForm) (B : ℕ → ℤ) → ((J : ℕ) → J < length v.actions → BackedAt v B J) → BackedUp v B
all-BackedUp v B h = record { bounds = λ J a l k. (h J l).bounds a k; taken = λ J l. (h J l).taken }

-- being backed up at a set looks at that set and those after it alone
pub BackedAt-cong : (v : StepForm) → IsStepForm v → (B C : ℕ → ℤ) (J : ℕ) → B J ≡ C J → ((K : ℕ) → J < K → K < length v.actions → B K ≡ C K) → BackedAt v B J → BackedAt v C J
BackedAt-cong v ok B C J here same h = record {
  bounds = λ a l. subst (λ t. t ≤ℤ C J) (backed_cong v ok B C J a same) (subst (λ t. backed v B J a ≤ℤ t) here (h.bounds a l));
  taken = (h.taken.0, h.taken.1, sym (backed_cong v ok B C J h.taken.0 same) ∙ h.taken.2 ∙ here);
}

-- the table, from the last d sets
table_from : (v : StepForm) → IsStepForm v → (d : ℕ) → (B : ℕ → ℤ) × ((J : ℕ) → J < length v.actions → length v.actions ≤ J + d → BackedAt v B J)
table_from v ok zero = (λ J. pos 0, λ J l le. absurd (omega arith))
table_from v ok (suc d) = more (table_from v ok d) (cases_lt d (length v.actions))
  where
    more : (B : ℕ → ℤ) × ((J : ℕ) → J < length v.actions → length v.actions ≤ J + d → BackedAt v B J) → (d < length v.actions) ⊎ (length v.actions ≤ d)
        → (B : ℕ → ℤ) × ((J : ℕ) → J < length v.actions → length v.actions ≤ J + suc d → BackedAt v B J)
    more (B, h) (inr ge) = (B, λ J l le. h J l (omega arith))
    more (B, h) (inl lt) =
        let I : ℕ = length v.actions - suc d in
        let g = greatest_below (actions_at v I - 1) (backed v B I) in
        let some = ok.some_action I (omega arith) in
        let C : ℕ → ℤ = λ J. cond (eqb J I) (backed v B I g.0) (B J) in
        let after : (K : ℕ) → I < K → B K ≡ C K = λ K l. sym (ap (λ b. cond b (backed v B I g.0) (B K)) (eqb_apart K I (λ e. omega arith))) in
        let here : C I ≡ backed v B I g.0 = ap (λ b. cond b (backed v B I g.0) (B I)) (eqb_self I) in
        let same : (a : ℕ) → backed v B I a ≡ backed v C I a = λ a. backed_cong v ok B C I a (λ K l k. after K l) in
        let top : BackedAt v C I = record {
          bounds = λ a l. subst (λ t. t ≤ℤ C I) (same a) (subst (λ t. backed v B I a ≤ℤ t) (sym here) (g.2 a (omega arith)));
          taken = (g.0, omega (arith, g.1), sym (same g.0) ∙ sym here);
        } in (
          C,
          λ J l le. elim (cases_eq J I) [
            | inl e ↦ subst (λ K. BackedAt v C K) (sym e) top
            | inr ne ↦ BackedAt-cong v ok B C J (after J (omega arith)) (λ K k l. after K (omega arith)) (h J l (omega arith))
          ],
        )

-- a table that is backed up
pub backed_up_exists : (v : StepForm) → IsStepForm v → (B : ℕ → ℤ) × BackedUp v B
backed_up_exists v ok =
    let t = table_from v ok (length v.actions) in
    (t.0, all-BackedUp v t.0 (λ J l. t.1 J l (omega arith)))

-- a table of numbers that are the most that replies earn is backed up
pub bests-BackedUp : (v : StepForm) → IsStepForm v → (m : ℕ) → AtMostDecisions v m → (B : ℕ → ℤ) → ((J : ℕ) → J < length v.actions → BestBack v m J (B J)) → BackedUp v B
bests-BackedUp v ok m few B best =
    let t = backed_up_exists v ok in
    let T = t.0 in
    let up = backed_up-BestBack v ok m few T t.1 in
    let same : (J : ℕ) → J < length v.actions → T J ≡ B J = λ J l. BestBack-unique v m J (T J) (B J) (up J l) (best J l) in
    all-BackedUp v B (λ J l. BackedAt-cong v ok T B J (same J l) (λ K k n. same K n) (record { bounds = λ a k. t.1.bounds J a l k; taken = t.1.taken J l }))

-- ---- settling

-- a table is the bests once each number in it is a best, or is backed up from the numbers after it
pub settles : (v : StepForm) → IsStepForm v → (m : ℕ) → AtMostDecisions v m → (B : ℕ → ℤ)
    → ((J : ℕ) → J < length v.actions → BestBack v m J (B J) ⊎ BackedAt v B J)
    → (J : ℕ) → J < length v.actions → BestBack v m J (B J)
settles v ok m few B each J l =
    let t = backed_up_exists v ok in
    let best = backed_up-BestBack v ok m few t.0 t.1 in
    subst (λ b. BestBack v m J b) (sym (same t.0 t.1 (length v.actions) J l (omega arith))) (best J l)
  where
    equal : (T : ℕ → ℤ) → BackedUp v T → (J : ℕ) → J < length v.actions → ((K : ℕ) → J < K → K < length v.actions → B K ≡ T K) → BestBack v m J (B J) ⊎ BackedAt v B J → B J ≡ T J
    equal T up J l later (inl b) = BestBack-unique v m J (B J) (T J) b (backed_up-BestBack v ok m few T up J l)
    equal T up J l later (inr h) =
        let a = h.taken in
        let c = up.taken J l in
        le_antisym_z (B J) (T J)
        (subst (λ t. t ≤ℤ T J) (sym (backed_cong v ok B T J a.0 later) ∙ a.2) (up.bounds J a.0 l a.1))
        (subst (λ t. t ≤ℤ B J) (backed_cong v ok B T J c.0 later ∙ c.2) (h.bounds c.0 c.1))

    same : (T : ℕ → ℤ) → BackedUp v T → (d J : ℕ) → J < length v.actions → length v.actions ≤ J + d → B J ≡ T J
    same T up zero J l le = absurd (omega arith)
    same T up (suc d) J l le = equal T up J l (λ K k kl. same T up d K kl (omega arith)) (each J l)
