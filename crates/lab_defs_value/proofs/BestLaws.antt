-- Best values: at most one, and the backed-up numbers.
use Rattle.std.proofs.Common.{◌≡◌, ℕ, ◌^◌, ◌<◌, ℤ, pos, ◌*ℤ◌, ◌≤ℤ◌, length, sym, ap, ◌∙◌, subst, arith, inl, inr, ◌⊎◌}
use Rattle.lab_math.proofs.Integers.{one_mul_z, le_antisym_z}
use Rattle.lab_defs_value.specs.Parents.{IsForm}
use Rattle.lab_defs_value.specs.Replies.{Strategy, Reply, IsReply, opponent, reply_sets, reply_factors, earned}
use Rattle.lab_defs_value.specs.BestValues.{IsBest}
use Rattle.lab_defs_value.specs.Bounds.{Holds, IsBackedUp, IsBackedAt, Tight}
use Rattle.lab_defs_value.specs.Laws.{UniqueBestLaw, BackedUpLaw, SettleLaw, HoldsLaw}
use Rattle.lab_defs_value.proofs.StepForms.{BackedUp, BackedAt, BestBack}
use Rattle.lab_defs_value.proofs.Bests.{earned_le, backed_up-BestBack, one_pow}
use Rattle.lab_defs_value.proofs.Existence.{backed_up_exists, bests-BackedUp, settles}
use Rattle.lab_defs_value.proofs.WholePaths.{step_form_of, step_form_is, step_form_decisions, earned_same, through_same}

-- a best-response value is at most another
best_le : (s : Strategy) (I : ℕ) (b c : ℤ) → IsBest s I b → IsBest s I c → b ≤ℤ c
best_le s I b c p q =
    let r = p.earns.0 in
    let m = reply_factors s in
    let one : pos (r.all ^ m) *ℤ c ≡ c = ap (λ k. pos (k ^ m) *ℤ c) p.earns.2 ∙ ap (λ k. pos k *ℤ c) (one_pow m) ∙ one_mul_z c in
    subst (λ t. t ≤ℤ c) p.earns.3 (subst (λ t. earned s r I ≤ℤ t) one (q.bounds r p.earns.1))

-- there is at most one
pub best_unique : (s : Strategy) (I : ℕ) (b c : ℤ) → IsBest s I b → IsBest s I c → b ≡ c
best_unique s I b c p q = le_antisym_z b c (best_le s I b c p q) (best_le s I c b q p)

-- a best of the step form is a best
pub best_from_steps : (s : Strategy) → IsForm s.form (opponent s) → (I : ℕ) (b : ℤ) → BestBack (step_form_of s) (reply_factors s) I b → IsBest s I b
best_from_steps s ok I b h = record {
  bounds = λ r k. subst (λ t. t ≤ℤ (pos (r.all ^ reply_factors s) *ℤ b)) (earned_same s ok r I) (h.bounds r k);
  earns = (h.earns.0, h.earns.1, h.earns.2, sym (earned_same s ok h.earns.0 I) ∙ h.earns.3);
}

-- and the other way round
pub best_to_steps : (s : Strategy) → IsForm s.form (opponent s) → (I : ℕ) (b : ℤ) → IsBest s I b → BestBack (step_form_of s) (reply_factors s) I b
best_to_steps s ok I b h = record {
  bounds = λ r k. subst (λ t. t ≤ℤ (pos (r.all ^ reply_factors s) *ℤ b)) (sym (earned_same s ok r I)) (h.bounds r k);
  earns = (h.earns.0, h.earns.1, h.earns.2, earned_same s ok h.earns.0 I ∙ h.earns.3);
}

-- a table that is backed up is so in the step form
pub backed_to_steps : (s : Strategy) (B : ℕ → ℤ) → IsBackedUp s B → BackedUp (step_form_of s) B
backed_to_steps s B h = record {
  bounds = λ J a l k. subst (λ t. t ≤ℤ B J) (sym (through_same s B J a)) (h.bounds J a l k);
  taken = λ J l. let t = h.taken J l in (t.0, t.1, through_same s B J t.0 ∙ t.2);
}

-- and the other way round
pub backed_from_steps : (s : Strategy) (B : ℕ → ℤ) → BackedUp (step_form_of s) B → IsBackedUp s B
backed_from_steps s B h = record {
  bounds = λ J a l k. subst (λ t. t ≤ℤ B J) (through_same s B J a) (h.bounds J a l k);
  taken = λ J l. let t = h.taken J l in (t.0, t.1, sym (through_same s B J t.0) ∙ t.2);
}

-- numbers that are backed up are the best-response values
pub backed_up_tight : (s : Strategy) → IsForm s.form (opponent s) → (B : ℕ → ℤ) → IsBackedUp s B → Tight s B
backed_up_tight s ok B h I l =
    best_from_steps s ok I (B I) (backed_up-BestBack (step_form_of s) (step_form_is s ok) (reply_factors s) (step_form_decisions s ok) B (backed_to_steps s B h) I l)

-- there is a table that is backed up
pub backed_up_table : (s : Strategy) → IsForm s.form (opponent s) → (B : ℕ → ℤ) × IsBackedUp s B
backed_up_table s ok = let t = backed_up_exists (step_form_of s) (step_form_is s ok) in (t.0, backed_from_steps s t.0 t.1)

-- best-response values are backed up
pub tight_backed_up : (s : Strategy) → IsForm s.form (opponent s) → (B : ℕ → ℤ) → Tight s B → IsBackedUp s B
tight_backed_up s ok B h =
    backed_from_steps s B (bests-BackedUp (step_form_of s) (step_form_is s ok) (reply_factors s) (step_form_decisions s ok) B (λ J l. best_to_steps s ok J (B J) (h J l)))

-- where a table holds, no reply earns more
pub holds_bounds : (s : Strategy) → IsForm s.form (opponent s) → (B : ℕ → ℤ) → Holds s B → (r : Reply) → IsReply (reply_sets s) r → (I : ℕ) → I < length (reply_sets s)
    → earned s r I ≤ℤ (pos (r.all ^ reply_factors s) *ℤ B I)
holds_bounds s ok B h r k I l =
    subst (λ t. t ≤ℤ (pos (r.all ^ reply_factors s) *ℤ B I)) (earned_same s ok r I)
    (earned_le (step_form_of s) (step_form_is s ok) (reply_factors s) (step_form_decisions s ok) r k B (λ J a lt k. subst (λ t. t ≤ℤ B J) (sym (through_same s B J a)) (h J a lt k)) (length (reply_sets s)) I l (omega arith))

-- the law of unique best-response values
pub unique_best_law : UniqueBestLaw
unique_best_law = best_unique

-- the law of tables that are backed up
pub backed_up_law : BackedUpLaw
backed_up_law s ok B = (backed_up_tight s ok B, tight_backed_up s ok B)

-- the law of tables that hold
pub holds_law : HoldsLaw
holds_law = holds_bounds

-- the law of settling
pub settle_law : SettleLaw
settle_law s ok B each I l =
    best_from_steps s ok I (B I) (settles (step_form_of s) (step_form_is s ok) (reply_factors s) (step_form_decisions s ok) B (λ J k. at J (each J k)) I l)
  where
    at : (J : ℕ) → IsBest s J (B J) ⊎ IsBackedAt s B J → BestBack (step_form_of s) (reply_factors s) J (B J) ⊎ BackedAt (step_form_of s) B J
    at J (inl b) = inl (best_to_steps s ok J (B J) b)
    at J (inr h) =
        inr (record {
          bounds = λ a k. subst (λ t. t ≤ℤ B J) (sym (through_same s B J a)) (h.bounds a k);
          taken = (h.taken.0, h.taken.1, through_same s B J h.taken.0 ∙ h.taken.2);
        })
