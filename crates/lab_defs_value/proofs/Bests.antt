-- Numbers that are backed up from the last set to the first are the most that a reply earns.
use Rattle.std.proofs.Common.{◌≡◌, ℕ, zero, suc, ◌+◌, ◌^◌, ◌<◌, ◌≤◌, ℤ, pos, ◌+ℤ◌, ◌*ℤ◌, ◌≤ℤ◌, List, Bool, true, false, cond, ◌&&◌, eqb, Option, Some, None, length, refl, sym, ap, ◌∙◌, subst, arith, eq-eqb, eqb-true, inl, inr, pow-suc}
use Rattle.std.proofs.lemmas.Int.{ints}
use Rattle.std.proofs.lemmas.Bool.{cases_lt, leb-false}
use Rattle.lab_math.specs.Sums.{total}
use Rattle.lab_math.specs.Below.{sum_below, total_below}
use Rattle.lab_math.proofs.Integers.{mul_add_z, mul_le_z, cancel_le_z, le_trans_z, le_of_eq_z, le_antisym_z, add_le_z}
use Rattle.lab_math.proofs.BelowLemmas.{sum_below_pick, total_below_cong, total_below_le, total_below_mul, total_below_scale, total_below_pick}
use Rattle.lab_defs_game.specs.Forms.{decides}
use Rattle.lab_defs_game.specs.Paths.{SetAction, is_taken}
use Rattle.lab_defs_value.specs.Parents.{IsStepBelow}
use Rattle.lab_defs_value.specs.Replies.{Reply, IsReply}
use Rattle.lab_defs_value.proofs.StepForms.{StepForm, Ending, actions_at, earned_back, AtMostDecisions, backed, IsStepForm, BackedUp, BestBack}
use Rattle.lab_defs_value.proofs.Tails.{full_weight}
use Rattle.lab_defs_value.proofs.Splits.{gain, earned_splits}

-- a set comes after the one that it follows
pub follows_after : (ns : List ℕ) (K I a : ℕ) (last : Option SetAction) → IsStepBelow ns K last → is_taken (record { set = I; action = a }) last ≡ true → I < K
follows_after ns K I a None h e = absurd (false_true e)
  where
    false_true : false ≡ true → ⊥
    false_true e = cc
follows_after ns K I a (Some s) h e = subst (λ J. J < K) (set_is (eqb s.set I) (eqb s.action a) refl e) h.0
  where
    set_is : (b c : Bool) → eqb s.set I ≡ b → (b && c) ≡ true → s.set ≡ I
    set_is true c p q = eqb-true s.set I p
    set_is false c p q = absurd (false_true q)
      where
        false_true : false ≡ true → ⊥
        false_true e = cc

-- the weights at a set sum to the reply's number, at a pass too
full_sum : (v : StepForm) (r : Reply) → IsReply v.actions r → (J : ℕ) → J < length v.actions → 1 ≤ actions_at v J → sum_below (actions_at v J) (full_weight v r J) ≡ r.all
full_sum v r h J l some = at (decides v.actions J) refl
  where
    one : (n N : ℕ) → n ≡ 1 → sum_below n (λ a. N) ≡ N
    one n N e = subst (λ k. sum_below k (λ a. N) ≡ N) (sym e) (omega arith)

    at : (b : Bool) → decides v.actions J ≡ b → sum_below (actions_at v J) (λ a. cond b (r.weight J a) r.all) ≡ r.all
    at true e = h.1 J l e
    at false e = one (actions_at v J) r.all (omega (arith, leb-false 2 (actions_at v J) e, some))

-- a factor goes out under a condition
cond_scale_z : (b : Bool) (c x : ℤ) → cond b (c *ℤ x) (pos 0) ≡ c *ℤ cond b x (pos 0)
cond_scale_z true c x = refl
cond_scale_z false c x = omega (arith, ints)

-- N to the m, times what is backed up
scaled_backed : (v : StepForm) (B : ℕ → ℤ) (c : ℤ) (J a : ℕ)
    → total_below (length v.actions) (λ K. cond (is_taken (record { set = J; action = a }) (v.parent K)) (c *ℤ B K) (pos 0)) +ℤ c *ℤ total (λ z. cond (is_taken (record { set = J; action = a }) z.last) z.worth (pos 0)) v.rows
    ≡ c *ℤ backed v B J a
scaled_backed v B c J a =
    ap (λ t. t +ℤ c *ℤ total (λ z. cond (is_taken (record { set = J; action = a }) z.last) z.worth (pos 0)) v.rows) (
    total_below_cong (length v.actions) _ (λ K. c *ℤ cond (is_taken (record { set = J; action = a }) (v.parent K)) (B K) (pos 0)) (λ K l. cond_scale_z (is_taken (record { set = J; action = a }) (v.parent K)) c (B K))
    ∙ total_below_mul (length v.actions) c (λ K. cond (is_taken (record { set = J; action = a }) (v.parent K)) (B K) (pos 0)))
    ∙ sym (mul_add_z c (total_below (length v.actions) (λ K. cond (is_taken (record { set = J; action = a }) (v.parent K)) (B K) (pos 0))) (total (λ z. cond (is_taken (record { set = J; action = a }) z.last) z.worth (pos 0)) v.rows))

-- no reply earns more than numbers that are at least what each action backs up
pub earned_le : (v : StepForm) → IsStepForm v → (m : ℕ) → AtMostDecisions v m → (r : Reply) → IsReply v.actions r → (B : ℕ → ℤ)
    → ((J a : ℕ) → J < length v.actions → a < actions_at v J → backed v B J a ≤ℤ B J)
    → (d I : ℕ) → I < length v.actions → length v.actions ≤ I + d → earned_back v m r I ≤ℤ (pos (r.all ^ m) *ℤ B I)
earned_le v ok m few r isr B high zero I l le = absurd (omega arith)
earned_le v ok m few r isr B high (suc d) I l le =
    let c = pos (r.all ^ m) in
    let n = length v.actions in
    let g = full_weight v r I in
    let later : (K a : ℕ) → K < n → (b : Bool) → is_taken (record { set = I; action = a }) (v.parent K) ≡ b → cond b (earned_back v m r K) (pos 0) ≤ℤ cond b (c *ℤ B K) (pos 0) = λ K a lt b.
    elim b as (λ b. is_taken (record { set = I; action = a }) (v.parent K) ≡ b → cond b (earned_back v m r K) (pos 0) ≤ℤ cond b (c *ℤ B K) (pos 0)) [
      | true ↦ λ e.
          let after : I < K = follows_after v.actions K I a (v.parent K) (ok.parents K lt) e in
          earned_le v ok m few r isr B high d K lt (omega arith)
      | false ↦ λ e. omega (arith, ints)
    ] in
    let by_action : (a : ℕ) → a < actions_at v I → (pos (g a) *ℤ gain v m r I a) ≤ℤ (pos (g a) *ℤ (c *ℤ B I)) = λ a lt.
    let ends = c *ℤ total (λ (z : Ending). cond (is_taken (record { set = I; action = a }) z.last) z.worth (pos 0)) v.rows in
    let sets_le = total_below_le n (λ K. cond (is_taken (record { set = I; action = a }) (v.parent K)) (earned_back v m r K) (pos 0)) (λ K. cond (is_taken (record { set = I; action = a }) (v.parent K)) (c *ℤ B K) (pos 0)) (λ K k. later K a k (is_taken (record { set = I; action = a }) (v.parent K)) refl) in
    let gain_le : gain v m r I a ≤ℤ (c *ℤ backed v B I a) =
    subst (λ t. gain v m r I a ≤ℤ t) (scaled_backed v B c I a) (add_le_z _ _ ends ends sets_le (le_of_eq_z ends ends refl)) in
    mul_le_z (g a) _ _ (le_trans_z _ _ _ gain_le (mul_le_z (r.all ^ m) _ _ (high I a l lt))) in
    let all_actions = total_below_le (actions_at v I) (λ a. pos (g a) *ℤ gain v m r I a) (λ a. pos (g a) *ℤ (c *ℤ B I)) by_action in
    cancel_le_z r.all (earned_back v m r I) (c *ℤ B I) isr.0
    (subst (λ t. t ≤ℤ (pos r.all *ℤ (c *ℤ B I))) (sym (earned_splits v ok m few r I))
    (subst (λ t. total_below (actions_at v I) (λ a. pos (g a) *ℤ gain v m r I a) ≤ℤ t) (total_below_scale (actions_at v I) g (c *ℤ B I) ∙ ap (λ k. pos k *ℤ (c *ℤ B I)) (full_sum v r isr I l (ok.some_action I l))) all_actions))

-- ---- the pure reply by actions that back up

-- at each set an action that backs up the number there
abbrev pub Choice : StepForm → (ℕ → ℤ) → (ℕ → ℕ) → Type 0
Choice v B choice = (J : ℕ) → J < length v.actions → (choice J < actions_at v J) × (backed v B J (choice J) ≡ B J)

-- the reply that always takes the chosen action
abbrev pub pure : (ℕ → ℕ) → Reply
pure choice = record { all = 1; weight = λ J a. cond (eqb (choice J) a) 1 0 }

-- it is a reply
pub pure-IsReply : (v : StepForm) (choice : ℕ → ℕ) → ((J : ℕ) → J < length v.actions → choice J < actions_at v J) → IsReply v.actions (pure choice)
pure-IsReply v choice h = (omega arith, λ J l e. sum_below_pick (actions_at v J) (choice J) (λ a. 1) (h J l))

-- a power of one
pub one_pow : (m : ℕ) → 1 ^ m ≡ 1
one_pow zero = refl
one_pow (suc m) = pow-suc 1 m ∙ omega (arith, one_pow m)

-- a pass takes its only action
pure_weight : (v : StepForm) (choice : ℕ → ℕ) (J a : ℕ) → choice J < actions_at v J → a < actions_at v J → full_weight v (pure choice) J a ≡ cond (eqb (choice J) a) 1 0
pure_weight v choice J a l k = at (decides v.actions J) refl
  where
    at : (b : Bool) → decides v.actions J ≡ b → cond b (cond (eqb (choice J) a) (suc zero) zero) (suc zero) ≡ cond (eqb (choice J) a) (suc zero) zero
    at true e = refl
    at false e = sym (ap (λ b. cond b (suc zero) zero) (eq-eqb (choice J) a (omega (arith, leb-false 2 (actions_at v J) e))))

-- it earns the numbers that its actions back up
pub pure_earns : (v : StepForm) → IsStepForm v → (m : ℕ) → AtMostDecisions v m → (B : ℕ → ℤ) (choice : ℕ → ℕ) → Choice v B choice
    → (d I : ℕ) → I < length v.actions → length v.actions ≤ I + d → earned_back v m (pure choice) I ≡ B I
pure_earns v ok m few B choice h zero I l le = absurd (omega arith)
pure_earns v ok m few B choice h (suc d) I l le =
    let r = pure choice in
    let n = length v.actions in
    let g = full_weight v r I in
    let later : (K a : ℕ) → K < n → (b : Bool) → is_taken (record { set = I; action = a }) (v.parent K) ≡ b → cond b (earned_back v m r K) (pos 0) ≡ cond b (B K) (pos 0) = λ K a lt b.
    elim b as (λ b. is_taken (record { set = I; action = a }) (v.parent K) ≡ b → cond b (earned_back v m r K) (pos 0) ≡ cond b (B K) (pos 0)) [
      | true ↦ λ e.
          let after : I < K = follows_after v.actions K I a (v.parent K) (ok.parents K lt) e in
          pure_earns v ok m few B choice h d K lt (omega arith)
      | false ↦ λ e. refl
    ] in
    let gain_is : (a : ℕ) → gain v m r I a ≡ backed v B I a = λ a.
    let ends = total (λ (z : Ending). cond (is_taken (record { set = I; action = a }) z.last) z.worth (pos 0)) v.rows in
    ap (λ t. t +ℤ pos (1 ^ m) *ℤ ends) (total_below_cong n _ (λ K. cond (is_taken (record { set = I; action = a }) (v.parent K)) (B K) (pos 0)) (λ K k. later K a k (is_taken (record { set = I; action = a }) (v.parent K)) refl))
    ∙ ap (λ t. total_below n (λ K. cond (is_taken (record { set = I; action = a }) (v.parent K)) (B K) (pos 0)) +ℤ t) (ap (λ k. pos k *ℤ ends) (one_pow m) ∙ omega (arith, ints)) in
    let choice_in = (h I l).0 in
    let split = earned_splits v ok m few r I in
    let terms : total_below (actions_at v I) (λ a. pos (g a) *ℤ gain v m r I a) ≡ total_below (actions_at v I) (λ a. pos (cond (eqb (choice I) a) 1 0) *ℤ backed v B I a) =
    total_below_cong (actions_at v I) _ _ (λ a lt. ap (λ k. pos k *ℤ gain v m r I a) (pure_weight v choice I a choice_in lt) ∙ ap (λ t. pos (cond (eqb (choice I) a) 1 0) *ℤ t) (gain_is a)) in
    let once : earned_back v m r I ≡ pos 1 *ℤ earned_back v m r I = omega (arith, ints) in
    once ∙ split ∙ terms ∙ total_below_pick (actions_at v I) (choice I) (backed v B I) choice_in ∙ (h I l).1

-- ---- the theorem

-- such an action at a set, 0 where there is no set
pub choose : (v : StepForm) (B : ℕ → ℤ) → BackedUp v B → (J : ℕ) → (a : ℕ) × (J < length v.actions → (a < actions_at v J) × (backed v B J a ≡ B J))
choose v B b J = elim (cases_lt J (length v.actions)) [
  | inl l ↦ ((b.taken J l).0, λ k. ((b.taken J l).1, (b.taken J l).2))
  | inr ge ↦ (0, λ k. absurd (omega arith))
]

-- numbers that are backed up are the most that replies earn
pub backed_up-BestBack : (v : StepForm) → IsStepForm v → (m : ℕ) → AtMostDecisions v m → (B : ℕ → ℤ) → BackedUp v B → (I : ℕ) → I < length v.actions → BestBack v m I (B I)
backed_up-BestBack v ok m few B b I l =
    let choice = λ (J : ℕ). (choose v B b J).0 in
    let good : Choice v B choice = λ J k. (choose v B b J).1 k in
    record {
      bounds = λ r h. earned_le v ok m few r h B b.bounds (length v.actions) I l (omega arith);
      earns = (pure choice, pure-IsReply v choice (λ J k. (good J k).0), refl, pure_earns v ok m few B choice good (length v.actions) I l (omega arith));
    }

-- no two numbers are the best
pub BestBack-unique : (v : StepForm) (m I : ℕ) (b c : ℤ) → BestBack v m I b → BestBack v m I c → b ≡ c
BestBack-unique v m I b c p q = le_antisym_z b c (below b c p q) (below c b q p)
  where
    below : (b c : ℤ) → BestBack v m I b → BestBack v m I c → b ≤ℤ c
    below b c p q =
        let r = p.earns.0 in
        let le = q.bounds r p.earns.1 in
        subst (λ t. t ≤ℤ c) p.earns.3 (subst (λ t. earned_back v m r I ≤ℤ t) (ap (λ k. pos (k ^ m) *ℤ c) p.earns.2 ∙ ap (λ k. pos k *ℤ c) (one_pow m) ∙ omega (arith, ints)) le)
