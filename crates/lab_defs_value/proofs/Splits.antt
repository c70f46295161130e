-- What a reply earns through a set, split by the action taken there.
use Rattle.std.proofs.Common.{◌≡◌, ℕ, zero, suc, ◌+◌, ◌*◌, ◌-◌, ◌^◌, ◌≤◌, ℤ, pos, ◌+ℤ◌, ◌*ℤ◌, List, Bool, true, false, cond, Option, Some, None, length, refl, sym, ap, ◌∙◌, arith}
use Rattle.std.specs.List.{All}
use Rattle.std.proofs.lemmas.Int.{ints}
use Rattle.lab_math.specs.Sums.{total}
use Rattle.lab_math.specs.Below.{sum_below, total_below}
use Rattle.lab_math.proofs.BelowLemmas.{sum_below_cong, sum_below_mul, total_below_cong}
use Rattle.lab_math.proofs.Totals.{total_cong_all, total_filter, weighed, weighed_scale, weighed_add, weighed_sum, weighed_cond, weighed_test}
use Rattle.lab_defs_game.specs.Forms.{deciding}
use Rattle.lab_defs_game.specs.Paths.{SetAction, is_taken}
use Rattle.lab_defs_value.specs.Parents.{passes_through, IsStepBelow}
use Rattle.lab_defs_value.specs.Replies.{Reply}
use Rattle.lab_defs_value.proofs.StepForms.{StepForm, Ending, actions_at, steps_back, trail, tail_back, earned_back, AtMostDecisions, IsStepForm}
use Rattle.lab_defs_value.proofs.Tails.{mass, mass_splits, IsTrail, tail_is, full_weight, next_mass, pow_join}

-- ---- the trail of a row

-- the steps back from a step that is there are a trail
pub steps_back_is : (v : StepForm) → IsStepForm v → (k j : ℕ) (last : Option SetAction) → j ≤ k → j ≤ length v.actions → IsStepBelow v.actions j last → IsTrail v j last (steps_back v k last)
steps_back_is v ok zero j None le le' h = refl
steps_back_is v ok zero j (Some s) le le' h = absurd (omega (arith, h.0))
steps_back_is v ok (suc k) j None le le' h = refl
steps_back_is v ok (suc k) j (Some s) le le' h =
    (refl, h.0, h.1, steps_back_is v ok k s.set (v.parent s.set) (omega (arith, h.0)) (omega (arith, h.0)) (ok.parents s.set (omega (arith, h.0))))

-- the steps of a row are a trail
pub trail_is : (v : StepForm) → IsStepForm v → (z : Ending) → IsStepBelow v.actions (length v.actions) z.last → IsTrail v (length v.actions) z.last (trail v z)
trail_is v ok z h = steps_back_is v ok (length v.actions) (length v.actions) z.last (omega arith) (omega arith) h

-- what of a row counts at a set: its tail, 0 where it does not pass through the set
abbrev pub share : StepForm → ℕ → Reply → ℕ → Ending → ℕ
share v m r I z = mass v r I (trail v z) * r.all ^ (m - deciding v.actions (trail v z))

-- a row ends with a step that is there, and has at most m decisions
abbrev pub IsEnding : StepForm → ℕ → Ending → Type 0
IsEnding v m z = IsStepBelow v.actions (length v.actions) z.last × (deciding v.actions (trail v z) ≤ m)

-- two properties of each element
pub all_both : {X : Type 0} (P Q : X → Type 0) (xs : List X) → All P xs → All Q xs → All (λ x. P x × Q x) xs
all_both P Q xs p q = λ k d l. (p k d l, q k d l)

-- what a reply earns is the sum of the rows, each counted by its share
pub earned_is : (v : StepForm) → IsStepForm v → (m : ℕ) → AtMostDecisions v m → (r : Reply) (I : ℕ) → earned_back v m r I ≡ weighed (λ (z : Ending). z.worth) (share v m r I) v.rows
earned_is v ok m few r I =
    total_filter (λ z. passes_through I (trail v z)) (λ z. z.worth *ℤ pos (tail_back v m r I (trail v z))) v.rows
    ∙ total_cong_all (IsEnding v m) _ (λ z. z.worth *ℤ pos (share v m r I z)) v.rows (all_both (λ z. IsStepBelow v.actions (length v.actions) z.last) (λ z. deciding v.actions (trail v z) ≤ m) v.rows ok.lasts few)
    (λ z h. inside (passes_through I (trail v z)) z.worth (tail_back v m r I (trail v z)) ∙ ap (λ t. z.worth *ℤ pos t) (tail_is v m r I (length v.actions) z.last (trail v z) (trail_is v ok z h.0) h.1))
  where
    inside : (b : Bool) (w : ℤ) (t : ℕ) → cond b (w *ℤ pos t) (pos 0) ≡ w *ℤ pos (cond b t 0)
    inside true w t = refl
    inside false w t = omega (arith, ints)

-- what follows I by the action a, on one row
abbrev pub next_share : StepForm → ℕ → Reply → ℕ → ℕ → Ending → ℕ
next_share v m r I a z =
    sum_below (length v.actions) (λ K. cond (is_taken (record { set = I; action = a }) (v.parent K)) (share v m r K z) 0) + cond (is_taken (record { set = I; action = a }) z.last) (r.all ^ m) 0

-- a share, times the reply's number, is that of what follows, by the weight of the action between
pub share_splits : (v : StepForm) → IsStepForm v → (m : ℕ) (r : Reply) (I : ℕ) (z : Ending) → IsEnding v m z
    → r.all * share v m r I z ≡ sum_below (actions_at v I) (λ a. full_weight v r I a * next_share v m r I a z)
share_splits v ok m r I z h =
    let N = r.all in
    let t = trail v z in
    let d : ℕ = deciding v.actions t in
    let pad : ℕ = N ^ (m - d) in
    let whole : N ^ d * pad ≡ N ^ m = pow_join N d (m - d) m (omega (arith, h.1)) in
    let split = mass_splits v r I (length v.actions) z.last t (omega arith) (trail_is v ok z h.0) in
    let g = full_weight v r I in
    let front : N * (mass v r I t * pad) ≡ pad * (N * mass v r I t) = omega arith in
    let each : (a : ℕ) → pad * (g a * next_mass v r I z.last t a) ≡ g a * next_share v m r I a z = λ a.
    let inner : sum_below (length v.actions) (λ K. cond (is_taken (record { set = I; action = a }) (v.parent K)) (mass v r K t * pad) 0) ≡ pad * sum_below (length v.actions) (λ K. cond (is_taken (record { set = I; action = a }) (v.parent K)) (mass v r K t) 0) =
    sum_below_cong (length v.actions) _ (λ K. pad * cond (is_taken (record { set = I; action = a }) (v.parent K)) (mass v r K t) 0) (λ K l. cond_scale (is_taken (record { set = I; action = a }) (v.parent K)) (mass v r K t) pad)
    ∙ sum_below_mul (length v.actions) pad (λ K. cond (is_taken (record { set = I; action = a }) (v.parent K)) (mass v r K t) 0) in
    regroup (is_taken (record { set = I; action = a }) z.last) pad (g a) (sum_below (length v.actions) (λ K. cond (is_taken (record { set = I; action = a }) (v.parent K)) (mass v r K t) 0)) (sum_below (length v.actions) (λ K. cond (is_taken (record { set = I; action = a }) (v.parent K)) (mass v r K t * pad) 0)) (N ^ d) (N ^ m) inner whole in
    front ∙ ap (λ x. pad * x) split
    ∙ sym (sum_below_mul (actions_at v I) pad (λ a. g a * next_mass v r I z.last t a))
    ∙ sum_below_cong (actions_at v I) _ (λ a. g a * next_share v m r I a z) (λ a l. each a)
  where
    cond_scale : (b : Bool) (x c : ℕ) → cond b (x * c) 0 ≡ c * cond b x 0
    cond_scale true x c = omega arith
    cond_scale false x c = omega arith

    regroup : (b : Bool) (pad g s s' e E : ℕ) → s' ≡ pad * s → e * pad ≡ E → pad * (g * (s + cond b e 0)) ≡ g * (s' + cond b E 0)
    regroup true pad g s s' e E p q = rw (p, ← q) (omega arith)
    regroup false pad g s s' e E p q = rw p (omega arith)

-- what the reply earns once it has taken the action a at I
abbrev pub gain : StepForm → ℕ → Reply → ℕ → ℕ → ℤ
gain v m r I a =
    total_below (length v.actions) (λ K. cond (is_taken (record { set = I; action = a }) (v.parent K)) (earned_back v m r K) (pos 0))
    +ℤ pos (r.all ^ m) *ℤ total (λ (z : Ending). cond (is_taken (record { set = I; action = a }) z.last) z.worth (pos 0)) v.rows

-- what a reply earns at I, times its number, is what it earns after each action, by the action's weight
pub earned_splits : (v : StepForm) → IsStepForm v → (m : ℕ) → AtMostDecisions v m → (r : Reply) (I : ℕ)
    → pos r.all *ℤ earned_back v m r I ≡ total_below (actions_at v I) (λ a. pos (full_weight v r I a) *ℤ gain v m r I a)
earned_splits v ok m few r I =
    let w = λ (z : Ending). z.worth in
    let g = full_weight v r I in
    let n = length v.actions in
    let one : (a : ℕ) → weighed w (λ z. g a * next_share v m r I a z) v.rows ≡ pos (g a) *ℤ gain v m r I a = λ a.
    weighed_scale w (g a) (next_share v m r I a) v.rows
    ∙ ap (λ t. pos (g a) *ℤ t) (
    weighed_add w (λ z. sum_below n (λ K. cond (is_taken (record { set = I; action = a }) (v.parent K)) (share v m r K z) 0)) (λ z. cond (is_taken (record { set = I; action = a }) z.last) (r.all ^ m) 0) v.rows
    ∙ ap (λ t. t +ℤ weighed w (λ z. cond (is_taken (record { set = I; action = a }) z.last) (r.all ^ m) 0) v.rows) (
    weighed_sum w n (λ K z. cond (is_taken (record { set = I; action = a }) (v.parent K)) (share v m r K z) 0) v.rows
    ∙ total_below_cong n _ (λ K. cond (is_taken (record { set = I; action = a }) (v.parent K)) (earned_back v m r K) (pos 0)) (λ K l.
    weighed_cond w (is_taken (record { set = I; action = a }) (v.parent K)) (share v m r K) v.rows
    ∙ ap (λ t. cond (is_taken (record { set = I; action = a }) (v.parent K)) t (pos 0)) (sym (earned_is v ok m few r K))))
    ∙ ap (λ t. total_below n (λ K. cond (is_taken (record { set = I; action = a }) (v.parent K)) (earned_back v m r K) (pos 0)) +ℤ t) (weighed_test w (λ z. is_taken (record { set = I; action = a }) z.last) (r.all ^ m) v.rows)) in
    ap (λ t. pos r.all *ℤ t) (earned_is v ok m few r I)
    ∙ sym (weighed_scale w r.all (share v m r I) v.rows)
    ∙ total_cong_all (IsEnding v m) _ (λ z. w z *ℤ pos (sum_below (actions_at v I) (λ a. g a * next_share v m r I a z))) v.rows
    (all_both (λ z. IsStepBelow v.actions (length v.actions) z.last) (λ z. deciding v.actions (trail v z) ≤ m) v.rows ok.lasts few)
    (λ z h. ap (λ t. w z *ℤ pos t) (share_splits v ok m r I z h))
    ∙ weighed_sum w (actions_at v I) (λ a z. g a * next_share v m r I a z) v.rows
    ∙ total_below_cong (actions_at v I) _ (λ a. pos (g a) *ℤ gain v m r I a) (λ a l. one a)
