-- The weight of a reply from a set on, split by the action taken there.
use Rattle.std.proofs.Common.{◌≡◌, ℕ, ◌+◌, ◌*◌, ◌-◌, ◌^◌, ◌<◌, ◌≤◌, List, [], ◌∷◌, Bool, true, false, cond, ◌&&◌, ◌||◌, eqb, Option, Some, None, length, refl, sym, ap, ◌∙◌, subst, arith, eq-eqb, pow-add, inl, inr, zero-add, pow-suc, one-add, mul_comm}
use Rattle.std.proofs.lemmas.Bool.{cases_eq}
use Rattle.lab_math.specs.Sums.{product_over}
use Rattle.lab_math.specs.Below.{sum_below}
use Rattle.lab_math.proofs.BelowLemmas.{eqb_apart, sum_below_cong, sum_below_add, sum_below_mul, sum_below_zero, sum_below_pick, sum_below_one_more}
use Rattle.lab_defs_game.specs.Forms.{decides, deciding}
use Rattle.lab_defs_game.specs.Paths.{SetAction, is_taken}
use Rattle.lab_defs_value.specs.Parents.{passes_through}
use Rattle.lab_defs_value.specs.Replies.{Reply, reply_factor}
use Rattle.lab_defs_value.proofs.StepForms.{StepForm, actions_at, from_set, tail_back}

-- the weight of an action, where a pass has the reply's number for its only one
abbrev pub full_weight : StepForm → Reply → ℕ → ℕ → ℕ
full_weight v r J a = cond (decides v.actions J) (r.weight J a) r.all

-- the weights from the set K on, with the reply's number for each decision before
abbrev pub mass : StepForm → Reply → ℕ → List SetAction → ℕ
mass v r K [] = 0
mass v r K (s ∷ t) = reply_factor v.actions r s * (mass v r K t + cond (eqb s.set K) (r.all ^ deciding v.actions t) 0)

-- the list is the steps back from `last`, at sets below k, each lower than the one before it in the list
abbrev pub IsTrail : StepForm → ℕ → Option SetAction → List SetAction → Type 0
IsTrail v k last [] = last ≡ None
IsTrail v k last (s ∷ t) = (last ≡ Some s) × (s.set < k) × (s.action < actions_at v s.set) × IsTrail v s.set (v.parent s.set) t

-- what follows I by one of its actions, on one trail
abbrev pub next_mass : StepForm → Reply → ℕ → Option SetAction → List SetAction → ℕ → ℕ
next_mass v r I last t a =
    sum_below (length v.actions) (λ K. cond (is_taken (record { set = I; action = a }) (v.parent K)) (mass v r K t) 0)
    + cond (is_taken (record { set = I; action = a }) last) (r.all ^ deciding v.actions t) 0

-- a condition between equals
pub cond_same : (b : Bool) (x : ℕ) → cond b x x ≡ x
cond_same true x = refl
cond_same false x = refl

-- nothing follows on a row without steps
nil_mass : (v : StepForm) (r : Reply) (I : ℕ) (last : Option SetAction) → last ≡ None → (a : ℕ) → full_weight v r I a * next_mass v r I last [] a ≡ 0
nil_mass v r I last e a =
    let inner : sum_below (length v.actions) (λ K. cond (is_taken (record { set = I; action = a }) (v.parent K)) (mass v r K []) 0) ≡ 0 =
    sum_below_cong (length v.actions) _ (λ K. 0) (λ K l. cond_same (is_taken (record { set = I; action = a }) (v.parent K)) 0) ∙ sum_below_zero (length v.actions) in
    let end : cond (is_taken (record { set = I; action = a }) last) (r.all ^ 0) 0 ≡ 0 = ap (λ l. cond (is_taken (record { set = I; action = a }) l) (r.all ^ 0) 0) e in
    let both : next_mass v r I last [] a ≡ 0 = ap (λ x. x + cond (is_taken (record { set = I; action = a }) last) (r.all ^ 0) 0) inner ∙ ap (λ x. 0 + x) end in
    ap (λ t. full_weight v r I a * t) both ∙ omega arith

-- one more step on the trail
cons_mass : (v : StepForm) (r : Reply) (I : ℕ) (last : Option SetAction) (s : SetAction) (t : List SetAction) → s.set < length v.actions → (a : ℕ)
    → full_weight v r I a * next_mass v r I last (s ∷ t) a
    ≡ reply_factor v.actions r s * (full_weight v r I a * next_mass v r I (v.parent s.set) t a) + full_weight v r I a * cond (is_taken (record { set = I; action = a }) last) (r.all ^ deciding v.actions (s ∷ t)) 0
cons_mass v r I last s t l a =
    let inner = sum_below_one_more (length v.actions) s.set (reply_factor v.actions r s) (r.all ^ deciding v.actions t) (λ K. is_taken (record { set = I; action = a }) (v.parent K)) (λ K. mass v r K t) l in
    ap (λ x. full_weight v r I a * (x + cond (is_taken (record { set = I; action = a }) last) (r.all ^ deciding v.actions (s ∷ t)) 0)) inner
    ∙ spread (full_weight v r I a) (reply_factor v.actions r s) (next_mass v r I (v.parent s.set) t a) (cond (is_taken (record { set = I; action = a }) last) (r.all ^ deciding v.actions (s ∷ t)) 0)
  where
    spread : (g c x y : ℕ) → g * (c * x + y) ≡ c * (g * x) + g * y
    spread g c x y = omega arith

-- of the actions of I only that of s counts, if s is taken at I
pick_step : (n I E : ℕ) (g : ℕ → ℕ) (s : SetAction) → (s.set ≡ I → s.action < n)
    → sum_below n (λ a. g a * cond (is_taken (record { set = I; action = a }) (Some s)) E 0) ≡ cond (eqb s.set I) (g s.action * E) 0
pick_step n I E g s l = elim (cases_eq s.set I) [
  | inl e ↦
      let yes : eqb s.set I ≡ true = eq-eqb s.set I e in
      sum_below_cong n _ (λ a. cond (eqb s.action a) (g a * E) 0) (λ a k. ap (λ b. g a * cond (b && eqb s.action a) E 0) yes ∙ mul_cond (eqb s.action a) (g a) E)
      ∙ sum_below_pick n s.action (λ a. g a * E) (l e)
      ∙ sym (ap (λ b. cond b (g s.action * E) 0) yes)
  | inr ne ↦
      let no : eqb s.set I ≡ false = eqb_apart s.set I ne in
      sum_below_cong n _ (λ a. 0) (λ a k. ap (λ b. g a * cond (b && eqb s.action a) E 0) no ∙ omega arith)
      ∙ sum_below_zero n
      ∙ sym (ap (λ b. cond b (g s.action * E) 0) no)
]
  where
    mul_cond : (b : Bool) (x y : ℕ) → x * cond b y 0 ≡ cond b (x * y) 0
    mul_cond true x y = refl
    mul_cond false x y = omega arith

-- a pass has the reply's number for a weight, and no factor
full_is : (b : Bool) (w N d : ℕ) → cond b w N * N ^ (cond b 1 0 + d) ≡ N * (cond b w 1 * N ^ d)
full_is true w N d = ap (λ x. w * x) (pow-suc' N d) ∙ omega arith
  where
    -- a power has one factor more
    pow-suc' : (N d : ℕ) → N ^ (1 + d) ≡ N * N ^ d
    pow-suc' N d = rw one-add (pow-suc N d ∙ mul_comm (N ^ d) N)
full_is false w N d = ap (λ k. N * N ^ k) (zero-add d) ∙ omega arith

-- both sides at one step, by whether it is taken at I
join : (b : Bool) (N c m e fE : ℕ) → fE ≡ N * (c * e) → c * (N * m) + cond b fE 0 ≡ N * (c * (m + cond b e 0))
join true N c m e fE h = omega (arith, h)
join false N c m e fE h = omega arith

-- under the test that two sets are one, either may be named
cond_at : (J I : ℕ) (x : ℕ → ℕ) → cond (eqb J I) (x I) 0 ≡ cond (eqb J I) (x J) 0
cond_at J I x = elim (cases_eq J I) [
  | inl e ↦ ap (λ K. cond (eqb J I) (x K) 0) (sym e)
  | inr ne ↦ ap (λ b. cond b (x I) 0) (eqb_apart J I ne) ∙ sym (ap (λ b. cond b (x J) 0) (eqb_apart J I ne))
]

-- the mass at I, times the reply's number, is that of what follows I, by the weight of the action between
pub mass_splits : (v : StepForm) (r : Reply) (I k : ℕ) (last : Option SetAction) (t : List SetAction) → k ≤ length v.actions → IsTrail v k last t
    → r.all * mass v r I t ≡ sum_below (actions_at v I) (λ a. full_weight v r I a * next_mass v r I last t a)
mass_splits v r I k last [] le h =
    let z : r.all * 0 ≡ 0 = omega arith in
    z ∙ sym (sum_below_cong (actions_at v I) _ (λ a. 0) (λ a l. nil_mass v r I last h a) ∙ sum_below_zero (actions_at v I))
mass_splits v r I k last (s ∷ t) le h =
    let E = r.all ^ deciding v.actions (s ∷ t) in
    let e = r.all ^ deciding v.actions t in
    let c = reply_factor v.actions r s in
    let g = full_weight v r I in
    let by_step = sum_below_cong (actions_at v I) _ (λ a. c * (g a * next_mass v r I (v.parent s.set) t a) + g a * cond (is_taken (record { set = I; action = a }) last) E 0) (λ a l. cons_mass v r I last s t (omega (arith, h.1)) a) in
    let apart = sum_below_add (actions_at v I) (λ a. c * (g a * next_mass v r I (v.parent s.set) t a)) (λ a. g a * cond (is_taken (record { set = I; action = a }) last) E 0) in
    let first = sum_below_mul (actions_at v I) c (λ a. g a * next_mass v r I (v.parent s.set) t a) in
    let before = mass_splits v r I s.set (v.parent s.set) t (omega (arith, h.1)) h.3 in
    let at_s : sum_below (actions_at v I) (λ a. g a * cond (is_taken (record { set = I; action = a }) last) E 0) ≡ cond (eqb s.set I) (g s.action * E) 0 =
    subst (λ l. sum_below (actions_at v I) (λ a. g a * cond (is_taken (record { set = I; action = a }) l) E 0) ≡ cond (eqb s.set I) (g s.action * E) 0) (sym h.0)
    (pick_step (actions_at v I) I E g s (λ k. subst (λ J. s.action < actions_at v J) k h.2)) in
    let same_set : cond (eqb s.set I) (g s.action * E) 0 ≡ cond (eqb s.set I) (full_weight v r s.set s.action * E) 0 = cond_at s.set I (λ J. full_weight v r J s.action * E) in
    sym (by_step ∙ apart ∙ ap (λ x. x + sum_below (actions_at v I) (λ a. g a * cond (is_taken (record { set = I; action = a }) last) E 0)) (first ∙ ap (λ x. c * x) (sym before))
    ∙ ap (λ x. c * (r.all * mass v r I t) + x) (at_s ∙ same_set)
    ∙ join (eqb s.set I) r.all c (mass v r I t) e (full_weight v r s.set s.action * E) (full_is (decides v.actions s.set) (r.weight s.set s.action) r.all (deciding v.actions t)))

-- ---- the tail is that mass, made up to m factors

-- a trail that stays below I has no mass there
pub mass_absent : (v : StepForm) (r : Reply) (I k : ℕ) (last : Option SetAction) (t : List SetAction) → k ≤ I → IsTrail v k last t → mass v r I t ≡ 0
mass_absent v r I k last [] le h = refl
mass_absent v r I k last (s ∷ t) le h =
    let rest = mass_absent v r I s.set (v.parent s.set) t (omega (arith, h.1)) h.3 in
    ap (λ x. reply_factor v.actions r s * (x + cond (eqb s.set I) (r.all ^ deciding v.actions t) 0)) rest
    ∙ ap (λ b. reply_factor v.actions r s * (0 + cond b (r.all ^ deciding v.actions t) 0)) (eqb_apart s.set I (λ e. omega (arith, h.1)))
    ∙ omega arith

-- the tail that begins with this step
step_here : (c mass e N m dl d : ℕ) → mass ≡ 0 → e * N ^ (m - (dl + d)) ≡ N ^ (m - dl) → c * 1 * N ^ (m - (dl + 0)) ≡ c * (mass + e) * N ^ (m - (dl + d))
step_here c mass e N m dl d z h =
    let a : m - (dl + 0) ≡ m - dl = omega arith in
    rw (a, z) (ap (λ x. c * 1 * x) (sym h) ∙ omega arith)

-- the tail that begins further down
pub step_on : (b : Bool) (c mass w N m dl d d' : ℕ) → cond b (w * N ^ (m - dl - d')) 0 ≡ mass * N ^ (m - dl - d)
    → cond b (c * w * N ^ (m - (dl + d'))) 0 ≡ c * (mass + 0) * N ^ (m - (dl + d))
step_on b c mass w N m dl d d' h =
    let p : m - (dl + d') ≡ m - dl - d' = omega arith in
    let q : m - (dl + d) ≡ m - dl - d = omega arith in
    rw (p, q) (cond_mul b c w (N ^ (m - dl - d')) ∙ ap (λ x. c * x) h ∙ omega arith)
  where
    cond_mul : (b : Bool) (c w x : ℕ) → cond b (c * w * x) 0 ≡ c * cond b (w * x) 0
    cond_mul true c w x = omega arith
    cond_mul false c w x = omega arith

-- powers of one number
pub pow_join : (N d k m : ℕ) → d + k ≡ m → N ^ d * N ^ k ≡ N ^ m
pow_join N d k m e = sym (pow-add N d k) ∙ ap (λ x. N ^ x) e

-- the tail is the mass, made up to m factors
pub tail_is : (v : StepForm) (m : ℕ) (r : Reply) (I k : ℕ) (last : Option SetAction) (t : List SetAction) → IsTrail v k last t → deciding v.actions t ≤ m
    → cond (passes_through I t) (tail_back v m r I t) 0 ≡ mass v r I t * r.all ^ (m - deciding v.actions t)
tail_is v m r I k last [] h le = omega arith
tail_is v m r I k last (s ∷ t) h le =
    let dl : ℕ = cond (decides v.actions s.set) 1 0 in
    let d : ℕ = deciding v.actions t in
    let N : ℕ = r.all in
    elim (cases_eq s.set I) [
      | inl e ↦
          let yes : eqb s.set I ≡ true = eq-eqb s.set I e in
          let none = mass_absent v r I s.set (v.parent s.set) t (omega arith) h.3 in
          let powers : N ^ d * N ^ (m - (dl + d)) ≡ N ^ (m - dl) = pow_join N d (m - (dl + d)) (m - dl) (omega arith) in
          let here = step_here (reply_factor v.actions r s) (mass v r I t) (N ^ d) N m dl d none powers in
          let Goal : Bool → Type 0 = λ b. cond (b || passes_through I t) (product_over (reply_factor v.actions r) (cond b (s ∷ []) (s ∷ from_set I t)) * N ^ (m - deciding v.actions (cond b (s ∷ []) (s ∷ from_set I t)))) 0
          ≡ reply_factor v.actions r s * (mass v r I t + cond b (N ^ d) 0) * N ^ (m - deciding v.actions (s ∷ t)) in
          subst Goal (sym yes) here
      | inr ne ↦
          let no : eqb s.set I ≡ false = eqb_apart s.set I ne in
          let ih = tail_is v (m - dl) r I s.set (v.parent s.set) t h.3 (omega arith) in
          let on = step_on (passes_through I t) (reply_factor v.actions r s) (mass v r I t) (product_over (reply_factor v.actions r) (from_set I t)) N m dl d (deciding v.actions (from_set I t)) ih in
          let Goal : Bool → Type 0 = λ b. cond (b || passes_through I t) (product_over (reply_factor v.actions r) (cond b (s ∷ []) (s ∷ from_set I t)) * N ^ (m - deciding v.actions (cond b (s ∷ []) (s ∷ from_set I t)))) 0
          ≡ reply_factor v.actions r s * (mass v r I t + cond b (N ^ d) 0) * N ^ (m - deciding v.actions (s ∷ t)) in
          subst Goal (sym no) on
    ]
