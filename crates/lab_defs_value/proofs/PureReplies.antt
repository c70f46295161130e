-- The most that pure replies earn is the best-response value.
use Rattle.std.proofs.Common.{◌≡◌, ℕ, zero, suc, ◌*◌, ◌-◌, ◌^◌, ◌<◌, ◌≤◌, ℤ, pos, ◌*ℤ◌, ◌≤ℤ◌, List, [], ◌∷◌, Bool, true, false, cond, eqb, get_or, Option, length, refl, sym, ap, ◌∙◌, subst, arith, map, inl, zero-add}
use Rattle.std.specs.Prelude.{slice_index}
use Rattle.std.specs.List.{AllByRecursion, range_with_len}
use Rattle.std.proofs.lemmas.List.FromFn.{get_or-map-range_with_len}
use Rattle.lab_math.specs.Sums.{product_over}
use Rattle.lab_math.proofs.Integers.{one_mul_z}
use Rattle.lab_math.proofs.BelowLemmas.{sum_below_pick}
use Rattle.lab_math.proofs.Totals.{total_filter, total_cong_all}
use Rattle.lab_math.proofs.Elements.{Among, among_flat, among_map, among_imp, all_map, all_flat, all_imp, greatest_is}
use Rattle.lab_defs_game.specs.Forms.{decides, deciding}
use Rattle.lab_defs_game.specs.Paths.{SetAction}
use Rattle.lab_defs_value.specs.Parents.{passes_through, IsStepBelow, IsForm}
use Rattle.lab_defs_value.specs.Replies.{Strategy, Reply, IsReply, opponent, reply_sets, reply_factors, reply_factor, earned}
use Rattle.lab_defs_value.specs.BestValues.{IsBest, choices, IsChoice, pure_reply, best_response_value}
use Rattle.lab_defs_value.specs.Bounds.{IsBackedUp, Tight}
use Rattle.lab_defs_value.specs.Laws.{BestResponseLaw}
use Rattle.lab_defs_value.proofs.StepForms.{StepForm, trail, from_set, tail_back, earned_back, IsStepForm}
use Rattle.lab_defs_value.proofs.Tails.{IsTrail}
use Rattle.lab_defs_value.proofs.Splits.{trail_is}
use Rattle.lab_defs_value.proofs.Bests.{Choice, pure, choose, pure_earns, one_pow}
use Rattle.lab_defs_value.proofs.WholePaths.{step_form_of, step_form_is, step_form_decisions, earned_same}
use Rattle.lab_defs_value.proofs.BestLaws.{backed_to_steps, backed_up_tight, backed_up_table, tight_backed_up}

-- ---- the choices

-- a list has the action that a choice takes at each set
abbrev pub Agrees : List ℕ → (ℕ → ℕ) → List ℕ → Type 0
Agrees ns c list = (J : ℕ) → J < length ns → slice_index list J ≡ c J

-- each choice of actions that are there is among the lists
pub choice_among : (ns : List ℕ) (c : ℕ → ℕ) → ((J : ℕ) → J < length ns → c J < slice_index ns J) → Among (Agrees ns c) (choices ns)
choice_among [] c h = inl (λ J l. absurd (omega arith))
choice_among (n ∷ ns) c h =
    let first : c 0 < n = h 0 (omega arith) in
    among_flat (Agrees (n ∷ ns) c) (λ a. map (λ v. a ∷ v) (choices ns)) 0 n (c 0) (omega arith) (omega arith)
    (among_map (Agrees ns (λ J. c (suc J))) (Agrees (n ∷ ns) c) (λ v. c 0 ∷ v) (choices ns) (λ v g J l. here v g J l)
    (choice_among ns (λ J. c (suc J)) (λ J l. h (suc J) (omega arith))))
  where
    here : (v : List ℕ) → Agrees ns (λ J. c (suc J)) v → (J : ℕ) → J < suc (length ns) → get_or (c 0 ∷ v) J 0 ≡ c J
    here v g zero l = refl
    here v g (suc J) l = g J (omega arith)

-- each of the lists has an action that is there at each set
pub choices_in_range : (ns : List ℕ) → AllByRecursion (IsChoice ns) (choices ns)
choices_in_range [] = (λ J l. absurd (omega arith), tt)
choices_in_range (n ∷ ns) =
    all_flat (IsChoice (n ∷ ns)) (λ a. map (λ v. a ∷ v) (choices ns)) 0 n
    (λ a le lt. all_map (IsChoice ns) (IsChoice (n ∷ ns)) (λ v. a ∷ v) (choices ns) (λ v g J l. here a (omega arith) v g J l) (choices_in_range ns))
  where
    here : (a : ℕ) → a < n → (v : List ℕ) → IsChoice ns v → (J : ℕ) → J < suc (length ns) → get_or (a ∷ v) J 0 < get_or (n ∷ ns) J 0
    here a lt v g zero l = lt
    here a lt v g (suc J) l = g J (omega arith)

-- the pure reply of such a list is a reply
pub pure_reply-IsReply : (ns c : List ℕ) → IsChoice ns c → IsReply ns (pure_reply c)
pure_reply-IsReply ns c h = (omega arith, λ J l e. sum_below_pick (slice_index ns J) (slice_index c J) (λ a. 1) (h J l))

-- ---- a reply earns by its weights at the sets that are there

-- two replies with the same weights have the same product on a trail
weight_cong : (v : StepForm) (r r' : Reply) (I k : ℕ) (last : Option SetAction) (t : List SetAction) → ((J a : ℕ) → J < length v.actions → r.weight J a ≡ r'.weight J a) → k ≤ length v.actions → IsTrail v k last t
    → product_over (reply_factor v.actions r) (from_set I t) ≡ product_over (reply_factor v.actions r') (from_set I t)
weight_cong v r r' I k last [] same le h = refl
weight_cong v r r' I k last (s ∷ t) same le h =
    at (eqb s.set I) (same s.set s.action (omega (arith, h.1))) (weight_cong v r r' I s.set (v.parent s.set) t same (omega (arith, h.1)) h.3)
  where
    at : (b : Bool) → r.weight s.set s.action ≡ r'.weight s.set s.action
        → product_over (reply_factor v.actions r) (from_set I t) ≡ product_over (reply_factor v.actions r') (from_set I t)
        → product_over (reply_factor v.actions r) (cond b (s ∷ []) (s ∷ from_set I t)) ≡ product_over (reply_factor v.actions r') (cond b (s ∷ []) (s ∷ from_set I t))
    at true e rest = ap (λ w. cond (decides v.actions s.set) w 1 * 1) e
    at false e rest =
        ap (λ w. cond (decides v.actions s.set) w 1 * product_over (reply_factor v.actions r) (from_set I t)) e
        ∙ ap (λ x. cond (decides v.actions s.set) (r'.weight s.set s.action) 1 * x) rest

-- two such replies of one number earn the same
pub earned_cong : (v : StepForm) → IsStepForm v → (m : ℕ) (r r' : Reply) (I : ℕ) → r.all ≡ r'.all → ((J a : ℕ) → J < length v.actions → r.weight J a ≡ r'.weight J a) → earned_back v m r I ≡ earned_back v m r' I
earned_cong v ok m r r' I all same =
    total_filter (λ z. passes_through I (trail v z)) (λ z. z.worth *ℤ pos (tail_back v m r I (trail v z))) v.rows
    ∙ total_cong_all (λ z. IsStepBelow v.actions (length v.actions) z.last) _ (λ z. cond (passes_through I (trail v z)) (z.worth *ℤ pos (tail_back v m r' I (trail v z))) (pos 0)) v.rows ok.lasts
    (λ z h. ap (λ x. cond (passes_through I (trail v z)) (z.worth *ℤ pos (x * r.all ^ (m - deciding v.actions (from_set I (trail v z))))) (pos 0)) (weight_cong v r r' I (length v.actions) z.last (trail v z) same (omega arith) (trail_is v ok z h))
    ∙ ap (λ n. cond (passes_through I (trail v z)) (z.worth *ℤ pos (product_over (reply_factor v.actions r') (from_set I (trail v z)) * n ^ (m - deciding v.actions (from_set I (trail v z))))) (pos 0)) all)
    ∙ sym (total_filter (λ z. passes_through I (trail v z)) (λ z. z.worth *ℤ pos (tail_back v m r' I (trail v z))) v.rows)

-- ---- the definition that computes

-- at each set the action that backs up its number
abbrev best_action : (s : Strategy) (B : ℕ → ℤ) → IsBackedUp s B → ℕ → ℕ
best_action s B h J = (choose (step_form_of s) B (backed_to_steps s B h) J).0

-- it is there
best_action_there : (s : Strategy) (B : ℕ → ℤ) (h : IsBackedUp s B) (J : ℕ) → J < length (reply_sets s) → best_action s B h J < slice_index (reply_sets s) J
best_action_there s B h J l = ((choose (step_form_of s) B (backed_to_steps s B h) J).1 l).0

-- the pure reply that takes these actions earns the number that is backed up
best_action_earns : (s : Strategy) → IsForm s.form (opponent s) → (B : ℕ → ℤ) (h : IsBackedUp s B) (I : ℕ) → I < length (reply_sets s) → (c : List ℕ) → Agrees (reply_sets s) (best_action s B h) c
    → earned s (pure_reply c) I ≡ B I
best_action_earns s ok B h I l c k =
    let v = step_form_of s in
    let m = reply_factors s in
    let choice = best_action s B h in
    let good : Choice v B choice = λ J j. (choose v B (backed_to_steps s B h) J).1 j in
    sym (earned_same s ok (pure_reply c) I)
    ∙ earned_cong v (step_form_is s ok) m (pure_reply c) (pure choice) I refl (λ J a j. ap (λ x. cond (eqb x a) (suc zero) zero) (k J j))
    ∙ pure_earns v (step_form_is s ok) m (step_form_decisions s ok) B choice good (length (reply_sets s)) I l (omega arith)

-- the most that pure replies earn is the number that is backed up
pub best_value_is : (s : Strategy) → IsForm s.form (opponent s) → (B : ℕ → ℤ) → IsBackedUp s B → (I : ℕ) → I < length (reply_sets s) → best_response_value s I ≡ B I
best_value_is s ok B h I l =
    let ns = reply_sets s in
    let m = reply_factors s in
    let choice = best_action s B h in
    let best = backed_up_tight s ok B h I l in
    greatest_is (λ c. earned s (pure_reply c) I) (B I) (choices ns)
    (all_imp (IsChoice ns) (λ c. earned s (pure_reply c) I ≤ℤ B I) (choices ns)
    (λ c k. subst (λ t. earned s (pure_reply c) I ≤ℤ t) (ap (λ k. pos k *ℤ B I) (one_pow m) ∙ one_mul_z (B I)) (best.bounds (pure_reply c) (pure_reply-IsReply ns c k)))
    (choices_in_range ns))
    (among_imp (Agrees ns choice) (λ c. earned s (pure_reply c) I ≡ B I) (choices ns) (best_action_earns s ok B h I l) (choice_among ns choice (best_action_there s B h)))

-- the law of the best-response value that computes
pub best_value_law : BestResponseLaw
best_value_law s ok =
    let t = backed_up_table s ok in
    let tight : Tight s (best_response_value s) = λ I l. subst (λ b. IsBest s I b) (sym (best_value_is s ok t.0 t.1 I l)) (backed_up_tight s ok t.0 t.1 I l) in
    (tight, tight_backed_up s ok (best_response_value s) tight)

-- some choice of actions earns the best-response value
pub best_choice : (s : Strategy) → IsForm s.form (opponent s) → (I : ℕ) → I < length (reply_sets s) → (c : List ℕ) × IsChoice (reply_sets s) c × (earned s (pure_reply c) I ≡ best_response_value s I)
best_choice s ok I l =
    let ns = reply_sets s in
    let B = best_response_value s in
    let up = (best_value_law s ok).1 in
    let c = map (best_action s B up) (range_with_len 0 (length ns)) in
    let agrees : Agrees ns (best_action s B up) c = λ J j. get_or-map-range_with_len (best_action s B up) 0 (length ns) J J 0 j (zero-add J) in
    (c, λ J j. subst (λ a. a < slice_index ns J) (sym (agrees J j)) (best_action_there s B up J j), best_action_earns s ok B up I l c agrees)
