-- Whole paths, first step first, against the steps back from the last one: what a reply earns by the ones is what it earns by the others.
use Rattle.std.proofs.Common.{◌≡◌, ℕ, zero, suc, ◌+◌, ◌*◌, ◌-◌, ◌^◌, ◌≤◌, ℤ, pos, ◌+ℤ◌, ◌*ℤ◌, List, [], ◌∷◌, ◌++◌, Bool, true, false, cond, ◌||◌, eqb, Option, Some, None, length, refl, sym, ap, ◌∙◌, subst, arith, map, eqb-true}
use Rattle.std.specs.List.{All}
use Rattle.std.proofs.lemmas.List.Elements.{All-map, All-weaker}
use Rattle.lab_math.specs.Sums.{product_over}
use Rattle.lab_math.proofs.SumLemmas.{total-map, greatest_over_le}
use Rattle.lab_math.proofs.Totals.{total_filter_map}
use Rattle.lab_math.proofs.BelowLemmas.{eqb_apart}
use Rattle.lab_defs_game.specs.Forms.{FormSet, Row, sets_of, path_of, decides, deciding, parent_at, parent_of, chain_within}
use Rattle.lab_defs_game.specs.Paths.{SetAction, last_step, is_taken}
use Rattle.lab_defs_value.specs.Parents.{passes_through, path_from, IsStepBelow, IsChain, IsForm}
use Rattle.lab_defs_value.proofs.Chains.{sets_length}
use Rattle.lab_defs_value.specs.Smallness.{factors_at}
use Rattle.lab_defs_value.specs.Replies.{Strategy, Reply, opponent, reply_sets, worth_against, reply_factors, reply_factor, tail, earned}
use Rattle.lab_defs_value.specs.Bounds.{through, through_sets}
use Rattle.lab_defs_value.proofs.StepForms.{StepForm, Ending, steps_back, trail, from_set, tail_back, earned_back, AtMostDecisions, IsStepForm, backed}

-- ---- one more step at the end of a path

-- which sets it passes through
pub passes_push : (I : ℕ) (p : List SetAction) (s : SetAction) → passes_through I (p ++ s ∷ []) ≡ (eqb s.set I || passes_through I p)
passes_push I [] s = refl
passes_push I (q ∷ p) s = ap (λ b. eqb q.set I || b) (passes_push I p s) ∙ swap (eqb q.set I) (eqb s.set I) (passes_through I p)
  where
    swap : (a b c : Bool) → (a || (b || c)) ≡ (b || (a || c))
    swap true true c = refl
    swap true false c = refl
    swap false true c = refl
    swap false false c = refl

-- its steps from a set on
rest_push : (I : ℕ) (p : List SetAction) (s : SetAction) → path_from I (p ++ s ∷ []) ≡ cond (passes_through I p) (path_from I p ++ s ∷ []) (cond (eqb s.set I) (s ∷ []) [])
rest_push I [] s = refl
rest_push I (q ∷ p) s = at (eqb q.set I) (rest_push I p s)
  where
    at : (b : Bool) → path_from I (p ++ s ∷ []) ≡ cond (passes_through I p) (path_from I p ++ s ∷ []) (cond (eqb s.set I) (s ∷ []) [])
        → cond b (q ∷ (p ++ s ∷ [])) (path_from I (p ++ s ∷ [])) ≡ cond (b || passes_through I p) (cond b (q ∷ p) (path_from I p) ++ s ∷ []) (cond (eqb s.set I) (s ∷ []) [])
    at true h = refl
    at false h = h

-- how many of its sets decide
deciding_push : (ns : List ℕ) (p : List SetAction) (s : SetAction) → deciding ns (p ++ s ∷ []) ≡ cond (decides ns s.set) 1 0 + deciding ns p
deciding_push ns [] s = refl
deciding_push ns (q ∷ p) s = omega (arith, deciding_push ns p s)

-- a product over it
product_push : (F : SetAction → ℕ) (p : List SetAction) (s : SetAction) → product_over F (p ++ s ∷ []) ≡ F s * product_over F p
product_push F [] s = refl
product_push F (q ∷ p) s = ap (λ x. F q * x) (product_push F p s) ∙ omega arith

-- ---- a strategy's form, as the opponent sees it

-- the opponent's sets
abbrev pub opposing_sets : Strategy → List FormSet
opposing_sets s = sets_of s.form (opponent s)

-- a row, by its last step
abbrev pub ending_of : Strategy → Row → Ending
ending_of s z = record { worth = worth_against s z; last = last_step (path_of z (opponent s)) }

-- the form, by parents and last steps
abbrev pub step_form_of : Strategy → StepForm
step_form_of s = record { actions = reply_sets s; parent = parent_of s.form (opponent s); rows = map (ending_of s) s.form.rows }

-- a row whose path is a chain of parents
abbrev pub HasPath : Strategy → Row → Type 0
HasPath s z = IsChain (opposing_sets s) (path_of z (opponent s))

-- its last step is there
last_is : (s : Strategy) (z : Row) → HasPath s z → IsStepBelow (reply_sets s) (length (reply_sets s)) (last_step (path_of z (opponent s)))
last_is s z h = subst (λ n. IsStepBelow (reply_sets s) n (last_step (path_of z (opponent s)))) (sym (sets_length (opposing_sets s))) h.there

-- its path is the chain that ends there
whole_path : (s : Strategy) (z : Row) → HasPath s z → chain_within (opposing_sets s) (length (reply_sets s)) (last_step (path_of z (opponent s))) ≡ path_of z (opponent s)
whole_path s z h = ap (λ n. chain_within (opposing_sets s) n (last_step (path_of z (opponent s)))) (sets_length (opposing_sets s)) ∙ sym h.parents

-- a form of rows with whole paths is one of parents and last steps
pub step_form_is : (s : Strategy) → IsForm s.form (opponent s) → IsStepForm (step_form_of s)
step_form_is s ok = record {
  parents = ok.parents;
  some_action = ok.some_action;
  lasts = All-map (λ (z : Ending). IsStepBelow (reply_sets s) (length (reply_sets s)) z.last) (ending_of s) s.form.rows
      (All-weaker (HasPath s) (λ z. IsStepBelow (reply_sets s) (length (reply_sets s)) (last_step (path_of z (opponent s)))) (last_is s) s.form.rows ok.paths);
}

-- ---- a chain of parents against the steps back

-- both pass through the same sets
pub passes_is : (s : Strategy) (I k : ℕ) (last : Option SetAction) → passes_through I (chain_within (opposing_sets s) k last) ≡ passes_through I (steps_back (step_form_of s) k last)
passes_is s I zero last = refl
passes_is s I (suc k) None = refl
passes_is s I (suc k) (Some t) =
    passes_push I (chain_within (opposing_sets s) k (parent_at (opposing_sets s) t.set)) t ∙ ap (λ b. eqb t.set I || b) (passes_is s I k (parent_at (opposing_sets s) t.set))

-- both have as many deciding sets
pub deciding_is : (s : Strategy) (k : ℕ) (last : Option SetAction) → deciding (reply_sets s) (chain_within (opposing_sets s) k last) ≡ deciding (reply_sets s) (steps_back (step_form_of s) k last)
deciding_is s zero last = refl
deciding_is s (suc k) None = refl
deciding_is s (suc k) (Some t) =
    deciding_push (reply_sets s) (chain_within (opposing_sets s) k (parent_at (opposing_sets s) t.set)) t
    ∙ ap (λ d. cond (decides (reply_sets s) t.set) 1 0 + d) (deciding_is s k (parent_at (opposing_sets s) t.set))

-- the numbers that a tail is made of
abbrev pub SameRest : StepForm → (SetAction → ℕ) → List SetAction → List SetAction → Type 0
SameRest v F x y = (deciding v.actions x ≡ deciding v.actions y) × (product_over F x ≡ product_over F y)

-- steps back from below I do not pass through I
absent : (v : StepForm) → IsStepForm v → (I k j : ℕ) (last : Option SetAction) → j ≤ I → j ≤ length v.actions → IsStepBelow v.actions j last → passes_through I (steps_back v k last) ≡ false
absent v ok I zero j last le n h = refl
absent v ok I (suc k) j None le n h = refl
absent v ok I (suc k) j (Some s) le n h =
    ap (λ b. b || passes_through I (steps_back v k (v.parent s.set))) (eqb_apart s.set I (λ e. omega (arith, h.0)))
    ∙ absent v ok I k s.set (v.parent s.set) (omega (arith, h.0)) (omega (arith, h.0)) (ok.parents s.set (omega (arith, h.0)))

-- false is not true
no_way : {P : Type 0} → false ≡ true → P
no_way e = absurd (never e)
  where
    never : false ≡ true → ⊥
    never e = cc

-- one more step, whether it is taken at I or after it
rest_at : (v : StepForm) (F : SetAction → ℕ) (I : ℕ) (s : SetAction) (p t : List SetAction) → passes_through I p ≡ passes_through I t → (b : Bool) → eqb s.set I ≡ b
    → (b ≡ true → passes_through I t ≡ false)
    → (b ≡ false → SameRest v F (path_from I p) (from_set I t) × (passes_through I t ≡ true))
    → SameRest v F (path_from I (p ++ s ∷ [])) (from_set I (s ∷ t))
rest_at v F I s p t same b e here later =
    let rest : path_from I (p ++ s ∷ []) ≡ cond (passes_through I t) (path_from I p ++ s ∷ []) (cond b (s ∷ []) []) =
    rest_push I p s ∙ ap (λ w. cond w (path_from I p ++ s ∷ []) (cond (eqb s.set I) (s ∷ []) [])) same
    ∙ ap (λ w. cond (passes_through I t) (path_from I p ++ s ∷ []) (cond w (s ∷ []) [])) e in
    let back : from_set I (s ∷ t) ≡ cond b (s ∷ []) (s ∷ from_set I t) = ap (λ w. cond w (s ∷ []) (s ∷ from_set I t)) e in
    subst (λ x. SameRest v F x (from_set I (s ∷ t))) (sym rest)
    (subst (λ y. SameRest v F (cond (passes_through I t) (path_from I p ++ s ∷ []) (cond b (s ∷ []) [])) y) (sym back) (at b here later))
  where
    at : (b : Bool)
        → (b ≡ true → passes_through I t ≡ false)
        → (b ≡ false → SameRest v F (path_from I p) (from_set I t) × (passes_through I t ≡ true))
        → SameRest v F (cond (passes_through I t) (path_from I p ++ s ∷ []) (cond b (s ∷ []) [])) (cond b (s ∷ []) (s ∷ from_set I t))
    at true here later =
        subst (λ w. SameRest v F (cond w (path_from I p ++ s ∷ []) (s ∷ [])) (s ∷ [])) (sym (here refl)) (refl, refl)
    at false here later =
        let h = later refl in
        subst (λ w. SameRest v F (cond w (path_from I p ++ s ∷ []) []) (s ∷ from_set I t)) (sym h.1) (
          deciding_push v.actions (path_from I p) s ∙ ap (λ x. cond (decides v.actions s.set) 1 0 + x) h.0.0,
          product_push F (path_from I p) s ∙ ap (λ x. F s * x) h.0.1,
        )

-- from a set on that both pass through, they have the same deciding sets and products
pub rest_is : (s : Strategy) → IsForm s.form (opponent s) → (F : SetAction → ℕ) (I k j : ℕ) (last : Option SetAction) → j ≤ length (reply_sets s) → IsStepBelow (reply_sets s) j last
    → passes_through I (steps_back (step_form_of s) k last) ≡ true → SameRest (step_form_of s) F (path_from I (chain_within (opposing_sets s) k last)) (from_set I (steps_back (step_form_of s) k last))
rest_is s ok F I zero j last n h e = no_way e
rest_is s ok F I (suc k) j None n h e = no_way e
rest_is s ok F I (suc k) j (Some t) n h e =
    let before = parent_at (opposing_sets s) t.set in
    let back = steps_back (step_form_of s) k before in
    let there = ok.parents t.set (omega (arith, h.0)) in
    rest_at (step_form_of s) F I t (chain_within (opposing_sets s) k before) back (passes_is s I k before) (eqb t.set I) refl
    (λ b. let same = eqb-true t.set I b in absent (step_form_of s) (step_form_is s ok) I k t.set before (omega arith) (omega (arith, h.0)) there)
    (λ b. let on : passes_through I back ≡ true = subst (λ w. (w || passes_through I back) ≡ true) b e in
    (rest_is s ok F I k t.set before (omega (arith, h.0)) there on, on))

-- the decisions of a row by its whole path and by its steps back
trail_deciding : (s : Strategy) (z : Row) → HasPath s z → deciding (reply_sets s) (trail (step_form_of s) (ending_of s z)) ≡ deciding (reply_sets s) (path_of z (opponent s))
trail_deciding s z h =
    sym (deciding_is s (length (reply_sets s)) (last_step (path_of z (opponent s)))) ∙ ap (deciding (reply_sets s)) (whole_path s z h)

-- a row whose path is a chain of parents, and whose decisions and pad are at most m
abbrev pub IsReplyRow : Strategy → ℕ → Row → Type 0
IsReplyRow s m z = HasPath s z × (factors_at s.form (opponent s) z ≤ m)

-- no row has more decisions than a reply has factors
pub step_form_decisions : (s : Strategy) → IsForm s.form (opponent s) → AtMostDecisions (step_form_of s) (reply_factors s)
step_form_decisions s ok =
    let m = reply_factors s in
    let rows : All (IsReplyRow s m) s.form.rows = λ k d l. (ok.paths k d l, greatest_over_le (factors_at s.form (opponent s)) s.form.rows k d l) in
    All-map (λ z. deciding (reply_sets s) (trail (step_form_of s) z) ≤ m) (ending_of s) s.form.rows
    (All-weaker (IsReplyRow s m) (λ z. deciding (reply_sets s) (trail (step_form_of s) (ending_of s z)) ≤ m) (λ z h. omega (arith, trail_deciding s z h.0, h.1)) s.form.rows rows)

-- a tail by a whole path and by its steps back
tail_same : (s : Strategy) → IsForm s.form (opponent s) → (m : ℕ) (r : Reply) (I : ℕ) (z : Row) → HasPath s z → passes_through I (path_of z (opponent s)) ≡ true
    → tail_back (step_form_of s) m r I (trail (step_form_of s) (ending_of s z)) ≡ tail (reply_sets s) m r I (path_of z (opponent s))
tail_same s ok m r I z h on =
    let v = step_form_of s in
    let path = path_of z (opponent s) in
    let n = length (reply_sets s) in
    let last = last_step path in
    let F = reply_factor (reply_sets s) r in
    let through : passes_through I (steps_back v n last) ≡ true = sym (passes_is s I n last) ∙ ap (passes_through I) (whole_path s z h) ∙ on in
    let rest : SameRest v F (path_from I path) (from_set I (steps_back v n last)) =
    subst (λ p. SameRest v F (path_from I p) (from_set I (steps_back v n last))) (whole_path s z h) (rest_is s ok F I n n last (omega arith) (last_is s z h) through) in
    ap (λ x. product_over F (from_set I (steps_back v n last)) * r.all ^ (m - x)) (sym rest.0)
    ∙ ap (λ x. x * r.all ^ (m - deciding (reply_sets s) (path_from I path))) (sym rest.1)

-- what a reply earns, both ways
pub earned_same : (s : Strategy) → IsForm s.form (opponent s) → (r : Reply) (I : ℕ) → earned_back (step_form_of s) (reply_factors s) r I ≡ earned s r I
earned_same s ok r I =
    let v = step_form_of s in
    let m = reply_factors s in
    total_filter_map (HasPath s) (ending_of s) (λ z. passes_through I (path_of z (opponent s))) (λ z. passes_through I (trail v z))
    (λ z. worth_against s z *ℤ pos (tail (reply_sets s) m r I (path_of z (opponent s)))) (λ z. z.worth *ℤ pos (tail_back v m r I (trail v z))) s.form.rows ok.paths
    (λ z h. sym (passes_is s I (length (reply_sets s)) (last_step (path_of z (opponent s)))) ∙ ap (passes_through I) (whole_path s z h))
    (λ z h on. ap (λ t. worth_against s z *ℤ pos t) (tail_same s ok m r I z h on))

-- what an action backs up, both ways
pub through_same : (s : Strategy) (B : ℕ → ℤ) (J a : ℕ) → backed (step_form_of s) B J a ≡ through s B J a
through_same s B J a =
    ap (λ t. through_sets s B J a +ℤ t) (total-map (λ z. cond (is_taken (record { set = J; action = a }) z.last) z.worth (pos 0)) (ending_of s) s.form.rows)
