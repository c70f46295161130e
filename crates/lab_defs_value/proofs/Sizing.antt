-- How large own weights, earnings and best-response values are.
use Rattle.std.proofs.Common.{◌≡◌, ℕ, ◌+◌, ◌*◌, ◌-◌, ◌^◌, ◌<◌, ◌≤◌, ℤ, pos, ◌*ℤ◌, List, [], ◌∷◌, Bool, true, false, cond, eqb, Option, Some, None, length, get_or, refl, sym, ap, ◌∙◌, subst, arith, mul-le-mul, one-add, zero-add}
use Rattle.std.specs.Prelude.{unsigned_abs, slice_index}
use Rattle.std.specs.List.{All, AllByRecursion}
use Rattle.std.proofs.lemmas.Int.{unsigned_abs-mul}
use native.Mathlib.Nat.{pow-succ', pow-zero, le_of_eq}
use Rattle.lab_math.specs.Sums.{product_over}
use Rattle.lab_math.proofs.SumLemmas.{greatest_over_le}
use Rattle.lab_math.proofs.BelowLemmas.{sum_below_term}
use Rattle.lab_math.proofs.Totals.{total_filter, total_size, sum_over-mul}
use Rattle.lab_defs_game.specs.Forms.{FormSet, Row, actions_in, actions_of, path_of, pad_of, decides, deciding, parent_at, parent_of, chain}
use Rattle.lab_defs_game.specs.Paths.{SetAction}
use Rattle.lab_defs_value.specs.Parents.{passes_through, path_from, IsStepBelow}
use Rattle.lab_defs_value.proofs.Chains.{IsPath, AreBelow, step_higher, chain_follows, sets_length, paths_follow}
use Rattle.lab_defs_value.specs.Replies.{Strategy, Reply, IsReply, opponent, reply_sets, reply_factors, reply_factor, reply_by, worth_against, tail, earned}
use Rattle.lab_defs_value.specs.BestValues.{IsBest, best_response_value}
use Rattle.lab_defs_value.specs.Laws.{Sound, worth_sizes, WorthSizeLaw}
use Rattle.lab_defs_value.proofs.Tails.{pow_join}
use Rattle.lab_defs_value.proofs.Bests.{one_pow}
use Rattle.lab_defs_value.proofs.PureReplies.{best_value_law}

-- each step of a path is there
abbrev pub Steps : List ℕ → List SetAction → Type 0
Steps ns path = AllByRecursion (λ t. IsStepBelow ns (length ns) (Some t)) path

-- so are those of a path of a form
pub steps_of : (ns : List ℕ) (parent : ℕ → Option SetAction) (before : Option SetAction) (path : List SetAction) → IsPath ns parent before path → Steps ns path
steps_of ns parent before [] h = tt
steps_of ns parent before (t ∷ ts) h = (h.2, steps_of ns parent (Some t) ts h.3)

-- and of the chain of parents that leads to a set
pub chain_steps : (sets : List FormSet) → AreBelow sets → (I : ℕ) → I < length sets → Steps (actions_in sets) (chain sets (parent_at sets I))
chain_steps sets below I l =
    let low : I < length (actions_in sets) = omega (arith, l, sets_length sets) in
    steps_of (actions_in sets) (parent_at sets) None (chain sets (parent_at sets I))
    (chain_follows sets below (length sets) (parent_at sets I) (omega (arith, sets_length sets)) (step_higher (actions_in sets) I (length sets) (parent_at sets I) (omega (arith, l)) (below I low))).0

-- and of a part of a path
pub steps_from : (ns : List ℕ) (I : ℕ) (path : List SetAction) → Steps ns path → Steps ns (path_from I path)
steps_from ns I [] h = tt
steps_from ns I (t ∷ ts) h = at (eqb t.set I) (steps_from ns I ts h.1)
  where
    at : (b : Bool) → Steps ns (path_from I ts) → Steps ns (cond b (t ∷ ts) (path_from I ts))
    at true rest = h
    at false rest = rest

-- a part of a path has at most its decisions
deciding_from : (ns : List ℕ) (I : ℕ) (path : List SetAction) → deciding ns (path_from I path) ≤ deciding ns path
deciding_from ns I [] = omega arith
deciding_from ns I (t ∷ ts) = at (eqb t.set I) (deciding_from ns I ts)
  where
    at : (b : Bool) → deciding ns (path_from I ts) ≤ deciding ns ts → deciding ns (cond b (t ∷ ts) (path_from I ts)) ≤ deciding ns (t ∷ ts)
    at true rest = omega arith
    at false rest = omega (arith, rest)

-- the weights on a path are at most the reply's number to its decisions
pub product_le : (ns : List ℕ) (r : Reply) → IsReply ns r → (path : List SetAction) → Steps ns path → product_over (reply_factor ns r) path ≤ r.all ^ deciding ns path
product_le ns r isr [] h = le_of_eq (sym (pow-zero r.all))
product_le ns r isr (t ∷ ts) h = at (decides ns t.set) refl (product_le ns r isr ts h.1)
  where
    at : (b : Bool) → decides ns t.set ≡ b → product_over (reply_factor ns r) ts ≤ r.all ^ deciding ns ts
        → cond b (r.weight t.set t.action) 1 * product_over (reply_factor ns r) ts ≤ r.all ^ (cond b 1 0 + deciding ns ts)
    at true e rest =
        let small = sum_below_term (slice_index ns t.set) t.action (r.weight t.set) h.0.1 in
        let sums = isr.1 t.set h.0.0 e in
        let here : r.weight t.set t.action ≤ r.all = omega (arith, small, sums) in
        rw one-add (subst (λ x. r.weight t.set t.action * product_over (reply_factor ns r) ts ≤ x) (sym (pow-succ' r.all (deciding ns ts))) (mul-le-mul here rest))
    at false e rest = rw zero-add (omega (arith, rest))

-- a tail is at most the reply's number to its factors
tail_le : (ns : List ℕ) (m : ℕ) (r : Reply) → IsReply ns r → (I : ℕ) (path : List SetAction) → Steps ns path → deciding ns path ≤ m → tail ns m r I path ≤ r.all ^ m
tail_le ns m r isr I path h few =
    let d = deciding ns (path_from I path) in
    let whole : r.all ^ d * r.all ^ (m - d) ≡ r.all ^ m = pow_join r.all d (m - d) m (omega (arith, deciding_from ns I path, few)) in
    subst (λ x. tail ns m r I path ≤ x) whole (mul-le-mul (product_le ns r isr (path_from I path) (steps_from ns I path h)) (le_of_eq refl))

-- a row whose steps are there, and whose decisions are at most m
abbrev FewSteps : Strategy → ℕ → Row → Type 0
FewSteps s m z = Steps (reply_sets s) (path_of z (opponent s)) × (deciding (reply_sets s) (path_of z (opponent s)) + pad_of z (opponent s) ≤ m)

-- earnings are at most what the rows are worth
earned_size : (s : Strategy) → Sound s → (I : ℕ) (r : Reply) → IsReply (reply_sets s) r → unsigned_abs (earned s r I) ≤ r.all ^ reply_factors s * worth_sizes s
earned_size s ok I r isr =
    let ns = reply_sets s in
    let o = opponent s in
    let m = reply_factors s in
    let through = λ (z : Row). passes_through I (path_of z o) in
    let value = λ (z : Row). worth_against s z *ℤ pos (tail ns m r I (path_of z o)) in
    let rows : All (FewSteps s m) s.form.rows = λ k d l. (
      steps_of ns (parent_of s.form o) None (path_of (get_or s.form.rows k d) o) (paths_follow s.form o ok k d l),
      greatest_over_le (λ (z : Row). deciding ns (path_of z o) + pad_of z o) s.form.rows k d l,
    ) in
    let sizes = total_size (FewSteps s m) (λ z. cond (through z) (value z) (pos 0)) (λ z. r.all ^ m * unsigned_abs (worth_against s z)) s.form.rows rows
    (λ z h. at (through z) (worth_against s z) (tail ns m r I (path_of z o)) (r.all ^ m) (tail_le ns m r isr I (path_of z o) h.0 (omega (arith, h.1)))) in
    omega (arith, ap unsigned_abs (total_filter through value s.form.rows), sizes, sum_over-mul (r.all ^ m) (λ z. unsigned_abs (worth_against s z)) s.form.rows)
  where
    at : (b : Bool) (w : ℤ) (t n : ℕ) → t ≤ n → unsigned_abs (cond b (w *ℤ pos t) (pos 0)) ≤ n * unsigned_abs w
    at true w t n h =
        let size : unsigned_abs (w *ℤ pos t) ≡ unsigned_abs w * t = unsigned_abs-mul w (pos t) in
        let le : t * unsigned_abs w ≤ n * unsigned_abs w = mul-le-mul h (le_of_eq refl) in
        omega (arith, size, le)
    at false w t n h = omega arith

-- best-response values are at most that
best_size : (s : Strategy) → Sound s → (I : ℕ) → I < length (reply_sets s) → unsigned_abs (best_response_value s I) ≤ worth_sizes s
best_size s ok I l =
    let b : IsBest s I (best_response_value s I) = (best_value_law s ok).0 I l in
    let r = b.earns.0 in
    let m = reply_factors s in
    let size = earned_size s ok I r b.earns.1 in
    let one : r.all ^ m ≡ 1 = ap (λ k. k ^ m) b.earns.2 ∙ one_pow m in
    let same : r.all ^ m * worth_sizes s ≡ worth_sizes s = ap (λ k. k * worth_sizes s) one ∙ omega arith in
    subst (λ t. unsigned_abs t ≤ worth_sizes s) b.earns.3 (subst (λ k. unsigned_abs (earned s r I) ≤ k) same size)

-- the law of sizes
pub size_law : WorthSizeLaw
size_law = (
  λ f seat grid table ok tab k d l.
      let ns = actions_of f seat in
      let z = get_or f.rows k d in
      let path = path_of z seat in
      let product = product_le ns (reply_by grid ns table) tab path (steps_of ns (parent_of f seat) None path (paths_follow f seat ok k d l)) in
      subst (λ x. product_over (reply_factor ns (reply_by grid ns table)) path * grid ^ pad_of z seat ≤ x) (pow_join grid (deciding ns path) (pad_of z seat) (deciding ns path + pad_of z seat) refl) (mul-le-mul product (le_of_eq refl)),
  λ s ok I. (earned_size s ok I, best_size s ok I),
)
