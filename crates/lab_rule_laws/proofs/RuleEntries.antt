-- Paths that enter a subgame by gadget sets: sums below two numbers, and the last steps.
use Rattle.std.proofs.Common.{◌≡◌, ℕ, zero, suc, ◌+◌, ◌<◌, ◌≤◌, ℤ, pos, ◌+ℤ◌, List, [], ◌∷◌, Bool, true, false, cond, eqb, ◌&&◌, ◌||◌, Option, Some, None, length, filter, map, refl, ap, ◌∙◌, arith, inl, inr, eq-eqb, add-zero}
use Rattle.std.specs.List.{AllByRecursion}
use Rattle.std.proofs.lemmas.Int.{ints}
use Rattle.std.proofs.lemmas.Bool.{cases_eq}
use Rattle.lab_math.specs.Below.{total_below}
use Rattle.lab_math.proofs.BelowLemmas.{eqb_apart}
use Rattle.lab_defs_game.specs.Forms.{Row, path_of}
use Rattle.lab_defs_game.specs.Paths.{SetAction, last_after, last_step, is_taken}
use Rattle.lab_defs_value.specs.Parents.{passes_through}
use Rattle.lab_defs_value.proofs.Chains.{IsPath}
use Rattle.lab_defs_value.proofs.Entries.{eqb_raised}
use Rattle.lab_defs_value.specs.Allowances.{Rule, cfrd, reach, margin}
use Rattle.lab_defs_value.specs.Gadgets.{follow_step, raised, entered_path}

-- ---- sums

-- a sum below two numbers together
pub below_split : (a b : ℕ) (h : ℕ → ℤ) → total_below (a + b) h ≡ total_below a h +ℤ total_below b (λ k. h (a + k))
below_split a zero h = ap (λ n. total_below n h) (add-zero a) ∙ omega (arith, ints)
below_split a (suc b) h =
    let long : a + suc b ≡ suc (a + b) = omega arith in
    let rest = below_split a b h in
    ap (λ n. total_below n h) long ∙ omega (arith, ints, rest)

-- a sum of terms that all fail a test
pub below_none : (n : ℕ) (p : ℕ → Bool) (h : ℕ → ℤ) → ((k : ℕ) → k < n → p k ≡ false) → total_below n (λ k. cond (p k) (h k) (pos 0)) ≡ pos 0
below_none zero p h e = refl
below_none (suc n) p h e =
    let last : cond (p n) (h n) (pos 0) ≡ pos 0 = ap (λ b. cond b (h n) (pos 0)) (e n (omega arith)) in
    let rest = below_none n p h (λ k l. e k (omega (arith, l))) in
    omega (arith, ints, last, rest)

-- the term of one number that is there
pub below_pick : (n j : ℕ) (h : ℕ → ℤ) → j < n → total_below n (λ k. cond (eqb k j) (h k) (pos 0)) ≡ h j
below_pick zero j h l = absurd (omega (arith, l))
below_pick (suc n) j h l = elim (cases_eq n j) [
  | inl e ↦
      let rest = below_none n (λ k. eqb k j) h (λ k k_low. eqb_apart k j (λ q. omega (arith, q, e, k_low))) in
      let here : cond (eqb n j) (h n) (pos 0) ≡ h j = ap (λ b. cond b (h n) (pos 0)) (eq-eqb n j e) ∙ ap h e in
      omega (arith, ints, rest, here)
  | inr ne ↦
      let rest = below_pick n j h (omega arith) in
      let here : cond (eqb n j) (h n) (pos 0) ≡ pos 0 = ap (λ b. cond b (h n) (pos 0)) (eqb_apart n j ne) in
      omega (arith, ints, rest, here)
]

-- ---- last steps

-- a last step with the number of its set raised
abbrev pub raise : ℕ → Option SetAction → Option SetAction
raise n None = None
raise n (Some t) = Some (raised n t)

-- the last of raised steps
last_raised : (n : ℕ) (b : SetAction) (ts : List SetAction) → last_after (Some (raised n b)) (map (raised n) ts) ≡ raise n (last_after (Some b) ts)
last_raised n b [] = refl
last_raised n b (t ∷ ts) = last_raised n t ts

-- the last step of a path that enters
pub last_entered : (rule : Rule) (n : ℕ) (p : List SetAction) → last_step (entered_path rule n p) ≡ raise n (last_step p)
last_entered rule n [] = refl
last_entered rule n (t ∷ ts) = last_raised n t ts

-- raised steps are one where they were
pub step_raised : (n : ℕ) (o : Option SetAction) (J a : ℕ) → is_taken (record { set = (n + J); action = a }) (raise n o) ≡ is_taken (record { set = J; action = a }) o
step_raised n None J a = refl
step_raised n (Some t) J a = ap (λ b. b && eqb t.action a) (eqb_raised n t.set J)

-- and are at no lower set
pub step_low : (n : ℕ) (o : Option SetAction) (J a : ℕ) → J < n → is_taken (record { set = J; action = a }) (raise n o) ≡ false
step_low n None J a l = refl
step_low n (Some t) J a l = ap (λ b. b && eqb t.action a) (eqb_apart (n + t.set) J (λ e. omega (arith, e, l)))

-- ---- a set that is not there

-- a path does not pass through it
none_passes : (ns : List ℕ) (parent : ℕ → Option SetAction) (before : Option SetAction) (K : ℕ) (path : List SetAction) → IsPath ns parent before path → length ns ≤ K → passes_through K path ≡ false
none_passes ns parent before K [] h le = refl
none_passes ns parent before K (t ∷ ts) h le =
    ap (λ b. b || passes_through K ts) (eqb_apart t.set K (λ e. omega (arith, e, h.2.0, le))) ∙ none_passes ns parent (Some t) K ts h.3 le

-- so no row does
pub no_rows : (ns : List ℕ) (parent : ℕ → Option SetAction) (seat K : ℕ) (rows : List Row) → AllByRecursion (λ (z : Row). IsPath ns parent None (path_of z seat)) rows → length ns ≤ K
    → filter (λ z. passes_through K (path_of z seat)) rows ≡ []
no_rows ns parent seat K [] h le = refl
no_rows ns parent seat K (z ∷ zs) h le =
    ap (λ b. cond b (z ∷ filter (λ z. passes_through K (path_of z seat)) zs) (filter (λ z. passes_through K (path_of z seat)) zs)) (none_passes ns parent None K (path_of z seat) h.0 le)
    ∙ no_rows ns parent seat K zs h.1 le

-- ---- tests

-- a test and one that holds
pub with_true : (b : Bool) → (b && true) ≡ b
with_true true = refl
with_true false = refl

-- a test and one that fails
pub with_false : (b : Bool) → (b && false) ≡ false
with_false true = refl
with_false false = refl

-- entries differ where their roots do
pub entry_same : (rule : Rule) (K i : ℕ) → is_taken (record { set = (follow_step rule i).set; action = (follow_step rule i).action }) (Some (follow_step rule K)) ≡ eqb K i
entry_same cfrd K i = with_true (eqb K i)
entry_same reach K i = with_true (eqb K i)
entry_same margin K i = refl
