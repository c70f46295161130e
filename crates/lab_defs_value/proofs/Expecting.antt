-- What a seat expects is what its table earns as a reply.
use Rattle.std.proofs.Common.{◌≡◌, ℕ, ◌+◌, ◌*◌, ◌-◌, ◌^◌, ℤ, pos, neg_ℤ, ◌≤ℤ◌, subst, ◌*ℤ◌, List, [], ◌∷◌, true, false, cond, eqb, refl, sym, ap, ◌∙◌, arith}
use Rattle.std.proofs.lemmas.Int.{ints}
use Rattle.std.proofs.lemmas.Bool.{or_left, both_ways}
use Rattle.lab_math.specs.Sums.{total, product_over}
use Rattle.lab_math.proofs.Integers.{mul_assoc_z, pos-mul}
use Rattle.lab_math.proofs.Ring.{neg-*ℤ}
use Rattle.lab_math.proofs.Totals.{total_cong, total_filter, total_cong_all}
use Rattle.lab_defs_game.specs.Forms.{Row, path_of, pad_of, deciding, actions_of}
use Rattle.lab_defs_game.specs.Paths.{SetAction}
use Rattle.lab_defs_value.specs.Tables.{own_weight}
use Rattle.lab_defs_value.specs.Parents.{passes_through, path_from, begins_at}
use Rattle.lab_defs_value.specs.Replies.{factors_in, Strategy, Reply, opponent, reply_sets, reply_factors, reply_factor, reply_by, worth_against, tail, earned}
use Rattle.lab_defs_value.specs.Laws.{IsPadded, ExpectationLaw, GuaranteeLaw}
use Rattle.lab_defs_value.proofs.BestLaws.{holds_bounds}

-- a path that begins at a set passes through it
begins_through : (path : List SetAction) → begins_at path 0 ≡ true → passes_through 0 path ≡ true
begins_through [] e = absurd (both_ways false refl e)
begins_through (t ∷ ts) e = or_left (eqb t.set 0) (passes_through 0 ts) e

-- and all of it is from there on
begins_from : (path : List SetAction) → begins_at path 0 ≡ true → path_from 0 path ≡ path
begins_from [] e = refl
begins_from (t ∷ ts) e = ap (λ b. cond b (t ∷ ts) (path_from 0 ts)) e

-- the weights of a reply on a whole path, and its number for each decision that the row lacks
abbrev pub path_weight : List ℕ → Reply → List SetAction → ℕ → ℕ
path_weight ns r path pad = product_over (reply_factor ns r) path * r.all ^ pad

-- a tail from the beginning on has these
tail_whole : (ns : List ℕ) (m pad : ℕ) (r : Reply) (path : List SetAction) → begins_at path 0 ≡ true → deciding ns path + pad ≡ m → tail ns m r 0 path ≡ path_weight ns r path pad
tail_whole ns m pad r path e h =
    let left : m - deciding ns path ≡ pad = omega (arith, h) in
    ap (λ p. product_over (reply_factor ns r) p * r.all ^ (m - deciding ns p)) (begins_from path e) ∙ ap (λ k. product_over (reply_factor ns r) path * r.all ^ k) left

-- what a reply earns, row by row; by a table on its grid the weights are the own weights
pub earned_whole : (s : Strategy) (r : Reply) → IsPadded s.form (opponent s)
    → earned s r 0 ≡ total (λ z. worth_against s z *ℤ pos (path_weight (reply_sets s) r (path_of z (opponent s)) (pad_of z (opponent s)))) s.form.rows
earned_whole s r padded =
    let ns = reply_sets s in
    let m = reply_factors s in
    let o = opponent s in
    total_filter (λ z. passes_through 0 (path_of z o)) (λ z. worth_against s z *ℤ pos (tail ns m r 0 (path_of z o))) s.form.rows
    ∙ total_cong_all (λ (z : Row). (begins_at (path_of z o) 0 ≡ true) × (deciding ns (path_of z o) + pad_of z o ≡ m)) _
    (λ z. worth_against s z *ℤ pos (path_weight ns r (path_of z o) (pad_of z o))) s.form.rows (λ k d l. (padded.first k d l, padded.factors k d l))
    (λ z h. ap (λ b. cond b (worth_against s z *ℤ pos (tail ns m r 0 (path_of z o))) (pos 0)) (begins_through (path_of z o) h.0)
    ∙ ap (λ t. worth_against s z *ℤ pos t) (tail_whole ns m (pad_of z o) r (path_of z o) h.0 h.1))

-- a sign goes out of a sum
total_neg : {X : Type 0} (f g : X → ℤ) (xs : List X) → ((x : X) → f x ≡ neg_ℤ (g x)) → total f xs ≡ neg_ℤ (total g xs)
total_neg f g [] e = refl
total_neg f g (x ∷ xs) e = omega (arith, ints, e x, total_neg f g xs e)

-- two factors after one another
two_factors : (w : ℤ) (a b : ℕ) → (w *ℤ pos a) *ℤ pos b ≡ w *ℤ pos (a * b)
two_factors w a b = mul_assoc_z w (pos a) (pos b) ∙ ap (λ t. w *ℤ t) (sym (pos-mul a b))

-- the law of expectations
pub expectation_law : ExpectationLaw
expectation_law f grid1 grid2 table1 table2 =
    let own1 = λ (z : Row). own_weight grid1 (actions_of f 1) table1 z.path1 z.pad1 in
    let own2 = λ (z : Row). own_weight grid2 (actions_of f 2) table2 z.path2 z.pad2 in (
      λ padded.
          earned_whole (record { form = f; keeper = 1; grid = grid1; table = table1 }) (reply_by grid2 (actions_of f 2) table2) padded
          ∙ total_neg _ (λ z. z.worth *ℤ pos (own1 z * own2 z)) f.rows (λ z. two_factors (neg_ℤ z.worth) (own1 z) (own2 z) ∙ neg-*ℤ z.worth (pos (own1 z * own2 z))),
      λ padded.
          earned_whole (record { form = f; keeper = 2; grid = grid2; table = table2 }) (reply_by grid1 (actions_of f 1) table1) padded
          ∙ total_cong _ (λ z. z.worth *ℤ pos (own1 z * own2 z)) f.rows (λ z. two_factors z.worth (own2 z) (own1 z) ∙ ap (λ k. z.worth *ℤ pos k) (swap (own2 z) (own1 z))),
    )
  where
    swap : (a b : ℕ) → a * b ≡ b * a
    swap a b = omega arith

-- the law of what bounds guarantee
pub guarantee_law : GuaranteeLaw
guarantee_law f grid1 grid2 table1 table2 B = (
  λ ok padded some holds tab.
      subst (λ x. x ≤ℤ (pos (grid2 ^ factors_in f 2) *ℤ B 0)) ((expectation_law f grid1 grid2 table1 table2).0 padded)
      (holds_bounds (record { form = f; keeper = 1; grid = grid1; table = table1 }) ok B holds (reply_by grid2 (actions_of f 2) table2) tab 0 some),
  λ ok padded some holds tab.
      subst (λ x. x ≤ℤ (pos (grid1 ^ factors_in f 1) *ℤ B 0)) ((expectation_law f grid1 grid2 table1 table2).1 padded)
      (holds_bounds (record { form = f; keeper = 2; grid = grid2; table = table2 }) ok B holds (reply_by grid1 (actions_of f 1) table1) tab 0 some),
)
