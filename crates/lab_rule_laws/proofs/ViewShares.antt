-- Allowances on a view: each is a part of a pool, the parts of a pool sum to it, and none is too large.
use Rattle.std.proofs.Common.{◌≡◌, ℕ, zero, suc, ◌+◌, ◌*◌, ◌^◌, ◌<◌, ◌≤◌, ℤ, pos, negsuc, ◌+ℤ◌, ◌-ℤ◌, ◌≤ℤ◌, List, [], ◌∷◌, Bool, true, false, cond, eqb, ◌&&◌, Option, Some, None, length, filter, refl, sym, ap, ◌∙◌, subst, arith, eqb-true}
use Rattle.std.specs.List.{range_with_len}
use Rattle.std.proofs.lemmas.Int.{ints}
use Rattle.std.proofs.lemmas.List.Elements.{All-from_recursion}
use Rattle.lab_math.specs.Sums.{sum_over}
use Rattle.lab_math.specs.Below.{sum_below}
use Rattle.lab_math.proofs.BelowLemmas.{sum_below_cong, sum_below_add, sum_below_zero, sum_below_pick, sum_below_term}
use Rattle.lab_math.proofs.Members.{in_from_range}
use Rattle.lab_math.proofs.NaturalSums.{sum_over-same, sum_over-filter, sum_over-places}
use Rattle.lab_defs_game.specs.Keys.{count}
use Rattle.lab_defs_value.specs.Rounding.{share_size, even_part}
use Rattle.lab_defs_value.specs.Allowances.{Rule, cfrd, reach, margin}
use Rattle.lab_defs_value.specs.Views.{PathSet, View, path_set, path_step, above, follows_step, follows_at, steps_above, IsFollow, IsView, step_pool, step_share, reach_view, view_allowance, root_allowances}
use Rattle.lab_defs_value.proofs.Pools.{parts_sum}
use Rattle.lab_defs_value.proofs.GadgetForms.{all_images}
use Rattle.lab_rule_laws.specs.ViewLaws.{ViewAllowanceLaw}
use Rattle.lab_rule_laws.proofs.RulePaths.{share_is, sum_none}

-- ---- sums by places

-- a sum over items of the parts that their tests choose, by the places of the parts
sum_exchange : {X : Type 0} (c : ℕ) (part : ℕ → ℕ) (test : ℕ → X → Bool) (xs : List X)
    → sum_over (λ x. sum_below c (λ p. cond (test p x) (part p) 0)) xs ≡ sum_below c (λ p. part p * count (test p) xs)
sum_exchange c part test [] = sym (sum_below_zero c) ∙ sum_below_cong c (λ p. 0) (λ p. part p * 0) (λ p l. omega arith)
sum_exchange c part test (x ∷ xs) =
    ap (λ n. sum_below c (λ p. cond (test p x) (part p) 0) + n) (sum_exchange c part test xs)
    ∙ sym (sum_below_add c (λ p. cond (test p x) (part p) 0) (λ p. part p * count (test p) xs))
    ∙ sum_below_cong c (λ p. cond (test p x) (part p) 0 + part p * count (test p) xs) (λ p. part p * count (test p) (x ∷ xs)) (λ p l. one (test p x) (part p) (count (test p) xs))
  where
    one : (b : Bool) (part n : ℕ) → cond b part 0 + part * n ≡ part * (cond b 1 0 + n)
    one true part n = omega arith
    one false part n = omega arith

-- where each place is chosen once it is the sum of the parts
sum_chosen : {X : Type 0} (c : ℕ) (part : ℕ → ℕ) (test : ℕ → X → Bool) (xs : List X) → ((p : ℕ) → p < c → count (test p) xs ≡ 1)
    → sum_over (λ x. sum_below c (λ p. cond (test p x) (part p) 0)) xs ≡ sum_below c part
sum_chosen c part test xs once =
    sum_exchange c part test xs ∙ sum_below_cong c (λ p. part p * count (test p) xs) part (λ p l. let n = once p l in ap (λ n. part p * n) n ∙ omega arith)

-- the part of a set that follows a step, as one of all parts of its pool
part_chosen : (k c : ℕ) (part : ℕ → ℕ) (f : ℕ × ℕ) → (f.0 ≡ k → f.1 < c) → cond (eqb f.0 k) (part f.1) 0 ≡ sum_below c (λ p. cond (eqb f.0 k && eqb f.1 p) (part p) 0)
part_chosen k c part f low = at (eqb f.0 k) (λ e. low (eqb-true f.0 k e))
  where
    at : (b : Bool) → (b ≡ true → f.1 < c) → cond b (part f.1) 0 ≡ sum_below c (λ p. cond (b && eqb f.1 p) (part p) 0)
    at true low = sym (sum_below_pick c f.1 part (low refl))
    at false low = sym (sum_below_zero c)

-- ---- a view

-- the sets that follow a step, by their places
abbrev pub path_family : View → ℕ → List ℕ
path_family v k = filter (λ j. follows_step k (path_set v j).follows) (range_with_len 0 (length v.sets))

module _ (v : View) (ok : IsView v) where
  -- how many sets the path has
  abbrev many : ℕ
  many = length v.sets

  -- the allowance by reach of the set at a place
  abbrev allow : ℕ → ℕ
  allow = reach_view v (length v.sets)

  -- a part looks at the allowances of earlier sets alone
  share_cong : (first second : ℕ → ℕ) (i : ℕ) (o : Option (ℕ × ℕ)) → IsFollow v i o → ((j : ℕ) → j < i → first j ≡ second j) → step_share v first o ≡ step_share v second o
  share_cong first second i None h same = refl
  share_cong first second i (Some f) h same =
      let e = path_step v f.0 in
      ap (λ n. even_part (share_size (pos n +ℤ ((path_set v e.from).bound -ℤ e.through))) e.count f.1) (same e.from h.1)

  -- more room than there are sets before changes nothing
  room : (k l i : ℕ) → i < k → i < l → i < many → reach_view v k i ≡ reach_view v l i
  room zero l i p q r = absurd (omega (arith, p))
  room (suc k) zero i p q r = absurd (omega (arith, q))
  room (suc k) (suc l) i p q r =
      share_cong (reach_view v k) (reach_view v l) i (path_set v i).follows (ok.follows i r) (λ j lt. room k l j (omega (arith, lt, p)) (omega (arith, lt, q)) (omega (arith, lt, r)))

  -- each set has its part of the pool of the step that it follows
  pub reach_is : (i : ℕ) → i < many → allow i ≡ step_share v allow (path_set v i).follows
  reach_is i l = at many refl
    where
      at : (k : ℕ) → many ≡ k → reach_view v k i ≡ step_share v allow (path_set v i).follows
      at zero e = absurd (omega (arith, e, l))
      at (suc k) e =
          share_cong (reach_view v k) allow i (path_set v i).follows (ok.follows i l) (λ j lt. room k many j (omega (arith, lt, l, e)) (omega (arith, lt, l)) (omega (arith, lt, l)))

  -- the first set has no allowance
  pub first_none : (rule : Rule) → 0 < many → view_allowance rule v 0 ≡ 0
  first_none cfrd l = refl
  first_none margin l = refl
  first_none reach l = reach_is 0 l ∙ at (path_set v 0).follows (ok.follows 0 l)
    where
      at : (o : Option (ℕ × ℕ)) → IsFollow v 0 o → step_share v allow o ≡ 0
      at None h = refl
      at (Some f) h = absurd (omega (arith, h.1))

  -- ---- the parts of a pool

  -- the allowance of a set that follows a step, as one of the parts of its pool
  one_part : (k j : ℕ) → j < many → let e = path_step v k in
      let part = even_part (step_pool v allow e) e.count in
      cond (follows_step k (path_set v j).follows) (allow j) 0 ≡ sum_below e.count (λ p. cond (follows_at k p (path_set v j).follows) (part p) 0)
  one_part k j l = ap (λ n. cond (follows_step k (path_set v j).follows) n 0) (reach_is j l) ∙ at (path_set v j).follows (ok.follows j l)
    where
      c : ℕ
      c = (path_step v k).count

      part : ℕ → ℕ
      part = even_part (step_pool v allow (path_step v k)) (path_step v k).count

      at : (o : Option (ℕ × ℕ)) → IsFollow v j o → cond (follows_step k o) (step_share v allow o) 0 ≡ sum_below c (λ p. cond (follows_at k p o) (part p) 0)
      at None h = sym (sum_below_zero c)
      at (Some f) h = own (eqb f.0 k) refl ∙ part_chosen k c part f (λ e. subst (λ n. f.1 < (path_step v n).count) e h.3)
        where
          own : (b : Bool) → eqb f.0 k ≡ b → cond b (step_share v allow (Some f)) 0 ≡ cond b (part f.1) 0
          own true e = ap (λ n. even_part (step_pool v allow (path_step v n)) (path_step v n).count f.1) (eqb-true f.0 k e)
          own false e = refl

  -- the allowances of the sets that follow a step sum to the parts of its pool
  pub parts_total : (k : ℕ) → k < length v.steps → let e = path_step v k in sum_over allow (path_family v k) ≡ sum_below e.count (even_part (step_pool v allow e) e.count)
  parts_total k l =
      let e = path_step v k in
      let part = even_part (step_pool v allow e) e.count in
      let test = λ (p : ℕ) (s : PathSet). follows_at k p s.follows in
      let F = λ (s : PathSet). sum_below e.count (λ p. cond (test p s) (part p) 0) in
      sum_over-filter allow (λ j. follows_step k (path_set v j).follows) (range_with_len 0 many)
      ∙ sum_over-same (λ j. cond (follows_step k (path_set v j).follows) (allow j) 0) (λ j. F (path_set v j)) (range_with_len 0 many) (λ j i. one_part k j (omega (arith, (in_from_range j 0 many i).1)))
      ∙ sum_over-places F (record { set = 0; bound = pos 0; follows = None }) v.sets
      ∙ sum_chosen e.count part test v.sets (λ p low. ok.places k p l low)

  -- so to no more than the pool
  parts_within : (k : ℕ) → k < length v.steps → sum_over allow (path_family v k) ≤ step_pool v allow (path_step v k)
  parts_within k l = at (path_step v k).count (parts_total k l)
    where
      whole : ℕ
      whole = step_pool v allow (path_step v k)

      at : (c : ℕ) → sum_over allow (path_family v k) ≡ sum_below c (even_part whole c) → sum_over allow (path_family v k) ≤ whole
      at zero e = omega (arith, e)
      at (suc c) e = let all = parts_sum whole (suc c) (omega arith) in omega (arith, e, all)

  -- what a step backs up and the allowances of the sets that follow it are within bound and allowance of the set that it leaves
  pub step_kept : (rule : Rule) (k : ℕ) → k < length v.steps → let e = path_step v k in
      (e.through +ℤ pos (sum_over (view_allowance rule v) (path_family v k))) ≤ℤ ((path_set v e.from).bound +ℤ pos (view_allowance rule v e.from))
  step_kept cfrd k l = let none = sum_none (path_family v k) in let le = ok.through k (record { from = 0; action = 0; through = pos 0; count = 0 }) l in omega (arith, ints, none, le)
  step_kept margin k l = let none = sum_none (path_family v k) in let le = ok.through k (record { from = 0; action = 0; through = pos 0; count = 0 }) l in omega (arith, ints, none, le)
  step_kept reach k l =
      let e = path_step v k in
      let le : e.through ≤ℤ (path_set v e.from).bound = ok.through k (record { from = 0; action = 0; through = pos 0; count = 0 }) l in
      let size = share_is (pos (allow e.from) +ℤ ((path_set v e.from).bound -ℤ e.through)) (omega (arith, ints, le)) in
      let within = parts_within k l in
      omega (arith, ints, size, within)

  -- ---- sizes

  -- a share is at most what it is at most
  share_le : (z : ℤ) (n : ℕ) → z ≤ℤ pos n → share_size z ≤ n
  share_le (pos m) n le = omega (arith, ints, le)
  share_le (negsuc m) n le = omega arith

  -- an allowance is at most two bounds for each step above
  reach_small : (m i : ℕ) → i < many → reach_view v m i ≤ steps_above v m i * 2 ^ 118
  reach_small zero i l = omega arith
  reach_small (suc m) i l = at (path_set v i).follows (ok.follows i l) (λ j lt. reach_small m j (omega (arith, lt, l)))
    where
      at : (o : Option (ℕ × ℕ)) → IsFollow v i o → ((j : ℕ) → j < i → reach_view v m j ≤ steps_above v m j * 2 ^ 118)
          → step_share v (reach_view v m) o ≤ elim o [ None ↦ 0 | Some f ↦ suc (steps_above v m (path_step v f.0).from) ] * 2 ^ 118
      at None h rest = omega arith
      at (Some f) h rest =
          let e = path_step v f.0 in
          let bound = ok.bounds e.from (record { set = 0; bound = pos 0; follows = None }) (omega (arith, h.1, l)) in
          let through = ok.throughs f.0 (record { from = 0; action = 0; through = pos 0; count = 0 }) h.0 in
          let before = rest e.from h.1 in
          let whole = step_pool v (reach_view v m) e in
          let pool : whole ≤ reach_view v m e.from + 2 ^ 118 = share_le (pos (reach_view v m e.from) +ℤ ((path_set v e.from).bound -ℤ e.through)) (reach_view v m e.from + 2 ^ 118) (omega (arith, ints, bound, through)) in
          let part = sum_below_term e.count f.1 (even_part whole e.count) h.3 in
          let all = parts_sum whole e.count (omega (arith, h.3)) in
          omega (arith, pool, part, all, before)

  -- the law of one view
  pub allowances_small : (rule : Rule) (i : ℕ) → i < many → view_allowance rule v i ≤ 2 ^ 123
  allowances_small cfrd i l = omega arith
  allowances_small margin i l = omega arith
  allowances_small reach i l = let small = reach_small many i l in let deep = ok.depth i l in omega (arith, small, deep)

-- the law of allowances on views
pub view_allowance_law : ViewAllowanceLaw
view_allowance_law rule v ok =
    All-from_recursion (λ n. n ≤ 2 ^ 123) (root_allowances rule v)
    (all_images (λ n. n ≤ 2 ^ 123) (λ i. view_allowance rule v (above v + i)) 0 v.roots (λ i ge l. allowances_small v ok rule (above v + i) (omega (arith, l, ok.roots))))
