-- Each rule keeps the bounds on a view: values of the root sets within its limits back up no more than the bound at the first set.
use Rattle.std.proofs.Common.{◌≡◌, ℕ, zero, suc, ◌+◌, ◌-◌, ◌<◌, ◌≤◌, ℤ, pos, ◌+ℤ◌, ◌-ℤ◌, ◌≤ℤ◌, ◌∷◌, Bool, true, false, cond, eqb, Option, Some, None, length, map, refl, ap, ◌∙◌, subst, arith, eqb-true, leb-true}
use Rattle.std.specs.Prelude.{nat_le}
use Rattle.std.specs.List.{range_with_len}
use Rattle.std.proofs.lemmas.Int.{ints}
use Rattle.std.proofs.lemmas.List.FromFn.{get_or-map-range_with_len}
use Rattle.lab_math.specs.Greatest.{greatest_of}
use Rattle.lab_math.proofs.Members.{In, all_from_in, in_from_range, in_from_filter}
use Rattle.lab_math.proofs.Elements.{all_map}
use Rattle.lab_defs_value.specs.Allowances.{Rule}
use Rattle.lab_defs_value.specs.Views.{View, path_set, path_step, above, follows_step, IsFollow, IsView, view_allowance, root_allowances, root_limit, step_value, steps_from, backed_up_within}
use Rattle.lab_rule_laws.specs.ViewLaws.{ViewLaw}
use Rattle.lab_rule_laws.proofs.RulePaths.{total_le_sum, fold_le}
use Rattle.lab_rule_laws.proofs.ViewShares.{path_family, first_none, step_kept}

module _ (rule : Rule) (v : View) (ok : IsView v) where
  -- the limit of a set of the path: its bound, raised by its allowance
  abbrev path_limit : ℕ → ℤ
  path_limit i = (path_set v i).bound +ℤ pos (view_allowance rule v i)

  -- the limit of a root set is that of the path
  root_is : (i : ℕ) → above v ≤ i → i < length v.sets → root_limit v (root_allowances rule v) (i - above v) ≡ path_limit i
  root_is i ge l =
      let j : ℕ = i - above v in
      let place : above v + j ≡ i = omega (arith, ge) in
      ap (λ n. (path_set v (above v + j)).bound +ℤ pos n) (get_or-map-range_with_len (λ i. view_allowance rule v (above v + i)) 0 v.roots j j 0 (omega (arith, ge, l, ok.roots)) (omega arith))
      ∙ ap path_limit place

  -- a set that follows a step comes after the one that it leaves
  after : (k j : ℕ) (o : Option (ℕ × ℕ)) → IsFollow v j o → follows_step k o ≡ true → (path_step v k).from < j
  after k j None h e = cc
  after k j (Some f) h e = subst (λ n. (path_step v n).from < j) (eqb-true f.0 k e) h.1

  -- where the values of later sets are within their limits, what a step backs up is within that of the set that it leaves
  step_within : (V : ℕ → ℤ) (k : ℕ) → k < length v.steps → ((j : ℕ) → (path_step v k).from < j → j < length v.sets → V j ≤ℤ path_limit j) → step_value v V k ≤ℤ path_limit (path_step v k).from
  step_within V k l later =
      let test = λ (j : ℕ). follows_step k (path_set v j).follows in
      let sum = total_le_sum (λ j. V j -ℤ (path_set v j).bound) (view_allowance rule v) (path_family v k)
      (λ j i. let there = in_from_filter test (range_with_len 0 (length v.sets)) j i in
      let low : j < length v.sets = omega (arith, (in_from_range j 0 (length v.sets) there.0).1) in
      let le = later j (after k j (path_set v j).follows (ok.follows j low) there.1) low in
      omega (arith, ints, le)) in
      let kept = step_kept v ok rule k l in
      omega (arith, ints, sum, kept)

  -- so from the last set back all are within their limits
  within : (W : ℕ → ℤ) → ((i : ℕ) → i < v.roots → W i ≤ℤ root_limit v (root_allowances rule v) i) → (m i : ℕ) → i < length v.sets → length v.sets ≤ i + m → backed_up_within v W m i ≤ℤ path_limit i
  within W low zero i l le = absurd (omega (arith, l, le))
  within W low (suc m) i l le = at (nat_le (above v) i) refl (λ j later there. within W low m j there (omega (arith, later, le)))
    where
      V : ℕ → ℤ
      V = backed_up_within v W m

      one : ((j : ℕ) → i < j → j < length v.sets → V j ≤ℤ path_limit j) → (k : ℕ) → In k (steps_from v i) → step_value v V k ≤ℤ path_limit i
      one rest k j =
          let there = in_from_filter (λ k. eqb (path_step v k).from i) (range_with_len 0 (length v.steps)) k j in
          let from = eqb-true (path_step v k).from i there.1 in
          subst (λ n. step_value v V k ≤ℤ path_limit n) from
          (step_within V k (omega (arith, (in_from_range k 0 (length v.steps) there.0).1)) (λ j later low. rest j (omega (arith, later, from)) low))

      at : (b : Bool) → nat_le (above v) i ≡ b → ((j : ℕ) → i < j → j < length v.sets → V j ≤ℤ path_limit j)
          → cond b (W (i - above v)) (greatest_of ((path_set v i).bound ∷ map (step_value v V) (steps_from v i))) ≤ℤ path_limit i
      at true e rest =
          let ge = leb-true (above v) i e in
          subst (λ x. W (i - above v) ≤ℤ x) (root_is i ge l) (low (i - above v) (omega (arith, ge, l, ok.roots)))
      at false e rest =
          fold_le (path_limit i) (path_set v i).bound (map (step_value v V) (steps_from v i)) (omega (arith, ints))
          (all_map (λ k. step_value v V k ≤ℤ path_limit i) (λ x. x ≤ℤ path_limit i) (step_value v V) (steps_from v i) (λ k h. h)
          (all_from_in (λ k. step_value v V k ≤ℤ path_limit i) (steps_from v i) (one rest)))

-- the law of views
pub view_law : ViewLaw
view_law rule v ok W low =
    let le = within rule v ok W low (length v.sets) 0 (omega (arith, ok.some, ok.roots)) (omega arith) in
    let none = first_none v ok rule (omega (arith, ok.some, ok.roots)) in
    omega (arith, ints, le, none)
