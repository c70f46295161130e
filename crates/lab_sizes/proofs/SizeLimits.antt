-- How far limits lie: bound and allowance together, with the top payoff times the mass, don't grow along the path to a node.
use Rattle.std.proofs.Common.{◌≡◌, ℕ, zero, suc, ◌+◌, ◌*◌, ◌/◌, ◌%◌, ◌^◌, ◌<◌, ◌≤◌, ℤ, pos, negsuc, neg_ℤ, ◌+ℤ◌, ◌-ℤ◌, ◌*ℤ◌, ◌≤ℤ◌, List, [], Bool, true, false, cond, ◌&&◌, eqb, ltb, Option, Some, None, length, map, max, refl, sym, ap, ◌∙◌, subst, arith, mul-le-mul, le_of_eq}
use Rattle.std.proofs.Math.Nat.{div-zero, mod-le}
use Rattle.std.specs.Prelude.{unsigned_abs, slice_index}
use Rattle.std.proofs.lemmas.Int.{ints}
use Rattle.std.proofs.lemmas.Bool.{ltb-true, lt-ltb}
use Rattle.lab_math.specs.Sums.{total}
use Rattle.lab_math.specs.Below.{sum_below, total_below}
use Rattle.lab_math.proofs.SumLemmas.{total-map}
use Rattle.std.proofs.lemmas.List.FromFn.{length-map-range_with_len}
use Rattle.lab_math.proofs.Totals.{total_mul, total_add}
use Rattle.lab_math.proofs.BelowLemmas.{eqb_self, sum_below_term, total_below_cong, total_below_add, total_below_mul}
use Rattle.lab_math.proofs.Integers.{pos-mul, mul_le_z, le_trans_z, mul_add_z, one_mul_z}
use Rattle.lab_defs_text.specs.Games.{GameModel}
use Rattle.lab_defs_game.specs.Histories.{History}
use Rattle.lab_defs_game.specs.Sets.{sets, most_decisions}
use Rattle.lab_defs_game.specs.Chance.{scale}
use Rattle.lab_defs_game.specs.Forms.{Row, row_along, path_of, parent_of}
use Rattle.lab_defs_game.specs.Paths.{SetAction, last_step, is_taken}
use Rattle.lab_defs_game.specs.Unfolding.{top_payoff}
use Rattle.lab_defs_value.specs.Rounding.{share_size, even_part}
use Rattle.lab_defs_game.specs.Seats.{grid_of, other, IsSeat}
use Rattle.lab_defs_value.specs.Parents.{IsStepBelow}
use Rattle.lab_defs_value.specs.Replies.{Strategy, strategy_of, worth_against, reply_sets, reply_factors, earned}
use Rattle.lab_defs_value.specs.BestValues.{IsBest, best_response_value}
use Rattle.lab_defs_value.specs.Bounds.{at, through, through_sets, through_rows, value_limit, HasBounds}
use Rattle.lab_defs_value.specs.Allowances.{Rule, cfrd, reach, margin, pool, shared, allowance, path_followers}
use Rattle.lab_defs_game.specs.Nodes.{ends_by_nodes, path_sets}
use Rattle.lab_defs_value.proofs.Pools.{reach_law, parts_sum}
use Rattle.lab_defs_value.proofs.PureReplies.{best_value_law}
use Rattle.lab_defs_game.specs.Accepted.{IsAccepted}
use Rattle.lab_defs_value.proofs.Bests.{one_pow}
use Rattle.lab_defs_value.proofs.BestLaws.{holds_bounds}
use Rattle.lab_defs_value.proofs.GameValues.{some_set}
use Rattle.lab_defs_value.proofs.GameStrategies.{other_seat, actions_there, sound, reply_count, at_tight, tight_holds, tight_tight, no_parent_first}
use Rattle.lab_sizes.proofs.SizeMass.{mass_row, mass_of, mass, payoff_top, worth_mass, worth_size, best_size}
use Rattle.lab_sizes.proofs.SizeRanges.{total_up, total_below_up, total_below_term, cond_up, heights, mass_sound, mass_up, mass_most, range_law}
use Rattle.lab_sizes.specs.Sizes.{IsInRange, TightBoundsLaw, BoundLaw, LimitLaw}

-- ---- parts of a pool

-- a part is at most the pool
part_le : (pool m place : ℕ) → even_part pool m place ≤ pool
part_le pool zero place =
    let z : pool / zero ≡ 0 = div-zero pool in
    at (ltb place (pool % zero)) refl z
  where
    at : (b : Bool) → ltb place (pool % zero) ≡ b → pool / zero ≡ 0 → pool / zero + cond b 1 0 ≤ pool
    at true e z = let l = ltb-true place (pool % zero) e in let m = mod-le pool zero in omega (arith, l, m, z)
    at false e z = omega (arith, z)
part_le pool (suc m) place =
    let first : even_part pool (suc m) 0 ≤ sum_below (suc m) (even_part pool (suc m)) = sum_below_term (suc m) 0 (even_part pool (suc m)) (omega arith) in
    let whole = parts_sum pool (suc m) (omega arith) in
    omega (arith, first, whole, later place (pool % suc m))
  where
    later : (k r : ℕ) → cond (ltb k r) 1 0 ≤ cond (ltb 0 r) 1 0
    later k r = by (ltb k r) refl
      where
        by : (b : Bool) → ltb k r ≡ b → cond b 1 0 ≤ cond (ltb 0 r) 1 0
        by true e = let l = ltb-true k r e in subst (λ b. 1 ≤ cond b 1 0) (sym (lt-ltb 0 r (omega (arith, l)))) (omega arith)
        by false e = omega arith

-- the size of a share that is not negative
share_is : (x : ℤ) → pos 0 ≤ℤ x → pos (share_size x) ≡ x
share_is (pos n) h = refl
share_is (negsuc n) h = absurd (omega (arith, ints, h))

module _ (g : GameModel) (ok : IsAccepted g) (keeper : ℕ) (is : IsSeat keeper) (table : List ℕ) (bounds : List ℤ) (has : HasBounds g keeper table bounds) where
  abbrev played : Strategy
  played = strategy_of g keeper table

  abbrev masses : Strategy
  masses = mass_of g keeper table

  -- the bounds
  abbrev B : ℕ → ℤ
  B = at bounds

  -- the masses
  abbrev H : ℕ → ℤ
  H = heights g ok keeper is table

  abbrev U : ℕ
  U = top_payoff g

  -- a bound with the top payoff times the mass
  abbrev deep : ℕ → ℤ
  deep K = B K +ℤ (pos U *ℤ H K)

  -- a bound is at least the best-response value
  best_below : (K : ℕ) → K < length (reply_sets played) → best_response_value played K ≤ℤ B K
  best_below K l =
      let s = sound g ok keeper is table in
      let b : IsBest played K (best_response_value played K) = (best_value_law played s).0 K l in
      let r = b.earns.0 in
      let one : pos (r.all ^ reply_factors played) *ℤ B K ≡ B K = ap (λ n. pos (n ^ reply_factors played) *ℤ B K) b.earns.2 ∙ ap (λ n. pos n *ℤ B K) (one_pow (reply_factors played)) ∙ one_mul_z (B K) in
      subst (λ x. x ≤ℤ B K) b.earns.3 (subst (λ x. earned played r K ≤ℤ x) one (holds_bounds played s B has.holding r b.earns.1 K l))

  -- so it is not below what the masses may take away
  deep_up : (K : ℕ) → K < length (reply_sets played) → pos 0 ≤ℤ deep K
  deep_up K l =
      let b = best_size g keeper table (sound g ok keeper is table) K l in
      let le : (pos U *ℤ pos b.0) ≤ℤ (pos U *ℤ H K) = mul_le_z U (pos b.0) (H K) b.2 in
      above (B K) (best_response_value played K) (pos U *ℤ H K) (U * b.0) (best_below K l) b.1 (subst (λ x. x ≤ℤ (pos U *ℤ H K)) (sym (pos-mul U b.0)) le)
    where
      above : (b v h : ℤ) (n : ℕ) → v ≤ℤ b → unsigned_abs v ≤ n → pos n ≤ℤ h → pos 0 ≤ℤ (b +ℤ h)
      above b v h n e s p = omega (arith, ints, e, s, p)

  -- what an action backs up, of both together, by the sets that follow it
  sets_deep : (J a : ℕ) → through_sets played B J a +ℤ (pos U *ℤ through_sets masses H J a) ≡ total_below (length (reply_sets played)) (λ K. cond (is_taken (record { set = J; action = a }) (parent_of played.form (other keeper) K)) (deep K) (pos 0))
  sets_deep J a =
      let n = length (reply_sets played) in
      let F = λ (K : ℕ). cond (is_taken (record { set = J; action = a }) (parent_of played.form (other keeper) K)) (B K) (pos 0) in
      let G = λ (K : ℕ). cond (is_taken (record { set = J; action = a }) (parent_of masses.form (other keeper) K)) (H K) (pos 0) in
      ap (λ x. total_below n F +ℤ x) (sym (total_below_mul n (pos U) G))
      ∙ sym (total_below_add n F (λ K. pos U *ℤ G K))
      ∙ total_below_cong n (λ K. F K +ℤ (pos U *ℤ G K)) (λ K. cond (is_taken (record { set = J; action = a }) (parent_of played.form (other keeper) K)) (deep K) (pos 0))
      (λ K l. one (is_taken (record { set = J; action = a }) (parent_of played.form (other keeper) K)) (B K) (H K))
    where
      one : (b : Bool) (x y : ℤ) → cond b x (pos 0) +ℤ (pos U *ℤ cond b y (pos 0)) ≡ cond b (x +ℤ (pos U *ℤ y)) (pos 0)
      one true x y = refl
      one false x y = omega (arith, ints)

  -- and by the rows that end with it
  rows_deep : (J a : ℕ) → pos 0 ≤ℤ (through_rows played J a +ℤ (pos U *ℤ through_rows masses J a))
  rows_deep J a =
      let hs = ends_by_nodes g in
      let F = λ (z : Row). cond (is_taken (record { set = J; action = a }) (last_step (path_of z (other keeper)))) (worth_against played z) (pos 0) in
      let G = λ (z : Row). cond (is_taken (record { set = J; action = a }) (last_step (path_of z (other keeper)))) (worth_against masses z) (pos 0) in
      let f = λ (h : History). F (row_along g h) in
      let k = λ (h : History). G (mass_row g (other keeper) h) in
      let whole : through_rows played J a +ℤ (pos U *ℤ through_rows masses J a) ≡ total (λ h. f h +ℤ (pos U *ℤ k h)) hs =
      ap (λ x. x +ℤ (pos U *ℤ total G (map (mass_row g (other keeper)) hs))) (total-map F (row_along g) hs)
      ∙ ap (λ x. total f hs +ℤ (pos U *ℤ x)) (total-map G (mass_row g (other keeper)) hs)
      ∙ ap (λ x. total f hs +ℤ x) (sym (total_mul (pos U) k hs))
      ∙ sym (total_add f (λ h. pos U *ℤ k h) hs) in
      subst (λ x. pos 0 ≤ℤ x) (sym whole)
      (total_up (λ h. f h +ℤ (pos U *ℤ k h)) hs (λ h i.
      one (is_taken (record { set = J; action = a }) (last_step (path_of (row_along g h) (other keeper)))) (worth_against played (row_along g h)) (worth_against masses (mass_row g (other keeper) h)) (mass g keeper table h)
      (worth_mass g keeper table h) (worth_size g keeper table h (payoff_top g h i))))
    where
      low : (w x : ℤ) (n : ℕ) → unsigned_abs w ≤ n → x ≡ pos n → pos 0 ≤ℤ (w +ℤ x)
      low w x n s e = omega (arith, ints, s, e)

      one : (b : Bool) (w v : ℤ) (m : ℕ) → v ≡ pos m → unsigned_abs w ≤ U * m → pos 0 ≤ℤ (cond b w (pos 0) +ℤ (pos U *ℤ cond b v (pos 0)))
      one true w v m e s = low w (pos U *ℤ v) (U * m) s (ap (λ x. pos U *ℤ x) e ∙ sym (pos-mul U m))
      one false w v m e s = omega (arith, ints)

  -- a set that follows an action brings no more than the action backs up
  through_deep : (I J a : ℕ) → I < length (reply_sets played) → is_taken (record { set = J; action = a }) (parent_of played.form (other keeper) I) ≡ true → deep I ≤ℤ (through played B J a +ℤ (pos U *ℤ through masses H J a))
  through_deep I J a l e =
      let n = length (reply_sets played) in
      let F = λ (K : ℕ). cond (is_taken (record { set = J; action = a }) (parent_of played.form (other keeper) K)) (deep K) (pos 0) in
      let mine : F I ≡ deep I = ap (λ b. cond b (deep I) (pos 0)) e in
      let term = total_below_term n I F (λ K k. cond_up (is_taken (record { set = J; action = a }) (parent_of played.form (other keeper) K)) (deep K) (deep_up K k)) l in
      join (F I) (deep I) (total_below n F) (through_sets played B J a) (through_rows played J a) (through_sets masses H J a) (through_rows masses J a) mine term (sets_deep J a) (rows_deep J a)
    where
      join : (f d t s r s' r' : ℤ) → f ≡ d → f ≤ℤ t → s +ℤ (pos U *ℤ s') ≡ t → pos 0 ≤ℤ (r +ℤ (pos U *ℤ r')) → d ≤ℤ ((s +ℤ r) +ℤ (pos U *ℤ (s' +ℤ r')))
      join f d t s r s' r' e p q u = let m = mul_add_z (pos U) s' r' in omega (arith, ints, e, p, q, u, m)

  -- what an action backs up is not below what the masses may take away
  through_up : (J a : ℕ) → pos 0 ≤ℤ (through played B J a +ℤ (pos U *ℤ through masses H J a))
  through_up J a =
      let n = length (reply_sets played) in
      let F = λ (K : ℕ). cond (is_taken (record { set = J; action = a }) (parent_of played.form (other keeper) K)) (deep K) (pos 0) in
      let up = total_below_up n F (λ K k. cond_up (is_taken (record { set = J; action = a }) (parent_of played.form (other keeper) K)) (deep K) (deep_up K k)) in
      join (total_below n F) (through_sets played B J a) (through_rows played J a) (through_sets masses H J a) (through_rows masses J a) up (sets_deep J a) (rows_deep J a)
    where
      join : (t s r s' r' : ℤ) → pos 0 ≤ℤ t → s +ℤ (pos U *ℤ s') ≡ t → pos 0 ≤ℤ (r +ℤ (pos U *ℤ r')) → pos 0 ≤ℤ ((s +ℤ r) +ℤ (pos U *ℤ (s' +ℤ r')))
      join t s r s' r' p q u = let m = mul_add_z (pos U) s' r' in omega (arith, ints, p, q, u, m)

  -- bound, allowance and mass together
  abbrev reach_path : List ℕ → ℕ → ℕ
  reach_path path = allowance reach played B path

  -- they don't grow from a set to one that follows it
  falls : (path : List ℕ) (I : ℕ) (t : SetAction) → I < length (reply_sets played) → parent_of played.form (other keeper) I ≡ Some t → t.set < I → t.action < slice_index (reply_sets played) t.set
      → (deep I +ℤ pos (reach_path path I)) ≤ℤ (deep t.set +ℤ pos (reach_path path t.set))
  falls path I t l e before there =
      let J = t.set in
      let a = t.action in
      let n = length (reply_sets played) in
      let part : reach_path path I ≡ shared played B path (reach_path path) I (Some t) = reach_law played (sound g ok keeper is table) B path I l ∙ ap (shared played B path (reach_path path) I) e in
      let most : reach_path path I ≤ pool played B (reach_path path) J a = subst (λ x. x ≤ pool played B (reach_path path) J a) (sym part) (part_le (pool played B (reach_path path) J a) (length (path_followers played path J a)) _) in
      let holds : through played B J a ≤ℤ B J = has.holding J a (omega (arith, before, l)) there in
      let heavy : through masses H J a ≤ℤ H J = (best_value_law masses (mass_sound g ok keeper is table)).1.bounds J a (omega (arith, before, l)) there in
      let step : is_taken (record { set = J; action = a }) (parent_of played.form (other keeper) I) ≡ true = ap (λ o. is_taken (record { set = J; action = a }) o) e ∙ ap (λ b. b && eqb a a) (eqb_self J) ∙ eqb_self a in
      let up : pos 0 ≤ℤ (pos (reach_path path J) +ℤ (B J -ℤ through played B J a)) = surplus (reach_path path J) (B J) (through played B J a) holds in
      join (deep I) (reach_path path I) (pool played B (reach_path path) J a) (through played B J a) (B J) (reach_path path J) (pos U *ℤ through masses H J a) (pos U *ℤ H J)
      (through_deep I J a l step) most (share_is (pos (reach_path path J) +ℤ (B J -ℤ through played B J a)) up) (mul_le_z U (through masses H J a) (H J) heavy)
    where
      surplus : (n : ℕ) (b t : ℤ) → t ≤ℤ b → pos 0 ≤ℤ (pos n +ℤ (b -ℤ t))
      surplus n b t h = omega (arith, ints, h)

      join : (d : ℤ) (x p : ℕ) (t b : ℤ) (y : ℕ) (u v : ℤ) → d ≤ℤ (t +ℤ u) → x ≤ p → pos p ≡ pos y +ℤ (b -ℤ t) → u ≤ℤ v → (d +ℤ pos x) ≤ℤ ((b +ℤ v) +ℤ pos y)
      join d x p t b y u v h k e m = omega (arith, ints, h, k, e, m)

  -- the top payoff times the mass of a set is at most the limit of the bounds, and not negative
  mass_limit : (I : ℕ) → I < length (reply_sets played) → (pos 0 ≤ℤ (pos U *ℤ H I)) × ((pos U *ℤ H I) ≤ℤ pos (value_limit g keeper))
  mass_limit I l =
      let K : ℕ = scale g * grid_of g keeper ^ most_decisions g keeper in
      let up = mul_le_z U (pos 0) (H I) (mass_up g ok keeper is table I l) in
      let whole = mul_le_z U (H I) (pos K) (mass_most g ok keeper is table has.sums I l) in (
        nothing U up,
        most (pos U *ℤ H I) (U * K) (value_limit g keeper) (subst (λ x. (pos U *ℤ H I) ≤ℤ x) (sym (pos-mul U K)) whole) (bound U (scale g) (grid_of g keeper ^ most_decisions g keeper)),
      )
    where
      nothing : (u : ℕ) {x : ℤ} → (pos u *ℤ pos 0) ≤ℤ x → pos 0 ≤ℤ x
      nothing u {x} h = subst (λ z. z ≤ℤ x) (omega (arith, ints)) h

      bound : (u k p : ℕ) → u * (k * p) ≤ max 1 u * k * p
      bound u k p =
          let top : u ≤ max 1 u = omega arith in
          let l : u * (k * p) ≤ max 1 u * (k * p) = mul-le-mul top (le_of_eq refl) in
          let e : max 1 u * (k * p) ≡ max 1 u * k * p = omega arith in
          omega (arith, l, e)

      most : (h : ℤ) (k m : ℕ) → h ≤ℤ pos k → k ≤ m → h ≤ℤ pos m
      most h k m p q = omega (arith, ints, p, q)

  -- bound, allowance and mass are at most the limit of the first bound with the mass of the whole
  abbrev IsLow : List ℕ → ℕ → Type 0
  IsLow path I = (deep I +ℤ pos (reach_path path I)) ≤ℤ (pos (value_limit g keeper) +ℤ (pos U *ℤ H 0))

  -- so they are at a set that follows none, the first
  begins_low : (path : List ℕ) (I : ℕ) → I < length (reply_sets played) → parent_of played.form (other keeper) I ≡ None → IsLow path I
  begins_low path I l e =
      let none : reach_path path I ≡ 0 = reach_law played (sound g ok keeper is table) B path I l ∙ ap (shared played B path (reach_path path) I) e in
      let first = no_parent_first g (other keeper) (other_seat keeper is) I (subst (λ n. I < n) (reply_count g ok keeper is) l) e in
      join (B I) (B 0) (pos U *ℤ H I) (pos U *ℤ H 0) (reach_path path I) (value_limit g keeper) none (ap B first) (ap (λ K. pos U *ℤ H K) first) has.first
    where
      join : (b c h r : ℤ) (n m : ℕ) → n ≡ 0 → b ≡ c → h ≡ r → c ≤ℤ pos m → ((b +ℤ h) +ℤ pos n) ≤ℤ (pos m +ℤ r)
      join b c h r n m z p q s = omega (arith, ints, z, p, q, s)

  -- and at each set
  stays_low : (path : List ℕ) (n I : ℕ) → I < n → I < length (reply_sets played) → IsLow path I
  stays_low path zero I le l = absurd (omega (arith, le))
  stays_low path (suc n) I le l = by (parent_of played.form (other keeper) I) refl ((sound g ok keeper is table).parents I l) (λ J k m. stays_low path n J k m)
    where
      by : (o : Option SetAction) → parent_of played.form (other keeper) I ≡ o → IsStepBelow (reply_sets played) I o → ((J : ℕ) → J < n → J < length (reply_sets played) → IsLow path J) → IsLow path I
      by None e h rest = begins_low path I l e
      by (Some t) e h rest = le_trans_z _ _ _ (falls path I t l e h.0 h.1) (rest t.set (omega (arith, h.0, le)) (omega (arith, h.0, l)))

  -- a bound is at least the least best-response value that there may be
  pub bound_up : (I : ℕ) → I < length (reply_sets played) → neg_ℤ (pos (value_limit g keeper)) ≤ℤ B I
  bound_up I l =
      least (B I) (best_response_value played I) (value_limit g keeper) (best_below I l) (range_law g ok keeper is table has.sums I (subst (λ n. I < n) (reply_count g ok keeper is) l))
    where
      least : (b v : ℤ) (m : ℕ) → v ≤ℤ b → unsigned_abs v ≤ m → neg_ℤ (pos m) ≤ℤ b
      least b v m p q = omega (arith, ints, p, q)

  -- bound and allowance are at most twice the limit of the bounds
  pub low_limit : (path : List ℕ) (I : ℕ) → I < length (reply_sets played) → (B I +ℤ pos (reach_path path I)) ≤ℤ pos (2 * value_limit g keeper)
  low_limit path I l =
      join (B I) (pos U *ℤ H I) (pos U *ℤ H 0) (reach_path path I) (value_limit g keeper) (mass_limit I l).0 (stays_low path (suc I) I (omega arith) l) (mass_limit 0 (omega (arith, l))).1
    where
      join : (b h r : ℤ) (n m : ℕ) → pos 0 ≤ℤ h → ((b +ℤ h) +ℤ pos n) ≤ℤ (pos m +ℤ r) → r ≤ℤ pos m → (b +ℤ pos n) ≤ℤ pos (2 * m)
      join b h r n m p q s = omega (arith, ints, p, q, s)

  -- so is a bound
  bound_low : (I : ℕ) → I < length (reply_sets played) → B I ≤ℤ pos (2 * value_limit g keeper)
  bound_low I l = less (B I) (reach_path [] I) (2 * value_limit g keeper) (low_limit [] I l)
    where
      less : (b : ℤ) (n m : ℕ) → (b +ℤ pos n) ≤ℤ pos m → b ≤ℤ pos m
      less b n m p = omega (arith, ints, p)

  -- a bound is in range
  pub bound_in : (I : ℕ) → I < length (reply_sets played) → IsInRange g keeper (B I)
  bound_in I l = (bound_up I l, bound_low I l)

  -- and so is what an action backs up
  pub through_in : (J a : ℕ) → J < length (reply_sets played) → a < slice_index (reply_sets played) J → IsInRange g keeper (through played B J a)
  through_in J a l there =
      let heavy : through masses H J a ≤ℤ H J = (best_value_law masses (mass_sound g ok keeper is table)).1.bounds J a l there in
      join (through played B J a) (B J) (pos U *ℤ through masses H J a) (pos U *ℤ H J) (value_limit g keeper) (through_up J a) (mul_le_z U (through masses H J a) (H J) heavy) (mass_limit J l).1 (has.holding J a l there) (bound_low J l)
    where
      join : (t b u v : ℤ) (m : ℕ) → pos 0 ≤ℤ (t +ℤ u) → u ≤ℤ v → v ≤ℤ pos m → t ≤ℤ b → b ≤ℤ pos (2 * m) → (neg_ℤ (pos m) ≤ℤ t) × (t ≤ℤ pos (2 * m))
      join t b u v m p q r s w = (omega (arith, ints, p, q, r), omega (arith, ints, s, w))

-- the law of bounds
pub bound_law : BoundLaw
bound_law g ok keeper is table bounds has =
    let sets_are = reply_count g ok keeper is in
    let actions_are = actions_there g (other keeper) (other_seat keeper is) in (
      λ I l. bound_in g ok keeper is table bounds has I (subst (λ n. I < n) (sym sets_are) l),
      λ J a l there. through_in g ok keeper is table bounds has J a (subst (λ n. J < n) (sym sets_are) l) (subst (λ ns. a < slice_index ns J) (sym actions_are) there),
    )

-- the law of limits
pub limit_law : LimitLaw
limit_law g ok keeper is table bounds has rule node I l = (range rule, most (at bounds I) (allow rule) (value_limit g keeper) (bound_up g ok keeper is table bounds has I below) (range rule).1)
  where
    s : Strategy
    s = strategy_of g keeper table

    allow : Rule → ℕ
    allow rule = allowance rule s (at bounds) (path_sets g (other keeper) node) I

    below : I < length (reply_sets s)
    below = subst (λ n. I < n) (sym (reply_count g ok keeper is)) l

    -- without an allowance the limit is the bound
    none : IsInRange g keeper (at bounds I +ℤ pos 0)
    none = let b = bound_in g ok keeper is table bounds has I below in same (at bounds I) (value_limit g keeper) b.0 b.1
      where
        same : (x : ℤ) (m : ℕ) → neg_ℤ (pos m) ≤ℤ x → x ≤ℤ pos (2 * m) → (neg_ℤ (pos m) ≤ℤ (x +ℤ pos 0)) × ((x +ℤ pos 0) ≤ℤ pos (2 * m))
        same x m p q = (omega (arith, ints, p), omega (arith, ints, q))

    reached : IsInRange g keeper (at bounds I +ℤ pos (allow reach))
    reached = (more (at bounds I) (value_limit g keeper) (allow reach) (bound_up g ok keeper is table bounds has I below), low_limit g ok keeper is table bounds has (path_sets g (other keeper) node) I below)
      where
        more : (x : ℤ) (m n : ℕ) → neg_ℤ (pos m) ≤ℤ x → neg_ℤ (pos m) ≤ℤ (x +ℤ pos n)
        more x m n p = omega (arith, ints, p)

    range : (rule : Rule) → IsInRange g keeper (at bounds I +ℤ pos (allow rule))
    range cfrd = none
    range margin = none
    range reach = reached

    most : (b : ℤ) (n m : ℕ) → neg_ℤ (pos m) ≤ℤ b → (b +ℤ pos n) ≤ℤ pos (2 * m) → n ≤ 3 * m
    most b n m p q = omega (arith, ints, p, q)

-- the law of tight bounds
pub tight_bounds_law : TightBoundsLaw
tight_bounds_law g ok keeper is table weights tab =
    let some = some_set g (other keeper) ok.good in
    let best = best_response_value (strategy_of g keeper table) in (
      record {
        weights = weights;
        sums = tab;
        count = length-map-range_with_len best 0 (length (sets g (other keeper)));
        holding = tight_holds g ok keeper is table;
        first = subst (λ x. x ≤ℤ pos (value_limit g keeper)) (sym (at_tight g ok keeper is table 0 some)) (up (best 0) (value_limit g keeper) (range_law g ok keeper is table tab 0 some));
      },
      tight_tight g ok keeper is table,
    )
  where
    up : (x : ℤ) (m : ℕ) → unsigned_abs x ≤ m → x ≤ℤ pos m
    up x m h = omega (arith, ints, h)
