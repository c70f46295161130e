-- How large best values are: at most the top payoff times the mass of the whole game.
use Rattle.std.proofs.Common.{◌≡◌, ℕ, zero, suc, ◌+◌, ◌*◌, ◌^◌, ◌<◌, ◌≤◌, ℤ, pos, neg_ℤ, ◌+ℤ◌, ◌*ℤ◌, ◌≤ℤ◌, List, [], ◌∷◌, Bool, true, false, cond, eqb, ◌&&◌, Option, Some, None, length, map, max, refl, sym, ap, ◌∙◌, subst, arith, inl, inr, ◌⊎◌, mul-le-mul, pow-suc}
use native.Mathlib.Nat.{pow-zero}
use Rattle.std.specs.Prelude.{unsigned_abs, slice_index}
use Rattle.std.specs.List.{All}
use Rattle.std.proofs.lemmas.Int.{ints}
use Rattle.std.proofs.lemmas.Bool.{cases_eq}
use Rattle.lab_math.specs.Sums.{total, sum_over}
use Rattle.lab_math.specs.Below.{total_below}
use Rattle.lab_math.proofs.SumLemmas.{total-map}
use Rattle.lab_math.proofs.BelowLemmas.{eqb_self}
use Rattle.lab_math.proofs.Members.{In}
use Rattle.lab_math.proofs.Integers.{pos-mul, le_trans_z, le_of_eq_z, cancel_le_z, mul_comm_z}
use Rattle.lab_math.proofs.Ring.{neg-*ℤ}
use Rattle.lab_defs_text.specs.Games.{GameModel}
use Rattle.lab_defs_game.specs.Histories.{History, terminal_histories}
use Rattle.lab_defs_game.specs.Sets.{most_decisions}
use Rattle.lab_defs_game.specs.Chance.{scale, chance}
use Rattle.lab_defs_game.specs.Forms.{Row, Form, form_of, row_along, game_actions, path_of, parent_of, actions_of}
use Rattle.lab_defs_game.specs.Paths.{SetAction, last_step, is_taken}
use Rattle.lab_defs_game.specs.Unfolding.{top_payoff}
use Rattle.lab_defs_game.specs.Nodes.{ends_by_nodes}
use Rattle.lab_defs_game.proofs.Groups.{ends_total}
use Rattle.lab_defs_game.proofs.GridSizes.{some_grid}
use Rattle.lab_defs_value.specs.Tables.{own_weight, whole_table}
use Rattle.lab_defs_value.specs.Expectation.{expectation, own_along}
use Rattle.lab_defs_game.specs.Seats.{grid_of, other, IsSeat}
use Rattle.lab_defs_value.specs.Parents.{begins_at, IsForm, IsStepBelow}
use Rattle.lab_defs_value.specs.Replies.{Strategy, IsTable, strategy_of, worth_against, reply_sets, factors_in}
use Rattle.lab_defs_value.specs.BestValues.{IsChoice, best_response_value}
use Rattle.lab_defs_value.specs.Bounds.{through, through_rows}
use Rattle.lab_defs_value.specs.Laws.{IsPadded}
use Rattle.lab_defs_value.specs.Smallness.{factors_at}
use Rattle.lab_defs_value.proofs.PureReplies.{best_value_law}
use Rattle.lab_defs_value.proofs.WholeTables.{whole_is_table_law, best_table_law}
use Rattle.lab_defs_value.proofs.WholeLaw.{whole_law}
use Rattle.lab_defs_game.specs.Accepted.{IsAccepted}
use Rattle.lab_defs_value.proofs.GameValues.{some_set, game_padded_law}
use Rattle.lab_defs_value.proofs.GameStrategies.{other_seat, sound, reply_count, no_parent_first}
use Rattle.lab_sizes.proofs.SizeMass.{mass_row, mass_form, mass_of, rows_same, mass_is_form, factors_over, mass, total_pos, worth_mass, best_size}
use Rattle.lab_sizes.specs.Sizes.{RangeLaw}

-- ---- sums

-- a sum of numbers that are not negative isn't
pub total_up : {X : Type 0} (f : X → ℤ) (xs : List X) → ((x : X) → In x xs → pos 0 ≤ℤ f x) → pos 0 ≤ℤ total f xs
total_up f [] e = le_of_eq_z (pos 0) (pos 0) refl
total_up f (x ∷ xs) e = omega (arith, ints, e x (inl refl), total_up f xs (λ y i. e y (inr i)))

-- the same below n
pub total_below_up : (n : ℕ) (f : ℕ → ℤ) → ((k : ℕ) → k < n → pos 0 ≤ℤ f k) → pos 0 ≤ℤ total_below n f
total_below_up zero f e = le_of_eq_z (pos 0) (pos 0) refl
total_below_up (suc n) f e = omega (arith, ints, total_below_up n f (λ k l. e k (omega (arith, l))), e n (omega arith))

-- and each is at most the sum
pub total_below_term : (n a : ℕ) (f : ℕ → ℤ) → ((k : ℕ) → k < n → pos 0 ≤ℤ f k) → a < n → f a ≤ℤ total_below n f
total_below_term zero a f e l = absurd (omega (arith, l))
total_below_term (suc n) a f e l = at (cases_eq a n) (λ k. total_below_term n a f (λ k l. e k (omega (arith, l))) k)
  where
    at : (a ≡ n) ⊎ (a ≡ n → ⊥) → (a < n → f a ≤ℤ total_below n f) → f a ≤ℤ total_below (suc n) f
    at (inl q) before =
        let here : f a ≡ f n = ap f q in
        let up = total_below_up n f (λ k l. e k (omega (arith, l))) in
        subst (λ x. x ≤ℤ total_below (suc n) f) (sym here) (omega (arith, ints, up))
    at (inr q) before =
        let rest = before (below q) in
        let last = e n (omega arith) in
        omega (arith, ints, rest, last)
      where
        below : (a ≡ n → ⊥) → a < n
        below q = omega (arith, l, q)

-- ---- rows of an accepted game

-- the rows of the masses of an accepted game are padded
mass_padded : (g : GameModel) → IsAccepted g → (o seat : ℕ) → IsSeat seat → IsPadded (mass_form g o) seat
mass_padded g ok o seat is =
    let rows = (game_padded_law g ok seat is).0 in
    record {
      first = rows_same g o (λ (z : Row). begins_at (path_of z seat) 0 ≡ true) (λ h e. e) rows.first;
      factors = subst (λ n. All (λ (z : Row). factors_at (form_of g) seat z ≡ n) (mass_form g o).rows) (sym (factors_over g o seat (actions_of (form_of g) seat) (ends_by_nodes g)))
          (rows_same g o (λ (z : Row). factors_at (form_of g) seat z ≡ factors_in (form_of g) seat) (λ h e. e) rows.factors);
    }

-- with as many factors as the seat's most decisions
mass_factors : (g : GameModel) → IsAccepted g → (o seat : ℕ) → IsSeat seat → factors_in (mass_form g o) seat ≡ most_decisions g seat
mass_factors g ok o seat is = factors_over g o seat (actions_of (form_of g) seat) (ends_by_nodes g) ∙ (game_padded_law g ok seat is).1

-- ---- the whole

-- the chance of a terminal history, times both seats' own weights
abbrev whole_at : GameModel → (table1 table2 : List ℕ) → History → ℕ
whole_at g table1 table2 h = chance g h * (own_along g 1 table1 h * own_along g 2 table2 h)

-- a sum of them node by node is their sum
ends_sum : (g : GameModel) (f : History → ℕ) → pos (sum_over f (ends_by_nodes g)) ≡ pos (sum_over f (terminal_histories g))
ends_sum g f =
    sym (total_pos (λ h. pos (f h)) f (ends_by_nodes g) (λ h. refl)) ∙ ends_total g (λ h. pos (f h)) ∙ total_pos (λ h. pos (f h)) f (terminal_histories g) (λ h. refl)

-- what seat 1 loses of the masses that seat 2 earns
lost : (g : GameModel) (table1 table2 : List ℕ) (hs : List History)
    → neg_ℤ (total (λ (r : Row). r.worth *ℤ pos (own_weight (grid_of g 1) (game_actions g 1) table1 r.path1 r.pad1 * own_weight (grid_of g 2) (game_actions g 2) table2 r.path2 r.pad2)) (map (mass_row g 2) hs))
    ≡ pos (sum_over (whole_at g table1 table2) hs)
lost g table1 table2 [] = refl
lost g table1 table2 (h ∷ hs) =
    let x = own_along g 1 table1 h * own_along g 2 table2 h in
    let turned : neg_ℤ (pos (chance g h)) *ℤ pos x ≡ neg_ℤ (pos (chance g h * x)) = neg-*ℤ (pos (chance g h)) (pos x) ∙ ap neg_ℤ (sym (pos-mul (chance g h) x)) in
    more (neg_ℤ (pos (chance g h)) *ℤ pos x) (chance g h * x) _ _ turned (lost g table1 table2 hs)
  where
    more : (a : ℤ) (b : ℕ) (t : ℤ) (u : ℕ) → a ≡ neg_ℤ (pos b) → neg_ℤ t ≡ pos u → neg_ℤ (a +ℤ t) ≡ pos (b + u)
    more a b t u e f = omega (arith, ints, e, f)

-- what seat 1 earns of the masses
won : (g : GameModel) (table1 table2 : List ℕ) (hs : List History)
    → total (λ (r : Row). r.worth *ℤ pos (own_weight (grid_of g 1) (game_actions g 1) table1 r.path1 r.pad1 * own_weight (grid_of g 2) (game_actions g 2) table2 r.path2 r.pad2)) (map (mass_row g 1) hs)
    ≡ pos (sum_over (whole_at g table1 table2) hs)
won g table1 table2 hs =
    total-map _ (mass_row g 1) hs
    ∙ total_pos _ _ hs (λ h. sym (pos-mul (chance g h) (own_along g 1 table1 h * own_along g 2 table2 h)))

-- a power of it is not 0
pub some_power : (d n : ℕ) → 1 ≤ d → 0 < d ^ n
some_power d zero l = subst (λ x. 0 < x) (sym (pow-zero d)) (omega arith)
some_power d (suc n) l = let r = some_power d n l in subst (λ x. 0 < x) (sym (pow-suc d n)) (mul-le-mul r l)

-- what is as much times a number is at most as much
divided : (b : ℤ) (k x n : ℕ) → 0 < n → b *ℤ pos n ≡ pos (k * (x * n)) → b ≤ℤ pos (k * x)
divided b k x n l e =
    let regroup : k * (x * n) ≡ n * (k * x) = omega arith in
    cancel_le_z n b (pos (k * x)) l (le_of_eq_z (pos n *ℤ b) (pos n *ℤ pos (k * x)) (mul_comm_z (pos n) b ∙ e ∙ ap pos regroup ∙ pos-mul n (k * x)))

module _ (g : GameModel) (ok : IsAccepted g) (table : List ℕ) where
  -- against seat 1 the best of the masses is at most the scale, by its grid
  root1 : IsTable (game_actions g 1) (grid_of g 1) table → best_response_value (mass_of g 1 table) 0 ≤ℤ pos (scale g * grid_of g 1 ^ most_decisions g 1)
  root1 is =
      divided (best_response_value s 0) (scale g) (grid_of g 1 ^ most_decisions g 1) (grid_of g 2 ^ most_decisions g 2) (some_power (grid_of g 2) (most_decisions g 2) (some_grid g ok.good))
      (subst (λ k. best_response_value s 0 *ℤ pos (grid_of g 2 ^ k) ≡ pos (scale g * (grid_of g 1 ^ most_decisions g 1 * grid_of g 2 ^ most_decisions g 2))) (mass_factors g ok 2 2 (inr refl)) whole)
    where
      f : Form
      f = mass_form g 2

      s : Strategy
      s = mass_of g 1 table

      some : 0 < length (actions_of f 2)
      some = subst (λ n. 0 < n) (sym (reply_count g ok 1 (inl refl))) (some_set g 2 ok.good)

      best : (choice : List ℕ) × IsChoice (actions_of f 2) choice × (neg_ℤ (expectation (grid_of g 1) (grid_of g 2) f table (whole_table (grid_of g 2) (actions_of f 2) choice)) ≡ best_response_value s 0 *ℤ pos (grid_of g 2 ^ factors_in f 2))
      best = (best_table_law f (grid_of g 1) (grid_of g 2) table []).0 (mass_is_form g 2 2 (sound g ok 1 (inl refl) table)) (mass_padded g ok 2 2 (inr refl)) some

      whole : best_response_value s 0 *ℤ pos (grid_of g 2 ^ factors_in f 2) ≡ pos (scale g * (grid_of g 1 ^ most_decisions g 1 * grid_of g 2 ^ most_decisions g 2))
      whole =
          let t2 = whole_table (grid_of g 2) (actions_of f 2) best.0 in
          let is2 = whole_is_table_law (grid_of g 2) (actions_of f 2) best.0 (some_grid g ok.good) best.1 in
          sym best.2 ∙ lost g table t2 (ends_by_nodes g) ∙ ends_sum g (whole_at g table t2) ∙ ap pos (whole_law g table t2 ok is.1 is2.1)

  -- against seat 2 likewise
  root2 : IsTable (game_actions g 2) (grid_of g 2) table → best_response_value (mass_of g 2 table) 0 ≤ℤ pos (scale g * grid_of g 2 ^ most_decisions g 2)
  root2 is =
      divided (best_response_value s 0) (scale g) (grid_of g 2 ^ most_decisions g 2) (grid_of g 1 ^ most_decisions g 1) (some_power (grid_of g 1) (most_decisions g 1) (some_grid g ok.good))
      (subst (λ k. best_response_value s 0 *ℤ pos (grid_of g 1 ^ k) ≡ pos (scale g * (grid_of g 1 ^ most_decisions g 1 * grid_of g 2 ^ most_decisions g 2))) (mass_factors g ok 1 1 (inl refl)) whole
      ∙ ap pos (turn (scale g) (grid_of g 1 ^ most_decisions g 1) (grid_of g 2 ^ most_decisions g 2)))
    where
      f : Form
      f = mass_form g 1

      s : Strategy
      s = mass_of g 2 table

      some : 0 < length (actions_of f 1)
      some = subst (λ n. 0 < n) (sym (reply_count g ok 2 (inr refl))) (some_set g 1 ok.good)

      best : (choice : List ℕ) × IsChoice (actions_of f 1) choice × (expectation (grid_of g 1) (grid_of g 2) f (whole_table (grid_of g 1) (actions_of f 1) choice) table ≡ best_response_value s 0 *ℤ pos (grid_of g 1 ^ factors_in f 1))
      best = (best_table_law f (grid_of g 1) (grid_of g 2) [] table).1 (mass_is_form g 1 1 (sound g ok 2 (inr refl) table)) (mass_padded g ok 1 1 (inl refl)) some

      whole : best_response_value s 0 *ℤ pos (grid_of g 1 ^ factors_in f 1) ≡ pos (scale g * (grid_of g 1 ^ most_decisions g 1 * grid_of g 2 ^ most_decisions g 2))
      whole =
          let t1 = whole_table (grid_of g 1) (actions_of f 1) best.0 in
          let is1 = whole_is_table_law (grid_of g 1) (actions_of f 1) best.0 (some_grid g ok.good) best.1 in
          sym best.2 ∙ won g t1 table (ends_by_nodes g) ∙ ends_sum g (whole_at g t1 table) ∙ ap pos (whole_law g t1 table ok is1.1 is.1)

      turn : (k x y : ℕ) → k * (x * y) ≡ k * (y * x)
      turn k x y = omega arith

-- the mass of the whole: the scale, by the keeper's grid for each of its decisions
pub root_mass : (g : GameModel) → IsAccepted g → (keeper : ℕ) → IsSeat keeper → (table : List ℕ) → IsTable (game_actions g keeper) (grid_of g keeper) table
    → best_response_value (mass_of g keeper table) 0 ≤ℤ pos (scale g * grid_of g keeper ^ most_decisions g keeper)
root_mass g ok keeper (inl e) table =
    subst (λ k. IsTable (game_actions g k) (grid_of g k) table → best_response_value (mass_of g k table) 0 ≤ℤ pos (scale g * grid_of g k ^ most_decisions g k)) (sym e) (root1 g ok table)
root_mass g ok keeper (inr e) table =
    subst (λ k. IsTable (game_actions g k) (grid_of g k) table → best_response_value (mass_of g k table) 0 ≤ℤ pos (scale g * grid_of g k ^ most_decisions g k)) (sym e) (root2 g ok table)

-- ---- masses don't grow from the root on

-- natural numbers are not negative
pub no_less : (n : ℕ) → pos 0 ≤ℤ pos n
no_less n = omega (arith, ints)

-- neither is one of them or nothing
pub cond_up : (b : Bool) (x : ℤ) → pos 0 ≤ℤ x → pos 0 ≤ℤ cond b x (pos 0)
cond_up true x h = h
cond_up false x h = no_less 0

module _ (g : GameModel) (ok : IsAccepted g) (keeper : ℕ) (is : IsSeat keeper) (table : List ℕ) where
  abbrev masses : Strategy
  masses = mass_of g keeper table

  -- the most that a pure reply earns of the masses
  abbrev pub heights : ℕ → ℤ
  heights = best_response_value masses

  pub mass_sound : IsForm (mass_form g (other keeper)) (other keeper)
  mass_sound = mass_is_form g (other keeper) (other keeper) (sound g ok keeper is table)

  -- they are not negative
  pub mass_up : (I : ℕ) → I < length (reply_sets masses) → pos 0 ≤ℤ heights I
  mass_up I l = let b = best_size g keeper table (sound g ok keeper is table) I l in le_trans_z (pos 0) (pos b.0) (heights I) (no_less b.0) b.2

  -- no row takes any away
  pub rows_up : (J a : ℕ) → pos 0 ≤ℤ through_rows masses J a
  rows_up J a =
      let hs = ends_by_nodes g in
      let F = λ (z : Row). cond (is_taken (record { set = J; action = a }) (last_step (path_of z (other keeper)))) (worth_against masses z) (pos 0) in
      subst (λ x. pos 0 ≤ℤ x) (sym (total-map F (mass_row g (other keeper)) hs))
      (total_up (λ h. F (mass_row g (other keeper) h)) hs (λ h i.
      cond_up (is_taken (record { set = J; action = a }) (last_step (path_of (row_along g h) (other keeper)))) (worth_against masses (mass_row g (other keeper) h))
      (subst (λ x. pos 0 ≤ℤ x) (sym (worth_mass g keeper table h)) (no_less (mass g keeper table h)))))

  -- a set has at most the mass of the one that it follows
  mass_falls : (I : ℕ) → I < length (reply_sets masses) → (t : SetAction) → parent_of masses.form (other keeper) I ≡ Some t → t.set < I → t.action < slice_index (reply_sets masses) t.set → heights I ≤ℤ heights t.set
  mass_falls I l t e before there =
      let n = length (reply_sets masses) in
      let F = λ (K : ℕ). cond (is_taken (record { set = t.set; action = t.action }) (parent_of masses.form (other keeper) K)) (heights K) (pos 0) in
      let here : is_taken (record { set = t.set; action = t.action }) (parent_of masses.form (other keeper) I) ≡ true =
      ap (λ o. is_taken (record { set = t.set; action = t.action }) o) e ∙ ap (λ b. b && eqb t.action t.action) (eqb_self t.set) ∙ eqb_self t.action in
      let mine : F I ≡ heights I = ap (λ b. cond b (heights I) (pos 0)) here in
      let term : F I ≤ℤ total_below n F = total_below_term n I F (λ K k. cond_up (is_taken (record { set = t.set; action = t.action }) (parent_of masses.form (other keeper) K)) (heights K) (mass_up K k)) l in
      let most : through masses heights t.set t.action ≤ℤ heights t.set = (best_value_law masses mass_sound).1.bounds t.set t.action (omega (arith, before, l)) there in
      sum_le (F I) (heights I) (total_below n F) (through_rows masses t.set t.action) (heights t.set) mine term (rows_up t.set t.action) most
    where
      sum_le : (f h s r b : ℤ) → f ≡ h → f ≤ℤ s → pos 0 ≤ℤ r → (s +ℤ r) ≤ℤ b → h ≤ℤ b
      sum_le f h s r b e p q m = omega (arith, ints, e, p, q, m)

  -- each set has at most the mass of the first
  pub mass_below : (n I : ℕ) → I ≤ n → I < length (reply_sets masses) → heights I ≤ℤ heights 0
  mass_below zero I le l = le_of_eq_z (heights I) (heights 0) (ap heights (omega (arith, le)))
  mass_below (suc n) I le l = at (parent_of masses.form (other keeper) I) refl (mass_sound.parents I l) (λ J k. mass_below n J k)
    where
      at : (o : Option SetAction) → parent_of masses.form (other keeper) I ≡ o → IsStepBelow (reply_sets masses) I o → ((J : ℕ) → J ≤ n → J < length (reply_sets masses) → heights J ≤ℤ heights 0) → heights I ≤ℤ heights 0
      at (Some t) e h rest =
          le_trans_z (heights I) (heights t.set) (heights 0) (mass_falls I l t e h.0 h.1) (rest t.set (omega (arith, h.0, le)) (omega (arith, h.0, l)))
      at None e h rest =
          let first = no_parent_first g (other keeper) (other_seat keeper is) I (subst (λ n. I < n) (reply_count g ok keeper is) l) e in
          le_of_eq_z (heights I) (heights 0) (ap heights first)

  -- at most that of the whole
  pub mass_most : IsTable (game_actions g keeper) (grid_of g keeper) table → (I : ℕ) → I < length (reply_sets masses) → heights I ≤ℤ pos (scale g * grid_of g keeper ^ most_decisions g keeper)
  mass_most tab I l = le_trans_z (heights I) (heights 0) (pos (scale g * grid_of g keeper ^ most_decisions g keeper)) (mass_below I I (omega arith) l) (root_mass g ok keeper is table tab)

-- the law of ranges
pub range_law : RangeLaw
range_law g ok keeper is table tab I l =
    let below = subst (λ n. I < n) (sym (reply_count g ok keeper is)) l in
    let b = best_size g keeper table (sound g ok keeper is table) I below in
    let most = le_trans_z (pos b.0) (heights g ok keeper is table I) (pos (scale g * grid_of g keeper ^ most_decisions g keeper)) b.2 (mass_most g ok keeper is table tab I below) in
    bound (unsigned_abs (best_response_value (strategy_of g keeper table) I)) (top_payoff g) b.0 (scale g) (grid_of g keeper ^ most_decisions g keeper) b.1 (out b.0 (scale g * grid_of g keeper ^ most_decisions g keeper) most)
  where
    out : (m n : ℕ) → pos m ≤ℤ pos n → m ≤ n
    out m n h = omega (arith, ints, h)

    bound : (x u n k p : ℕ) → x ≤ u * n → n ≤ k * p → x ≤ max 1 u * k * p
    bound x u n k p a c =
        let top : u ≤ max 1 u = omega arith in
        let l : u * n ≤ max 1 u * (k * p) = mul-le-mul top c in
        let e : max 1 u * (k * p) ≡ max 1 u * k * p = omega arith in
        omega (arith, a, l, e)
