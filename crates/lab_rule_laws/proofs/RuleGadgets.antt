-- The best values on a gadget.
use Rattle.std.proofs.Common.{◌≡◌, ℕ, zero, suc, ◌+◌, ◌-◌, ◌<◌, ◌≤◌, ℤ, pos, ◌+ℤ◌, ◌-ℤ◌, ◌*ℤ◌, ◌≤ℤ◌, List, [], ◌∷◌, ◌++◌, Bool, true, false, cond, eqb, ltb, ◌&&◌, Option, Some, None, length, map, replicate, refl, sym, ap, ◌∙◌, subst, arith, inl, inr, ◌⊎◌, eq-eqb, lt-ltb, le-ltb, length-append}
use Rattle.std.proofs.Math.Nat.{pow-zero}
use Rattle.std.specs.Prelude.{slice_index, neg_ℤ}
use Rattle.std.specs.List.{range_with_len, fold}
use Rattle.std.specs.Int.{int_max}
use Rattle.std.proofs.lemmas.Int.{ints, clamps, by_lt_z}
use Rattle.std.proofs.lemmas.Bool.{cases_eq, cases_lt}
use Rattle.std.proofs.lemmas.List.{length-replicate, get_or-replicate, get_or_append_left, get_or-append-add}
use Rattle.std.proofs.lemmas.List.Elements.{recursion_from_All}
use Rattle.std.proofs.Math.ListN.{get_or-map}
use Rattle.lab_math.specs.Sums.{total}
use Rattle.lab_math.specs.Below.{total_below}
use Rattle.lab_math.specs.Greatest.{greatest_of}
use Rattle.lab_math.proofs.BelowLemmas.{eqb_apart, total_below_cong}
use Rattle.lab_math.proofs.Totals.{total_cong}
use Rattle.lab_math.proofs.SumLemmas.{total-map}
use Rattle.lab_math.proofs.IntegerSums.{total-append, total-none}
use Rattle.lab_math.proofs.Members.{in_from_range}
use Rattle.lab_math.proofs.Elements.{greatest_range}
use Rattle.lab_defs_game.specs.Forms.{FormSet, Row, Form, sets_of, actions_in, actions_of, path_of, pad_of, parent_at, parent_of}
use Rattle.lab_defs_game.specs.Paths.{SetAction, last_step, is_taken}
use Rattle.lab_defs_value.specs.Tables.{own_weight}
use Rattle.lab_defs_value.specs.Parents.{IsForm}
use Rattle.lab_defs_value.proofs.Chains.{IsPath, sets_length, paths_follow}
use Rattle.lab_defs_value.specs.Replies.{Strategy, opponent, reply_sets, worth_to, worth_against, earned}
use Rattle.lab_defs_game.specs.Seats.{other}
use Rattle.lab_defs_value.specs.BestValues.{choices, pure_reply, best_response_value}
use Rattle.lab_defs_value.specs.Bounds.{through, through_sets, through_rows, IsBackedUp}
use Rattle.lab_defs_value.specs.Allowances.{Rule, cfrd, reach, margin}
use Rattle.lab_defs_value.specs.Gadgets.{gadget_sets, follow_step, terminate_step, entered_parent, terminate_worth, entered_path, with_path, terminate_row, gadget}
use Rattle.lab_defs_value.proofs.Entries.{entry_low, ending_there, actions_entered, parent_low, parent_raised}
use Rattle.lab_defs_value.proofs.GadgetSets.{keeps_path, has_path, keeper_sets, opponent_sets}
use Rattle.lab_defs_value.proofs.GadgetForms.{ends_at, gadget_form_law}
use Rattle.lab_defs_value.proofs.PureReplies.{best_value_law, best_value_is}
use Rattle.lab_rule_laws.specs.Rules.{played, IsEntered, gadget_set_value, GadgetValueLaw}
use Rattle.lab_rule_laws.proofs.RuleEntries.{below_split, below_none, below_pick, raise, last_entered, step_raised, step_low, no_rows, with_true, with_false, entry_same}

-- ---- one row

-- what is worth to a seat what it is worth to it is the number again
twice : (b : Bool) (w : ℤ) → worth_to (cond b 2 1) (worth_to (cond b 2 1) w) ≡ w
twice true w = omega (arith, ints)
twice false w = refl

-- the keeper has no weights in a further row
weight_one : (b : Bool) (rule : Rule) (factors i grid : ℕ) (limit : ℤ) (actions table : List ℕ) →
    let z = terminate_row rule (cond b 2 1) factors i limit in
    own_weight grid actions table (cond b z.path1 z.path2) (cond b z.pad1 z.pad2) ≡ 1
weight_one true rule factors i grid limit actions table = omega (arith, pow-zero grid)
weight_one false rule factors i grid limit actions table = omega (arith, pow-zero grid)

-- ---- greatest values

-- of zeros the greatest is zero
greatest_zero : {X : Type 0} (F : X → ℤ) (xs : List X) → ((x : X) → F x ≡ pos 0) → greatest_of (map F xs) ≡ pos 0
greatest_zero F [] e = refl
greatest_zero F (x ∷ xs) e = fold_zero F (F x) xs (e x) e
  where
    both : (a x : ℤ) → a ≡ pos 0 → x ≡ pos 0 → int_max a x ≡ pos 0
    both a x p q = omega (arith, ints, clamps)

    fold_zero : {X : Type 0} (F : X → ℤ) (a : ℤ) (xs : List X) → a ≡ pos 0 → ((x : X) → F x ≡ pos 0) → fold int_max a (map F xs) ≡ pos 0
    fold_zero F a [] z e = z
    fold_zero F a (x ∷ xs) z e = fold_zero F (int_max a (F x)) xs (both a (F x) z (e x)) e

-- a set that is not there is worth nothing
absent_value : (s : Strategy) → IsForm s.form (opponent s) → (K : ℕ) → length (reply_sets s) ≤ K → best_response_value s K ≡ pos 0
absent_value s ok K le =
    let o = opponent s in
    let none = no_rows (reply_sets s) (parent_of s.form o) o K s.form.rows (recursion_from_All (λ (z : Row). IsPath (reply_sets s) (parent_of s.form o) None (path_of z o)) s.form.rows (paths_follow s.form o ok)) le in
    greatest_zero (λ c. earned s (pure_reply c) K) (choices (reply_sets s)) (λ c. ap (total (λ z. worth_against s z *ℤ pos _)) none)

-- ---- a gadget

module _ (rule : Rule) (keeper roots factors grid : ℕ) (limits : ℕ → ℤ) (f : Form) (table : List ℕ) where
  -- the opponent
  abbrev o : ℕ
  o = other keeper

  -- the strategy in the subgame
  abbrev s : Strategy
  s = played f keeper grid table

  -- the strategy in the gadget
  abbrev t : Strategy
  t = played (gadget rule (other keeper) roots factors limits f) keeper grid table

  -- how many gadget sets there are
  abbrev r : ℕ
  r = length (gadget_sets rule roots)

  -- a row as one of the gadget
  abbrev inside : Row → Row
  inside z = with_path o (entered_path rule r (path_of z o)) z

  -- the further row of a root set
  abbrev last : ℕ → Row
  last i = terminate_row rule o factors i (limits i)

  -- how many actions there are at each gadget set
  abbrev first_actions : List ℕ
  first_actions = actions_in (gadget_sets rule roots)

  -- the numbers of actions of the opponent's sets in the gadget
  sets_are : reply_sets t ≡ first_actions ++ reply_sets s
  sets_are = ap actions_in (opponent_sets (eqb keeper 1) rule roots f) ∙ actions_entered rule roots (sets_of f o)

  -- as many as gadget sets
  first_many : length first_actions ≡ r
  first_many = sets_length (gadget_sets rule roots)

  -- how many sets they are
  sets_many : length (reply_sets t) ≡ r + length (reply_sets s)
  sets_many = ap length sets_are ∙ length-append first_actions (reply_sets s) ∙ ap (λ n. n + length (reply_sets s)) first_many

  -- a gadget set follows none
  gadget_alone : (i : ℕ) → i < r → parent_of t.form o i ≡ None
  gadget_alone i l = ap (λ ss. parent_at ss i) (opponent_sets (eqb keeper 1) rule roots f) ∙ parent_low rule roots i (sets_of f o) l

  -- each other set follows what it followed, or enters
  parent_is : (K : ℕ) → K < length (reply_sets s) → parent_of t.form o (r + K) ≡ entered_parent rule r K (parent_of f o K)
  parent_is K l = ap (λ ss. parent_at ss (r + K)) (opponent_sets (eqb keeper 1) rule roots f) ∙ parent_raised rule roots K (sets_of f o) (subst (λ n. K < n) (sets_length (sets_of f o)) l)

  -- ---- rows

  -- a row is worth the same
  worth_same : (z : Row) → worth_against t (inside z) ≡ worth_against s z
  worth_same z =
      let b = eqb keeper 1 in
      let w = λ (ns : List ℕ) (path : List SetAction). worth_to o z.worth *ℤ pos (own_weight grid ns table path (pad_of z keeper)) in
      ap (λ ns. w ns (path_of (inside z) keeper)) (ap actions_in (keeper_sets b rule roots f)) ∙ ap (w (actions_of f keeper)) (keeps_path b (entered_path rule r (path_of z o)) z)

  -- a further row is worth what the rule says
  worth_last : (i : ℕ) → worth_against t (last i) ≡ terminate_worth rule (limits i)
  worth_last i =
      let b = eqb keeper 1 in
      let w = terminate_worth rule (limits i) in
      ap (λ k. worth_to o (worth_to o w) *ℤ pos k) (weight_one b rule factors i grid (limits i) (actions_of t.form keeper) table)
      ∙ ap (λ x. x *ℤ pos 1) (twice b w) ∙ omega (arith, ints)

  -- what the further rows are worth that end with the action a at J
  abbrev paid : ℕ → ℕ → ℤ
  paid J a = total (λ i. cond (is_taken (record { set = J; action = a }) (Some (terminate_step rule i))) (terminate_worth rule (limits i)) (pos 0)) (range_with_len 0 roots)

  -- the rows that end with an action
  rows_are : (J a : ℕ) → through_rows t J a ≡ total (λ z. cond (is_taken (record { set = J; action = a }) (raise r (last_step (path_of z o)))) (worth_against s z) (pos 0)) f.rows +ℤ paid J a
  rows_are J a =
      let b = eqb keeper 1 in
      let G = λ (z : Row). cond (is_taken (record { set = J; action = a }) (last_step (path_of z o))) (worth_against t z) (pos 0) in
      let more = map last (range_with_len 0 roots) in
      let first : total G (map inside f.rows) ≡ total (λ z. cond (is_taken (record { set = J; action = a }) (raise r (last_step (path_of z o)))) (worth_against s z) (pos 0)) f.rows =
      total-map G inside f.rows
      ∙ total_cong (λ z. G (inside z)) (λ z. cond (is_taken (record { set = J; action = a }) (raise r (last_step (path_of z o)))) (worth_against s z) (pos 0)) f.rows
      (λ z. ap (λ p. cond (is_taken (record { set = J; action = a }) (last_step p)) (worth_against t (inside z)) (pos 0)) (has_path b (entered_path rule r (path_of z o)) z)
      ∙ ap (λ q. cond (is_taken (record { set = J; action = a }) q) (worth_against t (inside z)) (pos 0)) (last_entered rule r (path_of z o))
      ∙ ap (λ w. cond (is_taken (record { set = J; action = a }) (raise r (last_step (path_of z o)))) w (pos 0)) (worth_same z)) in
      let second : total G more ≡ paid J a =
      total-map G last (range_with_len 0 roots)
      ∙ total_cong (λ i. G (last i)) (λ i. cond (is_taken (record { set = J; action = a }) (Some (terminate_step rule i))) (terminate_worth rule (limits i)) (pos 0)) (range_with_len 0 roots)
      (λ i. ap (λ p. cond (is_taken (record { set = J; action = a }) (last_step p)) (worth_against t (last i)) (pos 0)) (ends_at b rule factors i (limits i))
      ∙ ap (λ w. cond (is_taken (record { set = J; action = a }) (Some (terminate_step rule i))) w (pos 0)) (worth_last i)) in
      total-append G (map inside f.rows) more ∙ ap (λ x. x +ℤ total G more) first
      ∙ ap (λ x. total (λ z. cond (is_taken (record { set = J; action = a }) (raise r (last_step (path_of z o)))) (worth_against s z) (pos 0)) f.rows +ℤ x) second

  -- no further row ends at a set of the subgame
  paid_none : (J a : ℕ) → paid (r + J) a ≡ pos 0
  paid_none J a =
      total-none (λ i. cond (is_taken (record { set = (r + J); action = a }) (Some (terminate_step rule i))) (terminate_worth rule (limits i)) (pos 0)) (range_with_len 0 roots)
      (λ i k. ap (λ b. cond (b && eqb (terminate_step rule i).action a) (terminate_worth rule (limits i)) (pos 0))
      (eqb_apart (terminate_step rule i).set (r + J) (λ e. omega (arith, e, (ending_there rule roots i (omega (arith, (in_from_range i 0 roots k).1))).0))))

  -- the rows at a set of the subgame
  rows_after : (J a : ℕ) → through_rows t (r + J) a ≡ through_rows s J a
  rows_after J a =
      let none = paid_none J a in
      let same : total (λ z. cond (is_taken (record { set = (r + J); action = a }) (raise r (last_step (path_of z o)))) (worth_against s z) (pos 0)) f.rows ≡ through_rows s J a =
      total_cong (λ z. cond (is_taken (record { set = (r + J); action = a }) (raise r (last_step (path_of z o)))) (worth_against s z) (pos 0)) (λ z. cond (is_taken (record { set = J; action = a }) (last_step (path_of z o))) (worth_against s z) (pos 0)) f.rows
      (λ z. ap (λ b. cond b (worth_against s z) (pos 0)) (step_raised r (last_step (path_of z o)) J a)) in
      rows_are (r + J) a ∙ omega (arith, ints, none, same)

  -- the rows at a gadget set
  rows_first : (i a : ℕ) → i < r → through_rows t i a ≡ paid i a
  rows_first i a l =
      let none : total (λ z. cond (is_taken (record { set = i; action = a }) (raise r (last_step (path_of z o)))) (worth_against s z) (pos 0)) f.rows ≡ pos 0 =
      total-none (λ z. cond (is_taken (record { set = i; action = a }) (raise r (last_step (path_of z o)))) (worth_against s z) (pos 0)) f.rows
      (λ z k. ap (λ b. cond b (worth_against s z) (pos 0)) (step_low r (last_step (path_of z o)) i a l)) in
      rows_are i a ∙ omega (arith, ints, none)

  -- ---- parents

  -- after the gadget sets what follows is what followed
  steps_after : IsEntered f o roots → (J a K : ℕ) → K < length (reply_sets s) → is_taken (record { set = (r + J); action = a }) (parent_of t.form o (r + K)) ≡ is_taken (record { set = J; action = a }) (parent_of f o K)
  steps_after e J a K l = ap (is_taken (record { set = (r + J); action = a })) (parent_is K l) ∙ by (parent_of f o K) refl
    where
      by : (q : Option SetAction) → parent_of f o K ≡ q → is_taken (record { set = (r + J); action = a }) (entered_parent rule r K q) ≡ is_taken (record { set = J; action = a }) q
      by None none = ap (λ b. b && eqb (follow_step rule K).action a) (eqb_apart (follow_step rule K).set (r + J) (λ same. omega (arith, same, entry_low rule roots K (e.alone K l none))))
      by (Some u) some = step_raised r (Some u) J a

  -- the step to a root set leads to it alone
  steps_entry : IsEntered f o roots → (i : ℕ) → i < roots → (K : ℕ) → K < length (reply_sets s) → is_taken (record { set = (follow_step rule i).set; action = (follow_step rule i).action }) (parent_of t.form o (r + K)) ≡ eqb K i
  steps_entry e i l K k = ap (is_taken (record { set = (follow_step rule i).set; action = (follow_step rule i).action })) (parent_is K k) ∙ by (parent_of f o K) refl
    where
      differ : (u : SetAction) → Some u ≡ None → ⊥
      differ u q = cc

      by : (q : Option SetAction) → parent_of f o K ≡ q → is_taken (record { set = (follow_step rule i).set; action = (follow_step rule i).action }) (entered_parent rule r K q) ≡ eqb K i
      by None none = entry_same rule K i
      by (Some u) some =
          step_low r (Some u) (follow_step rule i).set (follow_step rule i).action (entry_low rule roots i l)
          ∙ sym (eqb_apart K i (λ same. differ u (sym some ∙ ap (parent_of f o) same ∙ e.first i l)))

  -- an action at a gadget set that does not enter leads to none
  steps_other : (i a : ℕ) → i < r → ((K : ℕ) → is_taken (record { set = i; action = a }) (Some (follow_step rule K)) ≡ false) → (K : ℕ) → K < length (reply_sets s)
      → is_taken (record { set = i; action = a }) (parent_of t.form o (r + K)) ≡ false
  steps_other i a l never K k = ap (is_taken (record { set = i; action = a })) (parent_is K k) ∙ by (parent_of f o K)
    where
      by : (q : Option SetAction) → is_taken (record { set = i; action = a }) (entered_parent rule r K q) ≡ false
      by None = never K
      by (Some u) = step_low r (Some u) i a l

  -- ---- values

  -- the best values in the subgame
  abbrev T : ℕ → ℤ
  T = best_response_value s

  -- the values on the gadget
  abbrev C : ℕ → ℤ
  C J = cond (ltb J r) (gadget_set_value rule roots limits T J) (T (J - r))

  -- those of the gadget sets
  value_first : (i : ℕ) → i < r → C i ≡ gadget_set_value rule roots limits T i
  value_first i l = ap (λ b. cond b (gadget_set_value rule roots limits T i) (T (i - r))) (lt-ltb i r l)

  -- and those after them
  value_after : (J : ℕ) → C (r + J) ≡ T J
  value_after J = ap (λ b. cond b (gadget_set_value rule roots limits T (r + J)) (T (r + J - r))) (le-ltb (r + J) r (omega arith)) ∙ ap T (omega arith)

  -- only sets of the subgame follow others
  sets_split : (J a : ℕ) → through_sets t C J a ≡ total_below (length (reply_sets s)) (λ K. cond (is_taken (record { set = J; action = a }) (parent_of t.form o (r + K))) (T K) (pos 0))
  sets_split J a =
      let n = length (reply_sets s) in
      let F = λ (I : ℕ). cond (is_taken (record { set = J; action = a }) (parent_of t.form o I)) (C I) (pos 0) in
      let none : total_below r F ≡ pos 0 = below_none r (λ I. is_taken (record { set = J; action = a }) (parent_of t.form o I)) C (λ I l. ap (is_taken (record { set = J; action = a })) (gadget_alone I l)) in
      let rest : total_below n (λ K. F (r + K)) ≡ total_below n (λ K. cond (is_taken (record { set = J; action = a }) (parent_of t.form o (r + K))) (T K) (pos 0)) =
      total_below_cong n _ _ (λ K l. ap (λ x. cond (is_taken (record { set = J; action = a }) (parent_of t.form o (r + K))) x (pos 0)) (value_after K)) in
      ap (λ m. total_below m F) sets_many ∙ below_split r n F ∙ omega (arith, ints, none, rest)

  -- after the gadget sets actions back up what they did
  through_after : IsEntered f o roots → (J a : ℕ) → through t C (r + J) a ≡ through s T J a
  through_after e J a =
      ap (λ x. x +ℤ through_rows t (r + J) a)
      (sets_split (r + J) a ∙ total_below_cong (length (reply_sets s)) _ (λ K. cond (is_taken (record { set = J; action = a }) (parent_of f o K)) (T K) (pos 0)) (λ K l. ap (λ b. cond b (T K) (pos 0)) (steps_after e J a K l)))
      ∙ ap (λ x. through_sets s T J a +ℤ x) (rows_after J a)

  -- of the sets, the root set alone counts
  sum_root : IsEntered f o roots → (i : ℕ) → total_below (length (reply_sets s)) (λ K. cond (eqb K i) (T K) (pos 0)) ≡ T i
  sum_root e i = elim (cases_lt i (length (reply_sets s))) [
    | inl l ↦ below_pick (length (reply_sets s)) i T l
    | inr ge ↦ below_none (length (reply_sets s)) (λ K. eqb K i) T (λ K l. eqb_apart K i (λ q. omega (arith, q, l, ge))) ∙ sym (absent_value s e.form i ge)
  ]

  -- what the step to a root set backs up
  through_entry : IsEntered f o roots → (i : ℕ) → i < roots → through t C (follow_step rule i).set (follow_step rule i).action ≡ T i +ℤ paid (follow_step rule i).set (follow_step rule i).action
  through_entry e i l =
      ap (λ x. x +ℤ through_rows t (follow_step rule i).set (follow_step rule i).action)
      (sets_split (follow_step rule i).set (follow_step rule i).action
      ∙ total_below_cong (length (reply_sets s)) _ (λ K. cond (eqb K i) (T K) (pos 0)) (λ K k. ap (λ b. cond b (T K) (pos 0)) (steps_entry e i l K k))
      ∙ sum_root e i)
      ∙ ap (λ x. T i +ℤ x) (rows_first (follow_step rule i).set (follow_step rule i).action (entry_low rule roots i l))

  -- and what another action does
  through_other : (i a : ℕ) → i < r → ((K : ℕ) → is_taken (record { set = i; action = a }) (Some (follow_step rule K)) ≡ false) → through t C i a ≡ paid i a
  through_other i a l never =
      let none : through_sets t C i a ≡ pos 0 =
      sets_split i a ∙ below_none (length (reply_sets s)) (λ K. is_taken (record { set = i; action = a }) (parent_of t.form o (r + K))) T (λ K k. steps_other i a l never K k) in
      let rows = rows_first i a l in
      omega (arith, ints, none, rows)

  -- a gadget set has its value where that is the greatest of what its actions back up
  pub record IsWorth (i : ℕ) : Type 0 where
    pub bounds : (a : ℕ) → a < slice_index first_actions i → through t C i a ≤ℤ gadget_set_value rule roots limits T i
    pub taken : (a : ℕ) × (a < slice_index first_actions i) × (through t C i a ≡ gadget_set_value rule roots limits T i)

  -- so the values are backed up where the gadget sets have theirs
  gadget_backed_up : IsEntered f o roots → ((i : ℕ) → i < r → IsWorth i) → IsBackedUp t C
  gadget_backed_up e first = record { bounds = λ J a l k. high J a l k (cases_lt J r); taken = λ J l. some J l (cases_lt J r) }
    where
      up : IsBackedUp s T
      up = (best_value_law s e.form).1

      acts_first : (J : ℕ) → J < r → slice_index (reply_sets t) J ≡ slice_index first_actions J
      acts_first J l = ap (λ ms. slice_index ms J) sets_are ∙ get_or_append_left first_actions (reply_sets s) 0 J (omega (arith, l, first_many))

      acts_after : (K : ℕ) → slice_index (reply_sets t) (r + K) ≡ slice_index (reply_sets s) K
      acts_after K = ap (λ ms. slice_index ms (r + K)) sets_are ∙ ap (λ n. slice_index (first_actions ++ reply_sets s) (n + K)) (sym first_many) ∙ get_or-append-add first_actions (reply_sets s) K 0

      high : (J a : ℕ) → J < length (reply_sets t) → a < slice_index (reply_sets t) J → (J < r) ⊎ (r ≤ J) → through t C J a ≤ℤ C J
      high J a l k (inl lt) = subst (λ x. through t C J a ≤ℤ x) (sym (value_first J lt)) ((first J lt).bounds a (subst (λ n. a < n) (acts_first J lt) k))
      high J a l k (inr ge) =
          let K : ℕ = J - r in
          let same : r + K ≡ J = omega (arith, ge) in
          let there : K < length (reply_sets s) = omega (arith, l, ge, sets_many) in
          let acts : a < slice_index (reply_sets s) K = subst (λ n. a < n) (acts_after K) (subst (λ X. a < slice_index (reply_sets t) X) (sym same) k) in
          subst (λ X. through t C X a ≤ℤ C X) same
          (subst (λ x. x ≤ℤ C (r + K)) (sym (through_after e K a)) (subst (λ x. through s T K a ≤ℤ x) (sym (value_after K)) (up.bounds K a there acts)))

      some : (J : ℕ) → J < length (reply_sets t) → (J < r) ⊎ (r ≤ J) → (a : ℕ) × (a < slice_index (reply_sets t) J) × (through t C J a ≡ C J)
      some J l (inl lt) =
          let w = (first J lt).taken in
          (w.0, subst (λ n. w.0 < n) (sym (acts_first J lt)) w.1, w.2 ∙ sym (value_first J lt))
      some J l (inr ge) =
          let K : ℕ = J - r in
          let same : r + K ≡ J = omega (arith, ge) in
          let there : K < length (reply_sets s) = omega (arith, l, ge, sets_many) in
          let w = up.taken K there in
          subst (λ X. (a : ℕ) × (a < slice_index (reply_sets t) X) × (through t C X a ≡ C X)) same
          (w.0, subst (λ n. w.0 < n) (sym (acts_after K)) w.1, through_after e K w.0 ∙ w.2 ∙ sym (value_after K))

  -- a gadget set whose two actions terminate at the limit or enter
  stops : IsEntered f o roots → (i : ℕ) → i < r → i < roots → ((K : ℕ) → is_taken (record { set = i; action = 0 }) (Some (follow_step rule K)) ≡ false) → (follow_step rule i).set ≡ i → (follow_step rule i).action ≡ 1
      → slice_index first_actions i ≡ 2 → paid i 0 ≡ limits i → paid i 1 ≡ pos 0 → gadget_set_value rule roots limits T i ≡ int_max (limits i) (T i) → IsWorth i
  stops e i l k never at_set by_one two limit_paid none_paid value =
      let stop : through t C i 0 ≡ limits i = through_other i 0 l never ∙ limit_paid in
      let go : through t C i 1 ≡ T i =
      subst (λ J. through t C J 1 ≡ T i +ℤ paid J 1) at_set (subst (λ a. through t C (follow_step rule i).set a ≡ T i +ℤ paid (follow_step rule i).set a) by_one (through_entry e i k)) ∙ omega (arith, ints, none_paid) in
      record {
        bounds = λ a b. elim (cases_eq a 0) [
          | inl q ↦ subst (λ a. through t C i a ≤ℤ gadget_set_value rule roots limits T i) (sym q) (omega (arith, ints, clamps, stop, value))
          | inr ne ↦
              let one : 1 ≡ a = omega (arith, two, b) in
              subst (λ a. through t C i a ≤ℤ gadget_set_value rule roots limits T i) one (omega (arith, ints, clamps, go, value))
        ];
        taken = by_lt_z (limits i) (T i) (λ less. (1, omega (arith, two), omega (arith, ints, clamps, go, value, less))) (λ more. (0, omega (arith, two), omega (arith, ints, clamps, stop, value, more)));
      }

  -- the best values are these values
  gadget_best : IsEntered f o roots → ((i : ℕ) → i < r → IsWorth i)
      → ((i : ℕ) → i < r → best_response_value t i ≡ gadget_set_value rule roots limits T i) × ((J : ℕ) → J < length (reply_sets s) → best_response_value t (r + J) ≡ T J)
  gadget_best e first =
      let up = gadget_backed_up e first in
      let is_form = (gadget_form_law rule keeper roots factors limits f).1 e.form e.some e.alone in (
        λ i l. best_value_is t is_form C up i (omega (arith, l, sets_many)) ∙ value_first i l,
        λ J l. best_value_is t is_form C up (r + J) (omega (arith, l, sets_many)) ∙ value_after J,
      )

-- ---- the rules

-- the term of one number of a range
range_pick : (p : ℕ → Bool) (h : ℕ → ℤ) (j s n : ℕ) → ((i : ℕ) → p i ≡ eqb i j) → s ≤ j → j < s + n → total (λ i. cond (p i) (h i) (pos 0)) (range_with_len s n) ≡ h j
range_pick p h j s zero e le l = absurd (omega (arith, le, l))
range_pick p h j s (suc n) e le l = elim (cases_eq s j) [
  | inl q ↦
      let here : cond (p s) (h s) (pos 0) ≡ h j = ap (λ b. cond b (h s) (pos 0)) (e s ∙ eq-eqb s j q) ∙ ap h q in
      let rest : total (λ i. cond (p i) (h i) (pos 0)) (range_with_len (s + 1) n) ≡ pos 0 =
      total-none (λ i. cond (p i) (h i) (pos 0)) (range_with_len (s + 1) n) (λ i k. ap (λ b. cond b (h i) (pos 0)) (e i ∙ eqb_apart i j (λ same. omega (arith, same, q, (in_from_range i (s + 1) n k).0)))) in
      omega (arith, ints, here, rest)
  | inr ne ↦
      let here : cond (p s) (h s) (pos 0) ≡ pos 0 = ap (λ b. cond b (h s) (pos 0)) (e s ∙ eqb_apart s j ne) in
      let rest = range_pick p h j (s + 1) n e (omega (arith, le, ne)) (omega (arith, l)) in
      omega (arith, ints, here, rest)
]

-- each of some sets alike has two actions
two_actions : (roots i : ℕ) → i < roots → slice_index (actions_in (replicate roots (record { parent = None; actions = 2 }))) i ≡ 2
two_actions roots i l =
    let two : FormSet = record { parent = None; actions = 2 } in
    let none : FormSet = record { parent = None; actions = 0 } in
    get_or-map (λ (x : FormSet). x.actions) (replicate roots two) i none ∙ ap (λ (x : FormSet). x.actions) (get_or-replicate roots i two none l)

-- the law of gadgets' values
pub gadget_value_law : GadgetValueLaw
gadget_value_law cfrd keeper roots factors grid limits f table e =
    gadget_best cfrd keeper roots factors grid limits f table e (λ i l.
    let k : i < roots = subst (λ n. i < n) (length-replicate roots (record { parent = None; actions = 2 })) l in
    stops cfrd keeper roots factors grid limits f table e i l k (λ K. with_false (eqb K i)) refl refl (two_actions roots i k)
    (range_pick (λ j. eqb j i && true) limits i 0 roots (λ j. with_true (eqb j i)) (omega arith) (omega (arith, k)))
    (total-none (λ j. cond (eqb j i && false) (limits j) (pos 0)) (range_with_len 0 roots) (λ j m. ap (λ b. cond b (limits j) (pos 0)) (with_false (eqb j i))))
    refl)
gadget_value_law reach keeper roots factors grid limits f table e =
    gadget_best reach keeper roots factors grid limits f table e (λ i l.
    let k : i < roots = subst (λ n. i < n) (length-replicate roots (record { parent = None; actions = 2 })) l in
    stops reach keeper roots factors grid limits f table e i l k (λ K. with_false (eqb K i)) refl refl (two_actions roots i k)
    (range_pick (λ j. eqb j i && true) limits i 0 roots (λ j. with_true (eqb j i)) (omega arith) (omega (arith, k)))
    (total-none (λ j. cond (eqb j i && false) (limits j) (pos 0)) (range_with_len 0 roots) (λ j m. ap (λ b. cond b (limits j) (pos 0)) (with_false (eqb j i))))
    refl)
gadget_value_law margin keeper roots factors grid limits f table e = gadget_best margin keeper roots factors grid limits f table e (λ i l. chosen i l)
  where
    inner : ℕ → ℤ
    inner = best_response_value (played f keeper grid table)

    difference : ℕ → ℤ
    difference k = inner k -ℤ limits k

    backs : (a : ℕ) → a < roots → through (t margin keeper roots factors grid limits f table) (C margin keeper roots factors grid limits f table) 0 a ≡ difference a
    backs a l =
        let paid_is = range_pick (λ j. eqb j a) (λ j. neg_ℤ (limits j)) a 0 roots (λ j. refl) (omega arith) (omega (arith, l)) in
        through_entry margin keeper roots factors grid limits f table e a l ∙ ap (λ x. inner a +ℤ x) paid_is ∙ omega (arith, ints)

    chosen : (i : ℕ) → i < 1 → IsWorth margin keeper roots factors grid limits f table i
    chosen zero l =
        let g = greatest_range roots difference e.some in
        record {
          bounds = λ a k. subst (λ x. x ≤ℤ greatest_of (map difference (range_with_len 0 roots))) (sym (backs a k)) (g.0 a k);
          taken = (g.1.0, g.1.1, backs g.1.0 g.1.1 ∙ g.1.2);
        }
    chosen (suc i) l = absurd (omega (arith, l))
