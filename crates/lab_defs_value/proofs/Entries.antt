-- Paths that enter a subgame by gadget sets: they go from parents to children.
use Rattle.std.proofs.Common.{◌≡◌, ℕ, zero, suc, ◌+◌, ◌-◌, ◌<◌, ◌≤◌, List, [], ◌∷◌, ◌++◌, length, map, replicate, get_or, Bool, true, false, eqb, ◌||◌, Option, Some, None, refl, sym, ap, ◌∙◌, subst, arith, inl, inr, ◌⊎◌, eq-eqb, length-append}
use Rattle.std.specs.Prelude.{slice_index}
use Rattle.std.proofs.lemmas.Bool.{cases_eq, cases_lt}
use Rattle.std.proofs.lemmas.List.{length-map, map-append, length-replicate, get_or-replicate, get_or_append_left, get_or-append-add}
use Rattle.lab_math.proofs.BelowLemmas.{eqb_apart}
use Rattle.lab_defs_game.specs.Forms.{FormSet, actions_in, parent_at}
use Rattle.lab_defs_game.specs.Paths.{SetAction}
use Rattle.lab_defs_value.specs.Parents.{passes_through, IsStepBelow}
use Rattle.lab_defs_value.specs.Allowances.{Rule, cfrd, reach, margin}
use Rattle.lab_defs_value.specs.Gadgets.{gadget_sets, follow_step, terminate_step, raised, entered_path, entered_parent, entered_sets, sets_entered}
use Rattle.lab_defs_value.proofs.Chains.{IsPath, AreBelow, sets_length}

-- ---- the gadget sets

-- what is seen of a list of one thing
map_replicate : {X Y : Type 0} (f : X → Y) (n : ℕ) (x : X) → map f (replicate n x) ≡ replicate n (f x)
map_replicate f zero x = refl
map_replicate f (suc n) x = ap (λ ys. f x ∷ ys) (map_replicate f n x)

-- numbers of actions
abbrev further_actions : Rule → ℕ → List ℕ
further_actions cfrd roots = replicate roots 2
further_actions reach roots = replicate roots 2
further_actions margin roots = roots ∷ []

-- these are those of the gadget sets
further_are : (rule : Rule) (roots : ℕ) → further_actions rule roots ≡ actions_in (gadget_sets rule roots)
further_are cfrd roots = sym (map_replicate (λ (s : FormSet). s.actions) roots (record { parent = None; actions = 2 }))
further_are reach roots = sym (map_replicate (λ (s : FormSet). s.actions) roots (record { parent = None; actions = 2 }))
further_are margin roots = refl

-- each has an action
pub further_some : (rule : Rule) (roots : ℕ) → 1 ≤ roots → (J : ℕ) → J < length (actions_in (gadget_sets rule roots)) → 1 ≤ slice_index (actions_in (gadget_sets rule roots)) J
further_some rule roots some = subst (λ ns. (J : ℕ) → J < length ns → 1 ≤ slice_index ns J) (further_are rule roots) (each rule)
  where
    two : (J : ℕ) → J < length (further_actions cfrd roots) → 1 ≤ slice_index (further_actions cfrd roots) J
    two J l = subst (λ n. 1 ≤ n) (sym (get_or-replicate roots J 2 0 (subst (λ n. J < n) (length-replicate roots 2) l))) (omega arith)

    each : (rule : Rule) (J : ℕ) → J < length (further_actions rule roots) → 1 ≤ slice_index (further_actions rule roots) J
    each cfrd J l = two J l
    each reach J l = two J l
    each margin zero l = some
    each margin (suc J) l = absurd (omega (arith, l))

-- a step below the end of them
abbrev pub IsFurther : Rule → ℕ → SetAction → Type 0
IsFurther rule roots t = IsStepBelow (actions_in (gadget_sets rule roots)) (length (gadget_sets rule roots)) (Some t)

-- one of two actions at a set of as many as there are roots
one_of_two : (roots r a : ℕ) → r < roots → a < 2 → IsStepBelow (actions_in (gadget_sets cfrd roots)) (length (gadget_sets cfrd roots)) (Some (record { set = r; action = a }))
one_of_two roots r a l k = (
  subst (λ n. r < n) (sym (length-replicate roots (record { parent = None; actions = 2 }))) l,
  subst (λ ns. a < slice_index ns r) (further_are cfrd roots) (subst (λ n. a < n) (sym (get_or-replicate roots r 2 0 l)) k),
)

-- the step to a root set is there
pub entry_there : (rule : Rule) (roots r : ℕ) → r < roots → IsFurther rule roots (follow_step rule r)
entry_there cfrd roots r l = one_of_two roots r 1 l (omega arith)
entry_there reach roots r l = one_of_two roots r 1 l (omega arith)
entry_there margin roots r l = (omega arith, l)

-- and that of its further row
pub ending_there : (rule : Rule) (roots r : ℕ) → r < roots → IsFurther rule roots (terminate_step rule r)
ending_there cfrd roots r l = one_of_two roots r 0 l (omega arith)
ending_there reach roots r l = one_of_two roots r 0 l (omega arith)
ending_there margin roots r l = (omega arith, l)

-- the set of the step to a root set is one of them
pub entry_low : (rule : Rule) (roots r : ℕ) → r < roots → (follow_step rule r).set < length (gadget_sets rule roots)
entry_low rule roots r l = (entry_there rule roots r l).0

-- ---- raised steps

-- numbers are one where they are after both are raised
pub eqb_raised : (n s J : ℕ) → eqb (n + s) (n + J) ≡ eqb s J
eqb_raised n s J = elim (cases_eq s J) [
  | inl e ↦ eq-eqb (n + s) (n + J) (ap (λ x. n + x) e) ∙ sym (eq-eqb s J e)
  | inr ne ↦ eqb_apart (n + s) (n + J) (λ e. ne (omega (arith, e))) ∙ sym (eqb_apart s J ne)
]

-- where raised steps pass
pub passes_raised : (n J : ℕ) (ts : List SetAction) → passes_through (n + J) (map (raised n) ts) ≡ passes_through J ts
passes_raised n J [] = refl
passes_raised n J (t ∷ ts) = ap (λ b. b || passes_through (n + J) (map (raised n) ts)) (eqb_raised n t.set J) ∙ ap (λ b. eqb t.set J || b) (passes_raised n J ts)

-- a path that enters passes where its steps do
pub passes_entered : (rule : Rule) (n J : ℕ) (t : SetAction) (ts : List SetAction) → (follow_step rule t.set).set < n → passes_through (n + J) (entered_path rule n (t ∷ ts)) ≡ passes_through J (t ∷ ts)
passes_entered rule n J t ts l =
    ap (λ c. c || passes_through (n + J) (map (raised n) (t ∷ ts))) (eqb_apart (follow_step rule t.set).set (n + J) (λ e. omega (arith, e, l))) ∙ passes_raised n J (t ∷ ts)

-- what passes after a step passes
pub or_true : (b c : Bool) → c ≡ true → (b || c) ≡ true
or_true true c e = refl
or_true false c e = e

-- ---- the sets of both

-- a subgame's sets have the actions that they had
entered_actions : (rule : Rule) (n I : ℕ) (sets : List FormSet) → actions_in (entered_sets rule n I sets) ≡ actions_in sets
entered_actions rule n I [] = refl
entered_actions rule n I (x ∷ xs) = ap (λ ns. x.actions ∷ ns) (entered_actions rule n (I + 1) xs)

-- the numbers of actions of both
pub actions_entered : (rule : Rule) (roots : ℕ) (sets : List FormSet) → actions_in (sets_entered rule roots sets) ≡ actions_in (gadget_sets rule roots) ++ actions_in sets
actions_entered rule roots sets =
    let n = length (gadget_sets rule roots) in
    map-append (λ (s : FormSet). s.actions) (gadget_sets rule roots) (entered_sets rule n 0 sets)
    ∙ ap (λ ns. actions_in (gadget_sets rule roots) ++ ns) (entered_actions rule n 0 sets)

-- each has an action where those of the subgame have
pub entered_some : (rule : Rule) (roots : ℕ) (sets : List FormSet) → 1 ≤ roots → ((J : ℕ) → J < length (actions_in sets) → 1 ≤ slice_index (actions_in sets) J)
    → (J : ℕ) → J < length (actions_in (sets_entered rule roots sets)) → 1 ≤ slice_index (actions_in (sets_entered rule roots sets)) J
entered_some rule roots sets some each =
    subst (λ ns. (J : ℕ) → J < length ns → 1 ≤ slice_index ns J) (sym (actions_entered rule roots sets))
    (both (actions_in (gadget_sets rule roots)) (actions_in sets) (further_some rule roots some) each)
  where
    both : (front ns : List ℕ) → ((J : ℕ) → J < length front → 1 ≤ slice_index front J) → ((J : ℕ) → J < length ns → 1 ≤ slice_index ns J)
        → (J : ℕ) → J < length (front ++ ns) → 1 ≤ slice_index (front ++ ns) J
    both [] ns p q J l = q J l
    both (n ∷ front) ns p q zero l = p 0 (omega arith)
    both (n ∷ front) ns p q (suc J) l = both front ns (λ K k. p (suc K) (omega (arith, k))) q J (omega (arith, l))

-- the parents of a list of sets
abbrev parents_in : List FormSet → List (Option SetAction)
parents_in sets = map (λ s. s.parent) sets

-- sets alike without parents have none
none_alike : (n J k : ℕ) → parent_at (replicate n (record { parent = None; actions = k })) J ≡ None
none_alike zero J k = refl
none_alike (suc n) zero k = refl
none_alike (suc n) (suc J) k = none_alike n J k

-- so a gadget set has no parent
no_parent : (rule : Rule) (roots J : ℕ) → parent_at (gadget_sets rule roots) J ≡ None
no_parent cfrd roots J = none_alike roots J 2
no_parent reach roots J = none_alike roots J 2
no_parent margin roots zero = refl
no_parent margin roots (suc J) = refl

-- nor has it among both
pub parent_low : (rule : Rule) (roots J : ℕ) (sets : List FormSet) → J < length (gadget_sets rule roots) → parent_at (sets_entered rule roots sets) J ≡ None
parent_low rule roots J sets l =
    let further = gadget_sets rule roots in
    let rest = entered_sets rule (length further) 0 sets in
    ap (λ ps. get_or ps J None) (map-append (λ (s : FormSet). s.parent) further rest)
    ∙ get_or_append_left (parents_in further) (parents_in rest) None J (subst (λ n. J < n) (sym (length-map further (λ s. s.parent))) l)
    ∙ no_parent rule roots J

-- the parents of a subgame's sets, the first with the number I
entered_at : (rule : Rule) (n I J : ℕ) (sets : List FormSet) → J < length sets → parent_at (entered_sets rule n I sets) J ≡ entered_parent rule n (I + J) (parent_at sets J)
entered_at rule n I J [] l = absurd (omega (arith, l))
entered_at rule n I zero (x ∷ xs) l = ap (λ k. entered_parent rule n k x.parent) (omega arith)
entered_at rule n I (suc J) (x ∷ xs) l = entered_at rule n (I + 1) J xs (omega (arith, l)) ∙ ap (λ k. entered_parent rule n k (parent_at xs J)) (omega arith)

-- a set of the subgame has its parent raised, or is entered
pub parent_raised : (rule : Rule) (roots J : ℕ) (sets : List FormSet) → J < length sets
    → parent_at (sets_entered rule roots sets) (length (gadget_sets rule roots) + J) ≡ entered_parent rule (length (gadget_sets rule roots)) J (parent_at sets J)
parent_raised rule roots J sets l =
    let further = gadget_sets rule roots in
    let n = length further in
    let rest = entered_sets rule n 0 sets in
    ap (λ ps. get_or ps (n + J) None) (map-append (λ (s : FormSet). s.parent) further rest)
    ∙ ap (λ k. get_or (parents_in further ++ parents_in rest) (k + J) None) (sym (length-map further (λ s. s.parent)))
    ∙ get_or-append-add (parents_in further) (parents_in rest) J None
    ∙ entered_at rule n 0 J sets l ∙ ap (λ k. entered_parent rule n k (parent_at sets J)) (omega arith)

-- ---- steps

-- a step of the subgame is there, raised
step_raised : (front ns : List ℕ) (n m : ℕ) (t : SetAction) → length front ≡ n → IsStepBelow ns m (Some t) → IsStepBelow (front ++ ns) (n + m) (Some (raised n t))
step_raised front ns n m t e h =
    (omega (arith, h.0), subst (λ k. t.action < slice_index (front ++ ns) (k + t.set)) e (subst (λ k. t.action < k) (sym (get_or-append-add front ns t.set 0)) h.1))

-- and one at a gadget set is there
step_front : (front ns : List ℕ) (n m : ℕ) (t : SetAction) → length front ≡ n → n ≤ m → IsStepBelow front n (Some t) → IsStepBelow (front ++ ns) m (Some t)
step_front front ns n m t e le h =
    (omega (arith, h.0, le), subst (λ k. t.action < k) (sym (get_or_append_left front ns 0 t.set (omega (arith, h.0, e)))) h.1)

-- ---- a form, by the gadget sets and those of a subgame where what follows none is among the first ones

module _ (rule : Rule) (roots : ℕ) (sets : List FormSet) (begins : (I : ℕ) → I < length (actions_in sets) → parent_at sets I ≡ None → I < roots) where
  -- how many gadget sets there are
  abbrev further : ℕ
  further = length (gadget_sets rule roots)

  -- the numbers of actions and parents of both
  abbrev all_actions : List ℕ
  all_actions = actions_in (sets_entered rule roots sets)

  abbrev all_parents : ℕ → Option SetAction
  all_parents = parent_at (sets_entered rule roots sets)

  -- there are as many sets as of both
  many : length all_actions ≡ further + length (actions_in sets)
  many =
      ap length (actions_entered rule roots sets) ∙ length-append (actions_in (gadget_sets rule roots)) (actions_in sets)
      ∙ ap (λ n. n + length (actions_in sets)) (sets_length (gadget_sets rule roots))

  -- a step of the subgame, raised
  raise_step : (m : ℕ) (t : SetAction) → IsStepBelow (actions_in sets) m (Some t) → IsStepBelow all_actions (further + m) (Some (raised further t))
  raise_step m t h =
      subst (λ ns. IsStepBelow ns (further + m) (Some (raised further t))) (sym (actions_entered rule roots sets))
      (step_raised (actions_in (gadget_sets rule roots)) (actions_in sets) further m t (sets_length (gadget_sets rule roots)) h)

  -- a step at a gadget set
  front_step : (m : ℕ) (t : SetAction) → further ≤ m → IsFurther rule roots t → IsStepBelow all_actions m (Some t)
  front_step m t le h =
      subst (λ ns. IsStepBelow ns m (Some t)) (sym (actions_entered rule roots sets))
      (step_front (actions_in (gadget_sets rule roots)) (actions_in sets) further m t (sets_length (gadget_sets rule roots)) le h)

  -- parents come before children where they do in the subgame
  pub entered_below : AreBelow sets → AreBelow (sets_entered rule roots sets)
  entered_below below J l = at (cases_lt J further)
    where
      lift : (K : ℕ) → K < length (actions_in sets) → (o : Option SetAction) → parent_at sets K ≡ o → IsStepBelow (actions_in sets) K o → IsStepBelow all_actions (further + K) (entered_parent rule further K o)
      lift K k None e h = front_step (further + K) (follow_step rule K) (omega arith) (entry_there rule roots K (begins K k e))
      lift K k (Some t) e h = raise_step K t h

      at : (J < further) ⊎ (further ≤ J) → IsStepBelow all_actions J (all_parents J)
      at (inl lt) = subst (λ o. IsStepBelow all_actions J o) (sym (parent_low rule roots J sets lt)) tt
      at (inr ge) =
          let K : ℕ = J - further in
          let k : K < length (actions_in sets) = omega (arith, l, ge, many) in
          let there : further + K ≡ J = omega (arith, ge) in
          subst (λ I. IsStepBelow all_actions I (all_parents I)) there
          (subst (λ o. IsStepBelow all_actions (further + K) o) (sym (parent_raised rule roots K sets (omega (arith, k, sets_length sets)))) (lift K k (parent_at sets K) refl (below K k)))

  -- the steps of the subgame after a step
  rest_ok : (b : SetAction) (ts : List SetAction) → IsPath (actions_in sets) (parent_at sets) (Some b) ts → IsPath all_actions all_parents (Some (raised further b)) (map (raised further) ts)
  rest_ok b [] h = tt
  rest_ok b (t ∷ ts) h = (
    parent_raised rule roots t.set sets (omega (arith, h.2.0, sets_length sets)) ∙ ap (entered_parent rule further t.set) h.0,
    omega (arith, h.1),
    subst (λ n. IsStepBelow all_actions n (Some (raised further t))) (sym many) (raise_step (length (actions_in sets)) t h.2),
    rest_ok t ts h.3,
  )

  -- a path of the subgame that is entered goes from parents to children
  pub entered_ok : (p : List SetAction) → IsPath (actions_in sets) (parent_at sets) None p → IsPath all_actions all_parents None (entered_path rule further p)
  entered_ok [] h = tt
  entered_ok (t ∷ ts) h =
      let root = begins t.set h.2.0 h.0 in (
        parent_low rule roots (follow_step rule t.set).set sets (entry_low rule roots t.set root),
        tt,
        front_step (length all_actions) (follow_step rule t.set) (omega (arith, many)) (entry_there rule roots t.set root),
        (
          parent_raised rule roots t.set sets (omega (arith, h.2.0, sets_length sets)) ∙ ap (entered_parent rule further t.set) h.0,
          omega (arith, entry_low rule roots t.set root),
          subst (λ n. IsStepBelow all_actions n (Some (raised further t))) (sym many) (raise_step (length (actions_in sets)) t h.2),
          rest_ok t ts h.3,
        ),
      )

  -- so does that of a further row
  pub ending_ok : (r : ℕ) → r < roots → IsPath all_actions all_parents None (terminate_step rule r ∷ [])
  ending_ok r l =
      let there = ending_there rule roots r l in
      (parent_low rule roots (terminate_step rule r).set sets there.0, tt, front_step (length all_actions) (terminate_step rule r) (omega (arith, many)) there, tt)
