-- Where a name is found, and names with those of others that are new behind them.
use Rattle.std.proofs.Common.{◌≡◌, ℕ, suc, ◌+◌, ◌≤◌, ◌<◌, Bool, true, false, not, nat_lt, List, [], ◌∷◌, ◌++◌, length, Some, None, position, refl, sym, ap, ◌∙◌, subst, arith, append_assoc, length-append, inl, inr}
use Rattle.std.specs.Prelude.{if◌then◌else◌}
use Rattle.std.specs.List.{list_all, position_from}
use Rattle.std.specs.Str.{bytes_eq}
use Rattle.std.proofs.Math.ListN.{get_or-append}
use Rattle.std.proofs.lemmas.Bool.{not-true, and_parts, and_from, or_left, or_right, cases_Bool, ltb-true, lt-ltb}
use Rattle.std.proofs.lemmas.List.{append-nil, map-append}
use Rattle.std.proofs.lemmas.Iterator.Adapters.{position_from-zero}
use Rattle.lab_defs_text.specs.Words.{Bytes, apart_after, stands_in}
use Rattle.lab_defs_text.specs.Texts.{name_of}
use Rattle.lab_defs_text.proofs.ListLemmas.{all_weaker, all_append}
use Rattle.lab_defs_text.proofs.SplitLemmas.{bytes_eq_is}
use Rattle.lab_lex.proofs.CallerLemmas.{nothing_passes}
use Rattle.lab_world.specs.declared.place.ActionId.{ActionId}
use Rattle.lab_world.specs.Models.{action_list}
use Rattle.lab_world.specs.Wholes.{with_new}

-- ---- where a name is found

-- a name stands at a place, where places are counted from i
record StandsFrom (name : Bytes) (ns : List Bytes) (i k : ℕ) : Type 0 where
  place : ℕ
  counted : k ≡ i + place
  below : place < length ns
  same : name_of ns place ≡ name
  stands : stands_in name ns ≡ true

-- a name that is found stands there
stands_from : (name : Bytes) (ns : List Bytes) (i k : ℕ) → position_from (bytes_eq name) i ns ≡ Some k → StandsFrom name ns i k
stands_from name [] i k e = absurd cc
stands_from name (n ∷ ns) i k e = elim (cases_Bool (bytes_eq name n)) [
  | inl t ↦ (let found : Some i ≡ Some k = rw t at e in
      let k_is : k ≡ i = cc in
      record { place = 0; counted = omega (arith, k_is); below = omega arith; same = sym (bytes_eq_is name n t); stands = or_left (bytes_eq name n) (stands_in name ns) t })
  | inr t ↦ (let r = stands_from name ns (i + 1) k (rw t at e) in
      record { place = suc r.place; counted = omega (arith, r.counted); below = omega (arith, r.below); same = r.same; stands = or_right (bytes_eq name n) (stands_in name ns) r.stands })
]

-- a name stands at a place
pub record StandsAt (name : Bytes) (ns : List Bytes) (k : ℕ) : Type 0 where
  pub below : k < length ns
  pub same : name_of ns k ≡ name
  pub stands : stands_in name ns ≡ true

-- where a name is found it stands
pub stands_at : (name : Bytes) (ns : List Bytes) (k : ℕ) → position (bytes_eq name) ns ≡ Some k → StandsAt name ns k
stands_at name ns k e =
    let r = stands_from name ns 0 k (sym (position_from-zero (bytes_eq name) ns) ∙ e) in
    let there : r.place ≡ k = omega (arith, r.counted) in
    subst (StandsAt name ns) there (record { below = r.below; same = r.same; stands = r.stands })

-- a name that is not found does not stand there
pub stands_nowhere : (name : Bytes) (ns : List Bytes) → position (bytes_eq name) ns ≡ None → stands_in name ns ≡ false
stands_nowhere name ns e = nothing_passes (bytes_eq name) ns e

-- names that stand apart of others begin with one that is none of them
pub apart_first : (before : List Bytes) (n : Bytes) (ns : List Bytes) → apart_after before (n ∷ ns) ≡ true → stands_in n before ≡ false
apart_first before n ns e = not-true (stands_in n before) (and_parts (not (stands_in n before)) (apart_after (before ++ n ∷ []) ns) e).0

-- ---- names with new ones behind them

-- names, and behind them one that is new
abbrev pub with_one : List Bytes → Bytes → List Bytes
with_one names n = if stands_in n names then names else names ++ n ∷ []

-- one name comes at the end, if at all
pub with_one_rest : (names : List Bytes) (n : Bytes) → (rest : List Bytes) × (with_one names n ≡ names ++ rest)
with_one_rest names n = elim (cases_Bool (stands_in n names)) [
  | inl t ↦ ([], rw t (sym (append-nil names)))
  | inr t ↦ (n ∷ [], rw t refl)
]

-- new names come at the end
pub with_new_rest : (names ns : List Bytes) → (rest : List Bytes) × (with_new names ns ≡ names ++ rest)
with_new_rest names [] = ([], sym (append-nil names))
with_new_rest names (n ∷ ns) =
    let a = with_one_rest names n in
    let b = with_new_rest (with_one names n) ns in
    (a.0 ++ b.0, b.1 ∙ ap (λ (xs : List Bytes). xs ++ b.0) a.1 ∙ append_assoc names a.0 b.0)

-- there are no fewer names
pub with_new_grows : (names ns : List Bytes) → length names ≤ length (with_new names ns)
with_new_grows names ns =
    let r = with_new_rest names ns in
    let n : length (with_new names ns) ≡ length names + length r.0 = ap length r.1 ∙ length-append names r.0 in
    omega (arith, n)

-- one name adds one at most
with_one_few : (names : List Bytes) (n : Bytes) → length (with_one names n) ≤ length names + 1
with_one_few names n = elim (cases_Bool (stands_in n names)) [
  | inl t ↦ rw t (omega arith)
  | inr t ↦ rw t (omega (arith, length-append names (n ∷ [])))
]

-- names add no more than they are
pub with_new_few : (names ns : List Bytes) → length (with_new names ns) ≤ length names + length ns
with_new_few names [] = omega arith
with_new_few names (n ∷ ns) =
    let a = with_one_few names n in
    let b = with_new_few (with_one names n) ns in
    omega (arith, a, b)

-- ---- numbers of names

-- all ids are below a number
abbrev pub ids_below : ℕ → List ActionId → Bool
ids_below n ids = list_all (λ (i : ActionId). nat_lt i.0 n) ids

-- ids that are below a number are below a greater one
pub ids_below_more : (m n : ℕ) (ids : List ActionId) → m ≤ n → ids_below m ids ≡ true → ids_below n ids ≡ true
ids_below_more m n ids le e = all_weaker (λ (i : ActionId). nat_lt i.0 m) (λ (i : ActionId). nat_lt i.0 n) (λ i t. let l = ltb-true i.0 m t in lt-ltb i.0 n (omega (arith, l, le))) ids e

-- names at the end change no name that has a number already
pub action_list_append : (xs rest : List Bytes) (ids : List ActionId) → ids_below (length xs) ids ≡ true → action_list (xs ++ rest) ids ≡ action_list xs ids
action_list_append xs rest [] e = refl
action_list_append xs rest (i ∷ ids) e =
    let a = and_parts (nat_lt i.0 (length xs)) (ids_below (length xs) ids) e in
    rw (get_or-append xs rest [] i.0 (ltb-true i.0 (length xs) a.0), action_list_append xs rest ids a.1) refl

-- new names change none that has a number already
pub action_list_new : (xs ns : List Bytes) (ids : List ActionId) → ids_below (length xs) ids ≡ true → action_list (with_new xs ns) ids ≡ action_list xs ids
action_list_new xs ns ids e =
    let r = with_new_rest xs ns in
    ap (λ (ys : List Bytes). action_list ys ids) r.1 ∙ action_list_append xs r.0 ids e

-- and their numbers are still those of names
pub ids_below_new : (xs ns : List Bytes) (ids : List ActionId) → ids_below (length xs) ids ≡ true → ids_below (length (with_new xs ns)) ids ≡ true
ids_below_new xs ns ids e = ids_below_more (length xs) (length (with_new xs ns)) ids (with_new_grows xs ns) e

-- one more id names one more name
pub action_list_push : (xs ys : List Bytes) (n : Bytes) (ids : List ActionId) (i : ActionId) (rest : List Bytes) → ys ≡ with_new xs (n ∷ []) → ids_below (length xs) ids ≡ true → name_of ys i.0 ≡ n
    → action_list ys (ids ++ i ∷ []) ++ rest ≡ action_list xs ids ++ n ∷ rest
action_list_push xs ys n ids i rest made below same =
    let before : action_list ys ids ≡ action_list xs ids = ap (λ (zs : List Bytes). action_list zs ids) made ∙ action_list_new xs (n ∷ []) ids below in
    ap (λ (zs : List Bytes). zs ++ rest) (map-append (λ (j : ActionId). name_of ys j.0) ids (i ∷ []) ∙ rw (before, same) refl) ∙ append_assoc (action_list xs ids) (n ∷ []) rest

-- and is below their count too
pub ids_below_push : (xs ys : List Bytes) (n : Bytes) (ids : List ActionId) (i : ActionId) → ys ≡ with_new xs (n ∷ []) → ids_below (length xs) ids ≡ true → i.0 < length ys → ids_below (length ys) (ids ++ i ∷ []) ≡ true
ids_below_push xs ys n ids i made below last =
    let before = subst (λ (zs : List Bytes). ids_below (length zs) ids ≡ true) (sym made) (ids_below_new xs (n ∷ []) ids below) in
    all_append (λ (j : ActionId). nat_lt j.0 (length ys)) ids (i ∷ []) before (and_from (nat_lt i.0 (length ys)) true (lt-ltb i.0 (length ys) last) refl)
