-- Sets that follow the same step at the same node, one by one.
use Rattle.std.proofs.Common.{◌≡◌, ℕ, suc, ◌+◌, ◌<◌, ◌≤◌, List, ◌∷◌, ◌++◌, true, false, cond, length, take, drop, get_or, Option, Some, None, refl, sym, ap, ◌∙◌, subst, arith}
use Rattle.std.specs.Prelude.{◌&&◌, ◌==◌}
use Rattle.std.specs.declared.cmp.Ordering.TheVariants.{Less}
use Rattle.std.proofs.lemmas.Bool.{eqb-true, eq-eqb, and_parts, and_from, false_from_ne_true}
use Rattle.std.proofs.lemmas.List.{take_more, drop_more, take-append-drop, get_or-take, get_or-drop, length-drop, length-take-le}
use Rattle.lab_defs_game.specs.Keys.{count}
use Rattle.lab_defs_game.proofs.FormLemmas.{count_push}
use Rattle.lab_defs_game.proofs.NumberLemmas.{count_at_true, count_cong, count_none, count_le_length, place_of_in}
use Rattle.lab_form.specs.declared.items.SetId.{SetId}
use Rattle.lab_tree.specs.declared.info.SetInfo.{SetInfo}
use Rattle.lab_tree.specs.declared.info.Follow.{Follow}
use Rattle.lab_tree.specs.declared.info.PathItem.{PathItem}
use Rattle.lab_tree.specs.Places.{same_parent, is_kin, set_read, place_at, kin_count, index_of, follow_of, item_of, AreGrouped}
use Rattle.lab_tree.proofs.Parts.{count-append}

-- ---- kin

-- a step is itself
same_itself : (o : Option (SetId × ℕ)) → same_parent o o ≡ true
same_itself None = refl
same_itself (Some t) = and_from (t.0.0 == t.0.0) (t.1 == t.1) (eq-eqb t.0.0 t.0.0 refl) (eq-eqb t.1 t.1 refl)

-- what is found to be one step is one
same_is : (o p : Option (SetId × ℕ)) → same_parent o p ≡ true → o ≡ p
same_is None None e = refl
same_is None (Some u) e = absurd (never e)
  where
    never : false ≡ true → ⊥
    never e = cc
same_is (Some t) None e = absurd (never e)
  where
    never : false ≡ true → ⊥
    never e = cc
same_is (Some t) (Some u) e =
    let p = and_parts (t.0.0 == u.0.0) (t.1 == u.1) e in
    ap (λ n. told n t.1) (eqb-true t.0.0 u.0.0 p.0) ∙ ap (told u.0.0) (eqb-true t.1 u.1 p.1)
  where
    told : ℕ → ℕ → Option (SetId × ℕ)
    told n a = Some (record { 0 = n }, a)

-- a set is its own kin
pub kin_self : (a : SetInfo) → is_kin a a ≡ true
kin_self a = and_from (a.node.0 == a.node.0) (same_parent a.parent a.parent) (eq-eqb a.node.0 a.node.0 refl) (same_itself a.parent)

-- what kin have in common
pub kin_is : (a b : SetInfo) → is_kin a b ≡ true → (a.node.0 ≡ b.node.0) × (a.parent ≡ b.parent)
kin_is a b e =
    let p = and_parts (a.node.0 == b.node.0) (same_parent a.parent b.parent) e in
    (eqb-true a.node.0 b.node.0 p.0, same_is a.parent b.parent p.1)

-- what has that in common is kin
pub kin_from : (a b : SetInfo) → a.node.0 ≡ b.node.0 → a.parent ≡ b.parent → is_kin a b ≡ true
kin_from a b n p = and_from (a.node.0 == b.node.0) (same_parent a.parent b.parent) (eq-eqb a.node.0 b.node.0 n) (ap (λ o. same_parent o b.parent) p ∙ same_itself b.parent)

-- kin are kin of the same
kin_same : (a b c : SetInfo) → is_kin a b ≡ true → is_kin a c ≡ is_kin b c
kin_same a b c e = let k = kin_is a b e in ap (λ n. (n == c.node.0) && same_parent a.parent c.parent) k.0 ∙ ap (λ o. (b.node.0 == c.node.0) && same_parent o c.parent) k.1

-- kin in turn
kin_turn : (a b : SetInfo) → is_kin a b ≡ true → is_kin b a ≡ true
kin_turn a b e = let k = kin_is a b e in kin_from b a (sym k.0) (sym k.1)

-- ---- places

module _ (sets : List SetInfo) (grouped : AreGrouped sets) where
  -- what is read for lack of a set
  abbrev none : SetInfo
  none = record { id = record { 0 = 0 }; node = record { 0 = 0 }; parent = None; actions = 0; first_weight = 0 }

  -- behind its kin a set has the next place
  pub place_kin : (i : ℕ) → i + 1 < length sets → is_kin (set_read sets i) (set_read sets (i + 1)) ≡ true → place_at sets (i + 1) ≡ place_at sets i + 1
  place_kin i l e =
      let x = set_read sets i in
      let y = set_read sets (i + 1) in
      ap (count (is_kin y)) (take_more sets i none (omega (arith, l))) ∙ count_push (is_kin y) (take i sets) x
      ∙ ap (λ b. count (is_kin y) (take i sets) + cond b 1 0) (kin_turn x y e)
      ∙ ap (λ n. n + 1) (count_cong (is_kin y) (is_kin x) (take i sets) (λ z j. sym (kin_same x y z e)))

  -- behind another it has the first one
  pub place_other : (i : ℕ) → i + 1 < length sets → is_kin (set_read sets i) (set_read sets (i + 1)) ≡ false → place_at sets (i + 1) ≡ 0
  place_other i l e = count_none (is_kin y) (take (i + 1) sets) (λ z j. at z (place_of_in (λ a b. Less) (take (i + 1) sets) z none j))
    where
      y : SetInfo
      y = set_read sets (i + 1)

      never : false ≡ true → ⊥
      never e = cc

      at : (z : SetInfo) → (k : ℕ) × (k < length (take (i + 1) sets)) × (get_or (take (i + 1) sets) k none ≡ z) → is_kin (set_read sets (i + 1)) z ≡ false
      at z r =
          let below : r.0 < i + 1 = omega (arith, r.1, length-take-le (i + 1) sets (omega (arith, l))) in
          let read : set_read sets r.0 ≡ z = sym (get_or-take (i + 1) sets r.0 none below) ∙ r.2 in
          false_from_ne_true (is_kin (set_read sets (i + 1)) z) (λ t.
          let turned = kin_turn (set_read sets (i + 1)) (set_read sets r.0) (subst (λ w. is_kin (set_read sets (i + 1)) w ≡ true) (sym read) t) in
          let between = grouped r.0 i (i + 1) (omega (arith, below)) (omega arith) l turned in
          never (sym e ∙ sym (kin_same (set_read sets r.0) (set_read sets i) (set_read sets (i + 1)) between) ∙ turned))

  -- no place is above the set's number
  pub place_small : (i : ℕ) → i < length sets → place_at sets i ≤ i
  place_small i l = omega (arith, count_le_length (is_kin (set_read sets i)) (take i sets), length-take-le i sets (omega (arith, l)))

  -- kin are as many
  pub count_kin : (i : ℕ) → is_kin (set_read sets i) (set_read sets (i + 1)) ≡ true → kin_count sets i ≡ kin_count sets (i + 1)
  count_kin i e = count_cong (is_kin (set_read sets i)) (is_kin (set_read sets (i + 1))) sets (λ z j. kin_same (set_read sets i) (set_read sets (i + 1)) z e)

  -- those of the last of kin are one more than its place
  pub count_other : (i : ℕ) → i < length sets → (i + 1 < length sets → is_kin (set_read sets i) (set_read sets (i + 1)) ≡ false) → kin_count sets i ≡ place_at sets i + 1
  count_other i l e =
      let x = set_read sets i in
      ap (count (is_kin x)) (sym (take-append-drop i sets) ∙ ap (λ t. take i sets ++ t) (drop_more sets i none l)) ∙ count-append (is_kin x) (take i sets) (x ∷ drop (i + 1) sets)
      ∙ ap (λ n. place_at sets i + n) (count_at_true (is_kin x) x (drop (i + 1) sets) (kin_self x) ∙ ap suc rest)
    where
      never : false ≡ true → ⊥
      never e = cc

      at : (z : SetInfo) → (k : ℕ) × (k < length (drop (i + 1) sets)) × (get_or (drop (i + 1) sets) k none ≡ z) → is_kin (set_read sets i) z ≡ false
      at z r =
          let far : i + 1 + r.0 < length sets = omega (arith, r.1, length-drop (i + 1) sets) in
          let read : set_read sets (i + 1 + r.0) ≡ z = sym (get_or-drop (i + 1) sets r.0 none) ∙ r.2 in
          false_from_ne_true (is_kin (set_read sets i) z) (λ t.
          let there = subst (λ w. is_kin (set_read sets i) w ≡ true) (sym read) t in
          never (sym (e (omega (arith, far))) ∙ grouped i (i + 1) (i + 1 + r.0) (omega arith) (omega arith) far there))

      rest : count (is_kin (set_read sets i)) (drop (i + 1) sets) ≡ 0
      rest = count_none (is_kin (set_read sets i)) (drop (i + 1) sets) (λ z j. at z (place_of_in (λ a b. Less) (drop (i + 1) sets) z none j))

-- ---- items

-- a set as an item, by what is found of how it follows
pub item_told : (sets : List SetInfo) (starts bases : List ℕ) (i : ℕ) (t : SetId × ℕ) (from place total : ℕ) → (set_read sets i).parent ≡ Some t
    → from ≡ index_of sets starts bases t.0.0 → place ≡ place_at sets i → total ≡ kin_count sets i
    → ◌≡◌ {A = PathItem} (record { set = (set_read sets i).id; follows = Some (record { from = from; action = t.1; place = place; count = total }) }) (item_of sets starts bases i)
item_told sets starts bases i t from place total e f p n =
    ap (λ m. told (Some (record { from = m; action = t.1; place = place; count = total }))) f
    ∙ ap (λ m. told (Some (record { from = index_of sets starts bases t.0.0; action = t.1; place = m; count = total }))) p
    ∙ ap (λ m. told (Some (record { from = index_of sets starts bases t.0.0; action = t.1; place = place_at sets i; count = m }))) n
    ∙ sym (ap (λ o. told (follow_of sets starts bases i o)) e)
  where
    told : Option Follow → PathItem
    told o = record { set = (set_read sets i).id; follows = o }
