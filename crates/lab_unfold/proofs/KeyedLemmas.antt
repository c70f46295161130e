-- What is told and kept of entries as one more is added.
use Rattle.std.proofs.Common.{◌≡◌, ℕ, ◌<◌, ◌≤◌, List, [], ◌∷◌, ◌++◌, length, get_or, cond, Bool, true, false, Option, Some, None, refl, sym, ap, ◌∙◌, subst, arith, inl, inr, ◌⊎◌}
use Rattle.std.specs.Prelude.{unwrap_or, IfOk, Result, Ok, Err}
use Rattle.std.specs.Ordering.{is_eq, nat_cmp, ordering_then}
use Rattle.std.specs.Cmp.{IsTotalOrder}
use Rattle.std.proofs.lemmas.Bool.{cases_lt}
use Rattle.std.proofs.lemmas.Cmp.{then_total, on_total, nat_cmp_total, tied_itself}
use Rattle.std.proofs.lemmas.List.{get_or_append_left, length_push}
use Rattle.std.proofs.lemmas.Map.Lookups.{CmpEqualImpliesEq, exact_unsigned}
use Rattle.lab_defs_game.proofs.NumberLemmas.{is_true_or}
use Rattle.lab_defs_game.proofs.Orders.{then_equal}
use Rattle.lab_defs_game.proofs.Spans.{eq_is}
use Rattle.lab_unfold.specs.declared.item.Item.{Item}
use Rattle.lab_unfold.specs.declared.link.Link.{Link}
use Rattle.lab_unfold.specs.Links.{part_cmp, link_cmp, IsBefore, AreBefore, key_of, key_at, IsFirstKey, IsTold, Keyed}

-- ---- the order of links

-- it is total
link_total : IsTotalOrder link_cmp
link_total =
    then_total (on_total (λ (l : Link). l.parent) nat_cmp_total)
    (on_total (λ (l : Link). l.item)
    (then_total (on_total (λ (x : Item). x.action) nat_cmp_total) (then_total (on_total (λ (x : Item). x.own) nat_cmp_total) (on_total (λ (x : Item). x.public) nat_cmp_total))))

-- links that compare equal are one
link_exact : CmpEqualImpliesEq link_cmp
link_exact x y e =
    let one = then_equal (nat_cmp x.parent y.parent) (part_cmp x.item y.item) e in
    let two = then_equal (nat_cmp x.item.action y.item.action) (ordering_then (nat_cmp x.item.own y.item.own) (nat_cmp x.item.public y.item.public)) one.1 in
    let three = then_equal (nat_cmp x.item.own y.item.own) (nat_cmp x.item.public y.item.public) two.1 in
    same x y (exact_unsigned x.parent y.parent one.0) (exact_unsigned x.item.action y.item.action two.0) (exact_unsigned x.item.own y.item.own three.0) (exact_unsigned x.item.public y.item.public three.1)
  where
    same : (x y : Link) → x.parent ≡ y.parent → x.item.action ≡ y.item.action → x.item.own ≡ y.item.own → x.item.public ≡ y.item.public → x ≡ y
    same x y p q r s = λ i. record { parent = p i; item = record { action = q i; own = r i; public = s i } }

-- a link is found to be itself
link_itself : (q : Link) → is_eq (link_cmp q q) ≡ true
link_itself q = ap is_eq (tied_itself link_total q)

-- ---- one more entry

-- nothing is no link
never : (q : Link) → ◌≡◌ {A = Option Link} None (Some q) → ⊥
never q e = cc

-- nothing is no number
no_number : (n : ℕ) → ◌≡◌ {A = Option ℕ} (Some n) None → ⊥
no_number n e = cc

-- one link
inside : (p q : Link) → ◌≡◌ {A = Option Link} (Some p) (Some q) → p ≡ q
inside p q e = cc

-- one number
number_inside : (m n : ℕ) → ◌≡◌ {A = Option ℕ} (Some m) (Some n) → m ≡ n
number_inside m n e = cc

-- what is told first stays
told_before : (firsts : List ℕ) (f i : ℕ) → i < length firsts → get_or (firsts ++ f ∷ []) i 0 ≡ get_or firsts i 0
told_before firsts f i l = get_or_append_left firsts (f ∷ []) 0 i l

-- and then what is added
told_last : (firsts : List ℕ) (f : ℕ) → get_or (firsts ++ f ∷ []) (length firsts) 0 ≡ f
told_last [] f = refl
told_last (x ∷ firsts) f = told_last firsts f

-- the entry before or at the last one
before_or_at : (firsts : List ℕ) (f i : ℕ) → i < length (firsts ++ f ∷ []) → (i < length firsts) ⊎ (i ≡ length firsts)
before_or_at firsts f i l = at (cases_lt i (length firsts))
  where
    at : (i < length firsts) ⊎ (length firsts ≤ i) → (i < length firsts) ⊎ (i ≡ length firsts)
    at (inl h) = inl h
    at (inr h) = inr (omega (arith, h, l, length_push firsts f))

module _ (links : List (Option Link)) (firsts : List ℕ) (f : ℕ) (before : AreBefore links) (below : length firsts < length links) where
  -- the keys so far
  abbrev keys : ℕ → Option Link
  keys = key_at links firsts

  -- the keys with one more entry told
  abbrev more : ℕ → Option Link
  more = key_at links (firsts ++ f ∷ [])

  -- up to the new entry they are the same
  same_keys : (k : ℕ) → k ≤ length firsts → more k ≡ keys k
  same_keys k l = at (get_or links k None) (before k (omega (arith, l, below)))
    where
      key : ℕ → Item → Option Link
      key n x = Some (record { parent = n; item = x })

      at : (o : Option Link) → IsBefore k o → key_of (firsts ++ f ∷ []) o ≡ key_of firsts o
      at None b = refl
      at (Some x) b = ap (λ n. Some (record { parent = n; item = x.item })) (told_before firsts f x.parent (omega (arith, b, l)))

  -- so are the first ones
  first_more : (q : Link) (n : ℕ) → n ≤ length firsts → IsFirstKey keys q n → IsFirstKey more q n
  first_more q n l p = record { at = same_keys n l ∙ p.at; before = λ k lk e. p.before k lk (sym (same_keys k (omega (arith, l, lk))) ∙ e) }

  -- and what is told of an entry
  told_more : (i n : ℕ) → i ≤ length firsts → IsTold keys i (keys i) n → IsTold more i (more i) n
  told_more i n l t = subst (λ o. IsTold more i o n) (sym (same_keys i l)) (at (keys i) t)
    where
      at : (o : Option Link) → IsTold keys i o n → IsTold more i o n
      at None e = e
      at (Some q) t = (t.0, first_more q n (omega (arith, l, t.0)) t.1)

  -- with what is told of the new entry all is told
  told_all : (kept : Link → Option ℕ) → Keyed links firsts kept → IsTold more (length firsts) (more (length firsts)) f
      → (i : ℕ) → i < length (firsts ++ f ∷ []) → IsTold more i (more i) (get_or (firsts ++ f ∷ []) i 0)
  told_all kept k new i l = at (before_or_at firsts f i l)
    where
      at : (i < length firsts) ⊎ (i ≡ length firsts) → IsTold more i (more i) (get_or (firsts ++ f ∷ []) i 0)
      at (inl h) = subst (IsTold more i (more i)) (sym (told_before firsts f i h)) (told_more i (get_or firsts i 0) (omega (arith, h)) (k.told i h))
      at (inr e) = subst (λ j. IsTold more j (more j) (get_or (firsts ++ f ∷ []) j 0)) (sym e) (subst (IsTold more (length firsts) (more (length firsts))) (sym (told_last firsts f)) new)

-- an entry with no link
pub keyed_none : (links : List (Option Link)) (firsts : List ℕ) (kept : Link → Option ℕ) → AreBefore links → length firsts < length links → get_or links (length firsts) None ≡ None
    → Keyed links firsts kept → Keyed links (firsts ++ 0 ∷ []) kept
keyed_none links firsts kept before below none k = record {
  told = told_all links firsts 0 before below kept k (subst (λ o. IsTold (key_at links (firsts ++ 0 ∷ [])) (length firsts) o 0) (sym new) refl);
  some = λ q n e. let r = k.some q n e in (omega (arith, r.0, length_push firsts 0), first_more links firsts 0 before below q n (omega (arith, r.0)) r.1);
  none = λ q e i l h. at q e i h (before_or_at firsts 0 i l);
}
  where
    new : key_at links (firsts ++ 0 ∷ []) (length firsts) ≡ None
    new = ap (key_of (firsts ++ 0 ∷ [])) none

    at : (q : Link) → kept q ≡ None → (i : ℕ) → key_at links (firsts ++ 0 ∷ []) i ≡ Some q → (i < length firsts) ⊎ (i ≡ length firsts) → ⊥
    at q e i h (inl l) = k.none q e i l (sym (same_keys links firsts 0 before below i (omega (arith, l))) ∙ h)
    at q e i h (inr n) = never q (sym new ∙ ap (key_at links (firsts ++ 0 ∷ [])) (sym n) ∙ h)

-- an entry with a link: the first with its key, which is kept
pub keyed_some : (links : List (Option Link)) (firsts : List ℕ) (kept after : Link → Option ℕ) (l q : Link) (f : ℕ) → AreBefore links → length firsts < length links
    → get_or links (length firsts) None ≡ Some l → q ≡ record { parent = get_or firsts l.parent 0; item = l.item } → f ≡ unwrap_or (kept q) (length firsts)
    → ((p : Link) → after p ≡ cond (is_eq (link_cmp q p)) (Some f) (kept p)) → Keyed links firsts kept → Keyed links (firsts ++ f ∷ []) after
keyed_some links firsts kept after l q f before below some qe fe put k = record {
  told = told_all links firsts f before below kept k (subst (λ o. IsTold (key_at links (firsts ++ f ∷ [])) (length firsts) o f) (sym new) first);
  some = λ p n e. some_at p n e (is_true_or (is_eq (link_cmp q p)));
  none = λ p e i h s. none_at p e i s (before_or_at firsts f i h) (is_true_or (is_eq (link_cmp q p)));
}
  where
    new : key_at links (firsts ++ f ∷ []) (length firsts) ≡ Some q
    new = same_keys links firsts f before below (length firsts) (omega arith) ∙ ap (key_of firsts) some ∙ ap (λ p. Some p) (sym qe)

    found : (o : Option ℕ) → kept q ≡ o → f ≡ unwrap_or o (length firsts) → (f ≤ length firsts) × IsFirstKey (key_at links (firsts ++ f ∷ [])) q f
    found None e u = (
      omega (arith, u),
      subst (IsFirstKey (key_at links (firsts ++ f ∷ [])) q) (sym u)
          (record { at = new; before = λ i h s. k.none q e i h (sym (same_keys links firsts f before below i (omega (arith, h))) ∙ s) }),
    )
    found (Some n) e u =
        let r = k.some q n e in
        (omega (arith, u, r.0), subst (IsFirstKey (key_at links (firsts ++ f ∷ [])) q) (sym u) (first_more links firsts f before below q n (omega (arith, r.0)) r.1))

    first : (f ≤ length firsts) × IsFirstKey (key_at links (firsts ++ f ∷ [])) q f
    first = found (kept q) refl fe

    some_at : (p : Link) (n : ℕ) → after p ≡ Some n → (is_eq (link_cmp q p) ≡ true) ⊎ (is_eq (link_cmp q p) ≡ false)
        → (n < length (firsts ++ f ∷ [])) × IsFirstKey (key_at links (firsts ++ f ∷ [])) p n
    some_at p n e (inl t) =
        let n_is = number_inside f n (sym (put p ∙ ap (λ b. cond b (Some f) (kept p)) t) ∙ e) in
        let p_is = link_exact q p (eq_is (link_cmp q p) t) in (
          omega (arith, first.0, n_is, length_push firsts f),
          subst (λ p. IsFirstKey (key_at links (firsts ++ f ∷ [])) p n) p_is (subst (IsFirstKey (key_at links (firsts ++ f ∷ [])) q) n_is first.1),
        )
    some_at p n e (inr t) =
        let r = k.some p n (sym (put p ∙ ap (λ b. cond b (Some f) (kept p)) t) ∙ e) in
        (omega (arith, r.0, length_push firsts f), first_more links firsts f before below p n (omega (arith, r.0)) r.1)

    none_at : (p : Link) → after p ≡ None → (i : ℕ) → key_at links (firsts ++ f ∷ []) i ≡ Some p → (i < length firsts) ⊎ (i ≡ length firsts)
        → (is_eq (link_cmp q p) ≡ true) ⊎ (is_eq (link_cmp q p) ≡ false) → ⊥
    none_at p e i s h (inl t) = no_number f (sym (put p ∙ ap (λ b. cond b (Some f) (kept p)) t) ∙ e)
    none_at p e i s (inl h) (inr t) =
        k.none p (sym (put p ∙ ap (λ b. cond b (Some f) (kept p)) t) ∙ e) i h (sym (same_keys links firsts f before below i (omega (arith, h))) ∙ s)
    none_at p e i s (inr n) (inr t) =
        let same = inside q p (sym new ∙ ap (key_at links (firsts ++ f ∷ [])) (sym n) ∙ s) in
        both (sym (ap (λ p. is_eq (link_cmp q p)) same) ∙ link_itself q) t
      where
        both : {b : Bool} → b ≡ true → b ≡ false → ⊥
        both t f = differ (sym t ∙ f)
          where
            differ : true ≡ false → ⊥
            differ e = cc

-- likewise where memory may be short
pub keyed_result : {E : Type 0} (links : List (Option Link)) (firsts : List ℕ) (kept after : Link → Option ℕ) (l q : Link) (r : Result ℕ E) → AreBefore links → length firsts < length links
    → get_or links (length firsts) None ≡ Some l → q ≡ record { parent = get_or firsts l.parent 0; item = l.item } → IfOk r (λ f. f ≡ unwrap_or (kept q) (length firsts))
    → IfOk r (λ f. (p : Link) → after p ≡ cond (is_eq (link_cmp q p)) (Some f) (kept p)) → Keyed links firsts kept → IfOk r (λ f. Keyed links (firsts ++ f ∷ []) after)
keyed_result links firsts kept after l q (Ok f) before below some qe fe put k = keyed_some links firsts kept after l q f before below some qe fe put k
keyed_result links firsts kept after l q (Err e) before below some qe fe put k = tt
