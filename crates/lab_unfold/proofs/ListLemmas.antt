-- The first entry with a key is the first with its list.
use Rattle.std.proofs.Common.{◌≡◌, ℕ, zero, suc, ◌<◌, ◌≤◌, List, [], ◌∷◌, ◌++◌, length, get_or, Option, Some, None, refl, sym, ap, ◌∙◌, subst, arith, inl, inr, ◌⊎◌}
use Rattle.std.proofs.lemmas.Bool.{cases_lt}
use Rattle.std.proofs.lemmas.List.{get_or_append_left, length_push}
use Rattle.lab_defs_game.proofs.TreeLaws.{push_parts}
use Rattle.lab_unfold.specs.declared.item.Item.{Item}
use Rattle.lab_unfold.specs.declared.link.Link.{Link}
use Rattle.lab_unfold.specs.Links.{IsBefore, AreBefore, IsMade, IsGrown, IsFirstList, AreFirstLists, key_of, key_at, IsFirstKey, IsTold, Keyed}

-- parents stand before
pub grown_before : (all : List (List Item)) (links : List (Option Link)) → IsGrown all links → AreBefore links
grown_before all links g i l = at (get_or links i None) (g.made i l)
  where
    at : (o : Option Link) → IsMade all i o → IsBefore i o
    at None m = tt
    at (Some x) m = m.0

-- with one more link
pub made_more : (all : List (List Item)) (links : List (Option Link)) (n : ℕ) (o : Option Link) → length links ≡ n → ((i : ℕ) → i < length links → IsMade all i (get_or links i None)) → IsMade all n o
    → (i : ℕ) → i < length (links ++ o ∷ []) → IsMade all i (get_or (links ++ o ∷ []) i None)
made_more all links n o e made new i l = at (cases_lt i (length links))
  where
    last : (ls : List (Option Link)) → get_or (ls ++ o ∷ []) (length ls) None ≡ o
    last [] = refl
    last (x ∷ ls) = last ls

    at : (i < length links) ⊎ (length links ≤ i) → IsMade all i (get_or (links ++ o ∷ []) i None)
    at (inl h) = subst (IsMade all i) (sym (get_or_append_left links (o ∷ []) None i h)) (made i h)
    at (inr h) =
        let n_is : n ≡ i = omega (arith, e, h, l, length_push links o) in
        let i_is : length links ≡ i = e ∙ n_is in
        subst (λ j. IsMade all i (get_or (links ++ o ∷ []) j None)) i_is (subst (IsMade all i) (sym (last links)) (subst (λ j. IsMade all j o) n_is new))

-- a list with an item behind is not empty
some_item : (xs : List Item) (x : Item) → xs ++ x ∷ [] ≡ [] → ⊥
some_item [] x e = cc
some_item (y ∷ xs) x e = cc

-- nothing is no link
never : (q : Link) → ◌≡◌ {A = Option Link} None (Some q) → ⊥
never q e = cc

-- the parts of a link
parts : (p q : Link) → ◌≡◌ {A = Option Link} (Some p) (Some q) → (p.parent ≡ q.parent) × (p.item ≡ q.item)
parts p q e = (cc, cc)

module _ (all : List (List Item)) (links : List (Option Link)) (firsts : List ℕ) (kept : Link → Option ℕ) (grown : IsGrown all links) (keyed : Keyed links firsts kept) (long : length firsts ≡ length links) where
  -- the list of an entry
  abbrev list : ℕ → List Item
  list i = get_or all i []

  -- what is told of an entry
  abbrev first : ℕ → ℕ
  first i = get_or firsts i 0

  -- entries with one list have one first
  one_first : (a b : ℕ) → IsFirstList all a (first a) → IsFirstList all b (first b) → list a ≡ list b → first a ≡ first b
  one_first a b p q e = at (cases_lt (first a) (first b)) (cases_lt (first b) (first a))
    where
      at : (first a < first b) ⊎ (first b ≤ first a) → (first b < first a) ⊎ (first a ≤ first b) → first a ≡ first b
      at (inl l) h = absurd (q.before (first a) l (p.same ∙ e))
      at (inr l) (inl h) = absurd (p.before (first b) h (q.same ∙ sym e))
      at (inr l) (inr h) = omega (arith, l, h)

  -- the first entry has the empty list
  root_list : 0 < length links → list 0 ≡ []
  root_list l = at (get_or links 0 None) (grown.made 0 l)
    where
      at : (o : Option Link) → IsMade all 0 o → list 0 ≡ []
      at None m = m
      at (Some x) m = absurd (omega (arith, m.0))

  -- an entry, where all before it have their first ones
  first_step : (i : ℕ) → i < length links → ((j : ℕ) → j < i → IsFirstList all j (first j)) → IsFirstList all i (first i)
  first_step i h rec = at (get_or links i None) refl (grown.made i h) (keyed.told i (omega (arith, h, long)))
    where
      linked : (l : Link) → get_or links i None ≡ Some l → (l.parent < i) × (list i ≡ list l.parent ++ l.item ∷ []) → (first i ≤ i) × IsFirstKey (key_at links firsts) (record { parent = first l.parent; item = l.item }) (first i)
          → IsFirstList all i (first i)
      linked l e m t = record {
        within = t.0;
        same = same (get_or links (first i) None) refl (grown.made (first i) (omega (arith, h, t.0)));
        before = λ k lk s. before k lk s (get_or links k None) refl (grown.made k (omega (arith, h, t.0, lk)));
      }
        where
          q : Link
          q = record { parent = first l.parent; item = l.item }

          same : (o : Option Link) → get_or links (first i) None ≡ o → IsMade all (first i) o → list (first i) ≡ list i
          same None eo mo = absurd (never (record { parent = first l.parent; item = l.item }) (sym (ap (key_of firsts) eo) ∙ t.1.at))
          same (Some x) eo mo =
              let p = parts (record { parent = first x.parent; item = x.item }) (record { parent = first l.parent; item = l.item }) (sym (ap (key_of firsts) eo) ∙ t.1.at) in
              let a = rec x.parent (omega (arith, mo.0, t.0)) in
              let b = rec l.parent m.0 in
              mo.1 ∙ ap (λ xs. xs ++ x.item ∷ []) (sym a.same ∙ ap list p.0 ∙ b.same) ∙ ap (λ y. list l.parent ++ y ∷ []) p.1 ∙ sym m.1

          before : (k : ℕ) → k < first i → list k ≡ list i → (o : Option Link) → get_or links k None ≡ o → IsMade all k o → ⊥
          before k lk s None eo mo = some_item (list l.parent) l.item (sym m.1 ∙ sym s ∙ mo)
          before k lk s (Some x) eo mo =
              let p = push_parts (list x.parent) (list l.parent) x.item l.item (sym mo.1 ∙ s ∙ m.1) in
              let f = one_first x.parent l.parent (rec x.parent (omega (arith, mo.0, lk, t.0))) (rec l.parent m.0) p.0 in
              t.1.before k lk (ap (key_of firsts) eo ∙ ap (λ n. Some (record { parent = n; item = x.item })) f ∙ ap (λ y. Some (record { parent = first l.parent; item = y })) p.1)

      at : (o : Option Link) → get_or links i None ≡ o → IsMade all i o → IsTold (key_at links firsts) i (key_of firsts o) (first i) → IsFirstList all i (first i)
      at None e m t = record {
        within = omega (arith, t);
        same = ap list t ∙ root_list (omega (arith, h)) ∙ sym m;
        before = λ k lk s. absurd (omega (arith, lk, t));
      }
      at (Some l) e m t = linked l e m t

  -- each entry up to a number
  firsts_to : (n i : ℕ) → i < n → i < length links → IsFirstList all i (first i)
  firsts_to zero i l h = absurd (omega (arith, l))
  firsts_to (suc n) i l h = first_step i h (λ j lj. firsts_to n j (omega (arith, l, lj)) (omega (arith, h, lj)))

  -- all entries
  pub first_lists : AreFirstLists all firsts
  first_lists = record { count = long ∙ grown.count; first = λ i l. let h : i < length links = omega (arith, l, grown.count) in firsts_to (length links) i h h }
