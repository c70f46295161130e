-- Histories that are seen alike, told by their keys: the first of each in the order of keys.
use Rattle.std.proofs.Common.{◌≡◌, ℕ, zero, suc, ◌+◌, ◌<◌, List, [], ◌∷◌, ◌++◌, Bool, true, false, cond, ◌&&◌, length, get_or, map, filter, refl, sym, ap, ◌∙◌, subst, arith, inl, inr, ◌⊎◌}
use Rattle.std.specs.Prelude.{◌==◌}
use Rattle.std.specs.List.{All, range_with_len}
use Rattle.std.specs.Ordering.{is_eq, nat_cmp}
use Rattle.std.specs.declared.cmp.Ordering.{Ordering}
use Rattle.std.specs.declared.cmp.Ordering.TheVariants.{Less, Equal}
use Rattle.std.specs.Cmp.{IsTotalOrder}
use Rattle.std.proofs.lemmas.Bool.{and_parts, and_from, eqb-true, eq-eqb}
use Rattle.std.proofs.lemmas.Cmp.{then_total, on_total, nat_cmp_total, tied_itself}
use Rattle.std.proofs.lemmas.List.{get_or-map, length-map}
use Rattle.std.proofs.lemmas.List.FromFn.{filter_of_map_range_with_len_more}
use Rattle.std.proofs.lemmas.Map.Lookups.{CmpEqualImpliesEq, exact_unsigned}
use Rattle.lab_math.proofs.Members.{In, all_in, all_from_in, in_get_or, in_filter, in_from_filter, in_map, in_from_map, in_range, in_from_range}
use Rattle.lab_defs_game.specs.Keys.{in_order, number_of}
use Rattle.lab_defs_game.specs.Histories.{History}
use Rattle.lab_defs_game.specs.Laws.{history_cmp}
use Rattle.lab_defs_game.specs.Recall.{place_of_first}
use Rattle.lab_defs_game.proofs.KeyLemmas.{Ascending, in_order_ascending, in_order_has, in_order_from, ascending_same}
use Rattle.lab_defs_game.proofs.NumberLemmas.{no_less, number_at, place_of_in}
use Rattle.lab_defs_game.proofs.Orders.{then_less, then_equal}
use Rattle.lab_defs_game.proofs.Spans.{eq_is}
use Rattle.lab_tree.specs.Keyed.{is_first, keyed}
use Rattle.lab_tree.specs.NodeValues.{keys_in, pair_cmp}
use Rattle.lab_tree.specs.Ranks.{AreApart, AreRanks}

-- where one passes, the first that passes does, and is there
pub found_first : (p : History → Bool) (hs : List History) (i : ℕ) → i < length hs → p (get_or hs i []) ≡ true
    → (place_of_first p hs < length hs) × (p (get_or hs (place_of_first p hs) []) ≡ true)
found_first p [] i l e = absurd (omega arith)
found_first p (h ∷ hs) i l e = at (p h) refl (later i l e (λ j lj t. found_first p hs j lj t))
  where
    never : false ≡ true → ⊥
    never e = cc

    later : (i : ℕ) → i < suc (length hs) → p (get_or (h ∷ hs) i []) ≡ true → ((j : ℕ) → j < length hs → p (get_or hs j []) ≡ true → (place_of_first p hs < length hs) × (p (get_or hs (place_of_first p hs) []) ≡ true))
        → p h ≡ false → (place_of_first p hs < length hs) × (p (get_or hs (place_of_first p hs) []) ≡ true)
    later zero l e rest f = absurd (never (sym f ∙ e))
    later (suc i) l e rest f = rest i (omega arith) e

    Found : ℕ → Type 0
    Found n = (n < suc (length hs)) × (p (get_or (h ∷ hs) n []) ≡ true)

    at : (b : Bool) → p h ≡ b → (p h ≡ false → (place_of_first p hs < length hs) × (p (get_or hs (place_of_first p hs) []) ≡ true)) → Found (cond (p h) 0 (place_of_first p hs + 1))
    at true e rest = subst (λ b. Found (cond b 0 (place_of_first p hs + 1))) (sym e) ((omega arith, e))
    at false e rest =
        let r = rest e in
        let n : suc (place_of_first p hs) ≡ place_of_first p hs + 1 = omega arith in
        subst (λ b. Found (cond b 0 (place_of_first p hs + 1))) (sym e) (subst Found n ((omega (arith, r.0), r.1)))

-- one history more with its key, if it is a first one
pub keyed_more : {K : Type 0} (test : History → Bool) (key : History → K) (hs : List History) (firsts : List ℕ) (n : ℕ) (b : Bool) → is_first test hs firsts n ≡ b
    → keyed test key hs firsts (n + 1) ≡ keyed test key hs firsts n ++ cond b ((key (get_or hs n []), n) ∷ []) []
keyed_more test key hs firsts n b e =
    filter_of_map_range_with_len_more (λ p. is_first test hs firsts p.1) (λ i. (key (get_or hs i []), i)) 0 n n (omega arith)
    ∙ ap (λ b. keyed test key hs firsts n ++ cond b ((key (get_or hs n []), n) ∷ []) []) e

module _ {K : Type 0} (R : K → K → Ordering) (o : IsTotalOrder R) (exact : CmpEqualImpliesEq R) (test : History → Bool) (key : History → K) (hs : List History) (firsts : List ℕ) where
  -- the numbers of the first histories of those that pass the test and have one key
  pub record AreFirstByKey : Type 0 where
    pub count : length firsts ≡ length hs
    pub placed : (i : ℕ) → i < length hs → test (get_or hs i []) ≡ true → get_or firsts i 0 ≡ place_of_first (λ k. test k && is_eq (R (key k) (key (get_or hs i [])))) hs

  pair_total : IsTotalOrder (pair_cmp R)
  pair_total = then_total (on_total (λ (p : K × ℕ). p.0) o) (on_total (λ (p : K × ℕ). p.1) nat_cmp_total)

  pair_exact : CmpEqualImpliesEq (pair_cmp R)
  pair_exact x y e =
      let both = then_equal (R x.0 y.0) (nat_cmp x.1 y.1) e in
      same x y (exact x.0 y.0 both.0) (exact_unsigned x.1 y.1 both.1)
    where
      same : (x y : K × ℕ) → x.0 ≡ y.0 → x.1 ≡ y.1 → x ≡ y
      same x y p q = λ i. (p i, q i)

  module _ (f : AreFirstByKey) where
    -- the first one is there, passes the test, and has the key
    pub first_is : (i : ℕ) → i < length hs → test (get_or hs i []) ≡ true
        → (get_or firsts i 0 < length hs) × (test (get_or hs (get_or firsts i 0) []) ≡ true) × (key (get_or hs (get_or firsts i 0) []) ≡ key (get_or hs i []))
    first_is i l t =
        let p : History → Bool = λ k. test k && is_eq (R (key k) (key (get_or hs i []))) in
        let r = found_first p hs i l (and_from (test (get_or hs i [])) (is_eq (R (key (get_or hs i [])) (key (get_or hs i [])))) t (ap is_eq (tied_itself o (key (get_or hs i []))))) in
        subst (λ n. (n < length hs) × (test (get_or hs n []) ≡ true) × (key (get_or hs n []) ≡ key (get_or hs i []))) (sym (f.placed i l t))
        (let both = and_parts (test (get_or hs (place_of_first p hs) [])) (is_eq (R (key (get_or hs (place_of_first p hs) [])) (key (get_or hs i [])))) r.1 in
        (r.0, both.0, exact (key (get_or hs (place_of_first p hs) [])) (key (get_or hs i [])) (eq_is (R (key (get_or hs (place_of_first p hs) [])) (key (get_or hs i []))) both.1)))

    -- histories with one key have one first
    pub same_first : (i j : ℕ) → i < length hs → j < length hs → test (get_or hs i []) ≡ true → test (get_or hs j []) ≡ true → key (get_or hs i []) ≡ key (get_or hs j []) → get_or firsts i 0 ≡ get_or firsts j 0
    same_first i j li lj ti tj e = f.placed i li ti ∙ ap (λ x. place_of_first (λ k. test k && is_eq (R (key k) x)) hs) e ∙ sym (f.placed j lj tj)

    -- what stands among the keyed ones
    pub record Stands (p : K × ℕ) : Type 0 where
      pub below : p.1 < length hs
      pub passes : test (get_or hs p.1 []) ≡ true
      pub own : key (get_or hs p.1 []) ≡ p.0
      pub first : get_or firsts p.1 0 ≡ p.1

    keyed_stands : (p : K × ℕ) → In p (keyed test key hs firsts (length hs)) → Stands p
    keyed_stands p i =
        let kept = in_from_filter (λ (p : K × ℕ). is_first test hs firsts p.1) (map (λ i. (key (get_or hs i []), i)) (range_with_len 0 (length hs))) p i in
        let from = in_from_map (λ i. (key (get_or hs i []), i)) (range_with_len 0 (length hs)) p kept.0 in
        let range = in_from_range from.0 0 (length hs) from.1 in
        let both = and_parts (test (get_or hs p.1 [])) (get_or firsts p.1 0 == p.1) kept.1 in
        let n : from.0 ≡ p.1 = ap (λ (q : K × ℕ). q.1) from.2 in
        record {
          below = omega (arith, range.1, n);
          passes = both.0;
          own = ap (λ m. key (get_or hs m [])) (sym n) ∙ ap (λ (q : K × ℕ). q.0) from.2;
          first = eqb-true (get_or firsts p.1 0) p.1 both.1;
        }

    keyed_has : (i : ℕ) → i < length hs → test (get_or hs i []) ≡ true → In (key (get_or hs i []), get_or firsts i 0) (keyed test key hs firsts (length hs))
    keyed_has i l t =
        let r = first_is i l t in
        let n = get_or firsts i 0 in
        let again : get_or firsts n 0 ≡ n = same_first n i r.0 l r.1 t r.2 in
        subst (λ k. In (k, n) (keyed test key hs firsts (length hs))) r.2
        (in_filter (λ (p : K × ℕ). is_first test hs firsts p.1) (map (λ i. (key (get_or hs i []), i)) (range_with_len 0 (length hs))) (key (get_or hs n []), n)
        (in_map (λ i. (key (get_or hs i []), i)) (range_with_len 0 (length hs)) n (in_range n 0 (length hs) (omega arith) (omega (arith, r.0))))
        (and_from (test (get_or hs n [])) (get_or firsts n 0 == n) r.1 (eq-eqb (get_or firsts n 0) n again)))

    module _ (order : List (K × ℕ)) (ordered : order ≡ in_order (pair_cmp R) (keyed test key hs firsts (length hs))) where
      pub stands : (p : K × ℕ) → In p order → Stands p
      stands p i = keyed_stands p (in_order_from (pair_cmp R) (keyed test key hs firsts (length hs)) p (subst (In p) ordered i))

      pub has : (i : ℕ) → i < length hs → test (get_or hs i []) ≡ true → In (key (get_or hs i []), get_or firsts i 0) order
      has i l t = subst (In (key (get_or hs i []), get_or firsts i 0)) (sym ordered) (in_order_has (pair_cmp R) pair_exact (keyed test key hs firsts (length hs)) (key (get_or hs i []), get_or firsts i 0) (keyed_has i l t))

      -- of two that stand there in order the keys do
      rising : (p q : K × ℕ) → Stands p → Stands q → pair_cmp R p q ≡ Less → R p.0 q.0 ≡ Less
      rising p q sp sq l = at (then_less (R p.0 q.0) (nat_cmp p.1 q.1) l)
        where
          at : (R p.0 q.0 ≡ Less) ⊎ ((R p.0 q.0 ≡ Equal) × (nat_cmp p.1 q.1 ≡ Less)) → R p.0 q.0 ≡ Less
          at (inl e) = e
          at (inr both) =
              let one = same_first p.1 q.1 sp.below sq.below sp.passes sq.passes (sp.own ∙ exact p.0 q.0 both.0 ∙ sym sq.own) in
              let n : p.1 ≡ q.1 = sym sp.first ∙ one ∙ sq.first in
              absurd (no_less both.1 (ap (λ m. nat_cmp m q.1) n ∙ tied_itself nat_cmp_total q.1))

      keys_rise : (ps : List (K × ℕ)) → ((p : K × ℕ) → In p ps → Stands p) → Ascending (pair_cmp R) ps → Ascending R (map (λ (p : K × ℕ). p.0) ps)
      keys_rise [] s a = tt
      keys_rise (p ∷ ps) s a = (
        all_from_in (λ y. R p.0 y ≡ Less) (map (λ (p : K × ℕ). p.0) ps) (λ y i.
            let r = in_from_map (λ (p : K × ℕ). p.0) ps y i in
            subst (λ z. R p.0 z ≡ Less) r.2 (rising p r.0 (s p (inl refl)) (s r.0 (inr r.1)) (all_in (λ q. pair_cmp R p q ≡ Less) ps r.0 a.0 r.1))),
        keys_rise ps (λ q i. s q (inr i)) a.1,
      )

      pub keys_ascend : Ascending R (keys_in order)
      keys_ascend = keys_rise order stands (subst (Ascending (pair_cmp R)) (sym ordered) (in_order_ascending (pair_cmp R) pair_total (keyed test key hs firsts (length hs))))

      -- the keys are those of all histories that pass the test
      pub keys_are : keys_in order ≡ in_order R (map key (filter test hs))
      keys_are = ascending_same R o (keys_in order) (in_order R (map key (filter test hs))) keys_ascend (in_order_ascending R o (map key (filter test hs))) to from
        where
          to : (y : K) → In y (keys_in order) → In y (in_order R (map key (filter test hs)))
          to y i =
              let r = in_from_map (λ (p : K × ℕ). p.0) order y i in
              let s = stands r.0 r.1 in
              let h = get_or hs r.0.1 [] in
              subst (λ z. In z (in_order R (map key (filter test hs)))) (s.own ∙ r.2)
              (in_order_has R exact (map key (filter test hs)) (key h) (in_map key (filter test hs) h (in_filter test hs h (in_get_or hs r.0.1 [] s.below) s.passes)))

          from : (y : K) → In y (in_order R (map key (filter test hs))) → In y (keys_in order)
          from y i =
              let r = in_from_map key (filter test hs) y (in_order_from R (map key (filter test hs)) y i) in
              let k = in_from_filter test hs r.0 r.1 in
              let at = place_of_in history_cmp hs r.0 [] k.0 in
              let there = has at.0 at.1 (ap test at.2 ∙ k.1) in
              subst (λ z. In z (keys_in order)) (ap key at.2 ∙ r.2) (in_map (λ (p : K × ℕ). p.0) order (key (get_or hs at.0 []), get_or firsts at.0 0) there)

      -- the number of the key at a place
      pub place_is : (j : ℕ) (d : K × ℕ) → j < length order → number_of R (keys_in order) (get_or order j d).0 ≡ j
      place_is j d l =
          ap (number_of R (keys_in order)) (sym (get_or-map (λ (p : K × ℕ). p.0) order j d d.0 l))
          ∙ number_at R o (keys_in order) j d.0 keys_ascend (omega (arith, l, length-map order (λ (p : K × ℕ). p.0)))

      pub apart : AreApart order
      apart i j d li lj e =
          let si = stands (get_or order i d) (in_get_or order i d li) in
          let sj = stands (get_or order j d) (in_get_or order j d lj) in
          sym (place_is i d li) ∙ ap (number_of R (keys_in order)) (sym si.own ∙ ap (λ n. key (get_or hs n [])) e ∙ sj.own) ∙ place_is j d lj

      pub within : All (λ (p : K × ℕ). p.1 < length hs) order
      within i d l = (stands (get_or order i d) (in_get_or order i d l)).below

      -- the rank of a first one is the number of the key
      pub rank_is : (ranks : List ℕ) → AreRanks order ranks (length order) → (i : ℕ) → i < length hs → test (get_or hs i []) ≡ true
          → get_or ranks (get_or firsts i 0) 0 ≡ number_of R (in_order R (map key (filter test hs))) (key (get_or hs i []))
      rank_is ranks are i l t =
          let p : K × ℕ = (key (get_or hs i []), get_or firsts i 0) in
          let found = in_place order p (has i l t) in
          ap (λ (q : K × ℕ). get_or ranks q.1 0) (sym found.2) ∙ are found.0 p found.1
          ∙ sym (place_is found.0 p found.1) ∙ ap (λ (q : K × ℕ). number_of R (keys_in order) q.0) found.2 ∙ ap (λ ks. number_of R ks p.0) keys_are
        where
          in_place : (ps : List (K × ℕ)) (p : K × ℕ) → In p ps → (j : ℕ) × (j < length ps) × (get_or ps j p ≡ p)
          in_place ps p i = place_of_in (pair_cmp R) ps p p i
