-- Each reason why a game has no perfect recall comes exactly where it is said to, with the first two histories.
use Rattle.std.proofs.Common.{◌≡◌, ℕ, zero, suc, ◌+◌, ◌<◌, ◌≤◌, List, [], ◌∷◌, ◌++◌, take, length, get_or, Bool, true, false, cond, Option, Some, None, refl, sym, ap, ◌∙◌, subst, arith, inl, inr, ◌⊎◌, ◌↔◌, length-append, append_assoc}
use Rattle.std.specs.Prelude.{◌||◌, not}
use Rattle.std.specs.List.{list_any}
use Rattle.std.proofs.lemmas.Bool.{and_parts, or_cases, or_left, or_right, false_from_ne_true, cases_lt}
use Rattle.lab_defs_text.specs.Games.{GameModel, Recall, by_acts, by_seen}
use Rattle.lab_defs_game.specs.Histories.{History, histories, place_of, action_names}
use Rattle.lab_defs_game.specs.Recall.{RecallFault, legal_differs, forgotten, same_names, one_set, differ, confused, place_of_first, first_pair, legal_pair, confused_pair, fault_of, first_fault, recall_fault}
use Rattle.lab_defs_game.specs.Laws.{AlikeNames, Remembers, IsFirstPair, LegalDiffersLaw, ForgottenLaw}
use Rattle.lab_defs_game.proofs.NumberLemmas.{is_true_or}
use Rattle.lab_defs_game.proofs.RecallLemmas.{not_both, alike_from, alike_none, remembers_from, remembers_none}

-- ---- tests and places

-- where some item passes, one does at a place
any_place : (p : History → Bool) (hs : List History) → list_any p hs ≡ true → (k : ℕ) × (k < length hs) × (p (get_or hs k []) ≡ true)
any_place p [] e = absurd cc
any_place p (h ∷ hs) e = at (or_cases (p h) (list_any p hs) e) (λ f. any_place p hs f)
  where
    at : (p h ≡ true) ⊎ (list_any p hs ≡ true) → (list_any p hs ≡ true → (k : ℕ) × (k < length hs) × (p (get_or hs k []) ≡ true))
        → (k : ℕ) × (k < suc (length hs)) × (p (get_or (h ∷ hs) k []) ≡ true)
    at (inl t) rest = (0, omega arith, t)
    at (inr t) rest = let r = rest t in (suc r.0, omega (arith, r.1), r.2)

-- where one passes at a place, some does
pub place_any : (p : History → Bool) (hs : List History) (k : ℕ) → k < length hs → p (get_or hs k []) ≡ true → list_any p hs ≡ true
place_any p [] k l e = absurd (omega (arith, l))
place_any p (h ∷ hs) zero l e = or_left (p h) (list_any p hs) e
place_any p (h ∷ hs) (suc k) l e = or_right (p h) (list_any p hs) (place_any p hs k (omega (arith, l)) e)

-- where some item passes, the first that does is at its place, and none before it passes
pub first_place : (p : History → Bool) (hs : List History) → list_any p hs ≡ true
    → (place_of_first p hs < length hs) × (p (get_or hs (place_of_first p hs) []) ≡ true) × ((k : ℕ) → k < place_of_first p hs → p (get_or hs k []) ≡ false)
first_place p [] e = absurd cc
first_place p (h ∷ hs) e = at (is_true_or (p h)) (λ f. first_place p hs f)
  where
    at : (p h ≡ true) ⊎ (p h ≡ false)
        → (list_any p hs ≡ true → (place_of_first p hs < length hs) × (p (get_or hs (place_of_first p hs) []) ≡ true) × ((k : ℕ) → k < place_of_first p hs → p (get_or hs k []) ≡ false))
        → (place_of_first p (h ∷ hs) < suc (length hs)) × (p (get_or (h ∷ hs) (place_of_first p (h ∷ hs)) []) ≡ true) × ((k : ℕ) → k < place_of_first p (h ∷ hs) → p (get_or (h ∷ hs) k []) ≡ false)
    at (inl t) rest =
        subst (λ n. (n < suc (length hs)) × (p (get_or (h ∷ hs) n []) ≡ true) × ((k : ℕ) → k < n → p (get_or (h ∷ hs) k []) ≡ false))
        (sym (ap (λ b. cond b 0 (place_of_first p hs + 1)) t)) ((omega arith, t, λ k l. absurd (omega (arith, l))))
    at (inr f) rest =
        let r = rest (ap (λ b. b || list_any p hs) (sym f) ∙ e) in
        subst (λ n. (n < suc (length hs)) × (p (get_or (h ∷ hs) n []) ≡ true) × ((k : ℕ) → k < n → p (get_or (h ∷ hs) k []) ≡ false))
        (sym (ap (λ b. cond b 0 (place_of_first p hs + 1)) f ∙ next (place_of_first p hs))) ((omega (arith, r.0), r.1, λ k l. before k l r.2))
      where
        next : (n : ℕ) → n + 1 ≡ suc n
        next n = omega arith

        before : (k : ℕ) → k < suc (place_of_first p hs) → ((k : ℕ) → k < place_of_first p hs → p (get_or hs k []) ≡ false) → p (get_or (h ∷ hs) k []) ≡ false
        before zero l g = f
        before (suc k) l g = g k (omega (arith, l))

-- what stands before a place
take_reads : (hs : List History) (n k : ℕ) → k < n → get_or (take n hs) k [] ≡ get_or hs k []
take_reads [] zero k l = absurd (omega (arith, l))
take_reads [] (suc n) k l = refl
take_reads (h ∷ hs) zero k l = absurd (omega (arith, l))
take_reads (h ∷ hs) (suc n) zero l = refl
take_reads (h ∷ hs) (suc n) (suc k) l = take_reads hs n k (omega (arith, l))

-- how many stand before a place
take_length : (hs : List History) (n : ℕ) → n ≤ length hs → length (take n hs) ≡ n
take_length [] zero l = refl
take_length [] (suc n) l = absurd (omega (arith, l))
take_length (h ∷ hs) zero l = refl
take_length (h ∷ hs) (suc n) l = ap suc (take_length hs n (omega (arith, l)))

-- the item behind a list
get_behind : (earlier hs : List History) (h : History) → get_or (earlier ++ h ∷ hs) (length earlier) [] ≡ h
get_behind [] hs h = refl
get_behind (k ∷ earlier) hs h = get_behind earlier hs h

-- what stands before it
take_behind : (earlier hs : List History) → take (length earlier) (earlier ++ hs) ≡ earlier
take_behind [] hs = none hs
  where
    none : (hs : List History) → take 0 hs ≡ []
    none [] = refl
    none (h ∷ hs) = refl
take_behind (k ∷ earlier) hs = ap (λ t. k ∷ t) (take_behind earlier hs)

-- ---- pairs

module _ (akin clash : History → History → Bool) where
  -- whether an earlier one clashes with the one at a place
  abbrev clashes : List History → ℕ → Bool
  clashes hs n = list_any (λ k. clash k (get_or hs n [])) (take n hs)

  -- the place of the first that the one at a place is akin to
  abbrev first_akin : List History → ℕ → ℕ
  first_akin hs n = place_of_first (λ k. akin k (get_or hs n [])) (take n hs)

  -- what is found from a place on
  abbrev FoundFrom : ℕ → List History → ℕ → ℕ → Type 0
  FoundFrom from hs m n = (from ≤ n) × (n < length hs) × (clashes hs n ≡ true) × ((j : ℕ) → from ≤ j → j < n → clashes hs j ≡ false) × (m ≡ first_akin hs n)

  -- what is found is the first
  found_from : (hs earlier : List History) (m n : ℕ) → first_pair akin clash earlier hs ≡ Some (m, n) → FoundFrom (length earlier) (earlier ++ hs) m n
  found_from [] earlier m n e = absurd (never e)
    where
      never : ◌≡◌ {A = Option (ℕ × ℕ)} None (Some (m, n)) → ⊥
      never e = cc
  found_from (h ∷ hs) earlier m n e = at (is_true_or (list_any (λ k. clash k h) earlier)) (λ f. found_from hs (earlier ++ h ∷ []) m n f)
    where
      same : (x y : ℕ × ℕ) → ◌≡◌ {A = Option (ℕ × ℕ)} (Some x) (Some y) → x ≡ y
      same x y e = cc

      here : list_any (λ k. clash k h) earlier ≡ list_any (λ k. clash k (get_or (earlier ++ h ∷ hs) (length earlier) [])) (take (length earlier) (earlier ++ h ∷ hs))
      here = ap (λ x. list_any (λ k. clash k x) earlier) (sym (get_behind earlier hs h)) ∙ ap (list_any (λ k. clash k (get_or (earlier ++ h ∷ hs) (length earlier) []))) (sym (take_behind earlier (h ∷ hs)))

      akin_here : place_of_first (λ k. akin k h) earlier ≡ place_of_first (λ k. akin k (get_or (earlier ++ h ∷ hs) (length earlier) [])) (take (length earlier) (earlier ++ h ∷ hs))
      akin_here = ap (λ x. place_of_first (λ k. akin k x) earlier) (sym (get_behind earlier hs h)) ∙ ap (place_of_first (λ k. akin k (get_or (earlier ++ h ∷ hs) (length earlier) []))) (sym (take_behind earlier (h ∷ hs)))

      inside : length earlier < length (earlier ++ h ∷ hs)
      inside = let l = length-append earlier (h ∷ hs) in omega (arith, l)

      at : (list_any (λ k. clash k h) earlier ≡ true) ⊎ (list_any (λ k. clash k h) earlier ≡ false)
          → (first_pair akin clash (earlier ++ h ∷ []) hs ≡ Some (m, n) → FoundFrom (length (earlier ++ h ∷ [])) ((earlier ++ h ∷ []) ++ hs) m n) → FoundFrom (length earlier) (earlier ++ h ∷ hs) m n
      at (inl t) rest =
          let p = same (place_of_first (λ k. akin k h) earlier, length earlier) (m, n)
          (sym (ap (λ b. cond b (Some (place_of_first (λ k. akin k h) earlier, length earlier)) (first_pair akin clash (earlier ++ h ∷ []) hs)) t) ∙ e) in
          subst (λ (x : ℕ × ℕ). FoundFrom (length earlier) (earlier ++ h ∷ hs) x.0 x.1) p
          ((omega arith, inside, sym here ∙ t, λ j lo hi. absurd (omega (arith, lo, hi)), akin_here))
      at (inr f) rest =
          let r = rest (sym (ap (λ b. cond b (Some (place_of_first (λ k. akin k h) earlier, length earlier)) (first_pair akin clash (earlier ++ h ∷ []) hs)) f) ∙ e) in
          let l : length (earlier ++ h ∷ []) ≡ suc (length earlier) = length-append earlier (h ∷ []) ∙ more (length earlier) in
          wider (subst (λ from. FoundFrom from ((earlier ++ h ∷ []) ++ hs) m n) l r)
        where
          more : (n : ℕ) → n + 1 ≡ suc n
          more n = omega arith

          wider : FoundFrom (suc (length earlier)) ((earlier ++ h ∷ []) ++ hs) m n → FoundFrom (length earlier) (earlier ++ h ∷ hs) m n
          wider r =
              let q = subst (λ x. FoundFrom (suc (length earlier)) x m n) (append_assoc earlier (h ∷ []) hs) r in
              (omega (arith, q.0), q.1, q.2, λ j lo hi. before j lo hi q.3 (cases_lt (length earlier) j), q.4)
            where
              before : (j : ℕ) → length earlier ≤ j → j < n → ((j : ℕ) → suc (length earlier) ≤ j → j < n → clashes (earlier ++ h ∷ hs) j ≡ false) → (length earlier < j) ⊎ (j ≤ length earlier) → clashes (earlier ++ h ∷ hs) j ≡ false
              before j lo hi g (inl less) = g j (omega (arith, less)) hi
              before j lo hi g (inr le) = let ej : length earlier ≡ j = omega (arith, lo, le) in subst (λ x. clashes (earlier ++ h ∷ hs) x ≡ false) ej (sym here ∙ f)

  -- where nothing is found, nothing clashes
  none_from : (hs earlier : List History) → first_pair akin clash earlier hs ≡ None → (j : ℕ) → length earlier ≤ j → j < length (earlier ++ hs) → clashes (earlier ++ hs) j ≡ false
  none_from [] earlier e j lo hi = let l = length-append earlier [] in absurd (omega (arith, l, lo, hi))
  none_from (h ∷ hs) earlier e j lo hi = at (is_true_or (list_any (λ k. clash k h) earlier)) (λ f. none_from hs (earlier ++ h ∷ []) f j)
    where
      never : (x : ℕ × ℕ) → ◌≡◌ {A = Option (ℕ × ℕ)} (Some x) None → ⊥
      never x e = cc

      here : list_any (λ k. clash k h) earlier ≡ list_any (λ k. clash k (get_or (earlier ++ h ∷ hs) (length earlier) [])) (take (length earlier) (earlier ++ h ∷ hs))
      here = ap (λ x. list_any (λ k. clash k x) earlier) (sym (get_behind earlier hs h)) ∙ ap (list_any (λ k. clash k (get_or (earlier ++ h ∷ hs) (length earlier) []))) (sym (take_behind earlier (h ∷ hs)))

      at : (list_any (λ k. clash k h) earlier ≡ true) ⊎ (list_any (λ k. clash k h) earlier ≡ false)
          → (first_pair akin clash (earlier ++ h ∷ []) hs ≡ None → length (earlier ++ h ∷ []) ≤ j → j < length ((earlier ++ h ∷ []) ++ hs) → clashes ((earlier ++ h ∷ []) ++ hs) j ≡ false) → clashes (earlier ++ h ∷ hs) j ≡ false
      at (inl t) rest = absurd (never _ (sym (ap (λ b. cond b (Some (place_of_first (λ k. akin k h) earlier, length earlier)) (first_pair akin clash (earlier ++ h ∷ []) hs)) t) ∙ e))
      at (inr f) rest =
          later (cases_lt (length earlier) j)
          (λ lo hi. rest (sym (ap (λ b. cond b (Some (place_of_first (λ k. akin k h) earlier, length earlier)) (first_pair akin clash (earlier ++ h ∷ []) hs)) f) ∙ e) lo hi)
        where
          later : (length earlier < j) ⊎ (j ≤ length earlier) → (length (earlier ++ h ∷ []) ≤ j → j < length ((earlier ++ h ∷ []) ++ hs) → clashes ((earlier ++ h ∷ []) ++ hs) j ≡ false) → clashes (earlier ++ h ∷ hs) j ≡ false
          later (inl less) g =
              let l = length-append earlier (h ∷ []) in
              let a = append_assoc earlier (h ∷ []) hs in
              subst (λ x. clashes x j ≡ false) a (g (omega (arith, l, less)) (subst (λ x. j < length x) (sym a) hi))
          later (inr le) g = let ej : length earlier ≡ j = omega (arith, lo, le) in subst (λ x. clashes (earlier ++ h ∷ hs) x ≡ false) ej (sym here ∙ f)

  -- ---- pairs in the words of the laws

  -- one that clashes, by its place
  clash_at : (hs : List History) (n : ℕ) → n < length hs → clashes hs n ≡ true → (k : ℕ) × (k < n) × (clash (get_or hs k []) (get_or hs n []) ≡ true)
  clash_at hs n l e =
      let r = any_place (λ k. clash k (get_or hs n [])) (take n hs) e in
      let len = take_length hs n (omega (arith, l)) in
      let less : r.0 < n = omega (arith, len, r.1) in
      (r.0, less, ap (λ x. clash x (get_or hs n [])) (sym (take_reads hs n r.0 less)) ∙ r.2)

  -- and back
  clashes_from : (hs : List History) (n k : ℕ) → n < length hs → k < n → clash (get_or hs k []) (get_or hs n []) ≡ true → clashes hs n ≡ true
  clashes_from hs n k l less e =
      let len = take_length hs n (omega (arith, l)) in
      place_any (λ k. clash k (get_or hs n [])) (take n hs) k (omega (arith, len, less)) (ap (λ x. clash x (get_or hs n [])) (take_reads hs n k less) ∙ e)

  -- what is found is a first pair
  pair_from : ((k h : History) → clash k h ≡ true → akin k h ≡ true) → (hs : List History) (m n : ℕ) → FoundFrom 0 hs m n → IsFirstPair akin clash hs m n
  pair_from wider hs m n f =
      let c = clash_at hs n f.1 f.2 in
      let len = take_length hs n (omega (arith, f.1)) in
      let some = place_any (λ k. akin k (get_or hs n [])) (take n hs) c.0 (omega (arith, len, c.1))
      (ap (λ x. akin x (get_or hs n [])) (take_reads hs n c.0 c.1) ∙ wider (get_or hs c.0 []) (get_or hs n []) c.2) in
      let r = first_place (λ k. akin k (get_or hs n [])) (take n hs) some in
      let less : first_akin hs n < n = omega (arith, len, r.0) in
      let e = f.4 in (
        f.1,
        c,
        λ j lj k lk. false_from_ne_true (clash (get_or hs k []) (get_or hs j [])) (λ t. not_both (clashes_from hs j k (omega (arith, lj, f.1)) lk t) (f.3 j (omega arith) lj)),
        omega (arith, less, e),
        ap (λ x. akin (get_or hs x []) (get_or hs n [])) e ∙ ap (λ x. akin x (get_or hs n [])) (sym (take_reads hs n (first_akin hs n) less)) ∙ r.1,
        λ k lk. ap (λ x. akin x (get_or hs n [])) (sym (take_reads hs n k (omega (arith, lk, less, e)))) ∙ r.2 k (omega (arith, lk, e)),
      )

  -- a first pair is the only one
  pair_once : (hs : List History) (m n i j : ℕ) → IsFirstPair akin clash hs m n → IsFirstPair akin clash hs i j → (m ≡ i) × (n ≡ j)
  pair_once hs m n i j p q = both (cases_lt n j) (cases_lt j n)
    where
      firsts : n ≡ j → m ≡ i
      firsts e = at (cases_lt m i) (cases_lt i m)
        where
          at : (m < i) ⊎ (i ≤ m) → (i < m) ⊎ (m ≤ i) → m ≡ i
          at (inl l) c = absurd (not_both (subst (λ x. akin (get_or hs m []) (get_or hs x []) ≡ true) e p.4) (q.5 m l))
          at (inr l) (inl c) = absurd (not_both (subst (λ x. akin (get_or hs i []) (get_or hs x []) ≡ true) (sym e) q.4) (p.5 i c))
          at (inr l) (inr c) = omega (arith, l, c)

      both : (n < j) ⊎ (j ≤ n) → (j < n) ⊎ (n ≤ j) → (m ≡ i) × (n ≡ j)
      both (inl l) c = let r = p.1 in absurd (not_both r.2 (q.2 n l r.0 r.1))
      both (inr l) (inl c) = let r = q.1 in absurd (not_both r.2 (p.2 j c r.0 r.1))
      both (inr l) (inr c) = let e : n ≡ j = omega (arith, l, c) in (firsts e, e)

  -- what is found is exactly the first pair
  pub pair_is : ((k h : History) → clash k h ≡ true → akin k h ≡ true) → (hs : List History) (m n : ℕ) → (first_pair akin clash [] hs ≡ Some (m, n)) ↔ IsFirstPair akin clash hs m n
  pair_is wider hs m n = (λ e. pair_from wider hs m n (found_from hs [] m n e), λ p. pick (first_pair akin clash [] hs) refl p)
    where
      pick : (o : Option (ℕ × ℕ)) → first_pair akin clash [] hs ≡ o → IsFirstPair akin clash hs m n → o ≡ Some (m, n)
      pick None e p = let r = p.1 in absurd (not_both (clashes_from hs n r.0 p.0 r.1 r.2) (none_from hs [] e n (omega arith) p.0))
      pick (Some (i, j)) e p =
          let r = pair_once hs i j m n (pair_from wider hs i j (found_from hs [] i j e)) p in
          ap (λ x. Some (x, j)) r.0 ∙ ap (λ x. Some (m, x)) r.1

-- ---- faults

-- the answer by what is found for each seat, of names and of own actions
abbrev answer : Option (ℕ × ℕ) → Option (ℕ × ℕ) → Option (ℕ × ℕ) → Option (ℕ × ℕ) → Option RecallFault
answer a b c d = first_fault (fault_of (legal_differs 1) a ∷ fault_of (legal_differs 2) b ∷ fault_of (forgotten 1) c ∷ fault_of (forgotten 2) d ∷ [])

-- the parts of a fault of names
legal_parts : (s i j t m n : ℕ) → ◌≡◌ {A = Option RecallFault} (Some (legal_differs s i j)) (Some (legal_differs t m n)) → (t ≡ s) × ◌≡◌ {A = Option (ℕ × ℕ)} (Some (i, j)) (Some (m, n))
legal_parts s i j t m n e = (cc, ap (λ x. Some (x, j)) i_is ∙ ap (λ x. Some (m, x)) j_is)
  where
    i_is : i ≡ m
    i_is = cc

    j_is : j ≡ n
    j_is = cc

-- the parts of a fault of own actions
forgotten_parts : (s i j t m n : ℕ) → ◌≡◌ {A = Option RecallFault} (Some (forgotten s i j)) (Some (forgotten t m n)) → (t ≡ s) × ◌≡◌ {A = Option (ℕ × ℕ)} (Some (i, j)) (Some (m, n))
forgotten_parts s i j t m n e = (cc, ap (λ x. Some (x, j)) i_is ∙ ap (λ x. Some (m, x)) j_is)
  where
    i_is : i ≡ m
    i_is = cc

    j_is : j ≡ n
    j_is = cc

-- one kind of fault is not the other
other_kind : (s i j t m n : ℕ) → ◌≡◌ {A = Option RecallFault} (Some (legal_differs s i j)) (Some (forgotten t m n)) → ⊥
other_kind s i j t m n e = cc

-- no fault is none
no_kind : (f : RecallFault) → ◌≡◌ {A = Option RecallFault} None (Some f) → ⊥
no_kind f e = cc

-- a pair that is found
abbrev Found : Option (ℕ × ℕ) → ℕ → ℕ → Type 0
Found o m n = o ≡ Some (m, n)

-- a fault of names comes of a pair of seat 1, or else of seat 2
legal_answer : (a b c d : Option (ℕ × ℕ)) (s m n : ℕ) → answer a b c d ≡ Some (legal_differs s m n) → ((s ≡ 1) × Found a m n) ⊎ ((s ≡ 2) × (a ≡ None) × Found b m n)
legal_answer (Some (i, j)) b c d s m n e = let p = legal_parts 1 i j s m n e in inl ((p.0, p.1))
legal_answer None (Some (i, j)) c d s m n e = let p = legal_parts 2 i j s m n e in inr ((p.0, refl, p.1))
legal_answer None None (Some (i, j)) d s m n e = absurd (other_kind s m n 1 i j (sym e))
legal_answer None None None (Some (i, j)) s m n e = absurd (other_kind s m n 2 i j (sym e))
legal_answer None None None None s m n e = absurd (no_kind (legal_differs s m n) e)

-- a fault of own actions comes of a pair of seat 1, or else of seat 2, where no names differ
forgotten_answer : (a b c d : Option (ℕ × ℕ)) (s m n : ℕ) → answer a b c d ≡ Some (forgotten s m n)
    → (a ≡ None) × (b ≡ None) × (((s ≡ 1) × Found c m n) ⊎ ((s ≡ 2) × (c ≡ None) × Found d m n))
forgotten_answer (Some (i, j)) b c d s m n e = absurd (other_kind 1 i j s m n e)
forgotten_answer None (Some (i, j)) c d s m n e = absurd (other_kind 2 i j s m n e)
forgotten_answer None None (Some (i, j)) d s m n e = let p = forgotten_parts 1 i j s m n e in (refl, refl, inl ((p.0, p.1)))
forgotten_answer None None None (Some (i, j)) s m n e = let p = forgotten_parts 2 i j s m n e in (refl, refl, inr ((p.0, refl, p.1)))
forgotten_answer None None None None s m n e = absurd (no_kind (forgotten s m n) e)

-- what differs is of one set
differ_one : (g : GameModel) (seat : ℕ) (k h : History) → differ g seat k h ≡ true → one_set g seat k h ≡ true
differ_one g seat k h e = (and_parts (one_set g seat k h) (not (same_names (action_names seat (place_of g k)) (action_names seat (place_of g h)))) e).0

-- a pair of names is the first pair
legal_is : (g : GameModel) (seat m n : ℕ) → (legal_pair g seat ≡ Some (m, n)) ↔ IsFirstPair (one_set g seat) (differ g seat) (histories g) m n
legal_is g seat m n = pair_is (one_set g seat) (differ g seat) (differ_one g seat) (histories g) m n

-- a pair of own actions is the first pair
confused_is : (g : GameModel) (seat m n : ℕ) → (confused_pair g by_seen seat ≡ Some (m, n)) ↔ IsFirstPair (confused g seat) (confused g seat) (histories g) m n
confused_is g seat m n = pair_is (confused g seat) (confused g seat) (λ k h e. e) (histories g) m n

-- such a pair is found only where what is seen has to tell the own actions
confused_seen : (g : GameModel) (seat m n : ℕ) (r : Recall) → confused_pair g r seat ≡ Some (m, n) → r ≡ by_seen
confused_seen g seat m n by_acts e = absurd (never e)
  where
    never : ◌≡◌ {A = Option (ℕ × ℕ)} None (Some (m, n)) → ⊥
    never e = cc
confused_seen g seat m n by_seen e = refl

-- the law of names that differ
pub legal_differs_law : LegalDiffersLaw
legal_differs_law g seat m n = (λ e. there (legal_answer (legal_pair g 1) (legal_pair g 2) (confused_pair g g.recall 1) (confused_pair g g.recall 2) seat m n e), back)
  where
    there : ((seat ≡ 1) × Found (legal_pair g 1) m n) ⊎ ((seat ≡ 2) × (legal_pair g 1 ≡ None) × Found (legal_pair g 2) m n)
        → ((seat ≡ 1) × IsFirstPair (one_set g 1) (differ g 1) (histories g) m n) ⊎ ((seat ≡ 2) × AlikeNames g 1 × IsFirstPair (one_set g 2) (differ g 2) (histories g) m n)
    there (inl p) = inl ((p.0, (legal_is g 1 m n).0 p.1))
    there (inr p) = inr ((p.0, alike_from g 1 p.1, (legal_is g 2 m n).0 p.2))

    back : ((seat ≡ 1) × IsFirstPair (one_set g 1) (differ g 1) (histories g) m n) ⊎ ((seat ≡ 2) × AlikeNames g 1 × IsFirstPair (one_set g 2) (differ g 2) (histories g) m n)
        → recall_fault g ≡ Some (legal_differs seat m n)
    back (inl p) =
        ap (λ a. answer a (legal_pair g 2) (confused_pair g g.recall 1) (confused_pair g g.recall 2)) ((legal_is g 1 m n).1 p.1) ∙ ap (λ s. Some (legal_differs s m n)) (sym p.0)
    back (inr p) =
        ap (λ a. answer a (legal_pair g 2) (confused_pair g g.recall 1) (confused_pair g g.recall 2)) (alike_none g 1 p.1)
        ∙ ap (λ b. answer None b (confused_pair g g.recall 1) (confused_pair g g.recall 2)) ((legal_is g 2 m n).1 p.2) ∙ ap (λ s. Some (legal_differs s m n)) (sym p.0)

-- the law of own actions that are forgotten
pub forgotten_law : ForgottenLaw
forgotten_law g seat m n = (λ e. there (forgotten_answer (legal_pair g 1) (legal_pair g 2) (confused_pair g g.recall 1) (confused_pair g g.recall 2) seat m n e), back)
  where
    seat1 : AlikeNames g 1 → AlikeNames g 2 → (seat ≡ 1) × Found (confused_pair g g.recall 1) m n
        → AlikeNames g 1 × AlikeNames g 2 × (g.recall ≡ by_seen)
        × (((seat ≡ 1) × IsFirstPair (confused g 1) (confused g 1) (histories g) m n) ⊎ ((seat ≡ 2) × Remembers g 1 × IsFirstPair (confused g 2) (confused g 2) (histories g) m n))
    seat1 a b p =
        let s = confused_seen g 1 m n g.recall p.1 in
        (a, b, s, inl ((p.0, (confused_is g 1 m n).0 (ap (λ r. confused_pair g r 1) (sym s) ∙ p.1))))

    seat2 : AlikeNames g 1 → AlikeNames g 2 → (seat ≡ 2) × (confused_pair g g.recall 1 ≡ None) × Found (confused_pair g g.recall 2) m n
        → AlikeNames g 1 × AlikeNames g 2 × (g.recall ≡ by_seen)
        × (((seat ≡ 1) × IsFirstPair (confused g 1) (confused g 1) (histories g) m n) ⊎ ((seat ≡ 2) × Remembers g 1 × IsFirstPair (confused g 2) (confused g 2) (histories g) m n))
    seat2 a b p =
        let s = confused_seen g 2 m n g.recall p.2 in
        (a, b, s, inr ((p.0, remembers_from g 1 (ap (λ r. confused_pair g r 1) (sym s) ∙ p.1), (confused_is g 2 m n).0 (ap (λ r. confused_pair g r 2) (sym s) ∙ p.2))))

    pick : AlikeNames g 1 → AlikeNames g 2 → ((seat ≡ 1) × Found (confused_pair g g.recall 1) m n) ⊎ ((seat ≡ 2) × (confused_pair g g.recall 1 ≡ None) × Found (confused_pair g g.recall 2) m n)
        → AlikeNames g 1 × AlikeNames g 2 × (g.recall ≡ by_seen)
        × (((seat ≡ 1) × IsFirstPair (confused g 1) (confused g 1) (histories g) m n) ⊎ ((seat ≡ 2) × Remembers g 1 × IsFirstPair (confused g 2) (confused g 2) (histories g) m n))
    pick a b (inl p) = seat1 a b p
    pick a b (inr p) = seat2 a b p

    there : (legal_pair g 1 ≡ None) × (legal_pair g 2 ≡ None) × (((seat ≡ 1) × Found (confused_pair g g.recall 1) m n) ⊎ ((seat ≡ 2) × (confused_pair g g.recall 1 ≡ None) × Found (confused_pair g g.recall 2) m n))
        → AlikeNames g 1 × AlikeNames g 2 × (g.recall ≡ by_seen)
        × (((seat ≡ 1) × IsFirstPair (confused g 1) (confused g 1) (histories g) m n) ⊎ ((seat ≡ 2) × Remembers g 1 × IsFirstPair (confused g 2) (confused g 2) (histories g) m n))
    there r = pick (alike_from g 1 r.0) (alike_from g 2 r.1) r.2

    clear : AlikeNames g 1 → AlikeNames g 2 → recall_fault g ≡ answer None None (confused_pair g g.recall 1) (confused_pair g g.recall 2)
    clear a b =
        ap (λ x. answer x (legal_pair g 2) (confused_pair g g.recall 1) (confused_pair g g.recall 2)) (alike_none g 1 a)
        ∙ ap (λ x. answer None x (confused_pair g g.recall 1) (confused_pair g g.recall 2)) (alike_none g 2 b)

    fault : g.recall ≡ by_seen → ((seat ≡ 1) × IsFirstPair (confused g 1) (confused g 1) (histories g) m n) ⊎ ((seat ≡ 2) × Remembers g 1 × IsFirstPair (confused g 2) (confused g 2) (histories g) m n)
        → answer None None (confused_pair g g.recall 1) (confused_pair g g.recall 2) ≡ Some (forgotten seat m n)
    fault s (inl p) =
        ap (λ x. answer None None x (confused_pair g g.recall 2)) (ap (λ r. confused_pair g r 1) s ∙ (confused_is g 1 m n).1 p.1) ∙ ap (λ t. Some (forgotten t m n)) (sym p.0)
    fault s (inr p) =
        ap (λ x. answer None None x (confused_pair g g.recall 2)) (ap (λ r. confused_pair g r 1) s ∙ remembers_none g 1 p.1)
        ∙ ap (λ x. answer None None None x) (ap (λ r. confused_pair g r 2) s ∙ (confused_is g 2 m n).1 p.2) ∙ ap (λ t. Some (forgotten t m n)) (sym p.0)

    back : AlikeNames g 1 × AlikeNames g 2 × (g.recall ≡ by_seen)
        × (((seat ≡ 1) × IsFirstPair (confused g 1) (confused g 1) (histories g) m n) ⊎ ((seat ≡ 2) × Remembers g 1 × IsFirstPair (confused g 2) (confused g 2) (histories g) m n))
        → recall_fault g ≡ Some (forgotten seat m n)
    back r = clear r.0 r.1 ∙ fault r.2 r.3
