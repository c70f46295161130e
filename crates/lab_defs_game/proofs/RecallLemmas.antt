-- A game has perfect recall exactly where the histories of each set agree.
use Rattle.std.proofs.Common.{◌≡◌, ℕ, List, [], ◌∷◌, ◌++◌, length, Bool, true, false, cond, Option, Some, None, refl, sym, ap, ◌∙◌, inl, inr, ◌⊎◌}
use Rattle.std.specs.Prelude.{not, ◌&&◌, ◌||◌}
use Rattle.std.specs.List.{Contains, list_any}
use Rattle.std.specs.Ordering.{is_eq}
use Rattle.std.specs.Str.{bytes_eq}
use Rattle.std.proofs.lemmas.Bool.{and_parts, and_from, or_left, or_right, false_from_ne_true}
use Rattle.std.proofs.lemmas.Cmp.{tied_itself}
use Rattle.lab_math.proofs.Members.{In, in_append_left, in_append_right, in_append_cases, in_filter, in_from_filter, in_from_contains, contains_from_in}
use Rattle.lab_defs_text.specs.Words.{Bytes}
use Rattle.lab_defs_text.specs.Games.{GameModel, Recall, by_acts, by_seen}
use Rattle.lab_defs_text.specs.Texts.{is_world}
use Rattle.lab_defs_text.proofs.SplitLemmas.{bytes_eq_is, bytes_eq_refl}
use Rattle.lab_defs_game.specs.Keys.{list_cmp}
use Rattle.lab_defs_game.specs.Histories.{History, histories, inner_histories, place_of, action_names}
use Rattle.lab_defs_game.specs.Sets.{seen, publics, set_cmp}
use Rattle.lab_defs_game.specs.Recall.{RecallFault, legal_differs, forgotten, same_names, one_set, differ, owns, actions, same_list, forgets, confused, place_of_first, first_pair, legal_pair, confused_pair, fault_of, first_fault, recall_fault}
use Rattle.lab_defs_game.specs.Laws.{AlikeNames, Remembers, RecallLaw}
use Rattle.lab_defs_game.proofs.Orders.{list_total, list_exact, set_total, set_exact}
use Rattle.lab_defs_game.proofs.Spans.{eq_is}

-- ---- pairs

-- true is not false
pub not_both : {b : Bool} → b ≡ true → b ≡ false → ⊥
not_both t f = never (sym t ∙ f)
  where
    never : true ≡ false → ⊥
    never e = cc

-- where none passes, each fails
none_passes : (p : History → Bool) (hs : List History) → list_any p hs ≡ false → (h : History) → In h hs → p h ≡ false
none_passes p [] e h i = absurd i
none_passes p (x ∷ hs) e h (inl q) = ap p (sym q) ∙ false_from_ne_true (p x) (λ t. not_both (or_left (p x) (list_any p hs) t) e)
none_passes p (x ∷ hs) e h (inr i) = none_passes p hs (false_from_ne_true (list_any p hs) (λ t. not_both (or_right (p x) (list_any p hs) t) e)) h i

-- where each fails, none passes
fails_all : (p : History → Bool) (hs : List History) → ((h : History) → In h hs → p h ≡ false) → list_any p hs ≡ false
fails_all p [] f = refl
fails_all p (x ∷ hs) f = ap (λ b. b || list_any p hs) (f x (inl refl)) ∙ fails_all p hs (λ h i. f h (inr i))

-- nothing is chosen only where the test fails and the rest is nothing
nothing_chosen : (b : Bool) (p : ℕ × ℕ) (o : Option (ℕ × ℕ)) → ◌≡◌ {A = Option (ℕ × ℕ)} (cond b (Some p) o) None → (b ≡ false) × (o ≡ None)
nothing_chosen true p o e = absurd (never e)
  where
    never : ◌≡◌ {A = Option (ℕ × ℕ)} (Some p) None → ⊥
    never e = cc
nothing_chosen false p o e = (refl, e)

module _ (akin clash : History → History → Bool) where
  -- the pair of the first of these with earlier ones
  abbrev pair_of : List History → History → ℕ × ℕ
  pair_of earlier h = (place_of_first (λ k. akin k h) earlier, length earlier)

  -- what is said of a first history and of the rest
  rest_none : (earlier hs : List History) (h : History) → first_pair akin clash earlier (h ∷ hs) ≡ None
      → (list_any (λ k. clash k h) earlier ≡ false) × (first_pair akin clash (earlier ++ h ∷ []) hs ≡ None)
  rest_none earlier hs h e = nothing_chosen (list_any (λ k. clash k h) earlier) (pair_of earlier h) (first_pair akin clash (earlier ++ h ∷ []) hs) e

  -- without a pair no earlier history clashes with a later one
  earlier_fine : (hs earlier : List History) → first_pair akin clash earlier hs ≡ None → (k h : History) → In k earlier → In h hs → clash k h ≡ false
  earlier_fine [] earlier e k h i j = absurd j
  earlier_fine (x ∷ hs) earlier e k h i (inl q) = ap (clash k) (sym q) ∙ none_passes (λ k. clash k x) earlier (rest_none earlier hs x e).0 k i
  earlier_fine (x ∷ hs) earlier e k h i (inr j) = earlier_fine hs (earlier ++ x ∷ []) (rest_none earlier hs x e).1 k h (in_append_left earlier (x ∷ []) k i) j

  -- without a pair no two clash, in one order of them
  pub all_fine : (hs earlier : List History) → first_pair akin clash earlier hs ≡ None → (k h : History) → In k hs → In h hs
      → (k ≡ h) ⊎ ((clash k h ≡ false) ⊎ (clash h k ≡ false))
  all_fine [] earlier e k h i j = absurd i
  all_fine (x ∷ hs) earlier e k h (inl p) (inl q) = inl (sym p ∙ q)
  all_fine (x ∷ hs) earlier e k h (inl p) (inr j) =
      inr (inl (earlier_fine hs (earlier ++ x ∷ []) (rest_none earlier hs x e).1 k h (in_append_right earlier (x ∷ []) k (inl p)) j))
  all_fine (x ∷ hs) earlier e k h (inr i) (inl q) =
      inr (inr (earlier_fine hs (earlier ++ x ∷ []) (rest_none earlier hs x e).1 h k (in_append_right earlier (x ∷ []) h (inl q)) i))
  all_fine (x ∷ hs) earlier e k h (inr i) (inr j) = all_fine hs (earlier ++ x ∷ []) (rest_none earlier hs x e).1 k h i j

  -- where no two clash there is no pair
  pub fine_none : (hs earlier : List History) → ((k h : History) → In k (earlier ++ hs) → In h hs → clash k h ≡ false) → first_pair akin clash earlier hs ≡ None
  fine_none [] earlier f = refl
  fine_none (x ∷ hs) earlier f =
      ap (λ b. cond b (Some (pair_of earlier x)) (first_pair akin clash (earlier ++ x ∷ []) hs)) (fails_all (λ k. clash k x) earlier (λ k i. f k x (in_append_left earlier (x ∷ hs) k i) (inl refl)))
      ∙ fine_none hs (earlier ++ x ∷ []) (λ k h i j. f k h (wider k (in_append_cases (earlier ++ x ∷ []) hs k i)) (inr j))
    where
      one : (k : History) → In k earlier ⊎ In k (x ∷ []) → In k (earlier ++ x ∷ hs)
      one k (inl i) = in_append_left earlier (x ∷ hs) k i
      one k (inr (inl q)) = in_append_right earlier (x ∷ hs) k (inl q)
      one k (inr (inr i)) = absurd i

      wider : (k : History) → In k (earlier ++ x ∷ []) ⊎ In k hs → In k (earlier ++ x ∷ hs)
      wider k (inl i) = one k (in_append_cases earlier (x ∷ []) k i)
      wider k (inr j) = in_append_right earlier (x ∷ hs) k (inr j)

-- ---- histories that agree

-- lists of names that are found to be the same are the same
pub names_same : (ns ms : List Bytes) → same_names ns ms ≡ true → ns ≡ ms
names_same [] [] e = refl
names_same [] (m ∷ ms) e = absurd cc
names_same (n ∷ ns) [] e = absurd cc
names_same (n ∷ ns) (m ∷ ms) e =
    let a = and_parts (bytes_eq n m) (same_names ns ms) e in
    ap (λ x. x ∷ ns) (bytes_eq_is n m a.0) ∙ ap (λ xs. m ∷ xs) (names_same ns ms a.1)

-- a list of names is found to be itself
pub names_itself : (ns : List Bytes) → same_names ns ns ≡ true
names_itself [] = refl
names_itself (n ∷ ns) = and_from (bytes_eq n n) (same_names ns ns) (bytes_eq_refl n) (names_itself ns)

-- where a conjunction fails and its first part holds, the second fails
pub second_fails : (x y : Bool) → (x && y) ≡ false → x ≡ true → y ≡ false
second_fails true y e t = e
second_fails false y e t = absurd (not_both t refl)

-- where what is negated fails, it holds
pub holds : (x : Bool) → not x ≡ false → x ≡ true
holds true e = refl
holds false e = absurd (not_both refl e)

-- a history that is not terminal leads to a world
pub inner_world : (g : GameModel) (h : History) → In h (inner_histories g) → In h (histories g) × (is_world (place_of g h) ≡ true)
inner_world g h i = in_from_filter (λ h. is_world (place_of g h)) (histories g) h i

-- lists that are one compare as equal
pub same_list_from : (xs ys : List ℕ) → xs ≡ ys → same_list xs ys ≡ true
same_list_from xs ys e = ap (λ z. same_list xs z) (sym e) ∙ ap is_eq (tied_itself list_total xs)

-- and back
pub same_list_is : (xs ys : List ℕ) → same_list xs ys ≡ true → xs ≡ ys
same_list_is xs ys e = list_exact xs ys (eq_is (list_cmp xs ys) e)

-- two histories that see the same, and do not differ, have the same names
names_from : (g : GameModel) (seat : ℕ) (h k : History) → In h (inner_histories g) → In k (inner_histories g) → seen g seat h ≡ seen g seat k → differ g seat h k ≡ false
    → action_names seat (place_of g h) ≡ action_names seat (place_of g k)
names_from g seat h k i j e f =
    names_same (action_names seat (place_of g h)) (action_names seat (place_of g k))
    (holds (same_names (action_names seat (place_of g h)) (action_names seat (place_of g k)))
    (second_fails (one_set g seat h k) (not (same_names (action_names seat (place_of g h)) (action_names seat (place_of g k)))) f
    (and_from (is_world (place_of g h)) (is_world (place_of g k) && is_eq (set_cmp (seen g seat h) (seen g seat k))) (inner_world g h i).1
    (and_from (is_world (place_of g k)) (is_eq (set_cmp (seen g seat h) (seen g seat k))) (inner_world g k j).1
    (ap (λ s. is_eq (set_cmp (seen g seat h) s)) (sym e) ∙ ap is_eq (tied_itself set_total (seen g seat h)))))))

-- without a pair the histories of each set agree on their names
pub alike_from : (g : GameModel) (seat : ℕ) → legal_pair g seat ≡ None → AlikeNames g seat
alike_from g seat none h k c d e = at (in_from_contains (inner_histories g) h c) (in_from_contains (inner_histories g) k d)
  where
    pick : In h (inner_histories g) → In k (inner_histories g) → (h ≡ k) ⊎ ((differ g seat h k ≡ false) ⊎ (differ g seat k h ≡ false)) → action_names seat (place_of g h) ≡ action_names seat (place_of g k)
    pick i j (inl q) = ap (λ x. action_names seat (place_of g x)) q
    pick i j (inr (inl f)) = names_from g seat h k i j e f
    pick i j (inr (inr f)) = sym (names_from g seat k h j i (sym e) f)

    at : In h (inner_histories g) → In k (inner_histories g) → action_names seat (place_of g h) ≡ action_names seat (place_of g k)
    at i j = pick i j (all_fine (one_set g seat) (differ g seat) (histories g) [] none h k (inner_world g h i).0 (inner_world g k j).0)

-- a history that leads to a world is not terminal
inner_from_world : (g : GameModel) (h : History) → In h (histories g) → is_world (place_of g h) ≡ true → Contains (inner_histories g) h
inner_from_world g h i e = contains_from_in (inner_histories g) h (in_filter (λ h. is_world (place_of g h)) (histories g) h i e)

-- where the histories of each set agree there is no pair
pub alike_none : (g : GameModel) (seat : ℕ) → AlikeNames g seat → legal_pair g seat ≡ None
alike_none g seat a = fine_none (one_set g seat) (differ g seat) (histories g) [] (λ k h i j. false_from_ne_true (differ g seat k h) (λ t. clash k h i j t))
  where
    clash : (k h : History) → In k (histories g) → In h (histories g) → differ g seat k h ≡ true → ⊥
    clash k h i j t =
        let p = and_parts (one_set g seat k h) (not (same_names (action_names seat (place_of g k)) (action_names seat (place_of g h)))) t in
        let q = and_parts (is_world (place_of g k)) (is_world (place_of g h) && is_eq (set_cmp (seen g seat k) (seen g seat h))) p.0 in
        let r = and_parts (is_world (place_of g h)) (is_eq (set_cmp (seen g seat k) (seen g seat h))) q.1 in
        let e = a k h (inner_from_world g k i q.0) (inner_from_world g h j r.0) (set_exact (seen g seat k) (seen g seat h) (eq_is (set_cmp (seen g seat k) (seen g seat h)) r.1)) in
        not_both p.1 (ap (λ ns. not (same_names (action_names seat (place_of g k)) ns)) (sym e) ∙ ap not (names_itself (action_names seat (place_of g k))))

-- two histories with the same tokens that are not confused have the same own actions
actions_from : (g : GameModel) (seat : ℕ) (h k : History) → In h (inner_histories g) → In k (inner_histories g)
    → owns (seen g seat h) ≡ owns (seen g seat k) → publics (seen g seat h) ≡ publics (seen g seat k) → confused g seat h k ≡ false → actions (seen g seat h) ≡ actions (seen g seat k)
actions_from g seat h k i j o p f =
    let s = seen g seat h in
    let t = seen g seat k in
    let a = second_fails (is_world (place_of g h)) (is_world (place_of g k) && forgets s t) f (inner_world g h i).1 in
    let b = second_fails (is_world (place_of g k)) (forgets s t) a (inner_world g k j).1 in
    let c = second_fails (same_list (owns s) (owns t)) (same_list (publics s) (publics t) && not (same_list (actions s) (actions t))) b (same_list_from (owns s) (owns t) o) in
    let d = second_fails (same_list (publics s) (publics t)) (not (same_list (actions s) (actions t))) c (same_list_from (publics s) (publics t) p) in
    same_list_is (actions s) (actions t) (holds (same_list (actions s) (actions t)) d)

-- without a pair the tokens tell the own actions
pub remembers_from : (g : GameModel) (seat : ℕ) → confused_pair g by_seen seat ≡ None → Remembers g seat
remembers_from g seat none h k c d o p = at (in_from_contains (inner_histories g) h c) (in_from_contains (inner_histories g) k d)
  where
    pick : In h (inner_histories g) → In k (inner_histories g) → (h ≡ k) ⊎ ((confused g seat h k ≡ false) ⊎ (confused g seat k h ≡ false)) → actions (seen g seat h) ≡ actions (seen g seat k)
    pick i j (inl q) = ap (λ x. actions (seen g seat x)) q
    pick i j (inr (inl f)) = actions_from g seat h k i j o p f
    pick i j (inr (inr f)) = sym (actions_from g seat k h j i (sym o) (sym p) f)

    at : In h (inner_histories g) → In k (inner_histories g) → actions (seen g seat h) ≡ actions (seen g seat k)
    at i j = pick i j (all_fine (confused g seat) (confused g seat) (histories g) [] none h k (inner_world g h i).0 (inner_world g k j).0)

-- where the tokens tell the own actions there is no pair
pub remembers_none : (g : GameModel) (seat : ℕ) → Remembers g seat → confused_pair g by_seen seat ≡ None
remembers_none g seat a = fine_none (confused g seat) (confused g seat) (histories g) [] (λ k h i j. false_from_ne_true (confused g seat k h) (λ t. clash k h i j t))
  where
    clash : (k h : History) → In k (histories g) → In h (histories g) → confused g seat k h ≡ true → ⊥
    clash k h i j t =
        let s = seen g seat k in
        let u = seen g seat h in
        let q = and_parts (is_world (place_of g k)) (is_world (place_of g h) && forgets s u) t in
        let r = and_parts (is_world (place_of g h)) (forgets s u) q.1 in
        let v = and_parts (same_list (owns s) (owns u)) (same_list (publics s) (publics u) && not (same_list (actions s) (actions u))) r.1 in
        let w = and_parts (same_list (publics s) (publics u)) (not (same_list (actions s) (actions u))) v.1 in
        let e = a k h (inner_from_world g k i q.0) (inner_from_world g h j r.0) (same_list_is (owns s) (owns u) v.0) (same_list_is (publics s) (publics u) w.0) in
        not_both w.1 (ap not (same_list_from (actions s) (actions u) e))

-- ---- faults

-- what is first of several is nothing exactly where each is
pub no_fault : (o : Option RecallFault) (os : List (Option RecallFault)) → first_fault (o ∷ os) ≡ None → (o ≡ None) × (first_fault os ≡ None)
no_fault None os e = (refl, e)
no_fault (Some f) os e = absurd (never e)
  where
    never : ◌≡◌ {A = Option RecallFault} (Some f) None → ⊥
    never e = cc

-- no fault of a pair is no pair
pub no_pair : (fault : ℕ → ℕ → RecallFault) (o : Option (ℕ × ℕ)) → fault_of fault o ≡ None → o ≡ None
no_pair fault None e = refl
no_pair fault (Some p) e = absurd (never e)
  where
    never : ◌≡◌ {A = Option RecallFault} (Some (fault p.0 p.1)) None → ⊥
    never e = cc

-- where own actions are remembered nothing is confused
confused_by : (g : GameModel) (seat : ℕ) (r : Recall) → (r ≡ by_seen → Remembers g seat) → confused_pair g r seat ≡ None
confused_by g seat by_acts f = refl
confused_by g seat by_seen f = remembers_none g seat (f refl)

-- none of the four faults
pub record NoFault (g : GameModel) : Type 0 where
  pub legal1 : legal_pair g 1 ≡ None
  pub legal2 : legal_pair g 2 ≡ None
  pub confused1 : confused_pair g g.recall 1 ≡ None
  pub confused2 : confused_pair g g.recall 2 ≡ None

-- what the answer without a fault says
pub no_fault_found : (g : GameModel) → recall_fault g ≡ None → NoFault g
no_fault_found g e =
    let f3 = fault_of (forgotten 1) (confused_pair g g.recall 1) in
    let f4 = fault_of (forgotten 2) (confused_pair g g.recall 2) in
    let a = no_fault (fault_of (legal_differs 1) (legal_pair g 1)) (fault_of (legal_differs 2) (legal_pair g 2) ∷ f3 ∷ f4 ∷ []) e in
    let b = no_fault (fault_of (legal_differs 2) (legal_pair g 2)) (f3 ∷ f4 ∷ []) a.1 in
    let c = no_fault f3 (f4 ∷ []) b.1 in
    let d = no_fault f4 [] c.1 in
    record {
      legal1 = no_pair (legal_differs 1) (legal_pair g 1) a.0;
      legal2 = no_pair (legal_differs 2) (legal_pair g 2) b.0;
      confused1 = no_pair (forgotten 1) (confused_pair g g.recall 1) c.0;
      confused2 = no_pair (forgotten 2) (confused_pair g g.recall 2) d.0;
    }

-- four answers without a pair are no fault
fault_none : (g : GameModel) → NoFault g → recall_fault g ≡ None
fault_none g n =
    ap (λ o. first_fault (fault_of (legal_differs 1) o ∷ fault_of (legal_differs 2) (legal_pair g 2) ∷ fault_of (forgotten 1) (confused_pair g g.recall 1) ∷ fault_of (forgotten 2) (confused_pair g g.recall 2) ∷ [])) n.legal1
    ∙ ap (λ o. first_fault (fault_of (legal_differs 2) o ∷ fault_of (forgotten 1) (confused_pair g g.recall 1) ∷ fault_of (forgotten 2) (confused_pair g g.recall 2) ∷ [])) n.legal2
    ∙ ap (λ o. first_fault (fault_of (forgotten 1) o ∷ fault_of (forgotten 2) (confused_pair g g.recall 2) ∷ [])) n.confused1
    ∙ ap (λ o. first_fault (fault_of (forgotten 2) o ∷ [])) n.confused2

-- the law of perfect recall
pub recall_law : RecallLaw
recall_law g = (λ e. there (no_fault_found g e), back)
  where
    there : NoFault g → AlikeNames g 1 × AlikeNames g 2 × (g.recall ≡ by_seen → Remembers g 1 × Remembers g 2)
    there n = (
      alike_from g 1 n.legal1,
      alike_from g 2 n.legal2,
      λ q. (remembers_from g 1 (ap (λ r. confused_pair g r 1) (sym q) ∙ n.confused1), remembers_from g 2 (ap (λ r. confused_pair g r 2) (sym q) ∙ n.confused2)),
    )

    back : AlikeNames g 1 × AlikeNames g 2 × (g.recall ≡ by_seen → Remembers g 1 × Remembers g 2) → recall_fault g ≡ None
    back a =
        fault_none g (record {
          legal1 = alike_none g 1 a.0;
          legal2 = alike_none g 2 a.1;
          confused1 = confused_by g 1 g.recall (λ q. (a.2 q).0);
          confused2 = confused_by g 2 g.recall (λ q. (a.2 q).1);
        })
