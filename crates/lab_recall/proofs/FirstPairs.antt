-- The first pair of histories that clash, by the first histories of sets.
use Rattle.std.proofs.Common.{◌≡◌, ℕ, ◌+◌, ◌<◌, ◌≤◌, List, [], ◌∷◌, length, get_or, cond, Bool, true, false, refl, sym, ap, ◌∙◌, subst, arith, inl, inr, ◌⊎◌}
use Rattle.std.specs.Prelude.{◌&&◌, ◌==◌, not, slice_index}
use Rattle.std.specs.Ordering.{is_eq}
use Rattle.std.proofs.lemmas.Bool.{and_parts, and_from, cases_lt, eq-eqb, eqb-true, false_from_ne_true}
use Rattle.lab_math.proofs.Members.{In, in_from_contains}
use Rattle.lab_defs_text.specs.Games.{GameModel}
use Rattle.lab_defs_text.specs.Words.{Bytes}
use Rattle.lab_defs_game.specs.Histories.{History, histories, inner_histories, place_of, action_names}
use Rattle.lab_defs_game.specs.Laws.{AlikeNames, Remembers, IsFirstPair, history_cmp}
use Rattle.lab_defs_game.specs.Recall.{same_names, one_set, differ, owns, actions, same_list, forgets, confused, place_of_first}
use Rattle.lab_defs_game.specs.Sets.{Item, seen, publics, set_cmp}
use Rattle.lab_defs_game.proofs.HistoryOrder.{history_total}
use Rattle.lab_defs_game.proofs.NumberLemmas.{at_number, number_below}
use Rattle.lab_defs_game.proofs.Orders.{set_exact}
use Rattle.lab_defs_game.proofs.RecallLemmas.{not_both, names_same, names_itself, second_fails, holds, inner_world, same_list_from, same_list_is}
use Rattle.lab_defs_game.proofs.Spans.{eq_is}
use Rattle.lab_unfold.specs.Values.{history_number, Unfolded, unfolded}
use Rattle.lab_unfold.specs.Firsts.{AreFirsts, IsFirstAkin, is_inner, same_tokens}
use Rattle.lab_unfold.proofs.CallerLemmas.{all_length, ascending, first_akin, one_set_from}
use Rattle.lab_recall.specs.Tests.{history, differs_at, forgets_at, IsFirstAt}

-- ---- first histories

-- what is told of a history that is akin to itself
first_at : (test : History → Bool) (akin : History → History → Bool) (hs : List History) (firsts : List ℕ) (i : ℕ) → AreFirsts test akin hs firsts → i < length hs → test (get_or hs i []) ≡ true
    → akin (get_or hs i []) (get_or hs i []) ≡ true → IsFirstAkin akin hs i (slice_index firsts i)
first_at test akin hs firsts i all l t self = subst (IsFirstAkin akin hs i) (sym (all.first i l t)) (first_akin akin hs i l self)

-- the same test finds the same place
place_same : (p q : History → Bool) (hs : List History) → ((h : History) → p h ≡ q h) → place_of_first p hs ≡ place_of_first q hs
place_same p q [] e = refl
place_same p q (h ∷ hs) e = ap (λ b. cond b 0 (place_of_first p hs + 1)) (e h) ∙ ap (λ n. cond (q h) 0 (n + 1)) (place_same p q hs e)

-- a history has a number
numbered : (g : GameModel) (h : History) → In h (histories g) → (i : ℕ) × (i < length (histories g)) × (history g i ≡ h)
numbered g h i = (history_number g h, number_below history_cmp history_total (histories g) h (ascending g) i, at_number history_cmp history_total (histories g) h [] (ascending g) i)

-- there are as many items as histories
pub items_length : (g : GameModel) (u : Unfolded) → u ≡ unfolded g → length u.items ≡ length (histories g)
items_length g u e = all_length g u.items (ap (λ (u : Unfolded). u.items) e)

-- ---- sets

-- two histories that are not terminal and see the same
record OneSet (g : GameModel) (seat : ℕ) (h k : History) : Type 0 where
  first : is_inner g h ≡ true
  second : is_inner g k ≡ true
  same : seen g seat h ≡ seen g seat k

-- so are two of one set
one_set_is : (g : GameModel) (seat : ℕ) (h k : History) → one_set g seat h k ≡ true → OneSet g seat h k
one_set_is g seat h k e =
    let p = and_parts (is_inner g h) (is_inner g k && is_eq (set_cmp (seen g seat h) (seen g seat k))) e in
    let q = and_parts (is_inner g k) (is_eq (set_cmp (seen g seat h) (seen g seat k))) p.1 in
    record { first = p.0; second = q.0; same = set_exact (seen g seat h) (seen g seat k) (eq_is (set_cmp (seen g seat h) (seen g seat k)) q.1) }

module _ (g : GameModel) (seat : ℕ) (firsts : List ℕ) (all : AreFirsts (is_inner g) (one_set g seat) (histories g) firsts) where
  -- the first history of a set
  set_first : (i : ℕ) → i < length (histories g) → is_inner g (history g i) ≡ true → IsFirstAkin (one_set g seat) (histories g) i (slice_index firsts i)
  set_first i l t = first_at (is_inner g) (one_set g seat) (histories g) firsts i all l t (one_set_from g seat (history g i) (history g i) t t refl)

  -- it is the same for all of the set
  one_first : (i j : ℕ) → i < length (histories g) → j < length (histories g) → OneSet g seat (history g i) (history g j) → slice_index firsts i ≡ slice_index firsts j
  one_first i j li lj o =
      all.first i li o.first
      ∙ place_same (λ k. one_set g seat k (history g i)) (λ k. one_set g seat k (history g j)) (histories g) (λ k.
      ap (λ b. is_inner g k && (b && is_eq (set_cmp (seen g seat k) (seen g seat (history g i))))) (o.first ∙ sym o.second)
      ∙ ap (λ s. is_inner g k && (is_inner g (history g j) && is_eq (set_cmp (seen g seat k) s))) o.same)
      ∙ sym (all.first j lj o.second)

  -- the names of the seat's actions at a history
  abbrev names : ℕ → List Bytes
  names i = action_names seat (place_of g (history g i))

  -- where the test fails the names are those at the first history
  fine_names : (i : ℕ) → is_inner g (history g i) ≡ true → differs_at g seat firsts i ≡ false → names (slice_index firsts i) ≡ names i
  fine_names i t f =
      names_same (names (slice_index firsts i)) (names i)
      (holds (same_names (names (slice_index firsts i)) (names i)) (second_fails (is_inner g (history g i)) (not (same_names (names (slice_index firsts i)) (names i))) f t))

  -- so two of one set where it fails have the same
  one_names : (i j : ℕ) → i < length (histories g) → j < length (histories g) → OneSet g seat (history g i) (history g j) → differs_at g seat firsts i ≡ false → differs_at g seat firsts j ≡ false → names i ≡ names j
  one_names i j li lj o fi fj = sym (fine_names i o.first fi) ∙ ap names (one_first i j li lj o) ∙ fine_names j o.second fj

  -- and do not differ
  no_differ : (i j : ℕ) → i < length (histories g) → j < length (histories g) → differs_at g seat firsts i ≡ false → differs_at g seat firsts j ≡ false → differ g seat (history g i) (history g j) ≡ false
  no_differ i j li lj fi fj = false_from_ne_true (differ g seat (history g i) (history g j)) (λ t.
      let p = and_parts (one_set g seat (history g i) (history g j)) (not (same_names (names i) (names j))) t in
      let e = one_names i j li lj (one_set_is g seat (history g i) (history g j) p.0) fi fj in
      not_both p.1 (ap (λ ns. not (same_names (names i) ns)) (sym e) ∙ ap not (names_itself (names i))))

  -- where it fails for all, the names agree in each set
  pub alike_names : ((i : ℕ) → i < length (histories g) → differs_at g seat firsts i ≡ false) → AlikeNames g seat
  alike_names fine h k c d e =
      let ih = inner_world g h (in_from_contains (inner_histories g) h c) in
      let ik = inner_world g k (in_from_contains (inner_histories g) k d) in
      let i = numbered g h ih.0 in
      let j = numbered g k ik.0 in
      ap (λ x. action_names seat (place_of g x)) (sym i.2)
      ∙ one_names i.0 j.0 i.1 j.1
      (record { first = ap (is_inner g) i.2 ∙ ih.1; second = ap (is_inner g) j.2 ∙ ik.1; same = ap (seen g seat) i.2 ∙ e ∙ ap (seen g seat) (sym j.2) }) (fine i.0 i.1) (fine j.0 j.1)
      ∙ ap (λ x. action_names seat (place_of g x)) j.2

  -- where it holds first there is the first pair
  pub differing_pair : (n : ℕ) → IsFirstAt (differs_at g seat firsts) (length (histories g)) n → IsFirstPair (one_set g seat) (differ g seat) (histories g) (slice_index firsts n) n
  differing_pair n at = (
    at.below,
    (f, less, and_from (one_set g seat (history g f) (history g n)) (not (same_names (names f) (names n))) p.same t.1),
    λ j lj k lk. no_differ k j (omega (arith, at.below, lj, lk)) (omega (arith, at.below, lj)) (at.before k (omega (arith, lj, lk))) (at.before j lj),
    less,
    p.same,
    p.before,
  )
    where
      f : ℕ
      f = slice_index firsts n

      t : (is_inner g (history g n) ≡ true) × (not (same_names (names (slice_index firsts n)) (names n)) ≡ true)
      t = and_parts (is_inner g (history g n)) (not (same_names (names (slice_index firsts n)) (names n))) at.passes

      p : IsFirstAkin (one_set g seat) (histories g) n (slice_index firsts n)
      p = set_first n at.below t.0

      less : slice_index firsts n < n
      less = at_least (cases_lt (slice_index firsts n) n)
        where
          at_least : (slice_index firsts n < n) ⊎ (n ≤ slice_index firsts n) → slice_index firsts n < n
          at_least (inl l) = l
          at_least (inr l) =
              let e : slice_index firsts n ≡ n = omega (arith, l, p.within) in
              absurd (not_both t.1 (ap (λ k. not (same_names (names k) (names n))) e ∙ ap not (names_itself (names n))))

-- ---- tokens

-- two histories that are not terminal with the same tokens
record OneTokens (g : GameModel) (seat : ℕ) (h k : History) : Type 0 where
  first : is_inner g h ≡ true
  second : is_inner g k ≡ true
  own : owns (seen g seat h) ≡ owns (seen g seat k)
  public : publics (seen g seat h) ≡ publics (seen g seat k)

-- they are found to have them
tokens_from : (g : GameModel) (seat : ℕ) (h k : History) → OneTokens g seat h k → same_tokens g seat h k ≡ true
tokens_from g seat h k o =
    and_from (is_inner g h) (is_inner g k && (same_list (owns (seen g seat h)) (owns (seen g seat k)) && same_list (publics (seen g seat h)) (publics (seen g seat k)))) o.first
    (and_from (is_inner g k) (same_list (owns (seen g seat h)) (owns (seen g seat k)) && same_list (publics (seen g seat h)) (publics (seen g seat k))) o.second
    (and_from (same_list (owns (seen g seat h)) (owns (seen g seat k))) (same_list (publics (seen g seat h)) (publics (seen g seat k)))
    (same_list_from (owns (seen g seat h)) (owns (seen g seat k)) o.own) (same_list_from (publics (seen g seat h)) (publics (seen g seat k)) o.public)))

-- and back
tokens_is : (g : GameModel) (seat : ℕ) (h k : History) → same_tokens g seat h k ≡ true → OneTokens g seat h k
tokens_is g seat h k e =
    let p = and_parts (is_inner g h) (is_inner g k && (same_list (owns (seen g seat h)) (owns (seen g seat k)) && same_list (publics (seen g seat h)) (publics (seen g seat k)))) e in
    let q = and_parts (is_inner g k) (same_list (owns (seen g seat h)) (owns (seen g seat k)) && same_list (publics (seen g seat h)) (publics (seen g seat k))) p.1 in
    let r = and_parts (same_list (owns (seen g seat h)) (owns (seen g seat k))) (same_list (publics (seen g seat h)) (publics (seen g seat k))) q.1 in
    record { first = p.0; second = q.0; own = same_list_is (owns (seen g seat h)) (owns (seen g seat k)) r.0; public = same_list_is (publics (seen g seat h)) (publics (seen g seat k)) r.1 }

-- confused are those with the same tokens and other own actions
confused_from : (g : GameModel) (seat : ℕ) (h k : History) → OneTokens g seat h k → same_list (actions (seen g seat h)) (actions (seen g seat k)) ≡ false → confused g seat h k ≡ true
confused_from g seat h k o f =
    and_from (is_inner g h) (is_inner g k && forgets s t) o.first
    (and_from (is_inner g k) (forgets s t) o.second
    (and_from (same_list (owns s) (owns t)) (same_list (publics s) (publics t) && not (same_list (actions s) (actions t))) (same_list_from (owns s) (owns t) o.own)
    (and_from (same_list (publics s) (publics t)) (not (same_list (actions s) (actions t))) (same_list_from (publics s) (publics t) o.public) (ap not f))))
  where
    s : List Item
    s = seen g seat h

    t : List Item
    t = seen g seat k

-- and back
confused_is : (g : GameModel) (seat : ℕ) (h k : History) → confused g seat h k ≡ true → OneTokens g seat h k × (not (same_list (actions (seen g seat h)) (actions (seen g seat k))) ≡ true)
confused_is g seat h k e =
    let s = seen g seat h in
    let t = seen g seat k in
    let p = and_parts (is_inner g h) (is_inner g k && forgets s t) e in
    let q = and_parts (is_inner g k) (forgets s t) p.1 in
    let r = and_parts (same_list (owns s) (owns t)) (same_list (publics s) (publics t) && not (same_list (actions s) (actions t))) q.1 in
    let u = and_parts (same_list (publics s) (publics t)) (not (same_list (actions s) (actions t))) r.1 in
    (record { first = p.0; second = q.0; own = same_list_is (owns s) (owns t) r.0; public = same_list_is (publics s) (publics t) u.0 }, u.1)

-- a seen list by its parts
seen_by : (xs ys : List Item) → owns xs ≡ owns ys → publics xs ≡ publics ys → actions xs ≡ actions ys → xs ≡ ys
seen_by [] [] o p a = refl
seen_by [] (y ∷ ys) o p a = absurd cc
seen_by (x ∷ xs) [] o p a = absurd cc
seen_by (x ∷ xs) (y ∷ ys) o p a =
    ap (λ z. z ∷ xs) (item (heads x.action y.action (actions xs) (actions ys) a) (heads x.own y.own (owns xs) (owns ys) o) (heads x.public y.public (publics xs) (publics ys) p))
    ∙ ap (λ zs. y ∷ zs) (seen_by xs ys (tails x.own y.own (owns xs) (owns ys) o) (tails x.public y.public (publics xs) (publics ys) p) (tails x.action y.action (actions xs) (actions ys) a))
  where
    heads : (m n : ℕ) (ms ns : List ℕ) → m ∷ ms ≡ n ∷ ns → m ≡ n
    heads m n ms ns e = cc

    tails : (m n : ℕ) (ms ns : List ℕ) → m ∷ ms ≡ n ∷ ns → ms ≡ ns
    tails m n ms ns e = cc

    item : x.action ≡ y.action → x.own ≡ y.own → x.public ≡ y.public → x ≡ y
    item p q r = λ i. record { action = p i; own = q i; public = r i }

module _ (g : GameModel) (seat : ℕ) (sets tokens : List ℕ) (one : AreFirsts (is_inner g) (one_set g seat) (histories g) sets) (all : AreFirsts (is_inner g) (same_tokens g seat) (histories g) tokens) where
  -- the first history with the same tokens
  token_first : (i : ℕ) → i < length (histories g) → is_inner g (history g i) ≡ true → IsFirstAkin (same_tokens g seat) (histories g) i (slice_index tokens i)
  token_first i l t = first_at (is_inner g) (same_tokens g seat) (histories g) tokens i all l t (tokens_from g seat (history g i) (history g i) (record { first = t; second = t; own = refl; public = refl }))

  -- it is the same for all of them
  one_token : (i j : ℕ) → i < length (histories g) → j < length (histories g) → OneTokens g seat (history g i) (history g j) → slice_index tokens i ≡ slice_index tokens j
  one_token i j li lj o =
      all.first i li o.first
      ∙ place_same (λ k. same_tokens g seat k (history g i)) (λ k. same_tokens g seat k (history g j)) (histories g) (λ k.
      ap (λ b. is_inner g k && (b && (same_list (owns (seen g seat k)) (owns (seen g seat (history g i))) && same_list (publics (seen g seat k)) (publics (seen g seat (history g i)))))) (o.first ∙ sym o.second)
      ∙ ap (λ s. is_inner g k && (is_inner g (history g j) && (same_list (owns (seen g seat k)) s && same_list (publics (seen g seat k)) (publics (seen g seat (history g i)))))) o.own
      ∙ ap (λ s. is_inner g k && (is_inner g (history g j) && (same_list (owns (seen g seat k)) (owns (seen g seat (history g j))) && same_list (publics (seen g seat k)) s))) o.public)
      ∙ sym (all.first j lj o.second)

  -- where the test fails it sees the same
  fine_seen : (i : ℕ) → i < length (histories g) → is_inner g (history g i) ≡ true → forgets_at g sets tokens i ≡ false → seen g seat (history g (slice_index tokens i)) ≡ seen g seat (history g i)
  fine_seen i l t f =
      let e = eqb-true (slice_index sets i) (slice_index tokens i)
      (holds (slice_index sets i == slice_index tokens i) (second_fails (is_inner g (history g i)) (not (slice_index sets i == slice_index tokens i)) f t)) in
      let o = one_set_is g seat (history g (slice_index sets i)) (history g i) (set_first g seat sets one i l t).same in
      ap (λ k. seen g seat (history g k)) (sym e) ∙ o.same

  -- so two with the same tokens where it fails see the same
  one_seen : (i j : ℕ) → i < length (histories g) → j < length (histories g) → OneTokens g seat (history g i) (history g j) → forgets_at g sets tokens i ≡ false → forgets_at g sets tokens j ≡ false
      → seen g seat (history g i) ≡ seen g seat (history g j)
  one_seen i j li lj o fi fj = sym (fine_seen i li o.first fi) ∙ ap (λ k. seen g seat (history g k)) (one_token i j li lj o) ∙ fine_seen j lj o.second fj

  -- and are not confused
  no_confused : (i j : ℕ) → i < length (histories g) → j < length (histories g) → forgets_at g sets tokens i ≡ false → forgets_at g sets tokens j ≡ false → confused g seat (history g i) (history g j) ≡ false
  no_confused i j li lj fi fj = false_from_ne_true (confused g seat (history g i) (history g j)) (λ t.
      let p = confused_is g seat (history g i) (history g j) t in
      let e = one_seen i j li lj p.0 fi fj in
      not_both p.1 (ap not (same_list_from (actions (seen g seat (history g i))) (actions (seen g seat (history g j))) (ap actions e))))

  -- where it fails for all, the tokens tell the own actions
  pub remembers : ((i : ℕ) → i < length (histories g) → forgets_at g sets tokens i ≡ false) → Remembers g seat
  remembers fine h k c d o p =
      let ih = inner_world g h (in_from_contains (inner_histories g) h c) in
      let ik = inner_world g k (in_from_contains (inner_histories g) k d) in
      let i = numbered g h ih.0 in
      let j = numbered g k ik.0 in
      ap (λ x. actions (seen g seat x)) (sym i.2)
      ∙ ap actions
      (one_seen i.0 j.0 i.1 j.1
      (record {
        first = ap (is_inner g) i.2 ∙ ih.1;
        second = ap (is_inner g) j.2 ∙ ik.1;
        own = ap (λ x. owns (seen g seat x)) i.2 ∙ o ∙ ap (λ x. owns (seen g seat x)) (sym j.2);
        public = ap (λ x. publics (seen g seat x)) i.2 ∙ p ∙ ap (λ x. publics (seen g seat x)) (sym j.2);
      }) (fine i.0 i.1) (fine j.0 j.1))
      ∙ ap (λ x. actions (seen g seat x)) j.2

  -- where it holds first there is the first pair
  pub forgotten_pair : (n : ℕ) → IsFirstAt (forgets_at g sets tokens) (length (histories g)) n → IsFirstPair (confused g seat) (confused g seat) (histories g) (slice_index tokens n) n
  forgotten_pair n at = (
    at.below,
    (slice_index tokens n, less, pair),
    λ j lj k lk. no_confused k j (omega (arith, at.below, lj, lk)) (omega (arith, at.below, lj)) (at.before k (omega (arith, lj, lk))) (at.before j lj),
    less,
    pair,
    λ k lk. false_from_ne_true (confused g seat (history g k) (history g n)) (λ t. not_both (tokens_from g seat (history g k) (history g n) (confused_is g seat (history g k) (history g n) t).0) (p.before k lk)),
  )
    where
      t : (is_inner g (history g n) ≡ true) × (not (slice_index sets n == slice_index tokens n) ≡ true)
      t = and_parts (is_inner g (history g n)) (not (slice_index sets n == slice_index tokens n)) at.passes

      p : IsFirstAkin (same_tokens g seat) (histories g) n (slice_index tokens n)
      p = token_first n at.below t.0

      q : IsFirstAkin (one_set g seat) (histories g) n (slice_index sets n)
      q = set_first g seat sets one n at.below t.0

      o : OneTokens g seat (history g (slice_index tokens n)) (history g n)
      o = tokens_is g seat (history g (slice_index tokens n)) (history g n) p.same

      s : OneSet g seat (history g (slice_index sets n)) (history g n)
      s = one_set_is g seat (history g (slice_index sets n)) (history g n) q.same

      -- with the same own actions both were one
      one_place : seen g seat (history g (slice_index tokens n)) ≡ seen g seat (history g n) → slice_index sets n ≡ slice_index tokens n
      one_place e = least (cases_lt (slice_index tokens n) (slice_index sets n)) (cases_lt (slice_index sets n) (slice_index tokens n))
        where
          least : (slice_index tokens n < slice_index sets n) ⊎ (slice_index sets n ≤ slice_index tokens n) → (slice_index sets n < slice_index tokens n) ⊎ (slice_index tokens n ≤ slice_index sets n)
              → slice_index sets n ≡ slice_index tokens n
          least (inl l) c =
              absurd (not_both (one_set_from g seat (history g (slice_index tokens n)) (history g n) o.first o.second e) (q.before (slice_index tokens n) l))
          least (inr l) (inl c) =
              absurd (not_both (tokens_from g seat (history g (slice_index sets n)) (history g n) (record { first = s.first; second = s.second; own = ap owns s.same; public = ap publics s.same })) (p.before (slice_index sets n) c))
          least (inr l) (inr c) = omega (arith, l, c)

      other : same_list (actions (seen g seat (history g (slice_index tokens n)))) (actions (seen g seat (history g n))) ≡ false
      other = false_from_ne_true (same_list (actions (seen g seat (history g (slice_index tokens n)))) (actions (seen g seat (history g n)))) (λ y.
          let a = same_list_is (actions (seen g seat (history g (slice_index tokens n)))) (actions (seen g seat (history g n))) y in
          let e = one_place (seen_by (seen g seat (history g (slice_index tokens n))) (seen g seat (history g n)) o.own o.public a) in
          not_both t.1 (ap not (eq-eqb (slice_index sets n) (slice_index tokens n) e)))

      pair : confused g seat (history g (slice_index tokens n)) (history g n) ≡ true
      pair = confused_from g seat (history g (slice_index tokens n)) (history g n) o other

      less : slice_index tokens n < n
      less = at_least (cases_lt (slice_index tokens n) n)
        where
          at_least : (slice_index tokens n < n) ⊎ (n ≤ slice_index tokens n) → slice_index tokens n < n
          at_least (inl l) = l
          at_least (inr l) =
              let e : slice_index tokens n ≡ n = omega (arith, l, p.within) in
              absurd (not_both (same_list_from (actions (seen g seat (history g (slice_index tokens n)))) (actions (seen g seat (history g n))) (ap (λ k. actions (seen g seat (history g k))) e)) other)
