-- Where the sets of a node and of a subgame stand.
use Rattle.std.proofs.Common.{◌≡◌, ℕ, zero, suc, ◌+◌, ◌-◌, ◌<◌, ◌≤◌, List, [], ◌∷◌, Bool, true, false, cond, ◌||◌, length, get_or, map, filter, take, drop, Option, refl, sym, ap, ◌∙◌, subst, arith, inl, inr, ◌⊎◌, ◌↔◌}
use Rattle.std.specs.Prelude.{nat_lt, slice_range}
use Rattle.std.specs.List.{All, range_with_len}
use Rattle.std.specs.Ordering.{is_lt, is_eq}
use Rattle.std.specs.declared.cmp.Ordering.TheVariants.{Less, Equal}
use Rattle.std.specs.Cmp.Lexicographic.{slice_cmp}
use Rattle.std.proofs.lemmas.Bool.{lt-ltb, le-ltb, cases_lt, cases_order, or_left, or_right, false_from_ne_true}
use Rattle.std.proofs.lemmas.Cmp.{tied_itself}
use Rattle.std.proofs.lemmas.List.{ext_get_or, get_or-map, length-map}
use Rattle.std.proofs.lemmas.List.FromFn.{get_or-map-range_with_len, length-map-range_with_len}
use Rattle.std.proofs.lemmas.Map.Keys.{Less-from_sorted}
use Rattle.lab_math.proofs.Members.{In, in_get_or}
use Rattle.lab_defs_text.specs.Games.{GameModel}
use Rattle.lab_defs_game.specs.Keys.{count, list_cmp}
use Rattle.lab_defs_game.specs.Histories.{histories}
use Rattle.lab_defs_game.specs.Nodes as nodes
use Rattle.lab_defs_game.specs.Nodes.{begins, node_number, span_from, span_to}
use Rattle.lab_defs_game.specs.Sets.{Item, publics, item_cmp, set_cmp, sets}
use Rattle.lab_defs_game.proofs.GameLemmas.{sets_ascending, nodes_ascending, node_has, set_from, inner_from, publics_seen}
use Rattle.lab_defs_game.proofs.KeyLemmas.{sorted_from_ascending}
use Rattle.lab_defs_game.proofs.NumberLemmas.{passes_at, count_or, count_cong, number_at, at_number, number_below, number_lt, number_same}
use Rattle.lab_defs_game.proofs.Orders.{list_total, list_exact, then_less}
use Rattle.lab_defs_game.proofs.Spans.{list_before_holds, list_within_holds, apart, eq_is, node_sets_are}
use Rattle.lab_form.specs.declared.items.Span.{Span}
use Rattle.lab_tree.specs.declared.info.SetInfo.{SetInfo}
use Rattle.lab_tree.specs.NodeValues.{node_end}
use Rattle.lab_tree.specs.SetValues.{SetsValue, sets_in, start_of, starts_of, sets_between, span_at, AreRising, AreBounds}
use Rattle.lab_tree.specs.Trees.{set_in, set_at, span_in}
use Rattle.lab_form.specs.declared.items.SetId.{SetId}
use Rattle.lab_tree.proofs.StartLemmas.{start_more, start_within}
use Rattle.lab_tree.proofs.NodeLemmas.{end_within}

-- ---- lists

-- what passes among images
pub count_images : {X Y : Type 0} (p : Y → Bool) (f : X → Y) (xs : List X) → count p (map f xs) ≡ count (λ x. p (f x)) xs
count_images p f [] = refl
count_images p f (x ∷ xs) = ap (λ n. cond (p (f x)) 1 0 + n) (count_images p f xs)

-- what passes where just the places from a on, c of them, do
pub filter_between : {X : Type 0} (p : X → Bool) (d : X) (xs : List X) (a c : ℕ) → ((i : ℕ) → i < length xs → (p (get_or xs i d) ≡ true) ↔ ((a ≤ i) × (i < a + c))) → filter p xs ≡ take c (drop a xs)
filter_between {X = X} p d [] a c h = empty a c
  where
    empty : (a c : ℕ) → ◌≡◌ {A = List X} [] (take c (drop a []))
    empty zero zero = refl
    empty zero (suc c) = refl
    empty (suc a) zero = refl
    empty (suc a) (suc c) = refl
filter_between p d (x ∷ xs) (suc a) c h =
    ap (λ b. cond b (x ∷ filter p xs) (filter p xs)) (false_from_ne_true (p x) (λ t. let r = (h 0 (omega arith)).0 t in absurd (omega (arith, r.0))))
    ∙ filter_between p d xs a c (λ i l.
    let r = h (suc i) (omega (arith, l)) in
    (λ t. let q = r.0 t in (omega (arith, q.0), omega (arith, q.1)), λ q. r.1 ((omega (arith, q.0), omega (arith, q.1)))))
filter_between p d (x ∷ xs) zero zero h =
    ap (λ b. cond b (x ∷ filter p xs) (filter p xs)) (false_from_ne_true (p x) (λ t. let r = (h 0 (omega arith)).0 t in absurd (omega (arith, r.1))))
    ∙ filter_between p d xs zero zero (λ i l.
    let r = h (suc i) (omega (arith, l)) in
    (λ t. let q = r.0 t in absurd (omega (arith, q.1)), λ q. absurd (omega (arith, q.1))))
filter_between p d (x ∷ xs) zero (suc c) h =
    ap (λ b. cond b (x ∷ filter p xs) (filter p xs)) ((h 0 (omega arith)).1 ((omega arith, omega arith)))
    ∙ ap (λ ys. x ∷ ys) (filter_between p d xs zero c (λ i l.
    let r = h (suc i) (omega (arith, l)) in
    (λ t. let q = r.0 t in (omega arith, omega (arith, q.1)), λ q. r.1 ((omega arith, omega (arith, q.1))))))

-- images of a part
map_take : {X Y : Type 0} (f : X → Y) (n : ℕ) (xs : List X) → map f (take n xs) ≡ take n (map f xs)
map_take f zero xs = refl
map_take f (suc n) [] = refl
map_take f (suc n) (x ∷ xs) = ap (λ ys. f x ∷ ys) (map_take f n xs)

-- likewise
map_drop : {X Y : Type 0} (f : X → Y) (n : ℕ) (xs : List X) → map f (drop n xs) ≡ drop n (map f xs)
map_drop f zero xs = refl
map_drop f (suc n) [] = refl
map_drop f (suc n) (x ∷ xs) = map_drop f n xs

-- ---- nodes of sets

-- each set stands at a node
pub set_at_node : (g : GameModel) (seat : ℕ) (s : List Item) → In s (sets g seat) → In (publics s) (nodes.nodes g)
set_at_node g seat s i =
    let r = set_from g seat s i in
    subst (λ q. In q (nodes.nodes g)) (sym (publics_seen g seat g.root r.0) ∙ ap publics r.2) (node_has g r.0 (inner_from g r.0 r.1))

module _ (g : GameModel) (seat : ℕ) where
  -- which nodes have numbers below another's
  before_is : (P Q : List ℕ) → In Q (nodes.nodes g) → nat_lt (node_number g Q) (node_number g P) ≡ is_lt (list_cmp Q P)
  before_is P Q i =
      sym (passes_at list_cmp (λ x. is_lt (list_cmp x P)) (list_before_holds P) (nodes.nodes g) (node_number g Q) [] (nodes_ascending g) (number_below list_cmp list_total (nodes.nodes g) Q (nodes_ascending g) i))
      ∙ ap (λ z. is_lt (list_cmp z P)) (at_number list_cmp list_total (nodes.nodes g) Q [] (nodes_ascending g) i)

  -- which have numbers below the end of another's subgame
  within_is : (P Q : List ℕ) → In Q (nodes.nodes g) → nat_lt (node_number g Q) (node_end g P) ≡ (is_lt (list_cmp Q P) || begins P Q)
  within_is P Q i =
      ap (λ n. nat_lt (node_number g Q) n) (sym (count_or (λ x. is_lt (list_cmp x P)) (begins P) (nodes.nodes g) (apart P)))
      ∙ sym (passes_at list_cmp (λ x. is_lt (list_cmp x P) || begins P x) (list_within_holds P) (nodes.nodes g) (node_number g Q) [] (nodes_ascending g) (number_below list_cmp list_total (nodes.nodes g) Q (nodes_ascending g) i))
      ∙ ap (λ z. is_lt (list_cmp z P) || begins P z) (at_number list_cmp list_total (nodes.nodes g) Q [] (nodes_ascending g) i)

  -- which have numbers up to another's
  upto_is : (P Q : List ℕ) → In P (nodes.nodes g) → In Q (nodes.nodes g) → nat_lt (node_number g Q) (node_number g P + 1) ≡ (is_lt (list_cmp Q P) || is_eq (list_cmp Q P))
  upto_is P Q ip iq = at (cases_order (node_number g Q) (node_number g P))
    where
      n : ℕ
      n = node_number g Q

      m : ℕ
      m = node_number g P

      at : (n ≡ m) ⊎ ((n < m) ⊎ (m < n)) → nat_lt n (m + 1) ≡ (is_lt (list_cmp Q P) || is_eq (list_cmp Q P))
      at (inl e) =
          let q = number_same list_cmp list_total (nodes.nodes g) Q P (nodes_ascending g) iq ip e in
          lt-ltb n (m + 1) (omega (arith, e)) ∙ sym (or_right (is_lt (list_cmp Q P)) (is_eq (list_cmp Q P)) (ap (λ z. is_eq (list_cmp z P)) q ∙ ap is_eq (tied_itself list_total P)))
      at (inr (inl l)) =
          lt-ltb n (m + 1) (omega (arith, l)) ∙ sym (or_left (is_lt (list_cmp Q P)) (is_eq (list_cmp Q P)) (sym (before_is P Q iq) ∙ lt-ltb n m l))
      at (inr (inr l)) =
          le-ltb n (m + 1) (omega (arith, l))
          ∙ sym (ap (λ b. b || is_eq (list_cmp Q P)) (sym (before_is P Q iq) ∙ le-ltb n m (omega (arith, l))) ∙ false_from_ne_true (is_eq (list_cmp Q P)) (λ t. absurd (omega (arith, l, ap (node_number g) (list_exact Q P (eq_is (list_cmp Q P) t))))))

  -- the sets of the seat as the program has them
  abbrev pub infos : List SetInfo
  infos = map (set_in g seat) (sets g seat)

  -- how many stand at nodes before a number
  start_is : (n : ℕ) (p : List Item → Bool) → ((s : List Item) → In s (sets g seat) → nat_lt (node_number g (publics s)) n ≡ p s) → start_of infos n ≡ count p (sets g seat)
  start_is n p h = count_images (λ s. nat_lt s.node.0 n) (set_in g seat) (sets g seat) ∙ count_cong (λ s. nat_lt (node_number g (publics s)) n) p (sets g seat) h

  -- before a node
  pub start_at : (P : List ℕ) → start_of infos (node_number g P) ≡ span_from g seat P
  start_at P = start_is (node_number g P) (λ s. is_lt (list_cmp (publics s) P)) (λ s i. before_is P (publics s) (set_at_node g seat s i))

  -- before the end of its subgame
  pub start_end : (P : List ℕ) → start_of infos (node_end g P) ≡ span_to g seat P
  start_end P =
      start_is (node_end g P) (λ s. is_lt (list_cmp (publics s) P) || begins P (publics s)) (λ s i. within_is P (publics s) (set_at_node g seat s i))
      ∙ count_or (λ s. is_lt (list_cmp (publics s) P)) (λ s. begins P (publics s)) (sets g seat) (λ s. apart P (publics s))

  -- before the next node
  start_next : (P : List ℕ) → In P (nodes.nodes g) → start_of infos (node_number g P + 1) ≡ span_from g seat P + count (λ s. is_eq (list_cmp (publics s) P)) (sets g seat)
  start_next P ip =
      start_is (node_number g P + 1) (λ s. is_lt (list_cmp (publics s) P) || is_eq (list_cmp (publics s) P)) (λ s i. upto_is P (publics s) ip (set_at_node g seat s i))
      ∙ count_or (λ s. is_lt (list_cmp (publics s) P)) (λ s. is_eq (list_cmp (publics s) P)) (sets g seat) (λ s. lt_no_eq (publics s))
    where
      lt_no_eq : (Q : List ℕ) → is_lt (list_cmp Q P) ≡ true → is_eq (list_cmp Q P) ≡ false
      lt_no_eq Q t = false_from_ne_true (is_eq (list_cmp Q P)) (λ e. never (sym t ∙ ap (λ z. is_lt (list_cmp z P)) (list_exact Q P (eq_is (list_cmp Q P) e)) ∙ ap is_lt (tied_itself list_total P)))
        where
          never : true ≡ false → ⊥
          never e = cc

  -- no set stands at a node before that of an earlier one
  pub infos_rise : AreRising infos
  infos_rise i j d le lj = at (cases_lt i j)
    where
      long : length infos ≡ length (sets g seat)
      long = length-map (sets g seat) (set_in g seat)

      s : ℕ → List Item
      s k = get_or (sets g seat) k []

      node : (k : ℕ) → k < length infos → (get_or infos k d).node.0 ≡ node_number g (publics (s k))
      node k l = ap (λ (x : SetInfo). x.node.0) (get_or-map (set_in g seat) (sets g seat) k [] d (omega (arith, l, long)))

      there : (k : ℕ) → k < length infos → In (publics (s k)) (nodes.nodes g)
      there k l = set_at_node g seat (s k) (in_get_or (sets g seat) k [] (omega (arith, l, long)))

      cases : (li : i < length infos) → (list_cmp (publics (s i)) (publics (s j)) ≡ Less) ⊎ ((list_cmp (publics (s i)) (publics (s j)) ≡ Equal) × (slice_cmp item_cmp (s i) (s j) ≡ Less))
          → (get_or infos i d).node.0 ≤ (get_or infos j d).node.0
      cases li (inl less) =
          let lt = number_lt list_cmp list_total (nodes.nodes g) (publics (s i)) (publics (s j)) (nodes_ascending g) (there i li) less in
          omega (arith, lt, node i li, node j lj)
      cases li (inr both) =
          let e = ap (node_number g) (list_exact (publics (s i)) (publics (s j)) both.0) in
          omega (arith, e, node i li, node j lj)

      at : (i < j) ⊎ (j ≤ i) → (get_or infos i d).node.0 ≤ (get_or infos j d).node.0
      at (inl l) =
          cases (omega (arith, l, lj)) (then_less (list_cmp (publics (s i)) (publics (s j))) (slice_cmp item_cmp (s i) (s j))
          (Less-from_sorted set_cmp (sets g seat) i j [] (sorted_from_ascending set_cmp (sets g seat) (sets_ascending g seat)) l (omega (arith, lj, long))))
      at (inr l) =
          let e : i ≡ j = omega (arith, l, le) in
          omega (arith, ap (λ k. (get_or infos k d).node.0) e)

  -- ---- by numbers

  -- where the sets of each node start
  abbrev pub starts : List ℕ
  starts = starts_of infos (length (nodes.nodes g))

  -- where the sets of a number start
  pub start_read : (n : ℕ) → n ≤ length (nodes.nodes g) → get_or starts n 0 ≡ start_of infos n
  start_read n l = get_or-map-range_with_len (start_of infos) 0 (length (nodes.nodes g) + 1) n n 0 (omega (arith, l)) (omega arith)

  -- the node with a number
  abbrev node_at : ℕ → List ℕ
  node_at n = get_or (nodes.nodes g) n []

  number_is : (n : ℕ) → n < length (nodes.nodes g) → node_number g (node_at n) ≡ n
  number_is n l = number_at list_cmp list_total (nodes.nodes g) n [] (nodes_ascending g) l

  -- the sets inside subgames
  pub spans_are : (ends : List ℕ) → ends ≡ map (node_end g) (nodes.nodes g) → map (λ n. span_at starts n (get_or ends n 0)) (range_with_len 0 (length ends)) ≡ map (span_in g seat) (nodes.nodes g)
  spans_are ends e =
      ext_get_or (record { from = 0; to = 0 }) (map f (range_with_len 0 (length ends))) (map (span_in g seat) (nodes.nodes g))
      (length-map-range_with_len f 0 (length ends) ∙ long ∙ sym (length-map (nodes.nodes g) (span_in g seat))) each
    where
      f : ℕ → Span
      f n = span_at starts n (get_or ends n 0)

      long : length ends ≡ length (nodes.nodes g)
      long = ap length e ∙ length-map (nodes.nodes g) (node_end g)

      same : (a b c d : ℕ) → a ≡ b → c ≡ d → ◌≡◌ {A = Span} (record { from = a; to = c }) (record { from = b; to = d })
      same a b c d p q = λ i. record { from = p i; to = q i }

      each : (n : ℕ) → n < length (map f (range_with_len 0 (length ends))) → get_or (map f (range_with_len 0 (length ends))) n (record { from = 0; to = 0 }) ≡ get_or (map (span_in g seat) (nodes.nodes g)) n (record { from = 0; to = 0 })
      each n l =
          let le : n < length ends = omega (arith, l, length-map-range_with_len f 0 (length ends)) in
          let ln : n < length (nodes.nodes g) = omega (arith, le, long) in
          let end : get_or ends n 0 ≡ node_end g (node_at n) = ap (λ es. get_or es n 0) e ∙ get_or-map (node_end g) (nodes.nodes g) n [] 0 ln in
          get_or-map-range_with_len f 0 (length ends) n n (record { from = 0; to = 0 }) le (omega arith)
          ∙ same (get_or starts n 0) (span_from g seat (node_at n)) (get_or starts (get_or ends n 0) 0) (span_to g seat (node_at n))
          (start_read n (omega (arith, ln)) ∙ ap (start_of infos) (sym (number_is n ln)) ∙ start_at (node_at n))
          (ap (λ k. get_or starts k 0) end ∙ start_read (node_end g (node_at n)) (end_within (nodes.nodes g) (node_at n)) ∙ start_end (node_at n))
          ∙ sym (get_or-map (span_in g seat) (nodes.nodes g) n [] (record { from = 0; to = 0 }) ln)

  -- the sets at each node
  pub node_sets_between : sets_between infos starts ≡ map (λ p. map (set_in g seat) (nodes.node_sets g seat p)) (nodes.nodes g)
  node_sets_between =
      ext_get_or [] (map f (range_with_len 0 (length starts - 1))) (map h (nodes.nodes g)) (length-map-range_with_len f 0 (length starts - 1) ∙ long ∙ sym (length-map (nodes.nodes g) h)) each
    where
      f : ℕ → List SetInfo
      f n = slice_range infos (get_or starts n 0) (get_or starts (n + 1) 0)

      h : List ℕ → List SetInfo
      h p = map (set_in g seat) (nodes.node_sets g seat p)

      long : length starts - 1 ≡ length (nodes.nodes g)
      long = omega (arith, length-map-range_with_len (start_of infos) 0 (length (nodes.nodes g) + 1))

      each : (n : ℕ) → n < length (map f (range_with_len 0 (length starts - 1))) → get_or (map f (range_with_len 0 (length starts - 1))) n [] ≡ get_or (map h (nodes.nodes g)) n []
      each n l =
          let le : n < length starts - 1 = omega (arith, l, length-map-range_with_len f 0 (length starts - 1)) in
          let ln : n < length (nodes.nodes g) = omega (arith, le, long) in
          let P = node_at n in
          let a = span_from g seat P in
          let c = count (λ s. is_eq (list_cmp (publics s) P)) (sets g seat) in
          let from : get_or starts n 0 ≡ a = start_read n (omega (arith, ln)) ∙ ap (start_of infos) (sym (number_is n ln)) ∙ start_at P in
          let to : get_or starts (n + 1) 0 ≡ a + c =
          start_read (n + 1) (omega (arith, ln)) ∙ ap (λ k. start_of infos (k + 1)) (sym (number_is n ln)) ∙ start_next P (in_get_or (nodes.nodes g) n [] ln) in
          let size : get_or starts (n + 1) 0 - get_or starts n 0 ≡ c = omega (arith, from, to) in
          get_or-map-range_with_len f 0 (length starts - 1) n n [] le (omega arith)
          ∙ ap (λ k. take k (drop (get_or starts n 0) infos)) size ∙ ap (λ k. take c (drop k infos)) from
          ∙ sym (ap (map (set_in g seat)) (filter_between (λ s. is_eq (list_cmp (publics s) P)) [] (sets g seat) a c (λ i l. node_sets_are g seat P i [] l))
          ∙ map_take (set_in g seat) c (drop a (sets g seat)) ∙ ap (take c) (map_drop (set_in g seat) a (sets g seat)))
          ∙ sym (get_or-map h (nodes.nodes g) n [] [] ln)

  -- ---- all together

  pub starts_long : length starts ≡ length (nodes.nodes g) + 1
  starts_long = length-map-range_with_len (start_of infos) 0 (length (nodes.nodes g) + 1)

  -- the ends of subgames are numbers of nodes, or that behind them
  pub ends_below : (ends : List ℕ) → ends ≡ map (node_end g) (nodes.nodes g) → All (λ e. e < length starts) ends
  ends_below ends e i d l =
      let n : i < length (nodes.nodes g) = omega (arith, l, ap length e, length-map (nodes.nodes g) (node_end g)) in
      let end : get_or ends i d ≡ node_end g (node_at i) = ap (λ es. get_or es i d) e ∙ get_or-map (node_end g) (nodes.nodes g) i [] d n in
      omega (arith, end, end_within (nodes.nodes g) (node_at i), starts_long)

  -- the sets of each node end where those of the next one start
  bounds_are : AreBounds infos starts
  bounds_are n l =
      let low : n ≤ length (nodes.nodes g) = omega (arith, l, starts_long) in
      let high : n + 1 ≤ length (nodes.nodes g) = omega (arith, l, starts_long) in (
        omega (arith, start_read n low, start_read (n + 1) high, start_more infos n (n + 1) (omega arith)),
        omega (arith, start_read (n + 1) high, start_within infos (n + 1)),
      )

  module _ (sets : List SetInfo) (begun : List ℕ) (s : sets ≡ infos) (b : begun ≡ starts) where
    pub made_bounds : AreBounds sets begun
    made_bounds = subst (λ (xs : List SetInfo). AreBounds xs begun) (sym s) (subst (λ (ns : List ℕ). AreBounds infos ns) (sym b) bounds_are)

    pub made_value : (of : List (Option SetId)) (ends : List ℕ) (spans : List Span) → of ≡ map (set_at g seat) (histories g) → ends ≡ map (node_end g) (nodes.nodes g)
        → spans ≡ map (λ n. span_at begun n (get_or ends n 0)) (range_with_len 0 (length ends))
        → ◌≡◌ {A = SetsValue} (record { sets = sets; set_of = of; starts = begun; node_sets = sets_between sets begun; spans = spans }) (sets_in g seat)
    made_value of ends spans o e p =
        same (ap (λ xs. sets_between xs begun) s ∙ ap (sets_between infos) b ∙ node_sets_between) (p ∙ ap (λ ns. map (λ n. span_at ns n (get_or ends n 0)) (range_with_len 0 (length ends))) b ∙ spans_are ends e)
      where
        same : sets_between sets begun ≡ map (λ p. map (set_in g seat) (nodes.node_sets g seat p)) (nodes.nodes g) → spans ≡ map (span_in g seat) (nodes.nodes g)
            → ◌≡◌ {A = SetsValue} (record { sets = sets; set_of = of; starts = begun; node_sets = sets_between sets begun; spans = spans }) (sets_in g seat)
        same x y = λ i. record { sets = s i; set_of = o i; starts = b i; node_sets = x i; spans = y i }

-- the sets of a node by where they start
pub between_at : (sets : List SetInfo) (starts : List ℕ) (n : ℕ) → n < length starts - 1 → get_or (sets_between sets starts) n [] ≡ slice_range sets (get_or starts n 0) (get_or starts (n + 1) 0)
between_at sets starts n l = get_or-map-range_with_len (λ n. slice_range sets (get_or starts n 0) (get_or starts (n + 1) 0)) 0 (length starts - 1) n n [] l (omega arith)

-- at how many nodes there are some
pub between_long : (sets : List SetInfo) (starts : List ℕ) → length (sets_between sets starts) ≡ length starts - 1
between_long sets starts = length-map-range_with_len (λ n. slice_range sets (get_or starts n 0) (get_or starts (n + 1) 0)) 0 (length starts - 1)
