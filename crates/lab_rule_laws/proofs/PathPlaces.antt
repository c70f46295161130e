-- The sets on the path to a node: the numbers of its last ones, those at the node itself, follow each other.
use Rattle.std.proofs.Common.{◌≡◌, ℕ, ◌+◌, ◌-◌, ◌<◌, ◌≤◌, List, [], ◌∷◌, ◌++◌, true, filter, length, get_or, sym, ap, ◌∙◌, subst, arith, inl, inr, ◌⊎◌, append-nil}
use Rattle.std.specs.List.{range_with_len}
use Rattle.std.specs.Ordering.{nat_cmp, ordering_then}
use Rattle.std.specs.Cmp.Lexicographic.{slice_cmp}
use Rattle.std.specs.declared.cmp.Ordering.TheVariants.{Less}
use Rattle.std.proofs.lemmas.Bool.{cases_lt}
use Rattle.std.proofs.lemmas.Cmp.{nat_cmp_total}
use Rattle.std.proofs.lemmas.List.{get_or-map, length-map, length-append, get_or-append-add}
use Rattle.std.proofs.lemmas.List.FromFn.{get_or-range_with_len, length-range_with_len}
use Rattle.lab_math.proofs.Members.{In, in_get_or, in_append_left, in_append_right, in_append_cases, in_filter, in_from_filter, in_from_map, in_range, in_from_range}
use Rattle.lab_defs_text.specs.Games.{GameModel}
use Rattle.lab_defs_game.specs.Keys.{list_cmp}
use Rattle.lab_defs_game.specs.Sets.{Item, item_cmp, publics, set_cmp, sets, set_number}
use Rattle.lab_defs_game.specs.Nodes.{begins, path, path_sets, node_sets, root_sets, public_of, span_from, span_to}
use Rattle.lab_defs_game.proofs.KeyLemmas.{ascending_same, filter_ascending}
use Rattle.lab_defs_game.proofs.NumberLemmas.{at_number, number_at, number_below, number_lt}
use Rattle.lab_defs_game.proofs.Orders.{set_total, prefix_less}
use Rattle.lab_defs_game.proofs.HistoryOrder.{ascending_append, nat_cmp-less, range_ascending}
use Rattle.lab_defs_game.proofs.GameLemmas.{sets_ascending}
use Rattle.lab_defs_game.proofs.Spans.{span_is}
use Rattle.lab_defs_game.proofs.TreeLaws.{node_set_law, begins_law}
use Rattle.lab_defs_game.proofs.SetNumbers.{begins_itself, path_sets_are, root_sets_between}
use Rattle.lab_defs_game.proofs.Ways.{path_has}

module _ (g : GameModel) (seat : ℕ) (node : List ℕ) where
  -- how many sets are on the path, and how many of them at the node
  abbrev pub on_path : ℕ
  on_path = length (path g seat node)

  abbrev pub at_node : ℕ
  at_node = length (node_sets g seat node)

  -- the set at a place of the path, and its number
  abbrev pub path_at : ℕ → List Item
  path_at i = get_or (path g seat node) i []

  abbrev pub number_of_place : ℕ → ℕ
  number_of_place i = set_number g seat (path_at i)

  -- it is a set whose public list begins the node's
  pub path_there : (i : ℕ) → i < on_path → In (path_at i) (sets g seat) × (begins (publics (path_at i)) node ≡ true)
  path_there i l = path_has g seat node (path_at i) (in_get_or (path g seat node) i [] l)

  -- its number is that of a set, and names it
  pub place_low : (i : ℕ) → i < on_path → number_of_place i < length (sets g seat)
  place_low i l = number_below set_cmp set_total (sets g seat) (path_at i) (sets_ascending g seat) (path_there i l).0

  pub place_named : (i : ℕ) → i < on_path → get_or (sets g seat) (number_of_place i) [] ≡ path_at i
  place_named i l = at_number set_cmp set_total (sets g seat) (path_at i) [] (sets_ascending g seat) (path_there i l).0

  -- it is that of the list of numbers
  pub place_listed : (i : ℕ) → i < on_path → get_or (path_sets g seat node) i 0 ≡ number_of_place i
  place_listed i l = get_or-map (set_number g seat) (path g seat node) i [] 0 l

  -- a set at the node is one, and inside
  pub root_there : (j : ℕ) → j < at_node → (span_from g seat node + j < length (sets g seat)) × (span_from g seat node + j < span_to g seat node)
  root_there j l =
      let J : ℕ = span_from g seat node + j in
      let on : In J (root_sets g seat node) = subst (In J) (sym (root_sets_between g seat node)) (in_range J (span_from g seat node) at_node (omega arith) (omega (arith, l))) in
      let s = in_from_map (set_number g seat) (node_sets g seat node) J on in
      let there = in_from_filter _ (sets g seat) s.0 s.1 in
      let low : J < length (sets g seat) = subst (λ n. n < length (sets g seat)) s.2 (number_below set_cmp set_total (sets g seat) s.0 (sets_ascending g seat) there.0) in
      let here = (node_set_law g seat node J low).1 (omega arith, omega (arith, l)) in
      (low, ((span_is g seat node J [] low).0 (ap (begins node) here ∙ begins_itself node)).1)

  -- ---- the order of the path

  -- a set on the path is at the node, or before each set there
  path_cases : 1 ≤ at_node → (I : ℕ) → I < length (sets g seat) → begins (public_of g seat I) node ≡ true → (I < span_from g seat node) ⊎ ((span_from g seat node ≤ I) × (I < span_from g seat node + at_node))
  path_cases some I l b =
      let r = (begins_law (public_of g seat I) node).0 b in
      by r.0 r.1
    where
      first : ℕ
      first = span_from g seat node

      low : first < length (sets g seat)
      low = let there = root_there 0 some in omega (arith, there.0)

      here : publics (get_or (sets g seat) first []) ≡ node
      here = (node_set_law g seat node first low).1 (omega arith, omega (arith, some))

      by : (rest : List ℕ) → node ≡ public_of g seat I ++ rest → (I < first) ⊎ ((first ≤ I) × (I < first + at_node))
      by [] e = inr ((node_set_law g seat node I l).0 (sym (e ∙ append-nil (public_of g seat I))))
      by (x ∷ rest) e =
          let s = get_or (sets g seat) I [] in
          let root = get_or (sets g seat) first [] in
          let public : list_cmp (publics s) (publics root) ≡ Less = ap (list_cmp (publics s)) (here ∙ e) ∙ prefix_less nat_cmp_total (publics s) x rest in
          let less = number_lt set_cmp set_total (sets g seat) s root (sets_ascending g seat) (in_get_or (sets g seat) I [] l) (ap (λ c. ordering_then c (slice_cmp item_cmp s root)) public) in
          let one = number_at set_cmp set_total (sets g seat) I [] (sets_ascending g seat) l in
          let two = number_at set_cmp set_total (sets g seat) first [] (sets_ascending g seat) low in
          inl (omega (arith, less, one, two))

  -- the numbers of the sets above the node
  abbrev above_sets : List ℕ
  above_sets = filter (λ I. begins (public_of g seat I) node) (range_with_len 0 (span_from g seat node))

  -- those of the sets at the node come after them
  path_split : 1 ≤ at_node → path_sets g seat node ≡ above_sets ++ range_with_len (span_from g seat node) at_node
  path_split some =
      let test = λ (I : ℕ). begins (public_of g seat I) node in
      let n = length (sets g seat) in
      let from = span_from g seat node in
      let low : from + (at_node - 1) < n = (root_there (at_node - 1) (omega (arith, some))).0 in
      path_sets_are g seat node
      ∙ ascending_same nat_cmp nat_cmp_total (filter test (range_with_len 0 n)) (above_sets ++ range_with_len from at_node)
      (filter_ascending nat_cmp test (range_with_len 0 n) (range_ascending 0 n))
      (ascending_append nat_cmp above_sets (range_with_len from at_node) (filter_ascending nat_cmp test (range_with_len 0 from) (range_ascending 0 from)) (range_ascending from at_node)
      (λ x y i j. nat_cmp-less x y (omega (arith, (in_from_range x 0 from (in_from_filter test (range_with_len 0 from) x i).0).1, (in_from_range y from at_node j).0))))
      (λ I i. let k = in_from_filter test (range_with_len 0 n) I i in
      elim (path_cases some I (omega (arith, (in_from_range I 0 n k.0).1)) k.1) [
        | inl l ↦ in_append_left above_sets (range_with_len from at_node) I (in_filter test (range_with_len 0 from) I (in_range I 0 from (omega arith) (omega (arith, l))) k.1)
        | inr r ↦ in_append_right above_sets (range_with_len from at_node) I (in_range I from at_node r.0 r.1)
      ])
      (λ I i. elim (in_append_cases above_sets (range_with_len from at_node) I i) [
        | inl a ↦
            let k = in_from_filter test (range_with_len 0 from) I a in
            in_filter test (range_with_len 0 n) I (in_range I 0 n (omega arith) (omega (arith, (in_from_range I 0 from k.0).1, low))) k.1
        | inr b ↦
            let r = in_from_range I from at_node b in
            let l : I < n = omega (arith, r.1, low, some) in
            in_filter test (range_with_len 0 n) I (in_range I 0 n (omega arith) (omega (arith, l)))
            (ap (λ ns. begins ns node) ((node_set_law g seat node I l).1 r) ∙ begins_itself node)
      ])

  -- so the last sets on the path are those at the node
  pub above_many : 1 ≤ at_node → on_path ≡ length above_sets + at_node
  above_many some =
      sym (length-map (path g seat node) (set_number g seat)) ∙ ap length (path_split some) ∙ length-append above_sets (range_with_len (span_from g seat node) at_node)
      ∙ ap (λ n. length above_sets + n) (length-range_with_len (span_from g seat node) at_node)

  -- with their numbers
  pub root_place : 1 ≤ at_node → (j : ℕ) → j < at_node → number_of_place (on_path - at_node + j) ≡ span_from g seat node + j
  root_place some j l =
      let many = above_many some in
      let place : on_path - at_node + j ≡ length above_sets + j = omega (arith, many) in
      sym (place_listed (on_path - at_node + j) (omega (arith, many, l)))
      ∙ ap (λ ns. get_or ns (on_path - at_node + j) 0) (path_split some) ∙ ap (λ i. get_or (above_sets ++ range_with_len (span_from g seat node) at_node) i 0) place
      ∙ get_or-append-add above_sets (range_with_len (span_from g seat node) at_node) j 0
      ∙ get_or-range_with_len (span_from g seat node) at_node j 0 l

  -- and a set on the path that is not at the node comes before them
  pub place_above : 1 ≤ at_node → (i : ℕ) → i < on_path → (publics (path_at i) ≡ node → ⊥) → i < on_path - at_node
  place_above some i l off = elim (cases_lt i (on_path - at_node)) [
    | inl less ↦ less
    | inr ge ↦
        let j : ℕ = i - (on_path - at_node) in
        let many = above_many some in
        let low : j < at_node = omega (arith, ge, l, many) in
        let place : on_path - at_node + j ≡ i = omega (arith, ge) in
        let number = ap number_of_place (sym place) ∙ root_place some j low in
        let there = root_there j low in
        absurd (off (ap publics (sym (place_named i l)) ∙ ap (λ I. publics (get_or (sets g seat) I [])) number
        ∙ (node_set_law g seat node (span_from g seat node + j) there.0).1 (omega arith, omega (arith, low))))
  ]
