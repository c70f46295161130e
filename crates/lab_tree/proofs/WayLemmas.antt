-- Ways to nodes: what stands on one is what stands on the way up, with what stands at the node.
use Rattle.std.proofs.Common.{◌≡◌, ℕ, zero, suc, ◌+◌, ◌-◌, ◌<◌, ◌≤◌, List, [], ◌∷◌, ◌++◌, length, take, drop, get_or, Option, Some, None, refl, sym, ap, ◌∙◌, subst, arith}
use Rattle.std.specs.Prelude.{slice_index, slice_range}
use Rattle.std.proofs.lemmas.List.{length-append, get_or_append_left, get_or-append-add, get_or_push, get_or-take, get_or-drop, drop_more, take_more, length-drop, length-take-le}
use Rattle.lab_tree.specs.declared.info.NodeId.{NodeId}
use Rattle.lab_tree.specs.Ways.{built, IsBefore, AreWays, way_before, path_next, all_paths, path_in, base_next, bases_of}

-- ---- lists made one by one

module _ {X Y : Type 0} (step : ℕ → List Y → X → Y) where
  -- as many as there are to make
  pub built_length : (done : List Y) (xs : List X) → length (built step done xs) ≡ length done + length xs
  built_length done [] = omega arith
  built_length done (x ∷ xs) =
      let y = step (length done) done x in
      omega (arith, built_length (done ++ y ∷ []) xs, length-append done (y ∷ []))

  -- what is made stays
  built_keeps : (done : List Y) (xs : List X) (k : ℕ) (d : Y) → k < length done → get_or (built step done xs) k d ≡ get_or done k d
  built_keeps done [] k d l = refl
  built_keeps done (x ∷ xs) k d l =
      let y = step (length done) done x in
      built_keeps (done ++ y ∷ []) xs k d (omega (arith, l, length-append done (y ∷ []))) ∙ get_or_append_left done (y ∷ []) d k l

  -- each element is made from those before it, however many more there are
  pub built_at : (done : List Y) (xs : List X) (j : ℕ) (d : Y) (e : X) → j < length xs
      → ((ys zs : List Y) → ((k : ℕ) (d : Y) → k < length done + j → get_or ys k d ≡ get_or zs k d) → step (length done + j) ys (get_or xs j e) ≡ step (length done + j) zs (get_or xs j e))
      → get_or (built step done xs) (length done + j) d ≡ step (length done + j) (built step done xs) (get_or xs j e)
  built_at done [] j d e l same = absurd (omega (arith, l))
  built_at done (x ∷ xs) zero d e l same =
      let y = step (length done) done x in
      let none : length done + 0 ≡ length done = omega arith in
      let all = built step (done ++ y ∷ []) xs in
      let long = length-append done (y ∷ []) in
      ap (λ n. get_or all n d) none ∙ built_keeps (done ++ y ∷ []) xs (length done) d (omega (arith, long)) ∙ get_or_push done y d (length done) refl
      ∙ ap (λ n. step n done x) (sym none)
      ∙ same done all (λ k d b. sym (built_keeps (done ++ y ∷ []) xs k d (omega (arith, b, long)) ∙ get_or_append_left done (y ∷ []) d k (omega (arith, b))))
  built_at done (x ∷ xs) (suc j) d e l same =
      let y = step (length done) done x in
      let long = length-append done (y ∷ []) in
      let on : length (done ++ y ∷ []) + j ≡ length done + suc j = omega (arith, long) in
      let all = built step (done ++ y ∷ []) xs in
      subst (λ n. get_or all n d ≡ step n all (get_or xs j e)) on
      (built_at (done ++ y ∷ []) xs j d e (omega (arith, l))
      (λ ys zs h. subst (λ n. step n ys (get_or xs j e) ≡ step n zs (get_or xs j e)) (sym on) (same ys zs (λ k d b. h k d (omega (arith, b, on))))))

-- ---- ways

module _ {X : Type 0} (items : List X) (starts : List ℕ) (parents : List (Option NodeId)) (ok : AreWays (length items) starts parents) where
  -- a path is the way up, and what stands at the node
  pub path_is : (n : ℕ) → n < length parents → path_in items starts parents n ≡ path_next items starts n (all_paths items starts parents) (get_or parents n None)
  path_is n l =
      let none : 0 + n ≡ n = omega arith in
      subst (λ k. get_or (all_paths items starts parents) k [] ≡ path_next items starts k (all_paths items starts parents) (get_or parents n None)) none
      (built_at (path_next items starts) [] parents n [] None l (λ ys zs h. ap (λ b. b ++ slice_range items (slice_index starts (0 + n)) (slice_index starts (0 + n + 1))) (at ys zs h (get_or parents n None) (ok.before n l))))
    where
      at : (ys zs : List (List X)) → ((k : ℕ) (d : List X) → k < 0 + n → get_or ys k d ≡ get_or zs k d) → (p : Option NodeId) → IsBefore n p → way_before ys p ≡ way_before zs p
      at ys zs h None b = refl
      at ys zs h (Some p) b = h p.0 [] (omega (arith, b))

  -- how many stand on the way up
  pub base_is : (n : ℕ) → n < length parents → slice_index (bases_of starts parents) n ≡ base_next starts n (bases_of starts parents) (get_or parents n None)
  base_is n l =
      let none : 0 + n ≡ n = omega arith in
      subst (λ k. get_or (bases_of starts parents) k 0 ≡ base_next starts k (bases_of starts parents) (get_or parents n None)) none
      (built_at (base_next starts) [] parents n 0 None l (λ ys zs h. at ys zs h (get_or parents n None) (ok.before n l)))
    where
      at : (ys zs : List ℕ) → ((k : ℕ) (d : ℕ) → k < 0 + n → get_or ys k d ≡ get_or zs k d) → (p : Option NodeId) → IsBefore n p → base_next starts (0 + n) ys p ≡ base_next starts (0 + n) zs p
      at ys zs h None b = refl
      at ys zs h (Some p) b = ap (λ m. m + (slice_index starts (p.0 + 1) - slice_index starts p.0)) (h p.0 0 (omega (arith, b)))

  -- how many stand at a node
  at_length : (n : ℕ) → n < length parents → length (slice_range items (slice_index starts n) (slice_index starts (n + 1))) ≡ slice_index starts (n + 1) - slice_index starts n
  at_length n l =
      let a = slice_index starts n in
      let b = slice_index starts (n + 1) in
      let up : a ≤ b = ok.rise n (n + 1) 0 (omega arith) (omega (arith, l, ok.long)) in
      let end : b ≤ length items = ok.end (n + 1) (omega (arith, l, ok.long)) in
      length-take-le (b - a) (drop a items) (omega (arith, up, end, length-drop a items))

  -- the way up has as many as its base says, and the whole path those at the node besides
  lengths : (m n : ℕ) → n < m → n < length parents
      → (length (way_before (all_paths items starts parents) (get_or parents n None)) ≡ slice_index (bases_of starts parents) n)
      × (length (path_in items starts parents n) ≡ slice_index (bases_of starts parents) n + (slice_index starts (n + 1) - slice_index starts n))
  lengths zero n b l = absurd (omega (arith, b))
  lengths (suc m) n b l =
      let up = at (get_or parents n None) (ok.before n l) (λ k c d. (lengths m k c d).1) ∙ sym (base_is n l) in
      let both = length-append (way_before (all_paths items starts parents) (get_or parents n None)) (slice_range items (slice_index starts n) (slice_index starts (n + 1))) in
      (up, ap length (path_is n l) ∙ both ∙ ap (λ k. k + length (slice_range items (slice_index starts n) (slice_index starts (n + 1)))) up ∙ ap (λ k. slice_index (bases_of starts parents) n + k) (at_length n l))
    where
      at : (p : Option NodeId) → IsBefore n p
          → ((k : ℕ) → k < m → k < length parents → length (path_in items starts parents k) ≡ slice_index (bases_of starts parents) k + (slice_index starts (k + 1) - slice_index starts k))
          → length (way_before (all_paths items starts parents) p) ≡ base_next starts n (bases_of starts parents) p
      at None c rest = refl
      at (Some p) c rest = rest p.0 (omega (arith, b, c)) (omega (arith, c, l))

  -- the length of a way up
  pub way_length : (n : ℕ) → n < length parents → length (way_before (all_paths items starts parents) (get_or parents n None)) ≡ slice_index (bases_of starts parents) n
  way_length n l = (lengths (suc n) n (omega arith) l).0

  -- the length of a path
  pub path_length : (n : ℕ) → n < length parents → length (path_in items starts parents n) ≡ slice_index (bases_of starts parents) n + (slice_index starts (n + 1) - slice_index starts n)
  path_length n l = (lengths (suc n) n (omega arith) l).1

  -- an item that stands on the way up stands on the path to the node before
  pub step_up : (n i : ℕ) (p : NodeId) (d : X) → n < length parents → get_or parents n None ≡ Some p → i < slice_index (bases_of starts parents) n
      → (get_or (path_in items starts parents n) i d ≡ get_or (path_in items starts parents p.0) i d) × (i < length (path_in items starts parents p.0)) × (p.0 < n)
  step_up n i p d l e b =
      let up = ap (way_before (all_paths items starts parents)) e in
      let long : i < length (path_in items starts parents p.0) = omega (arith, b, way_length n l, ap length up) in
      let whole = path_is n l ∙ ap (λ w. w ++ slice_range items (slice_index starts n) (slice_index starts (n + 1))) up in (
        ap (λ xs. get_or xs i d) whole ∙ get_or_append_left (path_in items starts parents p.0) (slice_range items (slice_index starts n) (slice_index starts (n + 1))) d i long,
        long,
        subst (IsBefore n) e (ok.before n l),
      )

  -- with no node before, none stands on the way up
  pub no_up : (n i : ℕ) → n < length parents → ((p : NodeId) → get_or parents n None ≡ Some p → ⊥) → i < slice_index (bases_of starts parents) n → ⊥
  no_up n i l h b = at (get_or parents n None) refl
    where
      at : (o : Option NodeId) → get_or parents n None ≡ o → ⊥
      at None e = let none = ap (λ o. length (way_before (all_paths items starts parents) o)) e in absurd (omega (arith, b, way_length n l, none))
      at (Some p) e = h p e

  -- an item that stands at the node itself
  pub item_here : (n i : ℕ) (d : X) → n < length parents → slice_index (bases_of starts parents) n ≤ i → i < length (path_in items starts parents n)
      → (get_or (path_in items starts parents n) i d ≡ get_or items (slice_index starts n + (i - slice_index (bases_of starts parents) n)) d)
      × (slice_index starts n + (i - slice_index (bases_of starts parents) n) < length items)
      × (slice_index starts n + (i - slice_index (bases_of starts parents) n) < slice_index starts (n + 1))
  item_here n i d l lo hi =
      let a = slice_index starts n in
      let b = slice_index starts (n + 1) in
      let base = slice_index (bases_of starts parents) n in
      let j = i - base in
      let way = way_before (all_paths items starts parents) (get_or parents n None) in
      let long = way_length n l in
      let up : a ≤ b = ok.rise n (n + 1) 0 (omega arith) (omega (arith, l, ok.long)) in
      let end : b ≤ length items = ok.end (n + 1) (omega (arith, l, ok.long)) in
      let within : j < b - a = omega (arith, lo, hi, path_length n l) in
      let at : length way + j ≡ i = omega (arith, long, lo) in (
        ap (λ xs. get_or xs i d) (path_is n l) ∙ ap (λ k. get_or (way ++ slice_range items a b) k d) (sym at) ∙ get_or-append-add way (slice_range items a b) j d
            ∙ get_or-take (b - a) (drop a items) j d within ∙ get_or-drop a items j d,
        omega (arith, within, up, end),
        omega (arith, within, up),
      )

  -- there are as many bases as nodes
  pub bases_length : length (bases_of starts parents) ≡ length parents
  bases_length = omega (arith, built_length (base_next starts) [] parents)

  -- no more stand on the way up than at nodes before
  pub base_small : (m n : ℕ) → n < m → n < length parents → slice_index (bases_of starts parents) n ≤ slice_index starts n
  base_small zero n b l = absurd (omega (arith, b))
  base_small (suc m) n b l = subst (λ k. k ≤ slice_index starts n) (sym (base_is n l)) (at (get_or parents n None) (ok.before n l) (λ k c d. base_small m k c d))
    where
      at : (p : Option NodeId) → IsBefore n p → ((k : ℕ) → k < m → k < length parents → slice_index (bases_of starts parents) k ≤ slice_index starts k) → base_next starts n (bases_of starts parents) p ≤ slice_index starts n
      at None c rest = omega arith
      at (Some p) c rest =
          let up = ok.rise (p.0 + 1) n 0 (omega (arith, c)) (omega (arith, l, ok.long)) in
          let step = ok.rise p.0 (p.0 + 1) 0 (omega arith) (omega (arith, c, l, ok.long)) in
          omega (arith, up, step, rest p.0 (omega (arith, b, c)) (omega (arith, c, l)))

  -- so a path has no more than stand at nodes up to its own
  pub path_small : (n : ℕ) → n < length parents → slice_index (bases_of starts parents) n + (slice_index starts (n + 1) - slice_index starts n) ≤ slice_index starts (n + 1)
  path_small n l = omega (arith, base_small (suc n) n (omega arith) l, ok.rise n (n + 1) 0 (omega arith) (omega (arith, l, ok.long)))

-- ---- parts of lists

-- the first of a part
pub range_first : {X : Type 0} (xs : List X) (a b : ℕ) (x : X) → a < b → b ≤ length xs → ((d : X) → get_or xs a d ≡ x) → slice_range xs a b ≡ x ∷ slice_range xs (a + 1) b
range_first xs a b x l e h =
    let more : b - a ≡ suc (b - (a + 1)) = omega (arith, l) in
    ap (λ n. take n (drop a xs)) more ∙ ap (take (suc (b - (a + 1)))) (drop_more xs a x (omega (arith, l, e))) ∙ ap (λ y. y ∷ take (b - (a + 1)) (drop (a + 1) xs)) (h x)

-- the last of a part
pub range_last : {X : Type 0} (xs : List X) (a b : ℕ) (x : X) → a < b → b ≤ length xs → ((d : X) → get_or xs (b - 1) d ≡ x) → slice_range xs a b ≡ slice_range xs a (b - 1) ++ x ∷ []
range_last xs a b x l e h =
    let more : b - a ≡ b - 1 - a + 1 = omega (arith, l) in
    let at : a + (b - 1 - a) ≡ b - 1 = omega (arith, l) in
    ap (λ n. take n (drop a xs)) more ∙ take_more (drop a xs) (b - 1 - a) x (omega (arith, l, e, length-drop a xs))
    ∙ ap (λ y. take (b - 1 - a) (drop a xs) ++ y ∷ []) (get_or-drop a xs (b - 1 - a) x ∙ ap (λ n. get_or xs n x) at ∙ h x)

-- the whole of a list
pub range_whole : {X : Type 0} (xs : List X) (n : ℕ) → n ≡ length xs → slice_range xs 0 n ≡ xs
range_whole [] n e = ap (λ k. take (k - 0) []) e
range_whole (x ∷ xs) n e =
    let long : n - 0 ≡ suc (length xs) = omega (arith, e) in
    let rest : length xs ≡ length xs - 0 = omega arith in
    ap (λ k. take k (x ∷ xs)) long ∙ ap (λ k. x ∷ take k xs) rest ∙ ap (λ t. x ∷ t) (range_whole xs (length xs) refl)
