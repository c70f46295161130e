-- Histories of which the same is kept are those of one node, set, or class of tokens.
use Rattle.std.proofs.Common.{◌≡◌, ℕ, zero, suc, ◌+◌, ◌<◌, ◌≤◌, List, [], ◌∷◌, length, get_or, cond, map, Bool, true, false, refl, sym, ap, ◌∙◌, arith, inl, inr, ◌⊎◌}
use Rattle.std.specs.Prelude.{◌&&◌}
use Rattle.std.specs.Ordering.{is_eq}
use Rattle.std.proofs.lemmas.Bool.{and_parts, and_from, cases_lt, false_from_ne_true}
use Rattle.std.proofs.lemmas.List.{length-map, get_or-map, ext_get_or}
use Rattle.std.proofs.lemmas.Simd.{map-map}
use Rattle.lab_defs_text.specs.Games.{GameModel}
use Rattle.lab_defs_game.specs.Histories as model
use Rattle.lab_defs_game.specs.Recall.{one_set, owns, same_list, place_of_first}
use Rattle.lab_defs_game.specs.Sets as sets
use Rattle.lab_defs_game.proofs.GameLemmas.{publics_seen}
use Rattle.lab_defs_game.proofs.NumberLemmas.{is_true_or}
use Rattle.lab_defs_game.proofs.Orders.{set_exact}
use Rattle.lab_defs_game.proofs.RecallLemmas.{same_list_from, same_list_is}
use Rattle.lab_defs_game.proofs.Spans.{eq_is}
use Rattle.lab_unfold.proofs.CallerLemmas.{one_set_from}
use Rattle.lab_unfold.specs.Parents.{history_at}
use Rattle.lab_unfold.specs.declared.item.Item.{Item}
use Rattle.lab_unfold.specs.declared.link.Kept.{Kept}
use Rattle.lab_unfold.specs.declared.link.Kept.TheVariants.{Public, Tokens, Whole}
use Rattle.lab_unfold.specs.Firsts.{is_inner, one_node, same_tokens, AreFirsts, node_first, set_first}
use Rattle.lab_unfold.specs.Items.{item_model}
use Rattle.lab_unfold.specs.Links.{IsFirstList, AreFirstLists}
use Rattle.lab_unfold.specs.Traces.{item_in, kept_of, counted, kept_list, trace, traces}
use Rattle.lab_unfold.proofs.TraceLemmas.{trace_counted, trace_none, trace_root, trace_at}

-- ---- the first that passes

-- the place of the first that passes
place_is : (p : model.History → Bool) (hs : List model.History) (f : ℕ) → f < length hs → p (get_or hs f []) ≡ true → ((k : ℕ) → k < f → p (get_or hs k []) ≡ false) → place_of_first p hs ≡ f
place_is p [] f l t n = absurd (omega (arith, l))
place_is p (h ∷ hs) zero l t n = ap (λ b. cond b 0 (place_of_first p hs + 1)) t
place_is p (h ∷ hs) (suc f) l t n =
    ap (λ b. cond b 0 (place_of_first p hs + 1)) (n 0 (omega arith)) ∙ ap (λ n. n + 1) (place_is p hs f (omega (arith, l)) t (λ k lk. n (suc k) (omega (arith, lk)))) ∙ next f
  where
    next : (n : ℕ) → n + 1 ≡ suc n
    next n = omega arith

-- the history with the number 0 has no step
first_history : (g : GameModel) → history_at g 0 ≡ []
first_history g = at g.horizon
  where
    at : (n : ℕ) → get_or (model.with_longer g n ([] ∷ [])) 0 [] ≡ []
    at zero = refl
    at (suc n) = refl

-- nothing is kept of no steps alone
no_items : (g : GameModel) (seat n : ℕ) (kept : Kept) (h : model.History) → kept_list kept (sets.seen_from g seat n h) ≡ [] → h ≡ []
no_items g seat n kept [] e = refl
no_items g seat n kept (s ∷ h) e = absurd (never (kept_of kept (item_in (sets.item_of g seat n s))) (kept_list kept (sets.seen_from g seat (model.outcome_of g n s).next h)) e)
  where
    never : (x : Item) (xs : List Item) → x ∷ xs ≡ [] → ⊥
    never x xs e = cc

-- the first entries with the same list
module _ (g : GameModel) (seat : ℕ) (kept : Kept) (firsts : List ℕ) (all : AreFirstLists (traces g seat kept) firsts) where
  -- as many as histories
  long : length (traces g seat kept) ≡ length (model.histories g)
  long = length-map (model.histories g) (trace g seat kept)

  -- a first entry
  first : (i : ℕ) → i < length (model.histories g) → IsFirstList (traces g seat kept) i (get_or firsts i 0)
  first i l = all.first i (omega (arith, l, long))

  -- of the first entry and the history itself the same is kept
  same : (i : ℕ) → i < length (model.histories g) → trace g seat kept (history_at g (get_or firsts i 0)) ≡ trace g seat kept (history_at g i)
  same i l = let p = first i l in sym (trace_at g seat kept (get_or firsts i 0) (omega (arith, l, p.within))) ∙ p.same ∙ trace_at g seat kept i l

  -- where nothing is kept it is the first of all
  pub root_first : (i : ℕ) → i < length (model.histories g) → trace g seat kept (history_at g i) ≡ [] → get_or firsts i 0 ≡ 0
  root_first i l none = at (cases_lt 0 (get_or firsts i 0))
    where
      at : (0 < get_or firsts i 0) ⊎ (get_or firsts i 0 ≤ 0) → get_or firsts i 0 ≡ 0
      at (inl h) =
          absurd ((first i l).before 0 h (trace_at g seat kept 0 (omega (arith, l)) ∙ ap (trace g seat kept) (first_history g) ∙ trace_root g seat kept ∙ sym none ∙ sym (trace_at g seat kept i l)))
      at (inr h) = omega (arith, h)

  -- where it is no history that counts, it is the first of all, as is the history itself
  both_first : (i : ℕ) → i < length (model.histories g) → counted g kept (history_at g i) ≡ true → trace g seat kept (history_at g (get_or firsts i 0)) ≡ [] → history_at g (get_or firsts i 0) ≡ history_at g i
  both_first i l c e =
      let none = sym (same i l) ∙ e in
      let h = no_items g seat g.root kept (history_at g i) (sym (trace_counted g seat kept (history_at g i) c) ∙ none) in
      ap (history_at g) (root_first i l none) ∙ first_history g ∙ sym h

  -- so the first entry counts
  first_counts : (i : ℕ) → i < length (model.histories g) → counted g kept (history_at g i) ≡ true → counted g kept (history_at g (get_or firsts i 0)) ≡ true
  first_counts i l c = at (is_true_or (counted g kept (history_at g (get_or firsts i 0))))
    where
      at : (counted g kept (history_at g (get_or firsts i 0)) ≡ true) ⊎ (counted g kept (history_at g (get_or firsts i 0)) ≡ false) → counted g kept (history_at g (get_or firsts i 0)) ≡ true
      at (inl t) = t
      at (inr f) = ap (counted g kept) (both_first i l c (trace_none g seat kept (history_at g (get_or firsts i 0)) f)) ∙ c

  -- they are the first histories that are akin, where those of which the same is kept are
  pub are_firsts : (test : model.History → Bool) (akin : model.History → model.History → Bool)
      → ((h : model.History) → test h ≡ true → counted g kept h ≡ true)
      → ((k h : model.History) → counted g kept k ≡ true → counted g kept h ≡ true → kept_list kept (sets.seen g seat k) ≡ kept_list kept (sets.seen g seat h) → akin k h ≡ true)
      → ((k h : model.History) → akin k h ≡ true → (counted g kept k ≡ true) × (counted g kept h ≡ true) × (kept_list kept (sets.seen g seat k) ≡ kept_list kept (sets.seen g seat h)))
      → AreFirsts test akin (model.histories g) firsts
  are_firsts test akin tests alike back = record {
    count = all.count ∙ long;
    below = λ i l. let p = first i l in omega (arith, l, p.within);
    first = λ i l t. sym (first_at i l (tests (history_at g i) t));
  }
    where
      first_at : (i : ℕ) → i < length (model.histories g) → counted g kept (history_at g i) ≡ true → place_of_first (λ k. akin k (history_at g i)) (model.histories g) ≡ get_or firsts i 0
      first_at i l c =
          let p = first i l in
          let f : ℕ = get_or firsts i 0 in
          let cf = first_counts i l c in
          place_is (λ k. akin k (history_at g i)) (model.histories g) f (omega (arith, l, p.within))
          (alike (history_at g f) (history_at g i) cf c (sym (trace_counted g seat kept (history_at g f) cf) ∙ same i l ∙ trace_counted g seat kept (history_at g i) c))
          (λ k lk. false_from_ne_true (akin (history_at g k) (history_at g i)) (λ t.
          let b = back (history_at g k) (history_at g i) t in
          p.before k lk
          (trace_at g seat kept k (omega (arith, l, lk, p.within)) ∙ trace_counted g seat kept (history_at g k) b.0 ∙ b.2 ∙ sym (trace_counted g seat kept (history_at g i) b.1) ∙ sym (trace_at g seat kept i l))))

  -- where a number is told of each history as it is read, these are all that is told
  pub are_told : (f : model.History → ℕ) → ((i : ℕ) → i < length (model.histories g) → get_or firsts i 0 ≡ f (history_at g i)) → firsts ≡ map f (model.histories g)
  are_told f e =
      ext_get_or 0 firsts (map f (model.histories g)) (all.count ∙ long ∙ sym (length-map (model.histories g) f)) (λ i l.
      let below : i < length (model.histories g) = omega (arith, l, all.count, long) in
      e i below ∙ sym (get_or-map f (model.histories g) i [] 0 below))

-- ---- nodes

-- what is kept of a public token
abbrev public_item : ℕ → Item
public_item n = record { action = 0; own = 0; public = n }

-- what is kept tells the public list
publics_kept : (g : GameModel) (h : model.History) → map (λ (x : Item). x.public) (kept_list Public (sets.seen g 1 h)) ≡ sets.public_list g h
publics_kept g h = map-map (λ (x : Item). x.public) (λ x. kept_of Public (item_in x)) (sets.seen g 1 h) ∙ publics_seen g 1 g.root h

-- and is told by it
public_kept : (g : GameModel) (h : model.History) → kept_list Public (sets.seen g 1 h) ≡ map public_item (sets.public_list g h)
public_kept g h = sym (map-map public_item (λ (x : sets.Item). x.public) (sets.seen g 1 h)) ∙ ap (map public_item) (publics_seen g 1 g.root h)

-- the first histories of nodes
nodes_are : (g : GameModel) (firsts : List ℕ) → AreFirstLists (traces g 1 Public) firsts → AreFirsts (λ h. true) (one_node g) (model.histories g) firsts
nodes_are g firsts all =
    are_firsts g 1 Public firsts all (λ h. true) (one_node g) (λ h t. refl)
    (λ k h c d e. same_list_from (sets.public_list g k) (sets.public_list g h) (sym (publics_kept g k) ∙ ap (map (λ (x : Item). x.public)) e ∙ publics_kept g h))
    (λ k h t. (refl, refl, public_kept g k ∙ ap (map public_item) (same_list_is (sets.public_list g k) (sets.public_list g h) t) ∙ sym (public_kept g h)))

-- as they are told
pub nodes_told : (g : GameModel) (firsts : List ℕ) → AreFirstLists (traces g 1 Public) firsts → firsts ≡ map (node_first g) (model.histories g)
nodes_told g firsts all = are_told g 1 Public firsts all (node_first g) (λ i l. (nodes_are g firsts all).first i l refl)

-- ---- sets

-- what is kept is all that is seen
seen_kept : (xs : List sets.Item) → map item_model (kept_list Whole xs) ≡ xs
seen_kept [] = refl
seen_kept (x ∷ xs) = ap (λ t. x ∷ t) (seen_kept xs)

-- the first histories of sets
sets_are : (g : GameModel) (seat : ℕ) (firsts : List ℕ) → AreFirstLists (traces g seat Whole) firsts → AreFirsts (is_inner g) (one_set g seat) (model.histories g) firsts
sets_are g seat firsts all =
    are_firsts g seat Whole firsts all (is_inner g) (one_set g seat) (λ h t. t)
    (λ k h c d e. one_set_from g seat k h c d (sym (seen_kept (sets.seen g seat k)) ∙ ap (map item_model) e ∙ seen_kept (sets.seen g seat h)))
    (λ k h t.
    let p = and_parts (is_inner g k) (is_inner g h && is_eq (sets.set_cmp (sets.seen g seat k) (sets.seen g seat h))) t in
    let q = and_parts (is_inner g h) (is_eq (sets.set_cmp (sets.seen g seat k) (sets.seen g seat h))) p.1 in
    (p.0, q.0, ap (kept_list Whole) (set_exact (sets.seen g seat k) (sets.seen g seat h) (eq_is (sets.set_cmp (sets.seen g seat k) (sets.seen g seat h)) q.1))))

-- as they are told
pub sets_told : (g : GameModel) (seat : ℕ) (firsts : List ℕ) → AreFirstLists (traces g seat Whole) firsts → firsts ≡ map (set_first g seat) (model.histories g)
sets_told g seat firsts all = are_told g seat Whole firsts all (set_first g seat) (λ i l. at i l (is_true_or (is_inner g (history_at g i))))
  where
    at : (i : ℕ) → i < length (model.histories g) → (is_inner g (history_at g i) ≡ true) ⊎ (is_inner g (history_at g i) ≡ false) → get_or firsts i 0 ≡ set_first g seat (history_at g i)
    at i l (inl t) =
        (sets_are g seat firsts all).first i l t
        ∙ ap (λ b. cond b (place_of_first (λ k. one_set g seat k (history_at g i)) (model.histories g)) 0) (sym t)
    at i l (inr f) =
        root_first g seat Whole firsts all i l (trace_none g seat Whole (history_at g i) f)
        ∙ ap (λ b. cond b (place_of_first (λ k. one_set g seat k (history_at g i)) (model.histories g)) 0) (sym f)

-- ---- tokens

-- what is kept tells the private tokens
owns_kept : (xs : List sets.Item) → map (λ (x : Item). x.own) (kept_list Tokens xs) ≡ owns xs
owns_kept xs = map-map (λ (x : Item). x.own) (λ x. kept_of Tokens (item_in x)) xs

-- and the public ones
publics_too : (xs : List sets.Item) → map (λ (x : Item). x.public) (kept_list Tokens xs) ≡ sets.publics xs
publics_too xs = map-map (λ (x : Item). x.public) (λ x. kept_of Tokens (item_in x)) xs

-- and is told by both
tokens_kept : (xs ys : List sets.Item) → owns xs ≡ owns ys → sets.publics xs ≡ sets.publics ys → kept_list Tokens xs ≡ kept_list Tokens ys
tokens_kept [] [] o p = refl
tokens_kept [] (y ∷ ys) o p = absurd cc
tokens_kept (x ∷ xs) [] o p = absurd cc
tokens_kept (x ∷ xs) (y ∷ ys) o p =
    ap (λ n. record { action = 0; own = n; public = x.public } ∷ kept_list Tokens xs) (heads x.own y.own (owns xs) (owns ys) o)
    ∙ ap (λ n. record { action = 0; own = y.own; public = n } ∷ kept_list Tokens xs) (heads x.public y.public (sets.publics xs) (sets.publics ys) p)
    ∙ ap (λ t. record { action = 0; own = y.own; public = y.public } ∷ t)
    (tokens_kept xs ys (tails x.own y.own (owns xs) (owns ys) o) (tails x.public y.public (sets.publics xs) (sets.publics ys) p))
  where
    heads : (m n : ℕ) (ms ns : List ℕ) → m ∷ ms ≡ n ∷ ns → m ≡ n
    heads m n ms ns e = cc

    tails : (m n : ℕ) (ms ns : List ℕ) → m ∷ ms ≡ n ∷ ns → ms ≡ ns
    tails m n ms ns e = cc

-- the first histories with the same tokens
pub tokens_are : (g : GameModel) (seat : ℕ) (firsts : List ℕ) → AreFirstLists (traces g seat Tokens) firsts → AreFirsts (is_inner g) (same_tokens g seat) (model.histories g) firsts
tokens_are g seat firsts all =
    are_firsts g seat Tokens firsts all (is_inner g) (same_tokens g seat) (λ h t. t)
    (λ k h c d e. and_from (is_inner g k) (is_inner g h && (same_list (owns (s k)) (owns (s h)) && same_list (sets.publics (s k)) (sets.publics (s h)))) c
    (and_from (is_inner g h) (same_list (owns (s k)) (owns (s h)) && same_list (sets.publics (s k)) (sets.publics (s h))) d
    (and_from (same_list (owns (s k)) (owns (s h))) (same_list (sets.publics (s k)) (sets.publics (s h)))
    (same_list_from (owns (s k)) (owns (s h)) (sym (owns_kept (s k)) ∙ ap (map (λ (x : Item). x.own)) e ∙ owns_kept (s h)))
    (same_list_from (sets.publics (s k)) (sets.publics (s h)) (sym (publics_too (s k)) ∙ ap (map (λ (x : Item). x.public)) e ∙ publics_too (s h))))))
    (λ k h t.
    let p = and_parts (is_inner g k) (is_inner g h && (same_list (owns (s k)) (owns (s h)) && same_list (sets.publics (s k)) (sets.publics (s h)))) t in
    let q = and_parts (is_inner g h) (same_list (owns (s k)) (owns (s h)) && same_list (sets.publics (s k)) (sets.publics (s h))) p.1 in
    let r = and_parts (same_list (owns (s k)) (owns (s h))) (same_list (sets.publics (s k)) (sets.publics (s h))) q.1 in
    (p.0, q.0, tokens_kept (s k) (s h) (same_list_is (owns (s k)) (owns (s h)) r.0) (same_list_is (sets.publics (s k)) (sets.publics (s h)) r.1)))
  where
    s : model.History → List sets.Item
    s h = sets.seen g seat h
