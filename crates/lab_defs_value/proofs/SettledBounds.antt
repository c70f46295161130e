-- Settled bounds: the best-response values at the sets inside, what the actions back up at the sets above, and the others as they were.
use Rattle.std.proofs.Common.{◌≡◌, ℕ, suc, ◌<◌, ◌≤◌, ℤ, pos, ◌+ℤ◌, ◌≤ℤ◌, List, [], ◌∷◌, Bool, true, false, cond, ◌||◌, eqb, length, refl, sym, ap, ◌∙◌, subst, arith, inl, inr, ◌⊎◌, eqb-true}
use Rattle.std.specs.Prelude.{slice_index}
use Rattle.std.proofs.lemmas.Bool.{or_cases, both_ways, false_from_ne_true}
use Rattle.lab_math.proofs.BelowLemmas.{eqb_apart, eqb_self, total_below_cong}
use Rattle.lab_math.proofs.Elements.{greatest_range}
use Rattle.lab_defs_text.specs.Texts.{one_of}
use Rattle.lab_defs_game.specs.Paths.{is_taken}
use Rattle.lab_defs_game.specs.Forms.{parent_of}
use Rattle.lab_defs_value.specs.Replies.{Strategy, opponent, reply_sets}
use Rattle.lab_defs_value.specs.BestValues.{IsBest, best_response_value}
use Rattle.lab_defs_value.specs.Bounds.{through, through_rows, Holds, IsBackedAt, Tight}
use Rattle.lab_defs_value.specs.Allowances.{Ascends}
use Rattle.lab_defs_value.specs.Settling.{with_bound, greatest_through, settled_along}
use Rattle.lab_defs_value.specs.Laws.{Sound, IsNear, SettledLaw}
use Rattle.lab_defs_value.proofs.Bests.{follows_after}
use Rattle.lab_defs_value.proofs.BestLaws.{settle_law}
use Rattle.lab_defs_value.proofs.Pools.{step_is}
use Rattle.lab_defs_value.proofs.PureReplies.{best_value_law}

-- ---- bounds that agree

-- what an action backs up depends on the sets that follow it alone
pub through_followers : (s : Strategy) (B C : ℕ → ℤ) (J a : ℕ) → ((K : ℕ) → K < length (reply_sets s) → is_taken (record { set = J; action = a }) (parent_of s.form (opponent s) K) ≡ true → B K ≡ C K)
    → through s B J a ≡ through s C J a
through_followers s B C J a same =
    ap (λ t. t +ℤ through_rows s J a) (total_below_cong (length (reply_sets s)) _ _ (λ K l. at K l (is_taken (record { set = J; action = a }) (parent_of s.form (opponent s) K)) refl))
  where
    at : (K : ℕ) → K < length (reply_sets s) → (b : Bool) → is_taken (record { set = J; action = a }) (parent_of s.form (opponent s) K) ≡ b → cond b (B K) (pos 0) ≡ cond b (C K) (pos 0)
    at K l true e = same K l e
    at K l false e = refl

-- so on later sets alone
through_later : (s : Strategy) → Sound s → (B C : ℕ → ℤ) (J a : ℕ) → ((K : ℕ) → J < K → K < length (reply_sets s) → B K ≡ C K) → through s B J a ≡ through s C J a
through_later s ok B C J a same = through_followers s B C J a (λ K l e. same K (follows_after (reply_sets s) K J a (parent_of s.form (opponent s) K) (ok.parents K l) e) l)

-- being backed up at a set looks at that set and later ones alone
backed_at_same : (s : Strategy) → Sound s → (B C : ℕ → ℤ) (J : ℕ) → B J ≡ C J → ((K : ℕ) → J < K → K < length (reply_sets s) → B K ≡ C K) → IsBackedAt s B J → IsBackedAt s C J
backed_at_same s ok B C J here same h = record {
  bounds = λ a l. subst (λ t. t ≤ℤ C J) (through_later s ok B C J a same) (subst (λ t. through s B J a ≤ℤ t) here (h.bounds a l));
  taken = (h.taken.0, h.taken.1, sym (through_later s ok B C J h.taken.0 same) ∙ h.taken.2 ∙ here);
}

-- ---- one more bound

-- it is the bound at its set
with_here : (B : ℕ → ℤ) (J : ℕ) (b : ℤ) → with_bound B J b J ≡ b
with_here B J b = ap (λ c. cond c b (B J)) (eqb_self J)

-- and the others stay
with_other : (B : ℕ → ℤ) (J : ℕ) (b : ℤ) (I : ℕ) → (I ≡ J → ⊥) → with_bound B J b I ≡ B I
with_other B J b I ne = ap (λ c. cond c b (B I)) (eqb_apart I J ne)

-- a set with the greatest of what its actions back up is backed up
backed_with : (s : Strategy) → Sound s → (B : ℕ → ℤ) (J : ℕ) → J < length (reply_sets s) → IsBackedAt s (with_bound B J (greatest_through s B J)) J
backed_with s ok B J l =
    let top = greatest_through s B J in
    let C = with_bound B J top in
    let n = slice_index (reply_sets s) J in
    let g = greatest_range n (through s B J) (ok.some_action J l) in
    let same : (a : ℕ) → through s B J a ≡ through s C J a = λ a. through_later s ok B C J a (λ K k m. sym (with_other B J top K (λ e. omega (arith, k, e)))) in
    let here : C J ≡ top = with_here B J top in record {
      bounds = λ a k. subst (λ t. t ≤ℤ C J) (same a) (subst (λ t. through s B J a ≤ℤ t) (sym here) (g.0 a k));
      taken = (g.1.0, g.1.1, sym (same g.1.0) ∙ g.1.2 ∙ sym here);
    }

-- ---- along a list of sets

-- where one of two tests or the other is not passed, neither is
neither : (b c : Bool) → (b || c) ≡ false → (b ≡ false) × (c ≡ false)
neither true c e = absurd cc
neither false c e = (refl, e)

-- a set that is none of them keeps its bound
kept_along : (s : Strategy) (above : List ℕ) (B : ℕ → ℤ) (I : ℕ) → one_of above I ≡ false → settled_along s above B I ≡ B I
kept_along s [] B I e = refl
kept_along s (J ∷ above) B I e =
    let C = settled_along s above B in
    let h = neither (eqb J I) (one_of above I) e in
    with_other C J (greatest_through s C J) I (λ same. both_ways (eqb J I) h.0 (ap (λ k. eqb J k) same ∙ eqb_self J)) ∙ kept_along s above B I h.1

-- a number of a list in order is at least the first
not_before : (low n I : ℕ) (list : List ℕ) → Ascends low n list → one_of list I ≡ true → low ≤ I
not_before low n I [] h e = absurd (both_ways false refl e)
not_before low n I (x ∷ xs) h e = elim (or_cases (eqb x I) (one_of xs I) e) [
  | inl q ↦ omega (arith, h.0, eqb-true x I q)
  | inr rest ↦ omega (arith, h.0, not_before (suc x) n I xs h.2 rest)
]

-- each of them is backed up
backed_along : (s : Strategy) → Sound s → (low : ℕ) (above : List ℕ) → Ascends low (length (reply_sets s)) above → (B : ℕ → ℤ) (I : ℕ) → one_of above I ≡ true
    → IsBackedAt s (settled_along s above B) I
backed_along s ok low [] h B I e = absurd (both_ways false refl e)
backed_along s ok low (J ∷ above) h B I e =
    let C = settled_along s above B in
    let top = greatest_through s C J in
    elim (or_cases (eqb J I) (one_of above I) e) [
      | inl q ↦ subst (λ K. IsBackedAt s (with_bound C J top) K) (eqb-true J I q) (backed_with s ok C J h.1)
      | inr rest ↦
          let after = not_before (suc J) (length (reply_sets s)) I above h.2 rest in
          backed_at_same s ok C (with_bound C J top) I (sym (with_other C J top I (λ p. omega (arith, after, p))))
          (λ K k l. sym (with_other C J top K (λ p. omega (arith, after, k, p)))) (backed_along s ok (suc J) above h.2 B I rest)
    ]

-- ---- sets above and inside

module _ (s : Strategy) (ok : Sound s) (above inside : List ℕ) (near : IsNear s above inside) (B : ℕ → ℤ) where
  -- the bounds with those of the sets inside found anew
  abbrev renewed : ℕ → ℤ
  renewed I = cond (one_of inside I) (best_response_value s I) (B I)

  -- and settled
  abbrev settled_bound : ℕ → ℤ
  settled_bound = settled_along s above renewed

  -- a set that is there and lies neither inside nor above
  abbrev IsOff : ℕ → Type 0
  IsOff J = (J < length (reply_sets s)) × ((one_of inside J || one_of above J) ≡ false)

  -- inside they are best-response values
  in_is : (J : ℕ) → one_of inside J ≡ true → settled_bound J ≡ best_response_value s J
  in_is J on = kept_along s above renewed J (near.apart J on) ∙ ap (λ b. cond b (best_response_value s J) (B J)) on

  -- above they are backed up
  above_is : (J : ℕ) → one_of above J ≡ true → IsBackedAt s settled_bound J
  above_is J on = backed_along s ok 0 above near.in_order renewed J on

  -- and elsewhere as they were
  off_is : (J : ℕ) → (one_of inside J || one_of above J) ≡ false → settled_bound J ≡ B J
  off_is J off =
      let h = neither (one_of inside J) (one_of above J) off in
      kept_along s above renewed J h.1 ∙ ap (λ b. cond b (best_response_value s J) (B J)) h.0

  -- what follows a set inside is inside
  follows_inside : (J a K : ℕ) → K < length (reply_sets s) → is_taken (record { set = J; action = a }) (parent_of s.form (opponent s) K) ≡ true → one_of inside J ≡ true → one_of inside K ≡ true
  follows_inside J a K l e on =
      let t = step_is J a (parent_of s.form (opponent s) K) e in
      near.children K t.0 l t.1 (ap (one_of inside) t.2 ∙ on)

  -- what follows a set that is neither inside nor above is neither
  follows_off : (J a K : ℕ) → K < length (reply_sets s) → is_taken (record { set = J; action = a }) (parent_of s.form (opponent s) K) ≡ true → (one_of inside J || one_of above J) ≡ false
      → (one_of inside K || one_of above K) ≡ false
  follows_off J a K l e off =
      let t = step_is J a (parent_of s.form (opponent s) K) e in
      false_from_ne_true (one_of inside K || one_of above K) (λ on.
      both_ways (one_of inside J || one_of above J) off (ap (λ I. one_of inside I || one_of above I) (sym t.2) ∙ near.parents K t.0 l t.1 on))

  -- where the bounds at the other sets hold, the settled bounds hold
  settled_hold : ((J a : ℕ) → IsOff J → a < slice_index (reply_sets s) J → through s B J a ≤ℤ B J) → Holds s settled_bound
  settled_hold keep J a l k = at (one_of inside J) refl (one_of above J) refl
    where
      at : (b : Bool) → one_of inside J ≡ b → (c : Bool) → one_of above J ≡ c → through s settled_bound J a ≤ℤ settled_bound J
      at true p c q =
          let same = through_followers s (best_response_value s) settled_bound J a (λ K m e. sym (in_is K (follows_inside J a K m e p))) in
          subst (λ t. t ≤ℤ settled_bound J) same (subst (λ t. through s (best_response_value s) J a ≤ℤ t) (sym (in_is J p)) ((best_value_law s ok).1.bounds J a l k))
      at false p true q = (above_is J q).bounds a k
      at false p false q =
          let off : (one_of inside J || one_of above J) ≡ false = ap (λ b. b || one_of above J) p ∙ q in
          let same = through_followers s B settled_bound J a (λ K m e. sym (off_is K (follows_off J a K m e off))) in
          subst (λ t. t ≤ℤ settled_bound J) same (subst (λ t. through s B J a ≤ℤ t) (sym (off_is J off)) (keep J a (l, off) k))

  -- where those are tight, the settled bounds are tight
  settled_tight : ((J : ℕ) → IsOff J → IsBest s J (B J)) → Tight s settled_bound
  settled_tight keep = settle_law s ok settled_bound (λ J l. at J l (one_of inside J) refl (one_of above J) refl)
    where
      at : (J : ℕ) → J < length (reply_sets s) → (b : Bool) → one_of inside J ≡ b → (c : Bool) → one_of above J ≡ c → IsBest s J (settled_bound J) ⊎ IsBackedAt s settled_bound J
      at J l true p c q = inl (subst (IsBest s J) (sym (in_is J p)) ((best_value_law s ok).0 J l))
      at J l false p true q = inr (above_is J q)
      at J l false p false q =
          let off : (one_of inside J || one_of above J) ≡ false = ap (λ b. b || one_of above J) p ∙ q in
          inl (subst (IsBest s J) (sym (off_is J off)) (keep J (l, off)))

-- the law of settled bounds
pub settled_law : SettledLaw
settled_law s ok above inside near B = (
  λ J l on. in_is s ok above inside near B J on,
  λ J l on. above_is s ok above inside near B J on,
  λ J off. off_is s ok above inside near B J off.1,
  settled_hold s ok above inside near B,
  settled_tight s ok above inside near B,
)
