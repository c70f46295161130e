-- Each reason why a game is not unfolded comes exactly where it is said to.
use Rattle.std.proofs.Common.{◌≡◌, ℕ, zero, suc, ◌+◌, ◌^◌, ◌<◌, ◌≤◌, List, [], ◌∷◌, ◌++◌, length, Bool, true, false, cond, Option, Some, None, refl, sym, ap, ◌∙◌, subst, arith, inl, inr, ◌⊎◌, ◌↔◌}
use Rattle.std.specs.Prelude.{nat_lt}
use Rattle.std.specs.declared.cmp.Ordering.TheVariants.{Less, Equal}
use Rattle.std.proofs.lemmas.Bool.{lt-ltb, le-ltb, ltb-true, ltb-false, cases_lt}
use Rattle.std.proofs.lemmas.Cmp.{tied_itself}
use Rattle.lab_math.proofs.Members.{In, all_in, in_from_map, in_from_flat_map, in_from_contains, contains_from_in}
use Rattle.lab_defs_text.specs.Games.{GameModel}
use Rattle.lab_defs_text.specs.Texts.{is_world}
use Rattle.lab_defs_game.specs.Histories.{History, place_of, reached, steps_of, longer, histories}
use Rattle.lab_defs_game.specs.Sets.{most_decisions}
use Rattle.lab_defs_game.specs.Chance.{scale}
use Rattle.lab_defs_game.specs.Unfolding.{UnfoldFault, too_many_histories, horizon_passed, size_passed, history_limit, standing, history_count, first_too_many, first_world, top_payoff, size, told_scale, unfold_fault}
use Rattle.lab_defs_game.specs.Laws.{IsLegal, history_cmp, IsFew, IsOpen, TooManyLaw, HorizonLaw, SizePassedLaw, AcceptedLaw}
use Rattle.lab_defs_game.proofs.KeyLemmas.{Ascending}
use Rattle.lab_defs_game.proofs.Legal.{legal_history, legal_push, step_from, length_push}
use Rattle.lab_defs_game.proofs.HistoryOrder.{history_total, level_ascending}
use Rattle.lab_defs_game.proofs.HistoryCounts.{level, found_first, first_found}
use Rattle.lab_defs_game.proofs.FormLemmas.{first_open, first_world_is, in_level, none_open}
use Rattle.lab_defs_game.proofs.RecallLemmas.{not_both}

-- ---- depths

-- where no depth is found, up to none are the histories too many
none_found : (g : GameModel) (n t : ℕ) → first_too_many g t n ≡ None → (s : ℕ) → t ≤ s → s < t + n → history_count g s ≤ history_limit
none_found g zero t e s lo hi = absurd (omega (arith, lo, hi))
none_found g (suc n) t e s lo hi = at (nat_lt history_limit (history_count g t)) refl e (cases_lt t s) (λ f l. none_found g n (t + 1) f s (omega (arith, l)) (omega (arith, hi)))
  where
    never : ◌≡◌ {A = Option ℕ} (Some t) None → ⊥
    never e = cc

    at : (b : Bool) → nat_lt history_limit (history_count g t) ≡ b → ◌≡◌ {A = Option ℕ} (elim b [ true ↦ Some t | false ↦ first_too_many g (t + 1) n ]) None → (t < s) ⊎ (s ≤ t)
        → (first_too_many g (t + 1) n ≡ None → t < s → history_count g s ≤ history_limit) → history_count g s ≤ history_limit
    at true q f c rest = absurd (never f)
    at false q f (inl l) rest = rest f l
    at false q f (inr l) rest = let st : t ≡ s = omega (arith, lo, l) in subst (λ x. history_count g x ≤ history_limit) st (ltb-false history_limit (history_count g t) q)

-- the histories are few exactly where no depth is found
pub few_is : (g : GameModel) → IsFew g ↔ (first_too_many g 0 (g.horizon + 1) ≡ None)
few_is g = (there, λ e t l. none_found g (g.horizon + 1) 0 e t (omega arith) (omega (arith, l)))
  where
    pick : (o : Option ℕ) → first_too_many g 0 (g.horizon + 1) ≡ o → IsFew g → o ≡ None
    pick None e few = refl
    pick (Some d) e few = let r = found_first g (g.horizon + 1) 0 d e in let le = few d (omega (arith, r.1)) in absurd (omega (arith, r.2.0, le))

    there : IsFew g → first_too_many g 0 (g.horizon + 1) ≡ None
    there few = pick (first_too_many g 0 (g.horizon + 1)) refl few

-- ---- open histories

-- what is at a level is legal, and has its number of steps
level_legal : (g : GameModel) (t : ℕ) (h : History) → In h (level g t) → IsLegal g g.root h × (length h ≡ t)
level_legal g zero h (inl e) = subst (λ x. IsLegal g g.root x × (length x ≡ 0)) e ((tt, refl))
level_legal g zero h (inr i) = absurd i
level_legal g (suc t) h i =
    let b = in_from_flat_map (longer g) (level g t) h i in
    let s = in_from_map (λ s. b.0 ++ s ∷ []) (steps_of (place_of g b.0)) h b.2 in
    let r = level_legal g t b.0 b.1 in
    subst (λ x. IsLegal g g.root x × (length x ≡ suc t)) s.2 ((legal_push g g.root b.0 s.0 r.0 (step_from (place_of g b.0) s.0 s.1), length_push b.0 s.0 ∙ ap suc r.1))

-- an open history is at the level of the horizon, and leads to a world
open_is : (g : GameModel) (h : History) → IsOpen g h → In h (level g g.horizon) × (is_world (place_of g h) ≡ true)
open_is g h o = (in_level g g.horizon h (in_from_contains (histories g) h o.0) o.1, o.2)

-- and back
open_from : (g : GameModel) (h : History) → In h (level g g.horizon) → is_world (place_of g h) ≡ true → IsOpen g h
open_from g h i e =
    let r = level_legal g g.horizon h i in
    (contains_from_in (histories g) h (legal_history g h r.0 (omega (arith, r.1))), r.1, e)

-- the first of histories in an order that leads to a world
record FirstOpen (g : GameModel) (hs : List History) (n : ℕ) : Type 0 where
  history : History
  there : In history hs
  world : is_world (place_of g history) ≡ true
  first : (k : History) → In k hs → is_world (place_of g k) ≡ true → (k ≡ history) ⊎ (history_cmp history k ≡ Less)
  place : n ≡ reached g g.root history

-- what is found is the first
first_open_is : (g : GameModel) (hs : List History) (n : ℕ) → Ascending history_cmp hs → first_open g hs ≡ Some n → FirstOpen g hs n
first_open_is g [] n a e = absurd (never e)
  where
    never : ◌≡◌ {A = Option ℕ} None (Some n) → ⊥
    never e = cc
first_open_is g (h ∷ hs) n a e = at (is_world (place_of g h)) refl e (λ f. first_open_is g hs n a.1 f)
  where
    inside : (x y : ℕ) → ◌≡◌ {A = Option ℕ} (Some x) (Some y) → x ≡ y
    inside x y e = cc

    at : (b : Bool) → is_world (place_of g h) ≡ b → cond b (Some (reached g g.root h)) (first_open g hs) ≡ Some n → (first_open g hs ≡ Some n → FirstOpen g hs n) → FirstOpen g (h ∷ hs) n
    at true q f rest = record { history = h; there = inl refl; world = q; first = front; place = sym (inside (reached g g.root h) n f) }
      where
        front : (k : History) → In k (h ∷ hs) → is_world (place_of g k) ≡ true → (k ≡ h) ⊎ (history_cmp h k ≡ Less)
        front k (inl e) w = inl (sym e)
        front k (inr i) w = inr (all_in (λ k. history_cmp h k ≡ Less) hs k a.0 i)
    at false q f rest =
        wider (rest f)
      where
        wider : FirstOpen g hs n → FirstOpen g (h ∷ hs) n
        wider r = record { history = r.history; there = inr r.there; world = r.world; first = λ k i w. later r k i w; place = r.place }
          where
            later : (r : FirstOpen g hs n) (k : History) → In k (h ∷ hs) → is_world (place_of g k) ≡ true → (k ≡ r.history) ⊎ (history_cmp r.history k ≡ Less)
            later r k (inl e) w = absurd (not_both (ap (λ x. is_world (place_of g x)) e ∙ w) q)
            later r k (inr i) w = r.first k i w

-- where one is open, one is found
some_open : (g : GameModel) (hs : List History) (h : History) → In h hs → is_world (place_of g h) ≡ true → first_open g hs ≡ None → ⊥
some_open g hs h i w e = not_both w (none_open g hs e h i)

-- no two histories each stand before the other
not_twice : (h k : History) → history_cmp h k ≡ Less → history_cmp k h ≡ Less → ⊥
not_twice h k l m = never (sym (history_total.trans h k h l m) ∙ tied_itself history_total h)
  where
    never : Less ≡ Equal → ⊥
    never e = cc

-- ---- the answer

-- the answer from what is found of depths and of open histories, and from whether the size is passed
abbrev answer : GameModel → Option ℕ → Option ℕ → Bool → Option UnfoldFault
answer g f o b = elim f [
  | Some t ↦ Some (too_many_histories t)
  | None ↦ elim o [
    | Some n ↦ Some (horizon_passed n)
    | None ↦ cond b (Some (size_passed (top_payoff g) (told_scale (scale g)) (most_decisions g 1) (most_decisions g 2))) None
  ]
]

-- what is found of depths
abbrev depth_found : GameModel → Option ℕ
depth_found g = first_too_many g 0 (g.horizon + 1)

-- what is found of open histories
abbrev open_found : GameModel → Option ℕ
open_found g = first_world g (standing g g.horizon)

-- it is what is found at the level of the horizon
found_is : (g : GameModel) (o : Option ℕ) → open_found g ≡ o → first_open g (level g g.horizon) ≡ o
found_is g o e = sym (first_world_is g g.horizon) ∙ e

-- whether the size is passed
abbrev passed : GameModel → Bool
passed g = nat_lt (2 ^ 64) (size g)

-- too many histories are answered exactly where a depth is found
too_many_is : (g : GameModel) (f o : Option ℕ) (b : Bool) (d : ℕ) → answer g f o b ≡ Some (too_many_histories d) → f ≡ Some d
too_many_is g (Some t) o b d e = ap (λ x. Some x) (same t d e)
  where
    same : (t d : ℕ) → ◌≡◌ {A = Option UnfoldFault} (Some (too_many_histories t)) (Some (too_many_histories d)) → t ≡ d
    same t d e = cc
too_many_is g None (Some n) b d e = absurd (never e)
  where
    never : ◌≡◌ {A = Option UnfoldFault} (Some (horizon_passed n)) (Some (too_many_histories d)) → ⊥
    never e = cc
too_many_is g None None true d e = absurd (never _ _ _ _ e)
  where
    never : (u : ℕ) (k : Option ℕ) (m n : ℕ) → ◌≡◌ {A = Option UnfoldFault} (Some (size_passed u k m n)) (Some (too_many_histories d)) → ⊥
    never u k m n e = cc
too_many_is g None None false d e = absurd (never e)
  where
    never : ◌≡◌ {A = Option UnfoldFault} None (Some (too_many_histories d)) → ⊥
    never e = cc

-- a passed horizon is answered exactly where no depth is found, and an open history is
horizon_is : (g : GameModel) (f o : Option ℕ) (b : Bool) (p : ℕ) → answer g f o b ≡ Some (horizon_passed p) → (f ≡ None) × (o ≡ Some p)
horizon_is g (Some t) o b p e = absurd (never e)
  where
    never : ◌≡◌ {A = Option UnfoldFault} (Some (too_many_histories t)) (Some (horizon_passed p)) → ⊥
    never e = cc
horizon_is g None (Some n) b p e = (refl, ap (λ x. Some x) (same n p e))
  where
    same : (n p : ℕ) → ◌≡◌ {A = Option UnfoldFault} (Some (horizon_passed n)) (Some (horizon_passed p)) → n ≡ p
    same n p e = cc
horizon_is g None None true p e = absurd (never _ _ _ _ e)
  where
    never : (u : ℕ) (k : Option ℕ) (m n : ℕ) → ◌≡◌ {A = Option UnfoldFault} (Some (size_passed u k m n)) (Some (horizon_passed p)) → ⊥
    never u k m n e = cc
horizon_is g None None false p e = absurd (never e)
  where
    never : ◌≡◌ {A = Option UnfoldFault} None (Some (horizon_passed p)) → ⊥
    never e = cc

-- a passed size is answered exactly where nothing is found and it is passed
size_is : (g : GameModel) (f o : Option ℕ) (b : Bool) (u : ℕ) (k : Option ℕ) (m n : ℕ) → answer g f o b ≡ Some (size_passed u k m n)
    → (f ≡ None) × (o ≡ None) × (b ≡ true) × (u ≡ top_payoff g) × (k ≡ told_scale (scale g)) × (m ≡ most_decisions g 1) × (n ≡ most_decisions g 2)
size_is g (Some t) o b u k m n e = absurd (never e)
  where
    never : ◌≡◌ {A = Option UnfoldFault} (Some (too_many_histories t)) (Some (size_passed u k m n)) → ⊥
    never e = cc
size_is g None (Some p) b u k m n e = absurd (never e)
  where
    never : ◌≡◌ {A = Option UnfoldFault} (Some (horizon_passed p)) (Some (size_passed u k m n)) → ⊥
    never e = cc
size_is g None None true u k m n e = let s = same (top_payoff g) (told_scale (scale g)) (most_decisions g 1) (most_decisions g 2) u k m n e in (refl, refl, refl, s.0, s.1, s.2, s.3)
  where
    same : (a : ℕ) (b : Option ℕ) (c d u : ℕ) (k : Option ℕ) (m n : ℕ) → ◌≡◌ {A = Option UnfoldFault} (Some (size_passed a b c d)) (Some (size_passed u k m n)) → (u ≡ a) × (k ≡ b) × (m ≡ c) × (n ≡ d)
    same a b c d u k m n e = (cc, cc, cc, cc)
size_is g None None false u k m n e = absurd (never e)
  where
    never : ◌≡◌ {A = Option UnfoldFault} None (Some (size_passed u k m n)) → ⊥
    never e = cc

-- nothing is answered exactly where nothing is found and the size is not passed
accepted_is : (g : GameModel) (f o : Option ℕ) (b : Bool) → answer g f o b ≡ None → (f ≡ None) × (o ≡ None) × (b ≡ false)
accepted_is g (Some t) o b e = absurd (never _ e)
  where
    never : (x : UnfoldFault) → ◌≡◌ {A = Option UnfoldFault} (Some x) None → ⊥
    never x e = cc
accepted_is g None (Some n) b e = absurd (never _ e)
  where
    never : (x : UnfoldFault) → ◌≡◌ {A = Option UnfoldFault} (Some x) None → ⊥
    never x e = cc
accepted_is g None None true e = absurd (never _ e)
  where
    never : (x : UnfoldFault) → ◌≡◌ {A = Option UnfoldFault} (Some x) None → ⊥
    never x e = cc
accepted_is g None None false e = (refl, refl, refl)

-- the answer where this is found
answer_same : (g : GameModel) (f o : Option ℕ) (b : Bool) → depth_found g ≡ f → open_found g ≡ o → passed g ≡ b → unfold_fault g ≡ answer g f o b
answer_same g f o b d e p = ap (λ x. answer g x (open_found g) (passed g)) d ∙ ap (λ x. answer g f x (passed g)) e ∙ ap (answer g f o) p

-- ---- the laws

-- no open history exactly where none is found
none_open_is : (g : GameModel) → ((h : History) → IsOpen g h → ⊥) ↔ (open_found g ≡ None)
none_open_is g = (λ f. pick (open_found g) refl f, λ e h o. let r = open_is g h o in some_open g (level g g.horizon) h r.0 r.1 (found_is g None e))
  where
    pick : (o : Option ℕ) → open_found g ≡ o → ((h : History) → IsOpen g h → ⊥) → o ≡ None
    pick None e f = refl
    pick (Some n) e f =
        let r = first_open_is g (level g g.horizon) n (level_ascending g g.horizon) (found_is g (Some n) e) in
        absurd (f r.history (open_from g r.history r.there r.world))

-- the law of too many histories
pub too_many_law : TooManyLaw
too_many_law g d = (there, back)
  where
    there : unfold_fault g ≡ Some (too_many_histories d) → (d ≤ g.horizon) × (history_limit < history_count g d) × ((s : ℕ) → s < d → history_count g s ≤ history_limit)
    there e =
        let r = found_first g (g.horizon + 1) 0 d (too_many_is g (depth_found g) (open_found g) (passed g) d e) in
        (omega (arith, r.1), r.2.0, λ s hi. r.2.1 s (omega arith) hi)

    back : (d ≤ g.horizon) × (history_limit < history_count g d) × ((s : ℕ) → s < d → history_count g s ≤ history_limit) → unfold_fault g ≡ Some (too_many_histories d)
    back f = ap (λ x. answer g x (open_found g) (passed g)) (first_found g (g.horizon + 1) 0 d (omega arith) (omega (arith, f.0)) ((f.1, λ s lo hi. f.2 s hi)))

-- the law of the horizon
pub horizon_law : HorizonLaw
horizon_law g n = (there, back)
  where
    there : unfold_fault g ≡ Some (horizon_passed n)
        → IsFew g × ((h : History) × IsOpen g h × ((k : History) → IsOpen g k → (k ≡ h) ⊎ (history_cmp h k ≡ Less)) × (n ≡ reached g g.root h))
    there e =
        let r = horizon_is g (depth_found g) (open_found g) (passed g) n e in
        let f = first_open_is g (level g g.horizon) n (level_ascending g g.horizon) (found_is g (Some n) r.1) in
        ((few_is g).1 r.0, (f.history, open_from g f.history f.there f.world, λ k o. let q = open_is g k o in f.first k q.0 q.1, f.place))

    pick : (o : Option ℕ) → open_found g ≡ o → (h : History) → IsOpen g h → ((k : History) → IsOpen g k → (k ≡ h) ⊎ (history_cmp h k ≡ Less)) → n ≡ reached g g.root h → o ≡ Some n
    pick None e h o first p = let r = open_is g h o in absurd (some_open g (level g g.horizon) h r.0 r.1 (found_is g None e))
    pick (Some m) e h o first p =
        let f = first_open_is g (level g g.horizon) m (level_ascending g g.horizon) (found_is g (Some m) e) in
        let q = open_is g h o in
        both f (first f.history (open_from g f.history f.there f.world)) (f.first h q.0 q.1)
      where
        same : (f : FirstOpen g (level g g.horizon) m) → f.history ≡ h → ◌≡◌ {A = Option ℕ} (Some m) (Some n)
        same f e = ap (λ x. Some x) (f.place ∙ ap (reached g g.root) e ∙ sym p)

        both : (f : FirstOpen g (level g g.horizon) m) → (f.history ≡ h) ⊎ (history_cmp h f.history ≡ Less) → (h ≡ f.history) ⊎ (history_cmp f.history h ≡ Less) → ◌≡◌ {A = Option ℕ} (Some m) (Some n)
        both f (inl e) c = same f e
        both f (inr l) (inl e) = same f (sym e)
        both f (inr l) (inr k) = absurd (not_twice h f.history l k)

    back : IsFew g × ((h : History) × IsOpen g h × ((k : History) → IsOpen g k → (k ≡ h) ⊎ (history_cmp h k ≡ Less)) × (n ≡ reached g g.root h)) → unfold_fault g ≡ Some (horizon_passed n)
    back r = answer_same g None (Some n) (passed g) ((few_is g).0 r.0) (pick (open_found g) refl r.1.0 r.1.1 r.1.2 r.1.3) refl

-- the law of the size
pub size_law : SizePassedLaw
size_law g u k m n = (there, back)
  where
    there : unfold_fault g ≡ Some (size_passed u k m n) → IsFew g × ((h : History) → IsOpen g h → ⊥) × (2 ^ 64 < size g)
        × (u ≡ top_payoff g) × (k ≡ told_scale (scale g)) × (m ≡ most_decisions g 1) × (n ≡ most_decisions g 2)
    there e =
        let r = size_is g (depth_found g) (open_found g) (passed g) u k m n e in
        ((few_is g).1 r.0, (none_open_is g).1 r.1, ltb-true (2 ^ 64) (size g) r.2, r.3, r.4, r.5, r.6)

    back : IsFew g × ((h : History) → IsOpen g h → ⊥) × (2 ^ 64 < size g) × (u ≡ top_payoff g) × (k ≡ told_scale (scale g)) × (m ≡ most_decisions g 1) × (n ≡ most_decisions g 2)
        → unfold_fault g ≡ Some (size_passed u k m n)
    back r =
        answer_same g None None true ((few_is g).0 r.0) ((none_open_is g).0 r.1) (lt-ltb (2 ^ 64) (size g) r.2)
        ∙ ap (λ x. Some (size_passed x (told_scale (scale g)) (most_decisions g 1) (most_decisions g 2))) (sym r.3)
        ∙ ap (λ x. Some (size_passed u x (most_decisions g 1) (most_decisions g 2))) (sym r.4)
        ∙ ap (λ x. Some (size_passed u k x (most_decisions g 2))) (sym r.5)
        ∙ ap (λ x. Some (size_passed u k m x)) (sym r.6)

-- the law of games that are unfolded
pub accepted_law : AcceptedLaw
accepted_law g = (there, λ r. answer_same g None None false ((few_is g).0 r.0) ((none_open_is g).0 r.1) (le-ltb (2 ^ 64) (size g) r.2))
  where
    there : unfold_fault g ≡ None → IsFew g × ((h : History) → IsOpen g h → ⊥) × (size g ≤ 2 ^ 64)
    there e =
        let r = accepted_is g (depth_found g) (open_found g) (passed g) e in
        ((few_is g).1 r.0, (none_open_is g).1 r.1, ltb-false (2 ^ 64) (size g) r.2)
