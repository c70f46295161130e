-- The chance of a history from that of the one before its last step.
use Rattle.std.proofs.Common.{◌≡◌, ℕ, zero, suc, ◌+◌, ◌-◌, ◌*◌, ◌/◌, ◌<◌, ◌≤◌, [], ◌∷◌, ◌++◌, length, true, sym, ap, ◌∙◌, subst, arith}
use Rattle.std.proofs.Math.Nat.{mul_assoc, mul_comm, mul-div_cancel}
use Rattle.lab_math.proofs.Members.{In, in_get_or}
use Rattle.lab_defs_text.specs.Games.{GameModel}
use Rattle.lab_defs_text.specs.Texts.{place_at, game_ok}
use Rattle.lab_defs_game.specs.Chance.{row_total, chance_unit, units_from, scale, chance_from, chance}
use Rattle.lab_defs_game.specs.Histories as model
use Rattle.lab_defs_game.proofs.FormLemmas.{unit_whole}
use Rattle.lab_defs_game.proofs.GameLemmas.{steps_inner, inner_has}
use Rattle.lab_defs_game.proofs.Legal.{length_push, history_legal, step_from}
use Rattle.lab_unfold.specs.Parents.{history_at, Behind}
use Rattle.lab_unfold.proofs.UnitLemmas.{chance_unit_some}

-- the total of the row of a step out of the place n
abbrev total_of : GameModel → ℕ → model.Step → ℕ
total_of g n s = row_total (model.row_of (place_at g n) s.action1 s.action2)

-- a chance is a multiple of the total of the next row, and the next chance is that of the weight
record Shared (g : GameModel) (t n : ℕ) (h : model.History) (s : model.Step) : Type 0 where
  part : ℕ
  before : chance_from g t n h ≡ part * total_of g (model.reached g n h) s
  after : chance_from g t n (h ++ s ∷ []) ≡ part * (model.outcome_of g (model.reached g n h) s).weight

-- where the unit is a multiple of the total
shared : (g : GameModel) (t n : ℕ) (h : model.History) (s : model.Step) → t + length h < g.horizon
    → total_of g (model.reached g n h) s * (chance_unit g (t + length h) / total_of g (model.reached g n h) s) ≡ chance_unit g (t + length h) → Shared g t n h s
shared g t n [] s l e =
    let zero_steps : t + 0 ≡ t = omega arith in
    let one : ℕ = chance_unit g t / total_of g n s in
    let rest : ℕ = units_from g (t + 1) (g.horizon - (t + 1)) in
    let whole : total_of g n s * one ≡ chance_unit g t = subst (λ k. total_of g n s * (chance_unit g k / total_of g n s) ≡ chance_unit g k) zero_steps e in
    let left : g.horizon - t ≡ suc (g.horizon - (t + 1)) = omega (arith, l) in
    record {
      part = one * rest;
      before = ap (units_from g t) left ∙ ap (λ u. u * rest) (sym whole) ∙ turned (total_of g n s) one rest;
      after = turned (model.outcome_of g n s).weight one rest;
    }
  where
    turned : (a b c : ℕ) → a * b * c ≡ b * c * a
    turned a b c = mul_assoc a b c ∙ mul_comm a (b * c)
shared g t n (r ∷ h) s l e =
    let more : t + suc (length h) ≡ t + 1 + length h = omega arith in
    let x = shared g (t + 1) (model.outcome_of g n r).next h s (omega (arith, l))
    (subst (λ k. total_of g (model.reached g n (r ∷ h)) s * (chance_unit g k / total_of g (model.reached g n (r ∷ h)) s) ≡ chance_unit g k) more e) in
    let a : ℕ = (model.outcome_of g n r).weight * (chance_unit g t / total_of g n r) in
    record {
      part = a * x.part;
      before = ap (λ k. a * k) x.before ∙ sym (mul_assoc a x.part (total_of g (model.reached g n (r ∷ h)) s));
      after = ap (λ k. a * k) x.after ∙ sym (mul_assoc a x.part (model.outcome_of g (model.reached g n (r ∷ h)) s).weight);
    }

-- a product is divided by its second factor
divided : (part total weight before after : ℕ) → 0 < total → before ≡ part * total → after ≡ part * weight → after ≡ before / total * weight
divided part total weight before after some b a = a ∙ ap (λ n. n * weight) (sym (mul-div_cancel part some)) ∙ ap (λ n. n / total * weight) (sym b)

-- no total that units are multiples of is 0
some_total : (total part unit : ℕ) → total * part ≡ unit → 0 < unit → 0 < total
some_total zero part unit e some = absurd (omega (arith, e, some))
some_total (suc n) part unit e some = omega arith

-- the chance of a history is that of the one before, divided by the total and times the weight
pub chance_behind : (g : GameModel) → game_ok g ≡ true → (i j : ℕ) → i < length (model.histories g) → (b : Behind g i j)
    → chance g (history_at g i) ≡ chance g (history_at g j) / total_of g (model.reached g g.root (history_at g j)) b.step * (model.outcome_of g (model.reached g g.root (history_at g j)) b.step).weight
chance_behind g ok i j l b =
    let h = history_at g j in
    let there : In h (model.histories g) = in_get_or (model.histories g) j [] (omega (arith, l, b.below)) in
    let inner = inner_has g h there (steps_inner (model.place_of g h) b.step b.legal) in
    let s = step_from (model.place_of g h) b.step b.legal in
    let whole = unit_whole g h b.step.action1 b.step.action2 ok inner s.0 s.1 in
    let long : length (history_at g i) ≤ g.horizon = (history_legal g (history_at g i) (in_get_or (model.histories g) i [] l)).1 in
    let none : length h ≡ 0 + length h = omega arith in
    let short : 0 + length h < g.horizon = omega (arith, long, ap length b.made, length_push h b.step) in
    let x = shared g 0 g.root h b.step short (subst (λ k. total_of g (model.reached g g.root h) b.step * (chance_unit g k / total_of g (model.reached g g.root h) b.step) ≡ chance_unit g k) none whole) in
    ap (chance g) b.made
    ∙ divided x.part (total_of g (model.reached g g.root h) b.step) (model.outcome_of g (model.reached g g.root h) b.step).weight (chance g h) (chance g (h ++ b.step ∷ []))
    (some_total _ _ _ whole (chance_unit_some g ok (length h))) x.before x.after

-- with no step the chance is the whole scale
pub chance_first : (g : GameModel) → chance g [] ≡ scale g
chance_first g = ap (units_from g 0) (all g.horizon)
  where
    all : (n : ℕ) → n - 0 ≡ n
    all n = omega arith
