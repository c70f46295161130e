use Rattle.std.proofs.Common.{◌≡◌, ◌⊎◌, ℕ, sym, subst, inl, inr}
use Rattle.lab_world.specs.Games.{game_model}
use Rattle.lab_session.specs.Boards.{IsTableFor}
use Rattle.lab_session.proofs.TableLemmas.{even_is}
use Rattle.lab_session.proofs.board.Board.even_split.Goals as goal

-- a seat that is not 1 is 2
second : (seat : ℕ) → (seat ≡ 1) ⊎ (seat ≡ 2) → (seat ≡ 1 → ⊥) → seat ≡ 2
second seat (inl e) ne = absurd (ne e)
second seat (inr e) ne = e

pub returns-then-seat-eq1-clause-is : goal.returns-then-seat-eq1-clause-is
returns-then-seat-eq1-clause-is c =
    let g = game_model c.self.inside.game in
    subst (λ g. IsTableFor g c.args.seat c.self.inside.even1) c.self.view_is
    (subst (λ k. IsTableFor g k c.self.inside.even1) (sym c.if-seat-eq1.true) (subst (IsTableFor g 1) (sym c.self.invariant.even1) (even_is g 1)))

pub returns-else-seat-eq1-clause-is : goal.returns-else-seat-eq1-clause-is
returns-else-seat-eq1-clause-is c =
    let g = game_model c.self.inside.game in
    subst (λ g. IsTableFor g c.args.seat c.self.inside.even2) c.self.view_is
    (subst (λ k. IsTableFor g k c.self.inside.even2) (sym (second c.args.seat c.requires c.if-seat-eq1.false)) (subst (IsTableFor g 2) (sym c.self.invariant.even2) (even_is g 2)))
