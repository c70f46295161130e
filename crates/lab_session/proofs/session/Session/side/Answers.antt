use Rattle.std.proofs.Common.{sym, subst, refl, inl, inr}
use Rattle.lab_session.specs.Kept.{IsSideOf, profile_in}
use Rattle.lab_session.proofs.Replies.{asked_found}
use Rattle.lab_session.proofs.session.Session.side.Goals as goal

pub returns-in-1-clause-side : goal.returns-in-1-clause-side
returns-in-1-clause-side c =
    let sides = c.in_ok-sides.sides.now in
    let p = profile_in sides in (
      p,
      asked_found c.args.self.now c.args.seat p c.in_ok-sides.ensures.profile (inl c.in-1.is),
      subst (λ k. IsSideOf c.args.self.now.game p k sides.one) (sym c.in-1.is) (record { side = c.in_ok-sides.ensures.sides.one; weights = refl; bounds = refl }),
    )

pub returns-in-2-clause-side : goal.returns-in-2-clause-side
returns-in-2-clause-side c =
    let sides = c.in_ok-sides.sides.now in
    let p = profile_in sides in (
      p,
      asked_found c.args.self.now c.args.seat p c.in_ok-sides.ensures.profile (inr c.in-2.is),
      subst (λ k. IsSideOf c.args.self.now.game p k sides.two) (sym c.in-2.is) (record { side = c.in_ok-sides.ensures.sides.two; weights = refl; bounds = refl }),
    )
