use Rattle.std.proofs.Common.{[], ◌∷◌, sym, ap, ◌∙◌, subst}
use lib.Chars.{codes}
use Rattle.lab_defs_text.specs.Numbers.{numeral}
use Rattle.lab_defs_value.specs.Bounds.{at, bound_units}
use Rattle.lab_defs_report.specs.States.{State, bounds_of, bound_reply}
use Rattle.lab_session.specs.Answers.{IsReduced, bound_words}
use Rattle.lab_session.proofs.Replies.{kept_as, seat_step, word_is}
use Rattle.lab_session.proofs.session.Session.bound.Goals as goal

pub returns-clause-step : goal.returns-clause-step
returns-clause-step c =
    let s = c.args.self.now in
    let seat = c.args.seat in
    let found = c.in_ok-side.ensures.side in
    let here = subst (λ bs. IsReduced c.bound.result (at bs 0) (bound_units s.game seat)) found.2.bounds
    (subst (λ (t : State). IsReduced c.bound.result (at c.in_ok-side.side.now.bounds.bounds 0) (bound_units t.game seat)) c.self.view_is c.bound.ensures) in
    seat_step s seat found.0 (λ p. bound_reply s.game p seat) found.1
    ∙ kept_as s (bound_reply s.game found.0 seat) (bound_words seat c.bound.result)
    (ap (λ w. codes "bound" ∷ numeral seat ∷ w ∷ []) (sym (word_is c.bound.result (at (bounds_of found.0 seat) 0) (bound_units s.game seat) here)))

pub returns-clause-value : goal.returns-clause-value
returns-clause-value c =
    let s = c.args.self.now in
    let seat = c.args.seat in
    let found = c.in_ok-side.ensures.side in
    let here = subst (λ bs. IsReduced c.bound.result (at bs 0) (bound_units s.game seat)) found.2.bounds
    (subst (λ (t : State). IsReduced c.bound.result (at c.in_ok-side.side.now.bounds.bounds 0) (bound_units t.game seat)) c.self.view_is c.bound.ensures) in
    (found.0, found.1, here.lowest)
