use Rattle.std.proofs.Common.{[], ◌∷◌, sym, ap, subst}
use lib.Chars.{codes}
use Rattle.lab_defs_value.specs.Expectation.{expectation_of_uniform, expectation_units}
use Rattle.lab_defs_report.specs.States.{State, uniform_reply}
use Rattle.lab_session.specs.Answers.{IsReduced, expect_words}
use Rattle.lab_session.proofs.Replies.{kept_as, word_is}
use Rattle.lab_session.proofs.session.Session.expect_uniform.Goals as goal

pub returns-clause-step : goal.returns-clause-step
returns-clause-step c =
    let s = c.args.self.now in
    let here = subst (λ (t : State). IsReduced c.self.inside.even (expectation_of_uniform t.game) (expectation_units t.game)) c.self.view_is c.self.invariant.expected in
    kept_as s (uniform_reply s.game) (expect_words c.self.inside.even) (ap (λ w. codes "expect" ∷ w ∷ []) (sym (word_is c.self.inside.even _ _ here)))

pub returns-clause-value : goal.returns-clause-value
returns-clause-value c =
    let here = subst (λ (t : State). IsReduced c.self.inside.even (expectation_of_uniform t.game) (expectation_units t.game)) c.self.view_is c.self.invariant.expected in here.lowest
