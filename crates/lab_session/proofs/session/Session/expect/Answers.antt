use Rattle.std.proofs.Common.{[], ◌∷◌, Option, sym, ap, ◌∙◌, subst}
use Rattle.std.specs.Prelude.{IsSomeAnd}
use lib.Chars.{codes}
use Rattle.lab_defs_game.specs.Forms.{form_of}
use Rattle.lab_defs_game.specs.Seats.{grid_of}
use Rattle.lab_defs_value.specs.Expectation.{expectation, expectation_units}
use Rattle.lab_defs_report.specs.States.{State, Profile, expect_reply}
use Rattle.lab_session.specs.Answers.{IsLowest, IsReduced, expect_words}
use Rattle.lab_session.specs.Kept.{profile_in}
use Rattle.lab_session.proofs.Replies.{kept_as, profile_step, word_is}
use Rattle.lab_session.proofs.session.Session.expect.Goals as goal

pub returns-clause-step : goal.returns-clause-step
returns-clause-step c =
    let s = c.args.self.now in
    let p = profile_in c.in_ok-sides.sides.now in
    let here = subst (λ (t : State). IsReduced c.expected.result (expectation (grid_of t.game 1) (grid_of t.game 2) (form_of t.game) p.table1 p.table2) (expectation_units t.game)) c.self.view_is c.expected.ensures in
    profile_step s p (expect_reply s.game) c.in_ok-sides.ensures.profile
    ∙ kept_as s (expect_reply s.game p) (expect_words c.expected.result) (ap (λ w. codes "expect" ∷ w ∷ []) (sym (word_is c.expected.result _ _ here)))

pub returns-clause-value : goal.returns-clause-value
returns-clause-value c =
    let s = c.args.self.now in
    let p = profile_in c.in_ok-sides.sides.now in
    let here = subst (λ (t : State). IsReduced c.expected.result (expectation (grid_of t.game 1) (grid_of t.game 2) (form_of t.game) p.table1 p.table2) (expectation_units t.game)) c.self.view_is c.expected.ensures in
    subst (λ (o : Option Profile). IsSomeAnd o (λ p. IsLowest c.expected.result (expectation (grid_of s.game 1) (grid_of s.game 2) (form_of s.game) p.table1 p.table2) (expectation_units s.game)))
    (sym c.in_ok-sides.ensures.profile) here.lowest
