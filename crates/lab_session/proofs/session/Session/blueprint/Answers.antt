use Rattle.std.proofs.Common.{◌≡◌, [], ◌∷◌, Bool, false, Option, Some, None, Ok, refl, sym, ap, ◌∙◌, subst}
use Rattle.std.specs.Option.{is_some, option_map}
use lib.Chars.{codes}
use Rattle.lab_defs_value.specs.Bounds.{at, bound_units}
use Rattle.lab_defs_report.specs.States.{State, step_of, bounds_of, blueprint_reply, playing}
use Rattle.lab_session.specs.Answers.{blueprint_words, command_of}
use Rattle.lab_session.specs.Kept.{profile_in}
use Rattle.lab_session.specs.declared.side.Sides.{Sides}
use Rattle.lab_session.proofs.Guards.{sides_guarded}
use Rattle.lab_session.proofs.Replies.{first_step, word_is}
use Rattle.lab_session.proofs.session.Session.blueprint.Goals as goal

-- where nothing is found there is nothing
none_kept : (o : Option Sides) (b : Bool) → b ≡ is_some o → b ≡ false → o ≡ None
none_kept None b e f = refl
none_kept (Some s) b e f = absurd cc

pub returns-clause-step : goal.returns-clause-step
returns-clause-step c =
    let g = c.self.inside.board in
    let sides = c.in_ok-sides.sides in
    let p = profile_in sides in
    let none = none_kept c.self.inside.sides c.is_some.result c.is_some.ensures c.if-is_some.false in
    let before : ◌≡◌ {A = State} (record { game = g; profile = None }) c.args.self.now = ap (λ o. record { game = g; profile = option_map profile_in o }) (sym none) ∙ c.self.view_is in
    let first = word_is c.bound.result (at (bounds_of p 1) 0) (bound_units g 1) c.bound.ensures in
    let second = word_is c.bound-2.result (at (bounds_of p 2) 0) (bound_units g 2) c.bound-2.ensures in
    let words : blueprint_reply g p ≡ blueprint_words c.bound.result c.bound-2.result = λ i. codes "blueprint" ∷ sym first i ∷ sym second i ∷ [] in
    subst (λ (s : State). step_of s (command_of c.args.how) ≡ Ok (record { game = g; profile = Some p }, blueprint_words c.bound.result c.bound-2.result)) before
    (first_step g c.args.how p c.in_ok-sides.ensures.found ∙ ap (playing (record { game = g; profile = None }) p) words)

pub returns-clause-guarded : goal.returns-clause-guarded
returns-clause-guarded c = sides_guarded c.self.inside.board c.self.invariant.accepted c.in_ok-sides.sides c.in_ok-sides.ensures.sides
