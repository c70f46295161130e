use Rattle.std.proofs.Common.{◌≡◌, nat_eq, Some, None, position, ◌+◌, length, ap, sym, ◌∙◌, rules}
use Rattle.lab_world.proofs.SearchLemmas.{position_front, position_behind, position_nowhere}
use Rattle.lab_world.proofs.number_set.NumberSet.find.Goals as goal

pub returns-in-Some-clause-place : goal.returns-in-Some-clause-place
returns-in-Some-clause-place c =
    let first = c.self.inside.first.items in
    let here : position (nat_eq c.args.number) first ≡ Some c.in-Some.place = search rules in
    sym (position_front (nat_eq c.args.number) c.in-Some.place first c.self.inside.others.keys here) ∙ ap (position (nat_eq c.args.number)) c.self.view_is

pub returns-in_err-place-in-None-clause-place : goal.returns-in_err-place-in-None-clause-place
returns-in_err-place-in-None-clause-place c =
    let first = c.self.inside.first.items in
    let others = c.self.inside.others.keys in
    let none : c.from_residual.result ≡ None = search rules in
    let not_first : position (nat_eq c.args.number) first ≡ None = search rules in
    let not_others : position (nat_eq c.args.number) others ≡ None = search rules in
    none ∙ sym (position_nowhere (nat_eq c.args.number) first others not_first not_others) ∙ ap (position (nat_eq c.args.number)) c.self.view_is

pub returns-in_ok-place-in-None-clause-place : goal.returns-in_ok-place-in-None-clause-place
returns-in_ok-place-in-None-clause-place c =
    let first = c.self.inside.first.items in
    let others = c.self.inside.others.keys in
    let not_first : position (nat_eq c.args.number) first ≡ None = search rules in
    let there : position (nat_eq c.args.number) others ≡ Some c.in_ok-place-in-None.place = search rules in
    let len : c.len.result ≡ length first = search rules in
    ap (λ n. Some (n + c.in_ok-place-in-None.place)) len
    ∙ sym (position_behind (nat_eq c.args.number) c.in_ok-place-in-None.place first others not_first there) ∙ ap (position (nat_eq c.args.number)) c.self.view_is
