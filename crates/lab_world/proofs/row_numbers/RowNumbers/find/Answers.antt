use Rattle.std.proofs.Common.{◌≡◌, ◌+◌, ◌<◌, ◌≤◌, ◌++◌, [], nat_eq, Some, None, position, refl, ap, sym, ◌∙◌, rules}
use Rattle.std.specs.Option.{option_map_or}
use Rattle.std.specs.List.{range_with_len}
use Rattle.std.proofs.lemmas.List.FromFn.{length-range_with_len}
use Rattle.lab_world.proofs.SearchLemmas.{position_front, position_behind, position_nowhere}
use Rattle.lab_world.proofs.RunLemmas.{run_place, run_nowhere}
use Rattle.lab_world.proofs.row_numbers.RowNumbers.find.Goals as goal

pub returns-then-number-self : goal.returns-then-number-self
returns-then-number-self c =
    let test = nat_eq c.args.number in
    let n = c.self.inside.in_order in
    let below : c.args.number < n = search rules in
    sym (position_front test c.args.number (range_with_len 0 n) (option_map_or (λ b. b.value) c.self.inside.others []) (run_place n c.args.number below)) ∙ ap (position test) c.self.view_is

pub returns-in-None : goal.returns-in-None
returns-in-None c =
    let test = nat_eq c.args.number in
    let n = c.self.inside.in_order in
    let past : n ≤ c.args.number = search rules in
    let all : range_with_len 0 n ++ [] ≡ c.args.self.now = ap (λ o. range_with_len 0 n ++ option_map_or (λ b. b.value) o []) (sym c.in-None.is) ∙ c.self.view_is in
    sym (position_nowhere test (range_with_len 0 n) [] (run_nowhere n c.args.number past) refl) ∙ ap (position test) all

pub returns-in_err-place-in-Some : goal.returns-in_err-place-in-Some
returns-in_err-place-in-Some c =
    let test = nat_eq c.args.number in
    let n = c.self.inside.in_order in
    let others = c.in-Some.others.value in
    let past : n ≤ c.args.number = search rules in
    let none : c.from_residual.result ≡ None = search rules in
    let not_others : position test others ≡ None = search rules in
    let all : range_with_len 0 n ++ others ≡ c.args.self.now = ap (λ o. range_with_len 0 n ++ option_map_or (λ b. b.value) o []) (sym c.in-Some.is) ∙ c.self.view_is in
    none ∙ sym (position_nowhere test (range_with_len 0 n) others (run_nowhere n c.args.number past) not_others) ∙ ap (position test) all

pub returns-in_ok-place-in-Some : goal.returns-in_ok-place-in-Some
returns-in_ok-place-in-Some c =
    let test = nat_eq c.args.number in
    let n = c.self.inside.in_order in
    let others = c.in-Some.others.value in
    let place = c.in_ok-place-in-Some.place in
    let past : n ≤ c.args.number = search rules in
    let there : position test others ≡ Some place = search rules in
    let all : range_with_len 0 n ++ others ≡ c.args.self.now = ap (λ o. range_with_len 0 n ++ option_map_or (λ b. b.value) o []) (sym c.in-Some.is) ∙ c.self.view_is in
    ap (λ k. Some (k + place)) (sym (length-range_with_len 0 n)) ∙ sym (position_behind test place (range_with_len 0 n) others (run_nowhere n c.args.number past) there) ∙ ap (position test) all
