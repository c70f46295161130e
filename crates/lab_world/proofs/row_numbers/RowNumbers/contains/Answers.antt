use Rattle.std.proofs.Common.{◌≡◌, ◌<◌, ◌≤◌, ◌++◌, [], nat_eq, ap, sym, ◌∙◌, rules}
use Rattle.std.specs.Option.{option_map_or}
use Rattle.std.specs.List.{list_any, range_with_len}
use Rattle.lab_world.proofs.RunLemmas.{run_has, run_past}
use Rattle.lab_world.proofs.row_numbers.RowNumbers.contains.Goals as goal

pub returns-then-number-self : goal.returns-then-number-self
returns-then-number-self c =
    let below : c.args.number < c.self.inside.in_order = search rules in
    sym (run_has c.self.inside.in_order c.args.number (option_map_or (λ b. b.value) c.self.inside.others []) below) ∙ ap (list_any (nat_eq c.args.number)) c.self.view_is

pub returns-in-None : goal.returns-in-None
returns-in-None c =
    let n = c.self.inside.in_order in
    let past : n ≤ c.args.number = search rules in
    let all : range_with_len 0 n ++ [] ≡ c.args.self.now = ap (λ o. range_with_len 0 n ++ option_map_or (λ b. b.value) o []) (sym c.in-None.is) ∙ c.self.view_is in
    sym (run_past n c.args.number [] past) ∙ ap (list_any (nat_eq c.args.number)) all

pub returns-in-Some : goal.returns-in-Some
returns-in-Some c =
    let n = c.self.inside.in_order in
    let others = c.in-Some.others.value in
    let past : n ≤ c.args.number = search rules in
    let there : c.contains.result ≡ list_any (nat_eq c.args.number) others = search rules in
    let all : range_with_len 0 n ++ others ≡ c.args.self.now = ap (λ o. range_with_len 0 n ++ option_map_or (λ b. b.value) o []) (sym c.in-Some.is) ∙ c.self.view_is in
    there ∙ sym (run_past n c.args.number others past) ∙ ap (list_any (nat_eq c.args.number)) all
