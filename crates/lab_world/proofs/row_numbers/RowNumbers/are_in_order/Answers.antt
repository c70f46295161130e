use Rattle.std.proofs.Common.{◌≡◌, [], List, ℕ, None, length, ap, sym, ◌∙◌, rules}
use Rattle.std.specs.Option.{option_map_or}
use Rattle.std.specs.List.{range_with_len}
use Rattle.lab_world.proofs.RunLemmas.{run_alone}
use Rattle.lab_world.proofs.row_numbers.RowNumbers.are_in_order.Goals as goal

pub returns : goal.returns
returns c told =
    let n = c.self.inside.in_order in
    let others = option_map_or (λ b. b.value) c.self.inside.others [] in
    let gone : c.self.inside.others ≡ None = search rules in
    let none : others ≡ [] = ap (λ o. option_map_or (λ b. b.value) o []) gone in
    sym c.self.view_is ∙ run_alone n others none ∙ ap (λ (ks : List ℕ). range_with_len 0 (length ks)) c.self.view_is
