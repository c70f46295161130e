use Rattle.std.proofs.Common.{◌≡◌, ◌++◌, ◌∷◌, [], List, ℕ, length, ap, ◌∙◌, rules, arith, length-append}
use Rattle.std.specs.Option.{option_map_or}
use Rattle.std.specs.List.{range_with_len}
use Rattle.std.proofs.lemmas.List.FromFn.{length-range_with_len}
use Rattle.lab_world.proofs.RunLemmas.{run_more}
use Rattle.lab_world.proofs.row_numbers.RowNumbers.add.Goals as goal

pub overflow_add-self : goal.overflow_add-self
overflow_add-self c =
    let n = c.self.inside.in_order in
    let others = option_map_or (λ b. b.value) c.self.inside.others [] in
    let all = ap length c.self.view_is in
    let both = length-append (range_with_len 0 n) others in
    let run = length-range_with_len 0 n in
    omega (arith, all, both, run, c.requires.few)

pub returns-then-number-self : goal.returns-then-number-self
returns-then-number-self c =
    let others = option_map_or (λ b. b.value) c.self.inside.others [] in
    let none : others ≡ [] = ap (λ o. option_map_or (λ b. b.value) o []) c.in-None.is in
    let same : c.args.number ≡ c.self.inside.in_order = search rules in
    run_more c.self.inside.in_order c.args.number others same none ∙ ap (λ (ks : List ℕ). ks ++ c.args.number ∷ []) c.self.view_is
