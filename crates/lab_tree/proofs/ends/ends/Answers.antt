use Rattle.std.proofs.Common.{rules, ◌≡◌}
use Rattle.std.proofs.lemmas.Fn.{always_returns_same}
use Rattle.std.proofs.lemmas.List.Sorted.{IsNonDecreasingBy-from_sort_by_key}
use Rattle.lab_world.specs.Games.{game_model}
use Rattle.lab_tree.specs.declared.end.End.{End}
use Rattle.lab_tree.proofs.EndLemmas.{ends_sorted}
use Rattle.lab_tree.proofs.ends.ends.Goals as goal

pub returns-clause-rising : goal.returns-clause-rising
returns-clause-rising c = IsNonDecreasingBy-from_sort_by_key (λ (e : End). e.node) _ c.in_ok-sort_by_key.ensures.sorted (λ a r q k. search rules)

pub returns-clause-ends : goal.returns-clause-ends
returns-clause-ends c =
    let up = IsNonDecreasingBy-from_sort_by_key (λ (e : End). e.node) _ c.in_ok-sort_by_key.ensures.sorted (λ a r q k. search rules) in
    let same = c.in_ok-sort_by_key.ensures.stable (λ (e : End). e.node) (always_returns_same _ (λ a r. r ≡ a.0.now.node) _ (λ a r q k. search rules)) in
    ends_sorted (game_model c.args.game.now) c.in_ok-ends.ends.items c.sort_by_key.new.self.items c.in_ok-ends.ensures up same
