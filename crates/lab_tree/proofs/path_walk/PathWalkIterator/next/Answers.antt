use Rattle.std.proofs.Common.{◌≡◌, ℕ, ◌<◌, ◌≤◌, sym, ◌∙◌, arith}
use Rattle.lab_tree.specs.Ways.{path_in}
use Rattle.lab_tree.proofs.WayLemmas.{range_first}
use Rattle.lab_tree.proofs.path_walk.PathWalkIterator.next.Goals as goal

pub returns-clause-steps : goal.returns-clause-steps
returns-clause-steps c =
    let w = c.self.inside in
    let le : w.front ≤ w.back = c.self.invariant.3 in
    let less : w.front < w.back = apart w.front w.back le c.if-self.false in
    sym c.self.view_is ∙ range_first (path_in w.items.now w.starts.now w.parents.now w.node) w.front w.back c.item_at-item.result less c.self.invariant.4 c.item_at-item.ensures
  where
    apart : (m n : ℕ) → m ≤ n → (m ≡ n → ⊥) → m < n
    apart m n l e = omega (arith, l, e)
