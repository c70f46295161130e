use Rattle.std.proofs.Common.{◌≤◌, get_or, length, sym, subst}
use Rattle.lab_table.proofs.PlaceLemmas.{place_le, place_within}
use Rattle.lab_table.proofs.table.Table.places.Goals as goal

pub returns-clause-order : goal.returns-clause-order
returns-clause-order c =
    subst (λ ps. get_or ps c.args.span.from 0 ≤ get_or ps c.args.span.to 0) (sym c.as_slice-places.ensures.value)
    (place_le _ c.self.inside.places.items c.self.invariant c.args.span.from c.args.span.to c.requires.order
    (subst (λ t. c.args.span.to ≤ length t.actions) (sym c.self.view_is) c.requires.end))

pub returns-clause-end : goal.returns-clause-end
returns-clause-end c =
    subst (λ ps. get_or ps c.args.span.to 0 ≤ length c.args.self.now.weights) (sym c.as_slice-places.ensures.value)
    (subst (λ t. get_or c.self.inside.places.items c.args.span.to 0 ≤ length t.weights) c.self.view_is
    (place_within _ c.self.inside.places.items c.self.invariant c.args.span.to
    (subst (λ t. c.args.span.to ≤ length t.actions) (sym c.self.view_is) c.requires.end)))
