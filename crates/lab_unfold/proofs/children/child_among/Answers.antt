use Rattle.std.proofs.Common.{Some, subst, rules}
use Rattle.std.specs.List.Sorted.{IsBinarySearchResult}
use Rattle.std.proofs.lemmas.List.Sorted.{answers_always}
use Rattle.lab_unfold.specs.declared.history.History.{History}
use Rattle.lab_unfold.proofs.BirthLemmas.{key_cmp, rises, child_found, no_child}
use Rattle.lab_unfold.proofs.children.child_among.Goals as goal

pub returns-in-Ok : goal.returns-in-Ok
returns-in-Ok c =
    let facts = c.binary_search_by_key.ensures in
    let by_key : IsBinarySearchResult (λ (h : History). key_cmp (h.parent, h.step) (Some c.args.id, Some c.args.step)) c.args.items.now c.binary_search_by_key.result =
    facts.position (λ (h : History). (h.parent, h.step)) (answers_always _ _ _ (λ f a r g called. search rules)) in
    let found = subst (IsBinarySearchResult (λ (h : History). key_cmp (h.parent, h.step) (Some c.args.id, Some c.args.step)) c.args.items.now) c.in-Ok.is by_key in
    record { some = child_found c.args.items.now c.args.id c.args.step c.in-Ok.number c.in-Ok.ensures.bound found; none = tt }

pub returns-in-Err-clause-none : goal.returns-in-Err-clause-none
returns-in-Err-clause-none c k child =
    let facts = c.binary_search_by_key.ensures in
    let by_key : IsBinarySearchResult (λ (h : History). key_cmp (h.parent, h.step) (Some c.args.id, Some c.args.step)) c.args.items.now c.binary_search_by_key.result =
    facts.position (λ (h : History). (h.parent, h.step)) (answers_always _ _ _ (λ f a r g called. search rules)) in
    let found = subst (IsBinarySearchResult (λ (h : History). key_cmp (h.parent, h.step) (Some c.args.id, Some c.args.step)) c.args.items.now) c.in-Err.is by_key in
    no_child c.args.items.now c.args.id c.args.step c.in-Err.field-0 (found (rises c.args.items.now (Some c.args.id, Some c.args.step) c.requires.order)) k child
