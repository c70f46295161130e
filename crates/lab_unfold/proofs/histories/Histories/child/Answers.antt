use Rattle.std.proofs.Common.{ℕ, ◌<◌, List, length, subst}
use Rattle.std.specs.Prelude.{IfSome, IfNone}
use Rattle.lab_unfold.specs.declared.history.History.{History}
use Rattle.lab_unfold.specs.Births.{IsChild}
use Rattle.lab_unfold.specs.Values.{Unfolded, IsLonger}
use Rattle.lab_unfold.proofs.StepLemmas.{longer_some, longer_none, child_below}
use Rattle.lab_unfold.proofs.histories.Histories.child.Goals as goal

pub returns-clause-some : goal.returns-clause-some
returns-clause-some c =
    subst (λ (v : Unfolded). c.args.id.0 < length v.items → IfSome c.child_among.result (λ k. IsLonger v.histories c.args.id.0 c.args.step.now k.0)) c.self.view_is
    (λ l. longer_some c.self.inside.items.items c.args.id c.args.step.now c.child_among.result c.self.invariant.4 l
    (subst (λ (hs : List History). IfSome c.child_among.result (λ k. IsChild hs c.args.id c.args.step.now k.0)) c.as_slice.ensures.value c.child_among.ensures.some)) c.requires

pub returns-clause-below : goal.returns-clause-below
returns-clause-below c =
    subst (λ (v : Unfolded). IfSome c.child_among.result (λ k. k.0 < length v.items)) c.self.view_is
    (child_below c.self.inside.items.items c.args.id c.args.step.now c.child_among.result
    (subst (λ (hs : List History). IfSome c.child_among.result (λ k. IsChild hs c.args.id c.args.step.now k.0)) c.as_slice.ensures.value c.child_among.ensures.some))

pub returns-clause-none : goal.returns-clause-none
returns-clause-none c =
    subst (λ (v : Unfolded). c.args.id.0 < length v.items → IfNone c.child_among.result ((k : ℕ) → IsLonger v.histories c.args.id.0 c.args.step.now k → ⊥)) c.self.view_is
    (λ l. longer_none c.self.inside.items.items c.args.id c.args.step.now c.child_among.result c.self.invariant.4 l
    (subst (λ (hs : List History). IfNone c.child_among.result ((k : ℕ) → IsChild hs c.args.id c.args.step.now k → ⊥)) c.as_slice.ensures.value c.child_among.ensures.none)) c.requires
