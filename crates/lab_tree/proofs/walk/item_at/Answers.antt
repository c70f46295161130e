use Rattle.std.proofs.Common.{rules, ◌≡◌, ℕ, ◌<◌, ◌≤◌, ◌^◌, ◌+◌, ◌-◌, length, List, get_or, None, ◌∙◌, ap, sym, subst, arith}
use Rattle.lab_tree.specs.declared.info.PathItem.{PathItem}
use Rattle.lab_tree.specs.Ways.{bases_of}
use Rattle.std.proofs.lemmas.List.{get_or_default}
use Rattle.lab_tree.proofs.WayLemmas.{item_here, step_up, no_up, bases_length}
use Rattle.lab_tree.proofs.walk.item_at.Goals as goal

pub bounds-bases-at : goal.bounds-bases-at
bounds-bases-at c =
    subst (λ n. c.loop-at.at < n) (sym (ap length c.requires.bases ∙ bases_length c.args.items.now c.args.starts.now c.args.parents.now c.requires.ways)) c.loop-at.invariant.node

pub bounds-bases-here : goal.bounds-bases-here
bounds-bases-here c =
    subst (λ n. c.loop-at.at < n) (sym (ap length c.requires.bases ∙ bases_length c.args.items.now c.args.starts.now c.args.parents.now c.requires.ways)) c.loop-at.invariant.node

pub unreachable-requires : goal.unreachable-requires
unreachable-requires c =
    no_up c.args.items.now c.args.starts.now c.args.parents.now c.requires.ways c.loop-at.at c.args.index c.loop-at.invariant.node c.in_default.not-Some
    (subst (λ (bs : List ℕ). c.args.index < get_or bs c.loop-at.at 0) c.requires.bases c.loop-at-test.true)

-- what is read where there is no item
abbrev none : PathItem
none = record { set = record { 0 = 0 }; follows = None }

pub loop-at-preserved : goal.loop-at-preserved
loop-at-preserved c =
    let below = subst (λ (bs : List ℕ). c.args.index < get_or bs c.loop-at.at 0) c.requires.bases c.loop-at-test.true in
    let up = step_up c.args.items.now c.args.starts.now c.args.parents.now c.requires.ways c.loop-at.at c.args.index c.in-Some.before in
    let one = up none c.loop-at.invariant.node c.in-Some.is below in
    let node : c.loop-at.at < length c.args.parents.now = c.loop-at.invariant.node in
    record {
      node = omega (arith, one.2, node);
      there = one.1;
      same = λ d. c.loop-at.invariant.same d ∙ (up d c.loop-at.invariant.node c.in-Some.is below).0;
    }

pub overflow_add-result : goal.overflow_add-result
overflow_add-result c =
    let n = c.loop-at.at in
    let from = subst (λ (bs : List ℕ). get_or bs n 0 ≤ c.args.index) c.requires.bases c.loop-at-test.false in
    let here = (item_here c.args.items.now c.args.starts.now c.args.parents.now c.requires.ways n c.args.index none c.loop-at.invariant.node from c.loop-at.invariant.there).2 in
    let same : get_or c.args.bases.now n 0 ≡ get_or (bases_of c.args.starts.now c.args.parents.now) n 0 = ap (λ (bs : List ℕ). get_or bs n 0) c.requires.bases in
    let next : get_or c.args.starts.now (n + 1) 0 < 2 ^ 32 = search (rules, c.type_inv.starts (n + 1)) in
    let fits : get_or c.args.starts.now n 0 + (c.args.index - get_or c.args.bases.now n 0) < 2 ^ 32 = omega (arith, here, same, next) in
    search rules

pub bounds-items-starts : goal.bounds-items-starts
bounds-items-starts c =
    let n = c.loop-at.at in
    let from = subst (λ (bs : List ℕ). get_or bs n 0 ≤ c.args.index) c.requires.bases c.loop-at-test.false in
    subst (λ (bs : List ℕ). get_or c.args.starts.now n 0 + (c.args.index - get_or bs n 0) < length c.args.items.now) (sym c.requires.bases)
    (item_here c.args.items.now c.args.starts.now c.args.parents.now c.requires.ways n c.args.index none c.loop-at.invariant.node from c.loop-at.invariant.there).1

pub returns : goal.returns
returns c d =
    let n = c.loop-at.at in
    let from = subst (λ (bs : List ℕ). get_or bs n 0 ≤ c.args.index) c.requires.bases c.loop-at-test.false in
    let here = item_here c.args.items.now c.args.starts.now c.args.parents.now c.requires.ways n c.args.index d c.loop-at.invariant.node from c.loop-at.invariant.there in
    c.loop-at.invariant.same d ∙ here.0 ∙ get_or_default c.args.items.now _ d none here.1
    ∙ ap (λ (bs : List ℕ). get_or c.args.items.now (get_or c.args.starts.now n 0 + (c.args.index - get_or bs n 0)) none) (sym c.requires.bases)
