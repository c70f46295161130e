use Rattle.std.proofs.Common.{rules, ◌≡◌, ℕ, ◌+◌, ◌-◌, ◌<◌, ◌^◌, List, length, get_or, sym, ap, ◌∙◌, subst, arith}
use Rattle.lab_tree.specs.Ways.{bases_of, path_in}
use Rattle.lab_tree.proofs.WayLemmas.{bases_length, path_length, path_small, range_whole}
use Rattle.lab_tree.proofs.path_walk.PathWalk.to.Goals as goal

pub bounds-bases-at : goal.bounds-bases-at
bounds-bases-at c =
    subst (λ n. c.args.node.0 < n) (sym (ap length c.requires.bases ∙ bases_length c.args.items.now c.args.starts.now c.args.parents.now c.requires.ways)) c.requires.node

pub overflow_add-back-2 : goal.overflow_add-back-2
overflow_add-back-2 c =
    let n = c.args.node.0 in
    let small = path_small c.args.items.now c.args.starts.now c.args.parents.now c.requires.ways n c.requires.node in
    let same : get_or c.args.bases.now n 0 ≡ get_or (bases_of c.args.starts.now c.args.parents.now) n 0 = ap (λ (bs : List ℕ). get_or bs n 0) c.requires.bases in
    let next : get_or c.args.starts.now (n + 1) 0 < 2 ^ 32 = search (rules, c.type_inv.starts (n + 1)) in
    let fits : get_or c.args.bases.now n 0 + (get_or c.args.starts.now (n + 1) 0 - get_or c.args.starts.now n 0) < 2 ^ 32 = omega (arith, small, same, next) in
    search rules

pub invariant_of-result : goal.invariant_of-result
invariant_of-result c =
    let n = c.args.node.0 in
    let same : get_or c.args.bases.now n 0 ≡ get_or (bases_of c.args.starts.now c.args.parents.now) n 0 = ap (λ (bs : List ℕ). get_or bs n 0) c.requires.bases in
    let long = path_length c.args.items.now c.args.starts.now c.args.parents.now c.requires.ways n c.requires.node in
    (c.requires.ways, c.requires.bases, c.requires.node, omega arith, omega (arith, same, long))

pub returns : goal.returns
returns c =
    let n = c.args.node.0 in
    let same : get_or c.args.bases.now n 0 ≡ get_or (bases_of c.args.starts.now c.args.parents.now) n 0 = ap (λ (bs : List ℕ). get_or bs n 0) c.requires.bases in
    let long = path_length c.args.items.now c.args.starts.now c.args.parents.now c.requires.ways n c.requires.node in
    range_whole (path_in c.args.items.now c.args.starts.now c.args.parents.now n) _ (omega (arith, same, long))
