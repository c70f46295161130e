use Rattle.std.proofs.Common.{◌≡◌, ◌-◌, ◌<◌, length, ap, ◌∙◌, sym, subst, arith}
use Rattle.std.proofs.lemmas.List.FromFn.{length-map-range_with_len}
use Rattle.lab_tree.specs.Places.{place_at, kin_count, count_back}
use Rattle.lab_tree.proofs.TreeFormLemmas.{counted_at}
use Rattle.lab_tree.proofs.KinLemmas.{item_told}
use Rattle.lab_tree.proofs.places.item.Goals as goal

pub bounds-places-number : goal.bounds-places-number
bounds-places-number c = subst (λ n. c.args.number < n) (sym (ap length c.requires.places ∙ length-map-range_with_len (place_at c.args.sets.now) 0 (length c.args.sets.now))) c.requires.there

pub bounds-counts-sets : goal.bounds-counts-sets
bounds-counts-sets c =
    let there : c.args.number < length c.args.sets.now = c.requires.there in
    omega (arith, there, ap length c.requires.counts ∙ length-map-range_with_len (count_back c.args.sets.now) 0 (length c.args.sets.now))

pub returns : goal.returns
returns c =
    let n = length c.args.sets.now in
    let i = c.args.number in
    let there : i < n = c.requires.there in
    let place = counted_at (place_at c.args.sets.now) c.args.places.now n i c.requires.places there in
    let back : n - 1 - (n - 1 - i) ≡ i = omega (arith, there) in
    let count = counted_at (count_back c.args.sets.now) c.args.counts.now n (n - 1 - i) c.requires.counts (omega (arith, there)) ∙ ap (kin_count c.args.sets.now) back in
    item_told c.args.sets.now c.args.starts.now c.args.bases.now i (c.in-Some.parent, c.in-Some.action) c.index.result _ _ c.in-Some.is c.index.ensures place count
