use Rattle.std.proofs.Common.{rules, ◌≡◌, ℕ, ◌+◌, ◌-◌, ◌<◌, ◌^◌, length, get_or, ap, ◌∙◌, sym, arith}
use Rattle.lab_tree.specs.Places.{place_at}
use Rattle.lab_tree.proofs.TreeFormLemmas.{counted_at}
use Rattle.lab_tree.proofs.KinLemmas.{place_kin, place_other, place_small}
use Rattle.lab_tree.proofs.places.place.Goals as goal

-- what is not 0 is one more than another
one_more : (n : ℕ) → (n ≡ 0 → ⊥) → n - 1 + 1 ≡ n
one_more n h = omega (arith, h)

pub overflow_add-result : goal.overflow_add-result
overflow_add-result c =
    let n = length c.args.places.now in
    let below : n < length c.args.sets.now = c.requires.below in
    let more : n - 1 + 1 ≡ n = one_more n c.if-number-eq0.false in
    let told = counted_at (place_at c.args.sets.now) c.args.places.now n (n - 1) c.requires.places (omega (arith, more)) in
    let small = place_small c.args.sets.now c.requires.grouped (n - 1) (omega (arith, below)) in
    let fits : get_or c.args.places.now (n - 1) 0 + 1 < 2 ^ 32 = omega (arith, told, small, below, c.requires.few) in
    search rules

pub returns-then-are_kin : goal.returns-then-are_kin
returns-then-are_kin c =
    let n = length c.args.places.now in
    let below : n < length c.args.sets.now = c.requires.below in
    let more : n - 1 + 1 ≡ n = one_more n c.if-number-eq0.false in
    let told = counted_at (place_at c.args.sets.now) c.args.places.now n (n - 1) c.requires.places (omega (arith, more)) in
    ap (λ m. m + 1) told ∙ sym (place_kin c.args.sets.now c.requires.grouped (n - 1) (omega (arith, below, more)) (sym c.are_kin.ensures ∙ c.if-are_kin.true)) ∙ ap (place_at c.args.sets.now) more

pub returns-else-are_kin : goal.returns-else-are_kin
returns-else-are_kin c =
    let n = length c.args.places.now in
    let below : n < length c.args.sets.now = c.requires.below in
    let more : n - 1 + 1 ≡ n = one_more n c.if-number-eq0.false in
    sym (place_other c.args.sets.now c.requires.grouped (n - 1) (omega (arith, below, more)) (sym c.are_kin.ensures ∙ c.if-are_kin.false)) ∙ ap (place_at c.args.sets.now) more
