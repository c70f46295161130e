use Rattle.std.proofs.Common.{rules, ◌≡◌, ℕ, ◌+◌, ◌-◌, ◌<◌, ◌^◌, length, get_or, ap, ◌∙◌, sym, arith}
use Rattle.std.proofs.lemmas.Bool.{eqb-true, eqb-false}
use Rattle.std.proofs.lemmas.List.FromFn.{length-map-range_with_len}
use Rattle.lab_tree.specs.Places.{place_at, kin_count, count_back}
use Rattle.lab_tree.proofs.TreeFormLemmas.{counted_at}
use Rattle.lab_tree.proofs.KinLemmas.{count_kin, count_other, place_small}
use Rattle.lab_tree.proofs.places.count.Goals as goal

pub bounds-places-number : goal.bounds-places-number
bounds-places-number c =
    let n = length c.args.sets.now in
    let m = length c.args.counts.now in
    let below : m < n = c.requires.below in
    let long = ap length c.requires.places ∙ length-map-range_with_len (place_at c.args.sets.now) 0 n in
    omega (arith, below, long)

pub overflow_add-alone : goal.overflow_add-alone
overflow_add-alone c =
    let n = length c.args.sets.now in
    let m = length c.args.counts.now in
    let below : m < n = c.requires.below in
    let here : n - 1 - m < n = omega (arith, below) in
    let told = counted_at (place_at c.args.sets.now) c.args.places.now n (n - 1 - m) c.requires.places here in
    let small = place_small c.args.sets.now c.requires.grouped (n - 1 - m) here in
    let fits : get_or c.args.places.now (n - 1 - m) 0 + 1 < 2 ^ 32 = omega (arith, told, small, here, c.requires.few) in
    search rules

pub returns-then-is_empty : goal.returns-then-is_empty
returns-then-is_empty c =
    let n = length c.args.sets.now in
    let m = length c.args.counts.now in
    let below : m < n = c.requires.below in
    let here : n - 1 - m < n = omega (arith, below) in
    let none : m ≡ 0 = eqb-true m 0 (sym c.is_empty.ensures ∙ c.if-is_empty.true) in
    ap (λ k. k + 1) (counted_at (place_at c.args.sets.now) c.args.places.now n (n - 1 - m) c.requires.places here)
    ∙ sym (count_other c.args.sets.now c.requires.grouped (n - 1 - m) here (λ l. absurd (omega (arith, l, none, below))))

pub returns-then-are_kin : goal.returns-then-are_kin
returns-then-are_kin c =
    let n = length c.args.sets.now in
    let m = length c.args.counts.now in
    let below : m < n = c.requires.below in
    let some : m ≡ 0 → ⊥ = eqb-false m 0 (sym c.is_empty.ensures ∙ c.if-is_empty.false) in
    let last : m - 1 < m = before m some in
    let next : n - 1 - (m - 1) ≡ n - 1 - m + 1 = omega (arith, below, last) in
    counted_at (count_back c.args.sets.now) c.args.counts.now m (m - 1) c.requires.counts last ∙ ap (kin_count c.args.sets.now) next
    ∙ sym (count_kin c.args.sets.now c.requires.grouped (n - 1 - m) (sym c.are_kin.ensures ∙ c.if-are_kin.true))
  where
    before : (k : ℕ) → (k ≡ 0 → ⊥) → k - 1 < k
    before k h = omega (arith, h)

pub returns-else-are_kin : goal.returns-else-are_kin
returns-else-are_kin c =
    let n = length c.args.sets.now in
    let m = length c.args.counts.now in
    let below : m < n = c.requires.below in
    let here : n - 1 - m < n = omega (arith, below) in
    ap (λ k. k + 1) (counted_at (place_at c.args.sets.now) c.args.places.now n (n - 1 - m) c.requires.places here)
    ∙ sym (count_other c.args.sets.now c.requires.grouped (n - 1 - m) here (λ l. sym c.are_kin.ensures ∙ c.if-are_kin.false))
