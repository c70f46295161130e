use Rattle.std.proofs.Common.{◌≡◌, ℕ, ◌+◌, ◌<◌, ◌^◌, pos, ◌+ℤ◌, List, length, get_or, Some, inl, inr, refl, unsigned_abs, sym, ap, ◌∙◌, subst, arith}
use Rattle.std.proofs.lemmas.Int.{ints}
use Rattle.lab_math.specs.Sums.{total, sum_over}
use Rattle.lab_math.proofs.Members.{In}
use Rattle.lab_math.proofs.NaturalSums.{sum_over-map}
use Rattle.lab_units.specs.declared.worth.Worth.{Worth}
use Rattle.lab_defs_value.specs.Bounds.{at}
use Rattle.lab_form.specs.declared.items.FormSet.{FormSet}
use Rattle.lab_form.specs.Chains.{children_of, is_at}
use Rattle.lab_form.proofs.CallerLemmas.{numbers_pass}
use Rattle.lab_best.specs.Parts.{part_at, children_value}
use Rattle.lab_best.specs.Rows.{set_at}
use Rattle.lab_best.specs.Values.{numbers}
use Rattle.lab_best.proofs.NumberLemmas.{nothing, number_at, numbers_length, part_size, walk_total, walk_size}
use Rattle.lab_best.proofs.ThroughLemmas.{children_total, numbers_size}
use Rattle.lab_best.proofs.through.add_children.Goals as goal

pub loop-child-init : goal.loop-child-init
loop-child-init c =
    let sets = c.args.sets.now in
    let values = c.args.values.now in
    let walk : c.into_iter-child-iterator.result ≡ children_of sets (Some c.args.set) =
    c.into_iter-child-iterator.ensures.into_iter_gives ∙ c.children-child-items.ensures ∙ ap (λ (ss : List FormSet). children_of ss (Some c.args.set)) (sym c.requires.sets) in
    record {
      next = tt;
      ends = tt;
      places = refl;
      there = λ n i. (numbers_pass (λ (s : FormSet). is_at (Some c.args.set) s.parent) sets n (set_at sets n) (subst (In n) walk i)).0;
      values = λ i l.
          let whole = ap (total (λ n. part_at c.args.first (set_at sets n).parent (at (numbers values) n) i)) walk ∙ children_total sets (at (numbers values)) c.args.set c.args.first i in
          ap (λ z. at (numbers c.args.out.now) i +ℤ z) whole;
      sizes = λ i l.
          let few = numbers_size (λ (s : FormSet). is_at (Some c.args.set) s.parent) sets unsigned_abs (numbers values) (pos 0) (numbers_length values ∙ c.requires.values ∙ sym (ap length c.requires.sets)) in
          let own = ap (sum_over (λ n. unsigned_abs (at (numbers values) n))) walk in
          omega (arith, c.requires.sizes i l, few, own, sum_over-map unsigned_abs (λ (w : Worth). w.0) values);
    }

pub bounds-sets-child : goal.bounds-sets-child
bounds-sets-child c = c.loop-child.invariant.there c.in-Some.child (subst (In c.in-Some.child) (sym c.in-Some.ensures.steps) (inl refl))

pub bounds-values-child : goal.bounds-values-child
bounds-values-child c =
    let there : c.in-Some.child < length c.args.sets.now = c.loop-child.invariant.there c.in-Some.child (subst (In c.in-Some.child) (sym c.in-Some.ensures.steps) (inl refl)) in
    omega (arith, ap length c.requires.sets)

pub add_at-requires : goal.add_at-requires
add_at-requires c =
    λ i l.
    let values = c.args.values.now in
    let split : sum_over (λ n. unsigned_abs (at (numbers values) n)) c.loop-child.child-iterator ≡ unsigned_abs (at (numbers values) c.in-Some.child) + sum_over (λ n. unsigned_abs (at (numbers values) n)) c.next.new.self =
    ap (sum_over (λ n. unsigned_abs (at (numbers values) n))) c.in-Some.ensures.steps in
    subst (λ z. unsigned_abs (at (numbers c.loop-child.out) i) + unsigned_abs z < 2 ^ 127) (number_at values c.in-Some.child)
    (omega (arith, c.loop-child.invariant.sizes i l, split))

pub loop-child-preserved : goal.loop-child-preserved
loop-child-preserved c =
    let sets = c.args.sets.now in
    let values = c.args.values.now in
    let child = c.in-Some.child in
    let was : (i : ℕ) → i < length c.add_at.new.out → i < length c.loop-child.out = λ i l. omega (arith, l, c.add_at.ensures.places) in
    record {
      next = tt;
      ends = tt;
      places = c.add_at.ensures.places ∙ c.loop-child.invariant.places;
      there = λ n i. c.loop-child.invariant.there n (subst (In n) (sym c.in-Some.ensures.steps) (inr i));
      values = λ i l.
          walk_total (λ n. part_at c.args.first (set_at sets n).parent (at (numbers values) n) i) (at (numbers c.loop-child.out) i) (at (numbers c.add_at.new.out) i)
          (part_at c.args.first (set_at sets child).parent (get_or values child nothing).0 i) (at (numbers c.args.out.now) i +ℤ children_value sets (at (numbers values)) c.args.set.0 (c.args.first + i))
          child c.loop-child.child-iterator c.next.new.self c.in-Some.ensures.steps (c.loop-child.invariant.values i (was i l)) (c.add_at.ensures.values i (was i l))
          (ap (λ z. part_at c.args.first (set_at sets child).parent z i) (sym (number_at values child)));
      sizes = λ i l.
          walk_size (λ n. unsigned_abs (at (numbers values) n)) (at (numbers c.loop-child.out) i) (at (numbers c.add_at.new.out) i)
          (part_at c.args.first (set_at sets child).parent (get_or values child nothing).0 i) (2 ^ 126)
          child c.loop-child.child-iterator c.next.new.self c.in-Some.ensures.steps (c.loop-child.invariant.sizes i (was i l)) (c.add_at.ensures.values i (was i l))
          (omega (arith, part_size c.args.first i (set_at sets child).parent (get_or values child nothing).0, ap unsigned_abs (number_at values child)));
    }

pub returns-clause-values : goal.returns-clause-values
returns-clause-values c =
    λ i l.
    let sets = c.args.sets.now in
    let values = c.args.values.now in
    let left : total (λ n. part_at c.args.first (set_at sets n).parent (at (numbers values) n) i) c.loop-child.child-iterator ≡ pos 0 =
    ap (total (λ n. part_at c.args.first (set_at sets n).parent (at (numbers values) n) i)) c.in-None.ensures.steps.0 in
    let done = c.loop-child.invariant.values i (omega (arith, l, c.loop-child.invariant.places)) in
    let same = ap (λ (ss : List FormSet). children_value ss (at (numbers values)) c.args.set.0 (c.args.first + i)) c.requires.sets in
    omega (arith, ints, left, done, same)

pub returns-clause-sizes : goal.returns-clause-sizes
returns-clause-sizes c = λ i l. omega (arith, c.loop-child.invariant.sizes i (omega (arith, l, c.loop-child.invariant.places)))
