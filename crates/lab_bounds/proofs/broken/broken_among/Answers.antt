use Rattle.std.proofs.Common.{◌≡◌, ◌+◌, length, map, subst, arith}
use Rattle.std.specs.List.{range_with_len}
use Rattle.std.proofs.lemmas.Grind.{common_steps}
use Rattle.lab_defs_value.specs.Bounds.{at, through}
use Rattle.lab_best.specs.Values.{numbers}
use Rattle.lab_bounds.specs.Tables.{bounded_in, IsBelow, IsFirstAbove}
use Rattle.lab_bounds.proofs.BackedSizes.{few_actions}
use Rattle.lab_bounds.proofs.SearchLemmas.{range_long, below_range, first_range}
use Rattle.lab_bounds.proofs.broken.broken_among.Goals as goal

pub overflow_add-result : goal.overflow_add-result
overflow_add-result c =
    let len : length c.write_through.new.out ≡ c.args.count = grind (arith, common_steps) in
    let first = c.in-Some.ensures.some in
    let few = few_actions c.args.form.now c.args.d c.args.table.now c.args.bounds.now c.requires.of c.args.set.0 c.requires.set in
    omega (arith, first.there, len, few, c.requires.actions)

pub returns : goal.returns
returns c =
    let h = through (bounded_in c.args.form.now c.args.d c.args.table.now c.args.bounds.now) (at c.args.bounds.now.bounds) c.args.set.0 in
    let len : length c.write_through.new.out ≡ c.args.count = grind (arith, common_steps) in
    let values : numbers c.write_through.new.out ≡ map h (range_with_len c.args.from c.args.count) =
    range_long h c.args.from _ c.args.count c.write_through.new.out c.write_through.ensures.values len in
    record {
      none = tt;
      some = subst (λ b. IsFirstAbove h b c.args.from (c.args.from + c.args.count) (c.args.from + c.in-Some.place) c.in-Some.over.0) c.at.ensures
          (first_range h c.at.result.0 c.args.from c.args.count c.in-Some.place c.in-Some.over.0 (numbers c.write_through.new.out) values
          (subst (λ n. IsFirstAbove (at (numbers c.write_through.new.out)) c.at.result.0 0 n c.in-Some.place c.in-Some.over.0) len c.in-Some.ensures.some));
    }

pub returns-in_default-clause-none : goal.returns-in_default-clause-none
returns-in_default-clause-none c =
    let h = through (bounded_in c.args.form.now c.args.d c.args.table.now c.args.bounds.now) (at c.args.bounds.now.bounds) c.args.set.0 in
    let len : length c.write_through.new.out ≡ c.args.count = grind (arith, common_steps) in
    let values : numbers c.write_through.new.out ≡ map h (range_with_len c.args.from c.args.count) =
    range_long h c.args.from _ c.args.count c.write_through.new.out c.write_through.ensures.values len in
    subst (λ b. IsBelow h b c.args.from (c.args.from + c.args.count)) c.at.ensures
    (below_range h c.at.result.0 c.args.from c.args.count c.args.count (numbers c.write_through.new.out) values (omega arith)
    (subst (λ n. IsBelow (at (numbers c.write_through.new.out)) c.at.result.0 0 n) len c.in_default.ensures.none))
