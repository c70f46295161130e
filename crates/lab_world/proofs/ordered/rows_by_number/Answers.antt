use Rattle.std.proofs.Common.{◌≡◌, ◌≢◌, ◌*◌, ◌-◌, ◌<◌, ◌/◌, ◌%◌, ◌++◌, ◌∷◌, [], ℕ, List, Some, None, map, true, refl, ap, sym, subst, ◌∙◌, rules, arith}
use Rattle.std.specs.Option.{option_map}
use Rattle.std.specs.List.{list_all, range_with_len}
use Rattle.std.proofs.lemmas.List.{map-append}
use Rattle.lab_math.proofs.ListTests.{all_push}
use Rattle.lab_defs_text.specs.Steps.{each}
use Rattle.lab_defs_text.specs.Agreement.{FaultAgrees}
use Rattle.lab_defs_text.specs.Assembly.{row_at, row_numbered}
use Rattle.lab_world.specs.declared.place.Row.{Row}
use Rattle.lab_world.specs.declared.parts.AssembleFault.{AssembleFault}
use Rattle.lab_world.specs.declared.parts.AssembleFault.TheVariants.{MissingRow}
use Rattle.lab_world.specs.Drafts.{assemble_fault}
use Rattle.lab_world.specs.Models.{row_model}
use Rattle.lab_world.specs.Stages.{placed_rows_of, total_fits}
use Rattle.lab_world.proofs.EachLemmas.{each_on, each_first}
use Rattle.lab_world.proofs.OrderLemmas.{row_next, row_missing}
use Rattle.lab_world.proofs.ordered.rows_by_number.Goals as goal

pub loop-number-init : goal.loop-number-init
loop-number-init c =
    let step = row_at c.args.line c.args.seconds (placed_rows_of c.args.placed) in
    let count = c.args.firsts * c.args.seconds in
    let all : count - 0 ≡ count = omega arith in
    record {
      made = ap (λ (rs : List Row). each_on step (map row_model rs) (range_with_len 0 (count - 0))) c.in_ok-found.ensures.items
          ∙ ap (λ (n : ℕ). each_on step [] (range_with_len 0 n)) all ∙ each_first step (range_with_len 0 count);
      kept = λ k le. refl;
      totals = ap (λ (rs : List Row). list_all total_fits rs) c.in_ok-found.ensures.items;
      rest = c.requires;
    }

pub loop-number-preserved : goal.loop-number-preserved
loop-number-preserved c =
    let rows = placed_rows_of c.args.placed in
    let i = c.loop-number.number in
    let few : i < c.args.firsts * c.args.seconds = search rules in
    let row = c.in-Some.row in
    let there : row_numbered i rows ≡ Some (row_model row) = sym (c.loop-number.invariant.kept i (omega arith)) ∙ sym c.take_row.ensures.taken ∙ ap (option_map row_model) c.in-Some.is in
    let made : map row_model c.push.new.self.items ≡ map row_model c.loop-number.found.items ++ row_model row ∷ [] = ap (map row_model) c.in_ok-push.ensures.items ∙ map-append row_model c.loop-number.found.items (row ∷ []) in
    record {
      made = row_next c.args.line c.args.seconds rows (map row_model c.loop-number.found.items) (map row_model c.push.new.self.items) i (c.args.firsts * c.args.seconds) (row_model row)
          (each (row_at c.args.line c.args.seconds rows) (range_with_len 0 (c.args.firsts * c.args.seconds))) few there made c.loop-number.invariant.made;
      kept = λ k le. let ne : k ≢ i = omega (arith, le) in c.take_row.ensures.others k ne ∙ c.loop-number.invariant.kept k (omega (arith, le));
      totals = subst (λ (rs : List Row). list_all total_fits rs ≡ true) (sym c.in_ok-push.ensures.items) (all_push total_fits c.loop-number.found.items row c.loop-number.invariant.totals c.in-Some.ensures.total);
      rest = c.take_row.ensures.totals;
    }

pub returns-in_default-clause-rows : goal.returns-in_default-clause-rows
returns-in_default-clause-rows c =
    let rows = placed_rows_of c.args.placed in
    let i = c.loop-number.number in
    let few : i < c.args.firsts * c.args.seconds = search rules in
    let gone : c.take_row.result ≡ None = search rules in
    let none : row_numbered i rows ≡ None = sym (c.loop-number.invariant.kept i (omega arith)) ∙ sym c.take_row.ensures.taken ∙ ap (option_map row_model) gone in
    let all = each (row_at c.args.line c.args.seconds rows) (range_with_len 0 (c.args.firsts * c.args.seconds)) in
    let fault : c.missing_row.result ≡ MissingRow c.args.line (i / c.args.seconds) (i % c.args.seconds) = search rules in
    subst (λ (e : AssembleFault). FaultAgrees (assemble_fault e) all) (sym fault)
    (row_missing c.args.line c.args.seconds rows (map row_model c.loop-number.found.items) i (c.args.firsts * c.args.seconds) all few none c.loop-number.invariant.made)
