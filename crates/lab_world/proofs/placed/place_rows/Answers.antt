use Rattle.std.proofs.Common.{◌≡◌, ◌+◌, ◌<◌, ◌^◌, [], List, ℕ, length, map, ap, sym, subst, ◌∙◌, rules, arith}
use Rattle.std.specs.Prelude.{◌==◌, ◌&&◌}
use Rattle.std.specs.List.{list_all}
use Rattle.std.specs.Vec.Iter.{into_iter_items}
use Rattle.lab_world.specs.declared.place.Row.{Row}
use Rattle.lab_world.specs.declared.stages.KnownRow.{KnownRow}
use Rattle.lab_world.specs.Stages.{weights_fit, known_row_of, numbered_rows, total_fits}
use Rattle.lab_world.proofs.RowLemmas.{rows_on, rows_first}
use Rattle.lab_world.proofs.placed.place_rows.Goals as goal

pub loop-row-init : goal.loop-row-init
loop-row-init c =
    let all : into_iter_items c.into_iter-row-iterator.result ≡ c.args.rows.items = search rules in
    let one = c.args.one.now in
    let two = c.args.two.now in
    let rows = into_iter_items c.into_iter-row-iterator.result in
    record {
      made = ap (λ (ks : List ℕ). rows_on one two (numbered_rows ks c.in_ok-room.room.items) (map known_row_of rows)) c.new.ensures
          ∙ ap (λ (rs : List KnownRow). rows_on one two [] (map known_row_of rs)) all ∙ rows_first one two (map known_row_of c.args.rows.items);
      fit = ap (λ (ks : List ℕ). length ks == length c.in_ok-room.room.items && list_all total_fits c.in_ok-room.room.items) c.new.ensures
          ∙ ap (λ (rs : List Row). 0 == length rs && list_all total_fits rs) c.in_ok-room.ensures.items;
      few = subst (λ (rs : List KnownRow). length c.in_ok-room.room.items + length rs < 2 ^ 32) (sym all) (omega (arith, ap length c.in_ok-room.ensures.items, c.requires.few));
      weights = ap (λ (rs : List KnownRow). list_all weights_fit (map known_row_of rs)) all ∙ c.requires.weights;
    }
