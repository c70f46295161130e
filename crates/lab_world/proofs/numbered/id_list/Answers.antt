use Rattle.std.proofs.Common.{◌≡◌, ◌+◌, ◌∙◌, ◌++◌, ◌∷◌, [], List, sym, ap, subst, true, map, drop, get_or, length, arith}
use Rattle.std.specs.Borrow.{Bor}
use Rattle.std.proofs.lemmas.List.{drop_more}
use Rattle.lab_defs_text.specs.Words.{Bytes}
use Rattle.lab_lex.specs.Names.{name_bytes}
use Rattle.lab_world.specs.declared.place.ActionId.{ActionId}
use Rattle.lab_world.specs.Models.{action_list}
use Rattle.lab_world.specs.Wholes.{with_new}
use Rattle.lab_world.proofs.ActionNameLemmas.{with_new_few, ids_below, action_list_push, ids_below_push}
use Rattle.lab_world.proofs.numbered.id_list.Goals as goal

pub loop-i-preserved : goal.loop-i-preserved
loop-i-preserved c =
    let none : Bor Bytes = record { ref_ptr = (0, 0); now = [] } in
    let item = get_or c.args.names.now c.loop-i.i none in
    let name = name_bytes item in
    let rest = drop (c.loop-i.i + 1) c.args.names.now in
    let here = drop_more c.args.names.now c.loop-i.i none (omega (arith, c.loop-i-test.true)) in
    let left = map name_bytes rest in
    let names = ap (map name_bytes) here in
    let after = c.action_id.new.actions in
    let id = c.in_ok-action_id.field-0 in
    let made = c.in_ok-action_id.ensures.table in
    let items = c.in_ok-push.ensures.items in
    record {
      table = ap (λ (ns : List Bytes). with_new ns left) made ∙ ap (with_new c.loop-i.actions) (sym names) ∙ c.loop-i.invariant.table;
      ids = ap (λ (is : List ActionId). action_list after is ++ left) items
          ∙ action_list_push c.loop-i.actions after name c.loop-i.ids.items id left made c.loop-i.invariant.below c.in_ok-action_id.ensures.id
          ∙ ap (λ (ns : List Bytes). action_list c.loop-i.actions c.loop-i.ids.items ++ ns) (sym names) ∙ c.loop-i.invariant.ids;
      below = subst (λ (is : List ActionId). ids_below (length after) is ≡ true) (sym items)
          (ids_below_push c.loop-i.actions after name c.loop-i.ids.items id made c.loop-i.invariant.below c.in_ok-action_id.ensures.below);
      few = let more = with_new_few c.loop-i.actions (name ∷ []) in let grown = ap length made in let before = c.loop-i.invariant.few in omega (arith, more, grown, before);
    }
