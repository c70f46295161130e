use Rattle.std.proofs.Common.{map, length, refl, ap, arith}
use Rattle.std.proofs.lemmas.List.{length-map}
use Rattle.lab_lex.specs.Names.{name_bytes}
use Rattle.lab_defs_text.specs.Games as model
use Rattle.lab_world.specs.declared.place.World.{World}
use Rattle.lab_world.specs.Models.{row_model}
use Rattle.lab_world.proofs.ActionNameLemmas.{with_new_few}
use Rattle.lab_world.proofs.PlaceLemmas.{world_named}
use Rattle.lab_world.proofs.numbered.numbered_world.Goals as goal

pub action_ids-requires-2 : goal.action_ids-requires-2
action_ids-requires-2 c =
    let made = ap length c.in_ok-one.ensures.table in
    let most = with_new_few c.args.actions.now (map name_bytes c.args.one.now) in
    omega (arith, made, most, length-map c.args.one.now name_bytes, c.requires.few)

pub returns-clause-world : goal.returns-clause-world
returns-clause-world c =
    let w : World = record { one = c.in_ok-one.one; two = c.in_ok-two.two; rows = c.args.rows } in
    let m : model.World = record { one = map name_bytes c.args.one.now; two = map name_bytes c.args.two.now; rows = map row_model c.args.rows } in
    let middle = c.action_ids.new.actions in
    let actions = c.action_ids-2.new.actions in
    (world_named middle actions w m c.in_ok-two.ensures.table c.in_ok-one.ensures.ids c.in_ok-one.ensures.below
    c.in_ok-two.ensures.ids c.in_ok-two.ensures.below refl c.requires.totals).same

pub returns-clause-fits : goal.returns-clause-fits
returns-clause-fits c =
    let w : World = record { one = c.in_ok-one.one; two = c.in_ok-two.two; rows = c.args.rows } in
    let m : model.World = record { one = map name_bytes c.args.one.now; two = map name_bytes c.args.two.now; rows = map row_model c.args.rows } in
    let middle = c.action_ids.new.actions in
    let actions = c.action_ids-2.new.actions in
    (world_named middle actions w m c.in_ok-two.ensures.table c.in_ok-one.ensures.ids c.in_ok-one.ensures.below
    c.in_ok-two.ensures.ids c.in_ok-two.ensures.below refl c.requires.totals).fits
