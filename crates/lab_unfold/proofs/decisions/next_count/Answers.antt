use Rattle.std.proofs.Common.{◌<◌, ◌+◌, ◌^◌, length, get_or, cond, sym, ap, ◌∙◌, arith, rules}
use Rattle.std.specs.Prelude.{nat_le}
use Rattle.lab_defs_text.specs.Texts.{place_at}
use Rattle.lab_defs_game.specs.Histories.{actions_at}
use Rattle.lab_defs_game.specs.Sets.{decisions_from}
use Rattle.lab_world.specs.Games.{game_model}
use Rattle.lab_world.specs.Seats.{seat_number}
use Rattle.lab_unfold.specs.declared.history.History.{History}
use Rattle.lab_world.proofs.CallerLemmas.{horizon_small}
use Rattle.lab_unfold.specs.Parents.{history_at}
use Rattle.lab_unfold.proofs.ParentLemmas.{read_is, read_behind, read_first, all_length, told_at, decisions_behind, decisions_small}
use Rattle.lab_unfold.proofs.decisions.next_count.Goals as goal

pub returns-in_default : goal.returns-in_default
returns-in_default c =
    let g = game_model c.args.game.now in
    ap (decisions_from g (seat_number c.args.seat) g.root) (sym (read_first g (length c.args.counts.now) c.args.items.now _ c.requires.items c.requires.below c.in_default.is))

pub bounds-items-parent : goal.bounds-items-parent
bounds-items-parent c =
    let b = read_behind (game_model c.args.game.now) (length c.args.counts.now) c.args.items.now _ c.in-Some.parent c.requires.items c.requires.below c.in-Some.is in
    omega (arith, b.below, c.requires.below)

pub bounds-counts-parent : goal.bounds-counts-parent
bounds-counts-parent c =
    let b = read_behind (game_model c.args.game.now) (length c.args.counts.now) c.args.items.now _ c.in-Some.parent c.requires.items c.requires.below c.in-Some.is in
    omega (arith, b.below)

pub overflow_add-result : goal.overflow_add-result
overflow_add-result c =
    let g = game_model c.args.game.now in
    let b = read_behind g (length c.args.counts.now) c.args.items.now _ c.in-Some.parent c.requires.items c.requires.below c.in-Some.is in
    let few : length c.args.counts.now < length c.args.items.now = c.requires.below in
    let long = all_length g c.args.items.now c.requires.items in
    let told = told_at g (decisions_from g (seat_number c.args.seat) g.root) c.in-Some.parent.0 (length c.args.counts.now) c.args.counts.now 0 c.requires.counts b.below (omega (arith, few, long)) in
    let small = decisions_small g (seat_number c.args.seat) c.in-Some.parent.0 (omega (arith, few, long, b.below)) in
    let fits : get_or c.args.counts.now c.in-Some.parent.0 0 + c.decisions_at.result < 2 ^ 32 = omega (arith, told, small, horizon_small c.args.game.now, c.decisions_at.ensures.small) in
    search rules

pub returns : goal.returns
returns c =
    let g = game_model c.args.game.now in
    let b = read_behind g (length c.args.counts.now) c.args.items.now _ c.in-Some.parent c.requires.items c.requires.below c.in-Some.is in
    let few : length c.args.counts.now < length c.args.items.now = c.requires.below in
    let told = told_at g (decisions_from g (seat_number c.args.seat) g.root) c.in-Some.parent.0 (length c.args.counts.now) c.args.counts.now 0 c.requires.counts b.below (omega (arith, few, all_length g c.args.items.now c.requires.items)) in
    let world = read_is g c.in-Some.parent.0 c.args.items.now _ c.requires.items (omega (arith, few, b.below)) in
    ap (λ n. n + c.decisions_at.result) told
    ∙ ap (λ n. decisions_from g (seat_number c.args.seat) g.root (history_at g c.in-Some.parent.0) + n) (c.decisions_at.ensures.value ∙ ap (λ (h : History). cond (nat_le 2 (actions_at (seat_number c.args.seat) (place_at g h.world.0))) 1 0) world)
    ∙ sym (decisions_behind g (seat_number c.args.seat) (length c.args.counts.now) c.in-Some.parent.0 b)
