use Rattle.std.proofs.Common.{◌≡◌, ◌<◌, length, Option, None, Some, sym, ap, ◌∙◌, subst, arith}
use Rattle.lab_defs_text.specs.Texts.{place_at}
use Rattle.lab_defs_game.specs.Histories as model
use Rattle.lab_defs_game.specs.Laws.{IsStep}
use Rattle.lab_defs_game.specs.Sets.{seen}
use Rattle.lab_defs_game.proofs.Legal.{step_from}
use Rattle.lab_world.specs.Games.{game_model}
use Rattle.lab_world.specs.Seats.{seat_number}
use Rattle.lab_unfold.specs.declared.history.History.{History}
use Rattle.lab_unfold.specs.declared.history.Step.{Step}
use Rattle.lab_unfold.specs.Items.{last_item}
use Rattle.lab_unfold.specs.Values.{step_model}
use Rattle.lab_unfold.specs.Parents.{history_at}
use Rattle.lab_unfold.proofs.ParentLemmas.{read_is, read_behind, read_first, read_step, step_same}
use Rattle.lab_unfold.proofs.StepItems.{last_is}
use Rattle.lab_unfold.proofs.item.last_among.Goals as goal

pub returns-in_default : goal.returns-in_default
returns-in_default c =
    let g = game_model c.args.game.now in
    let b = read_behind g c.args.id.0 c.args.items.now _ c.in_default.field-0-0 c.requires.items c.requires.there c.in_default.is-0 in
    absurd (never _ (sym c.in_default.is-1 ∙ read_step g c.args.id.0 c.in_default.field-0-0.0 c.args.items.now _ b c.requires.items c.requires.there))
  where
    never : (s : Step) → ◌≡◌ {A = Option Step} None (Some s) → ⊥
    never s e = cc

pub returns-in_default-2 : goal.returns-in_default-2
returns-in_default-2 c =
    let g = game_model c.args.game.now in
    sym (ap (λ h. last_item (seen g (seat_number c.args.seat) h)) (read_first g c.args.id.0 c.args.items.now _ c.requires.items c.requires.there c.in_default.is-0))

pub bounds-items-parent : goal.bounds-items-parent
bounds-items-parent c =
    let b = read_behind (game_model c.args.game.now) c.args.id.0 c.args.items.now _ c.in-Some-Some.parent c.requires.items c.requires.there c.in-Some-Some.is-0 in
    omega (arith, b.below, c.requires.there)

pub outcome_at-outcome-requires : goal.outcome_at-outcome-requires
outcome_at-outcome-requires c =
    let g = game_model c.args.game.now in
    let b = read_behind g c.args.id.0 c.args.items.now _ c.in-Some-Some.parent c.requires.items c.requires.there c.in-Some-Some.is-0 in
    let there : c.args.id.0 < length c.args.items.now = c.requires.there in
    let world = read_is g c.in-Some-Some.parent.0 c.args.items.now _ c.requires.items (omega (arith, there, b.below)) in
    let step = step_same c.in-Some-Some.step b.step
    (sym c.in-Some-Some.is-1 ∙ read_step g c.args.id.0 c.in-Some-Some.parent.0 c.args.items.now _ b c.requires.items c.requires.there) in
    subst (λ (h : History). IsStep (place_at g h.world.0) (step_model c.in-Some-Some.step)) (sym world)
    (subst (IsStep (model.place_of g (history_at g c.in-Some-Some.parent.0))) (sym step) (step_from (model.place_of g (history_at g c.in-Some-Some.parent.0)) b.step b.legal))

pub returns : goal.returns
returns c =
    let g = game_model c.args.game.now in
    let b = read_behind g c.args.id.0 c.args.items.now _ c.in-Some-Some.parent c.requires.items c.requires.there c.in-Some-Some.is-0 in
    let there : c.args.id.0 < length c.args.items.now = c.requires.there in
    let world = read_is g c.in-Some-Some.parent.0 c.args.items.now _ c.requires.items (omega (arith, there, b.below)) in
    let step = step_same c.in-Some-Some.step b.step
    (sym c.in-Some-Some.is-1 ∙ read_step g c.args.id.0 c.in-Some-Some.parent.0 c.args.items.now _ b c.requires.items c.requires.there) in
    last_is g (seat_number c.args.seat) c.args.id.0 c.in-Some-Some.parent.0 _ c.in-Some-Some.step c.outcome_at-outcome.result c.item_with.result world b step
    c.item_with.ensures.action c.item_with.ensures.own c.item_with.ensures.public c.outcome_at-outcome.ensures
