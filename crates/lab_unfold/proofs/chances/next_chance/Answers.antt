use Rattle.std.proofs.Common.{◌≡◌, ◌<◌, ◌*◌, ◌/◌, ℕ, length, get_or, Option, None, Some, sym, ap, ◌∙◌, subst, arith}
use Rattle.lab_defs_text.specs.Games.{GameModel}
use Rattle.lab_defs_text.specs.Texts.{place_at}
use Rattle.lab_defs_game.specs.Chance.{row_total, chance}
use Rattle.lab_defs_game.specs.Histories as model
use Rattle.lab_defs_game.specs.Laws.{IsStep}
use Rattle.lab_defs_game.proofs.Legal.{step_from}
use Rattle.lab_world.specs.Games.{game_model}
use Rattle.lab_unfold.specs.declared.history.History.{History}
use Rattle.lab_unfold.specs.declared.history.Step.{Step}
use Rattle.lab_unfold.specs.Values.{step_model}
use Rattle.lab_world.proofs.CallerLemmas.{whole_parts}
use Rattle.lab_unfold.specs.Parents.{history_at}
use Rattle.lab_unfold.proofs.ParentLemmas.{read_is, read_behind, read_first, read_step, step_same, all_length, told_at}
use Rattle.lab_unfold.proofs.ChanceLemmas.{chance_behind, chance_first}
use Rattle.lab_unfold.proofs.chances.next_chance.Goals as goal

pub returns-in_default : goal.returns-in_default
returns-in_default c =
    let g = game_model c.args.game.now in
    let b = read_behind g (length c.args.chances.now) c.args.items.now _ c.in_default.field-0-0 c.requires.items c.requires.below c.in_default.is-0 in
    absurd (never _ (sym c.in_default.is-1 ∙ read_step g (length c.args.chances.now) c.in_default.field-0-0.0 c.args.items.now _ b c.requires.items c.requires.below))
  where
    never : (s : Step) → ◌≡◌ {A = Option Step} None (Some s) → ⊥
    never s e = cc

pub returns-in_default-2 : goal.returns-in_default-2
returns-in_default-2 c =
    let g = game_model c.args.game.now in
    c.requires.scale ∙ sym (chance_first g)
    ∙ ap (chance g) (sym (read_first g (length c.args.chances.now) c.args.items.now _ c.requires.items c.requires.below c.in_default.is-0))

pub bounds-items-parent : goal.bounds-items-parent
bounds-items-parent c =
    let b = read_behind (game_model c.args.game.now) (length c.args.chances.now) c.args.items.now _ c.in-Some-Some.parent c.requires.items c.requires.below c.in-Some-Some.is-0 in
    omega (arith, b.below, c.requires.below)

pub bounds-chances-parent : goal.bounds-chances-parent
bounds-chances-parent c =
    let b = read_behind (game_model c.args.game.now) (length c.args.chances.now) c.args.items.now _ c.in-Some-Some.parent c.requires.items c.requires.below c.in-Some-Some.is-0 in
    omega (arith, b.below)

pub share-requires : goal.share-requires
share-requires c =
    let g = game_model c.args.game.now in
    let b = read_behind g (length c.args.chances.now) c.args.items.now _ c.in-Some-Some.parent c.requires.items c.requires.below c.in-Some-Some.is-0 in
    let few : length c.args.chances.now < length c.args.items.now = c.requires.below in
    let world = read_is g c.in-Some-Some.parent.0 c.args.items.now _ c.requires.items (omega (arith, few, b.below)) in
    let step = step_same c.in-Some-Some.step b.step
    (sym c.in-Some-Some.is-1 ∙ read_step g (length c.args.chances.now) c.in-Some-Some.parent.0 c.args.items.now _ b c.requires.items c.requires.below) in
    subst (λ (h : History). IsStep (place_at g h.world.0) (step_model c.in-Some-Some.step)) (sym world)
    (subst (IsStep (model.place_of g (history_at g c.in-Some-Some.parent.0))) (sym step) (step_from (model.place_of g (history_at g c.in-Some-Some.parent.0)) b.step b.legal))

-- what is left of a chance after a step out of the place n
abbrev left : GameModel → ℕ → ℕ → model.Step → ℕ
left g chance n s = chance / row_total (model.row_of (place_at g n) s.action1 s.action2) * (model.outcome_of g n s).weight

pub returns : goal.returns
returns c =
    let g = game_model c.args.game.now in
    let b = read_behind g (length c.args.chances.now) c.args.items.now _ c.in-Some-Some.parent c.requires.items c.requires.below c.in-Some-Some.is-0 in
    let few : length c.args.chances.now < length c.args.items.now = c.requires.below in
    let long = all_length g c.args.items.now c.requires.items in
    let told = told_at g (chance g) c.in-Some-Some.parent.0 (length c.args.chances.now) c.args.chances.now 0 c.requires.chances b.below (omega (arith, few, long)) in
    let world = read_is g c.in-Some-Some.parent.0 c.args.items.now _ c.requires.items (omega (arith, few, b.below)) in
    let step = step_same c.in-Some-Some.step b.step
    (sym c.in-Some-Some.is-1 ∙ read_step g (length c.args.chances.now) c.in-Some-Some.parent.0 c.args.items.now _ b c.requires.items c.requires.below) in
    c.share.ensures
    ∙ ap (λ (h : History). left g (get_or c.args.chances.now c.in-Some-Some.parent.0 0) h.world.0 (step_model c.in-Some-Some.step)) world
    ∙ ap (λ n. left g n (model.reached g g.root (history_at g c.in-Some-Some.parent.0)) (step_model c.in-Some-Some.step)) told
    ∙ ap (left g (chance g (history_at g c.in-Some-Some.parent.0)) (model.reached g g.root (history_at g c.in-Some-Some.parent.0))) step
    ∙ sym (chance_behind g (whole_parts c.args.game.now).0 (length c.args.chances.now) c.in-Some-Some.parent.0 (omega (arith, few, long)) b)
