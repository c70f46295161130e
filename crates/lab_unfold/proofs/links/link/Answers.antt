use Rattle.std.proofs.Common.{◌≡◌, ◌<◌, Option, None, Some, sym, ap, ◌∙◌, subst, true, false, length, get_or, [], ◌∷◌, ◌++◌, arith}
use Rattle.lab_defs_text.specs.Texts.{place_at}
use Rattle.lab_defs_game.specs.Histories.{histories}
use Rattle.lab_defs_game.specs.Sets as sets
use Rattle.lab_world.specs.Games.{game_model}
use Rattle.lab_world.specs.Seats.{seat_number}
use Rattle.lab_unfold.specs.declared.history.History.{History}
use Rattle.lab_unfold.specs.Links.{IsMade}
use Rattle.lab_unfold.specs.Traces.{counted, counted_at, trace, traces}
use Rattle.lab_unfold.specs.Parents.{history_at}
use Rattle.lab_unfold.proofs.ParentLemmas.{all_length, read_is, read_first, read_behind}
use Rattle.lab_unfold.proofs.StepItems.{last_behind}
use Rattle.lab_unfold.proofs.TraceLemmas.{trace_none, trace_root, trace_at, trace_behind}
use Rattle.lab_unfold.proofs.links.link.Goals as goal

pub returns-then-not-counts : goal.returns-then-not-counts
returns-then-not-counts c =
    let g = game_model c.args.game.now in
    let below : c.args.id.0 < length (histories g) = omega (arith, c.requires.there, all_length g c.args.items.now c.requires.items) in
    let at = read_is g c.args.id.0 c.args.items.now _ c.requires.items c.requires.there in
    let counts : counted g c.args.kept (history_at g c.args.id.0) ≡ false = sym (c.counts.ensures ∙ ap (λ (h : History). counted_at c.args.kept (place_at g h.world.0)) at) ∙ c.if-not-counts.true in
    trace_at g (seat_number c.args.seat) c.args.kept c.args.id.0 below ∙ trace_none g (seat_number c.args.seat) c.args.kept (history_at g c.args.id.0) counts

pub returns-in_err-parent : goal.returns-in_err-parent
returns-in_err-parent c =
    let g = game_model c.args.game.now in
    let below : c.args.id.0 < length (histories g) = omega (arith, c.requires.there, all_length g c.args.items.now c.requires.items) in
    let root = read_first g c.args.id.0 c.args.items.now _ c.requires.items c.requires.there c.in_err-parent.was in
    subst (IsMade (traces g (seat_number c.args.seat) c.args.kept) c.args.id.0) (sym c.from_residual.ensures)
    (trace_at g (seat_number c.args.seat) c.args.kept c.args.id.0 below ∙ ap (trace g (seat_number c.args.seat) c.args.kept) root ∙ trace_root g (seat_number c.args.seat) c.args.kept)

pub returns-in_err-item : goal.returns-in_err-item
returns-in_err-item c =
    let g = game_model c.args.game.now in
    let b = read_behind g c.args.id.0 c.args.items.now _ c.in_ok-parent.parent c.requires.items c.requires.there c.in_ok-parent.was in
    absurd (never _ (c.in_err-item.ensures ∙ last_behind g (seat_number c.args.seat) c.args.id.0 c.in_ok-parent.parent.0 b))
  where
    never : (x : sets.Item) → ◌≡◌ {A = Option sets.Item} None (Some x) → ⊥
    never x e = cc

pub returns : goal.returns
returns c =
    let g = game_model c.args.game.now in
    let below : c.args.id.0 < length (histories g) = omega (arith, c.requires.there, all_length g c.args.items.now c.requires.items) in
    let b = read_behind g c.args.id.0 c.args.items.now _ c.in_ok-parent.parent c.requires.items c.requires.there c.in_ok-parent.was in
    let at = read_is g c.args.id.0 c.args.items.now _ c.requires.items c.requires.there in
    let counts : counted g c.args.kept (history_at g c.args.id.0) ≡ true = sym (c.counts.ensures ∙ ap (λ (h : History). counted_at c.args.kept (place_at g h.world.0)) at) ∙ c.if-not-counts.false in (
      b.below,
      trace_behind g (seat_number c.args.seat) c.args.kept c.args.id.0 c.in_ok-parent.parent.0 c.in_ok-item.item below b counts c.in_ok-item.ensures
          ∙ ap (λ x. get_or (traces g (seat_number c.args.seat) c.args.kept) c.in_ok-parent.parent.0 [] ++ x ∷ []) (sym c.keep.ensures),
    )
