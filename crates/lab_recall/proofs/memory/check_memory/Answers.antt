use Rattle.std.proofs.Common.{◌<◌, ℕ, List, sym, ap, subst, ◌∙◌}
use Rattle.lab_defs_game.specs.Histories.{histories}
use Rattle.lab_world.specs.Games.{game_model}
use Rattle.lab_world.specs.Seats.{seat_number}
use Rattle.lab_unfold.specs.Firsts.{AreFirsts, is_inner, same_tokens}
use Rattle.lab_unfold.specs.Values.{Unfolded}
use Rattle.lab_recall.specs.Tests.{forgets_at, IsFirstAt}
use Rattle.lab_unfold.proofs.CallerLemmas.{seat_firsts}
use Rattle.lab_recall.proofs.FirstPairs.{items_length, remembers, forgotten_pair}
use Rattle.lab_recall.proofs.memory.check_memory.Goals as goal

pub first_forgotten-requires-clause-sets : goal.first_forgotten-requires-clause-sets
first_forgotten-requires-clause-sets c =
    let g = game_model c.args.game.now in
    (seat_firsts g c.args.seat c.args.histories.now c.number-number.result c.set_firsts-sets.result.now c.number-number.ensures.number c.requires.unfolded c.set_firsts-sets.ensures).count ∙ sym (items_length g c.args.histories.now c.requires.unfolded)

pub returns-in-Some-clause-fault : goal.returns-in-Some-clause-fault
returns-in-Some-clause-fault c =
    let g = game_model c.args.game.now in
    let hs = ap (λ (u : Unfolded). u.histories) c.requires.unfolded in
    let one = seat_firsts g c.args.seat c.args.histories.now c.number-number.result c.set_firsts-sets.result.now c.number-number.ensures.number c.requires.unfolded c.set_firsts-sets.ensures in
    let all = subst (λ (ns : List ℕ). AreFirsts (is_inner g) (same_tokens g (seat_number c.args.seat)) (histories g) ns) (sym c.as_slice-tokens.ensures.value)
    (subst (λ hs. AreFirsts (is_inner g) (same_tokens g (seat_number c.args.seat)) hs c.in_ok-firsts.firsts.items) hs
    (subst (λ n. AreFirsts (is_inner g) (same_tokens g n) c.args.histories.now.histories c.in_ok-firsts.firsts.items) c.number-number.ensures.number c.in_ok-firsts.ensures)) in (
      c.number-number.ensures.number,
      forgotten_pair g (seat_number c.args.seat) c.set_firsts-sets.result.now c.as_slice-tokens.result.now one all c.in-Some.second
          (subst (λ n. IsFirstAt (forgets_at g c.set_firsts-sets.result.now c.as_slice-tokens.result.now) n c.in-Some.second) (items_length g c.args.histories.now c.requires.unfolded) c.in-Some.ensures.some),
    )

pub returns-clause-none : goal.returns-clause-none
returns-clause-none c =
    let g = game_model c.args.game.now in
    let hs = ap (λ (u : Unfolded). u.histories) c.requires.unfolded in
    let one = seat_firsts g c.args.seat c.args.histories.now c.number-number.result c.set_firsts-sets.result.now c.number-number.ensures.number c.requires.unfolded c.set_firsts-sets.ensures in
    let all = subst (λ (ns : List ℕ). AreFirsts (is_inner g) (same_tokens g (seat_number c.args.seat)) (histories g) ns) (sym c.as_slice-tokens.ensures.value)
    (subst (λ hs. AreFirsts (is_inner g) (same_tokens g (seat_number c.args.seat)) hs c.in_ok-firsts.firsts.items) hs
    (subst (λ n. AreFirsts (is_inner g) (same_tokens g n) c.args.histories.now.histories c.in_ok-firsts.firsts.items) c.number-number.ensures.number c.in_ok-firsts.ensures)) in
    let long = items_length g c.args.histories.now c.requires.unfolded in
    remembers g (seat_number c.args.seat) c.set_firsts-sets.result.now c.as_slice-tokens.result.now one all (λ i l. c.in-None.ensures.none i (subst (λ n. i < n) (sym long) l))
