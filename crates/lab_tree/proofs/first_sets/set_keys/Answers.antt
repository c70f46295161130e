use Rattle.std.proofs.Common.{◌≡◌, ◌∙◌, ap, sym, append-nil, [], ◌∷◌, ◌++◌, length, true, false, arith}
use Rattle.lab_defs_game.specs.Histories as model
use Rattle.lab_defs_game.specs.Sets.{seen}
use Rattle.lab_world.specs.Games.{game_model}
use Rattle.lab_world.specs.Seats.{seat_number}
use Rattle.lab_unfold.specs.Values.{Unfolded}
use Rattle.lab_unfold.proofs.CallerLemmas.{all_length}
use Rattle.lab_unfold.specs.Parents.{history_at}
use Rattle.lab_unfold.specs.Firsts.{is_inner}
use Rattle.lab_tree.specs.Keyed.{keyed}
use Rattle.lab_tree.proofs.ClassLemmas.{keyed_more}
use Rattle.lab_tree.proofs.first_sets.set_keys.Goals as goal
use Rattle.lab_tree.proofs.first_sets.set_keys.Goals.{then-is_first+in_ok-items+in_ok-push, else-is_first}

pub loop-number-preserved : goal.loop-number-preserved
loop-number-preserved c =
    let g = game_model c.args.game.now in
    let n = c.loop-number.number in
    elim c.if-is_first.branch [
      | then-is_first+in_ok-items+in_ok-push w ↦
          let keys : c.if-is_first.keys.items ≡ w.push.new.self.items = λ i. (w.keys-is i).items in
          keys ∙ w.in_ok-push.ensures.items ∙ ap (λ k. c.loop-number.keys.items ++ (k, n) ∷ []) (w.new.ensures ∙ w.in_ok-items.ensures)
          ∙ ap (λ ks. ks ++ (seen g (seat_number c.args.seat) (history_at g n), n) ∷ []) c.loop-number.invariant
          ∙ sym (keyed_more (is_inner g) (seen g (seat_number c.args.seat)) (model.histories g) c.args.firsts.now n true (sym c.is_first.ensures ∙ w.if-is_first.true))
      | else-is_first w ↦
          let keys : c.if-is_first.keys.items ≡ c.loop-number.keys.items = λ i. (w.keys-is i).items in
          keys ∙ c.loop-number.invariant ∙ sym (append-nil (keyed (is_inner g) (seen g (seat_number c.args.seat)) (model.histories g) c.args.firsts.now n))
          ∙ sym (keyed_more (is_inner g) (seen g (seat_number c.args.seat)) (model.histories g) c.args.firsts.now n false (sym c.is_first.ensures ∙ w.if-is_first.false))
    ]

pub returns : goal.returns
returns c =
    let g = game_model c.args.game.now in
    let n : c.loop-number.number ≡ length (model.histories g) =
    omega (arith, c.loop-number-test.false, c.loop-number.auto.number-end, c.count-number-end.ensures.count, all_length g c.args.histories.now.items (ap (λ (u : Unfolded). u.items) c.requires.unfolded)) in
    c.loop-number.invariant ∙ ap (λ m. keyed (is_inner g) (seen g (seat_number c.args.seat)) (model.histories g) c.args.firsts.now m) n
