use Rattle.std.proofs.Common.{◌≡◌, ◌∙◌, ap, sym, append-nil, [], ◌∷◌, ◌++◌, length, get_or, true, false, arith}
use Rattle.std.proofs.lemmas.Bool.{eq-eqb, ne_eqb}
use Rattle.lab_unfold.proofs.CallerLemmas.{all_length}
use Rattle.lab_unfold.specs.Parents.{history_at}
use Rattle.lab_defs_game.specs.Histories as model
use Rattle.lab_defs_game.specs.Sets.{public_list}
use Rattle.lab_world.specs.Games.{game_model}
use Rattle.lab_unfold.specs.Values.{Unfolded}
use Rattle.lab_tree.specs.Keyed.{keyed}
use Rattle.lab_tree.proofs.ClassLemmas.{keyed_more}
use Rattle.lab_tree.proofs.first_nodes.node_keys.Goals as goal
use Rattle.lab_tree.proofs.first_nodes.node_keys.Goals.{then-firsts-number+in_ok-tokens+in_ok-push, else-firsts-number}

pub loop-number-preserved : goal.loop-number-preserved
loop-number-preserved c =
    let g = game_model c.args.game.now in
    let n = c.loop-number.number in
    elim c.if-firsts-number.branch [
      | then-firsts-number+in_ok-tokens+in_ok-push w ↦
          let keys : c.if-firsts-number.keys.items ≡ w.push.new.self.items = λ i. (w.keys-is i).items in
          keys ∙ w.in_ok-push.ensures.items ∙ ap (λ k. c.loop-number.keys.items ++ (k, n) ∷ []) (w.new.ensures ∙ w.in_ok-tokens.ensures)
          ∙ ap (λ ks. ks ++ (public_list g (history_at g n), n) ∷ []) c.loop-number.invariant
          ∙ sym (keyed_more (λ h. true) (public_list g) (model.histories g) c.args.firsts.now n true (eq-eqb (get_or c.args.firsts.now n 0) n w.if-firsts-number.true))
      | else-firsts-number w ↦
          let keys : c.if-firsts-number.keys.items ≡ c.loop-number.keys.items = λ i. (w.keys-is i).items in
          keys ∙ c.loop-number.invariant ∙ sym (append-nil (keyed (λ h. true) (public_list g) (model.histories g) c.args.firsts.now n))
          ∙ sym (keyed_more (λ h. true) (public_list g) (model.histories g) c.args.firsts.now n false (ne_eqb (get_or c.args.firsts.now n 0) n w.if-firsts-number.false))
    ]

pub returns : goal.returns
returns c =
    let g = game_model c.args.game.now in
    let n : c.loop-number.number ≡ length (model.histories g) = omega (arith, c.loop-number-test.false, c.loop-number.auto.number-end, c.count-number-end.ensures.count, all_length g c.args.histories.now.items (ap (λ (u : Unfolded). u.items) c.requires.unfolded)) in
    c.loop-number.invariant ∙ ap (λ m. keyed (λ h. true) (public_list g) (model.histories g) c.args.firsts.now m) n
