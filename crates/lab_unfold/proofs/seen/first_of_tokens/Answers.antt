use Rattle.std.proofs.Common.{Vec, ℕ, subst, sym, ap, ◌∙◌}
use Rattle.std.specs.Prelude.{IfOk}
use Rattle.std.specs.Global.{Global}
use Rattle.std.proofs.lemmas.Result.{IfOk-weaker}
use Rattle.lab_world.specs.Games.{game_model}
use Rattle.lab_unfold.specs.Values.{Unfolded}
use Rattle.lab_unfold.specs.declared.link.Kept.TheVariants.{Tokens}
use Rattle.lab_unfold.specs.Firsts.{is_inner, same_tokens, AreFirsts}
use Rattle.lab_unfold.specs.Links.{AreFirstLists}
use Rattle.lab_unfold.specs.Traces.{traces}
use Rattle.lab_unfold.proofs.AlikeLemmas.{tokens_are}
use Rattle.lab_unfold.proofs.seen.first_of_tokens.Goals as goal

pub returns : goal.returns
returns c =
    let g = game_model c.args.game.now in
    IfOk-weaker c.first_lists.result (λ (v : Vec ℕ Global). AreFirstLists (traces g c.args.seat Tokens) v.items) (λ (v : Vec ℕ Global). AreFirsts (is_inner g) (same_tokens g c.args.seat) c.args.histories.now.histories v.items)
    (λ v all. subst (λ hs. AreFirsts (is_inner g) (same_tokens g c.args.seat) hs v.items) (sym (ap (λ (u : Unfolded). u.histories) c.requires.unfolded)) (tokens_are g c.args.seat v.items all)) (subst (λ n. IfOk c.first_lists.result (λ (v : Vec ℕ Global). AreFirstLists (traces g n Tokens) v.items)) c.of.ensures c.first_lists.ensures)

pub first_lists-requires-clause-items : goal.first_lists-requires-clause-items
first_lists-requires-clause-items c = c.items.ensures.items ∙ ap (λ (u : Unfolded). u.items) c.requires.unfolded
