use Rattle.std.proofs.Common.{rules, length, ◌<◌, sym, ap, ◌∙◌, subst}
use Rattle.std.proofs.lemmas.List.{length-map}
use Rattle.lab_form.specs.Columns.{ChainsValue, with_number, chained}
use Rattle.lab_form.proofs.ChainLemmas.{added_value}
use Rattle.lab_form.proofs.step_chains.StepChains.add.Goals as goal

pub returns : goal.returns
returns c =
    let s = c.self.inside in
    let there : c.args.place < length s.heads.items = subst (λ n. c.args.place < n) (ap (λ (v : ChainsValue). length v.lists) (sym c.self.view_is) ∙ length-map s.heads.items (chained s.links.items)) c.requires.place in
    added_value s.heads.items s.links.items c.push.new.items.items c.args.place c.index.result.now c.len-number.result s.set_room s.item_room
    c.self.invariant.0 there c.index.ensures (search rules) c.push.ensures.items
    ∙ ap (λ v. with_number v c.args.place) c.self.view_is
