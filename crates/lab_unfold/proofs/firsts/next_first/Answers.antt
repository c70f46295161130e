use Rattle.std.proofs.Common.{get_or, refl}
use Rattle.std.specs.BTreeMap.{get}
use Rattle.lab_unfold.specs.declared.link.Link.{Link}
use Rattle.lab_unfold.specs.Links.{link_cmp}
use Rattle.lab_unfold.proofs.KeyedLemmas.{keyed_none, keyed_result}
use Rattle.lab_unfold.proofs.firsts.next_first.Goals as goal

pub returns-in_default : goal.returns-in_default
returns-in_default c = keyed_none c.args.links.now c.args.firsts.now (get link_cmp c.args.kept.now) c.requires.before c.requires.below c.in_default.is c.requires.keyed

pub returns : goal.returns
returns c =
    let q : Link = record { parent = get_or c.args.firsts.now c.in-Some.link.parent 0; item = c.in-Some.link.item } in
    keyed_result c.args.links.now c.args.firsts.now (get link_cmp c.args.kept.now) (get link_cmp c.first_with.new.kept) c.in-Some.link q c.first_with.result
    c.requires.before c.requires.below c.in-Some.is refl c.first_with.ensures.value c.first_with.ensures.kept c.requires.keyed
