use Rattle.std.proofs.Common.{◌≡◌, length}
use Rattle.std.specs.BTreeMap.{get}
use Rattle.lab_unfold.specs.Links.{link_cmp, Keyed}
use Rattle.lab_unfold.proofs.firsts.firsts.Given as goal

abbrev pub invariant-loop : goal.invariant-loop
invariant-loop l = record {
  count : length l.firsts.items ≡ l.counter;
  keyed : Keyed l.links l.firsts.items (get link_cmp l.kept);
}
