-- The order of sets is total.
use Rattle.std.specs.Cmp.{IsTotalOrder}
use Rattle.std.proofs.lemmas.Cmp.{lists_total, then_total, on_total, nat_cmp_total}
use Rattle.lab_defs_game.specs.Sets.{Item, publics, item_cmp, set_cmp}

item_total : IsTotalOrder item_cmp
item_total = then_total (on_total (λ (x : Item). x.action) nat_cmp_total) (then_total (on_total (λ (x : Item). x.own) nat_cmp_total) (on_total (λ (x : Item). x.public) nat_cmp_total))

pub set_total : IsTotalOrder set_cmp
set_total = then_total (on_total publics (lists_total nat_cmp_total)) (lists_total item_total)
