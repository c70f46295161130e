use Rattle.lab_tree.specs.Places.{item_of}
use Rattle.lab_tree.proofs.Parts.{told_next}
use Rattle.lab_tree.proofs.places.path_items.Goals as goal

pub loop-number-preserved : goal.loop-number-preserved
loop-number-preserved c =
    told_next (item_of c.args.sets.now c.args.starts.now c.args.bases.now) c.loop-number.number c.loop-number.items.items c.push.new.self.items c.item.result
    c.loop-number.invariant c.item.ensures c.in_ok-push.ensures.items
