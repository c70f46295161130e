use Rattle.lab_tree.specs.Ends.{ends_before}
use Rattle.lab_tree.proofs.Parts.{told_next}
use Rattle.lab_tree.proofs.starts.starts.Goals as goal

pub loop-node-preserved : goal.loop-node-preserved
loop-node-preserved c =
    told_next (ends_before c.args.ends.now) c.loop-node.node c.loop-node.starts.items c.push.new.self.items c.start.result c.loop-node.invariant c.start.ensures c.in_ok-push.ensures.items
